-- The last of the items that are taken has the key.
use Rattle.std.proofs.Common.{◌≡◌, ◌-◌, refl, sym, ap, ◌∙◌, suc, List, Option, Some, None, length, map as each, take, slice_get, arith}
use Rattle.std.proofs.lemmas.Option.{slice_get_read}
use Rattle.std.specs.List.{last_or}
use Rattle.alt_machine.specs.Lists.{key_attributes}
use Rattle.alt_schema.specs.declared.schema.Built.TheVariants.{UpTo}
use Rattle.alt_rowchanges.proofs.StepParts.{last_made}
use Rattle.alt_rowchanges.proofs.build.built_after.Goals as goal
use Rattle.alt_value.specs.Tree.{Pair}

pub returns-clause-up_to : goal.returns-clause-up_to
returns-clause-up_to c below one =
    let items = c.args.items.now in
    let x = c.index-items-taken.result in
    let at : slice_get items (c.args.taken - 1) ≡ Some x = slice_get_read items (length items)
    (c.args.taken - 1) x refl (omega (arith, below, one)) c.index-items-taken.is in
    let next : c.args.taken ≡ suc (c.args.taken - 1) = omega (arith, one) in
    ap (λ (o : Option (List Pair)). UpTo o) (ap (λ (key : List Pair). Some key) c.in_ok-key.ensures.key
    ∙ sym (last_made (key_attributes c.args.schema.now None) items (c.args.taken - 1) x None at)
    ∙ ap (λ n. last_or None (each (key_attributes c.args.schema.now None) (take n items))) (sym next))
