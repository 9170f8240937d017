-- The first that isn't whole is being built.
use Rattle.std.proofs.Common.{◌≡◌, sym, ap, subst, ◌∙◌, Bool, true, not, cond, suc, List, Some, length, drop, get_or, slice_get}
use Rattle.std.proofs.lemmas.Option.{slice_get_read}
use Rattle.std.specs.List.{find}
use Rattle.alt_machine.specs.Building.{is_building}
use Rattle.alt_schema.specs.Bare.{is_whole}
use Rattle.alt_schema.specs.declared.schema.IndexSchema.{IndexSchema}
use Rattle.alt_rowchanges.proofs.StepParts.{find_from}
use Rattle.alt_rowchanges.proofs.build.building_number.Goals as goal

pub returns-then-not-is_whole-clause-there : goal.returns-then-not-is_whole-clause-there
returns-then-not-is_whole-clause-there c =
    let xs : List IndexSchema = c.args.schema.now.globals in
    let x : IndexSchema = c.index-globals-i.result in
    let at : slice_get xs c.loop-i.i ≡ Some x =
    slice_get_read xs (length c.as_slice-globals.result.now) c.loop-i.i x
    (ap length c.as_slice-globals.ensures.members) c.loop-i-test.true
    (subst (λ (ys : List IndexSchema). x ≡ get_or ys c.loop-i.i x) c.as_slice-globals.ensures.members
    c.index-globals-i.is) in
    let building : is_building x ≡ true =
    ap not (ap (λ (y : IndexSchema). is_whole y.built) c.index-globals-i.is
    ∙ sym c.is_whole.ensures.whole ∙ c.if-not-is_whole.true) in
    at ∙ sym (ap (λ (b : Bool). cond b (Some x) (find is_building (drop (suc c.loop-i.i) xs))) building)
    ∙ sym (find_from is_building xs c.loop-i.i x at) ∙ c.loop-i.invariant
