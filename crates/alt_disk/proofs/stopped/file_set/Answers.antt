use Rattle.std.proofs.Common.{◌≡◌, ◌≢◌, ⊎_elim, ℕ, Bool, true, false, cond, slice_index_or, refl, sym, ◌∙◌, ap, subst, arith}
use Rattle.std.proofs.lemmas.Bool.{cases_eq}
use Rattle.std.proofs.lemmas.List.{get_or_default}
use Rattle.std.specs.BTreeMap.{is_at}
use Rattle.std.specs.BTreeSet.{contains}
use Rattle.std.specs.Ordering.{nat_cmp}
use Rattle.alt_disk.specs.declared.made.Made.{Made}
use Rattle.alt_disk.proofs.stopped.file_set.Goals as goal

either_true : (a b : Bool) → b ≡ true → cond a true b ≡ true
either_true true b is = refl
either_true false b is = is

pub loop-made-preserved : goal.loop-made-preserved
loop-made-preserved c k d less =
    let calls = c.args.calls.now in
    let updates = c.in_ok-insert.ensures.updates in
    let Has : ℕ → Type 0 = λ f. contains nat_cmp c.insert.new.self f ≡ true in
    ⊎_elim
    (λ (same : k ≡ c.loop-made.made-index).
    let is : (slice_index_or calls k d).file ≡ c.made-item.result.file =
    ap (λ (i : ℕ). (slice_index_or calls i d).file) same
    ∙ ap (λ (m : Made). m.file) (get_or_default calls c.loop-made.made-index d c.made-item.result
    (omega arith) ∙ sym c.made-item.is) in
    subst Has (sym is) updates.1)
    (λ (other : k ≢ c.loop-made.made-index).
    let f = (slice_index_or calls k d).file in
    updates.0 f ∙ either_true (is_at (nat_cmp c.made-item.result.file) f)
    (contains nat_cmp c.loop-made.set f) (c.loop-made.invariant k d
    (omega (arith, less, other))))
    (cases_eq k c.loop-made.made-index)
