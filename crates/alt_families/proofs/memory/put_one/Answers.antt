-- A family more, or one with the change.
use Rattle.std.proofs.Common.{◌∷◌, [], cond, Some, refl, ap, subst, ◌∙◌}
use Rattle.std.specs.Option.{IsSome}
use Rattle.std.specs.BTreeMap.{get}
use Rattle.std.specs.FinMap.{from_sorted}
use Rattle.std.specs.Ordering.{nat_cmp, is_eq}
use Rattle.alt_cells.specs.Joined.{joined_map}
use Rattle.alt_cells.specs.Rows.{join_row}
use Rattle.alt_families.specs.Families.{rows_in, files_in}
use Rattle.alt_families.proofs.MemoryLaws.{put_written}
use Rattle.alt_families.specs.declared.family.Family.{Family}
use Rattle.alt_families.proofs.memory.put_one.Goals as goal

pub returns-in_ok-put-in-Some-clause-written : goal.returns-in_ok-put-in-Some-clause-written
returns-in_ok-put-in-Some-clause-written c =
    let w : Family = record { table = c.put.new.self; files = c.in-Some.family.now.files } in
    put_written c.args.families.now (c.get_mut.follows.lender w) c.args.number c.args.change.now w
    ((c.get_mut.follows.holds w).3 (subst IsSome c.in-Some.ensures.value refl)).0
    (c.in_ok-put-in-Some.ensures.rows
    ∙ (λ i. joined_map join_row (rows_in (c.in-Some.ensures.value i))
    (from_sorted ((c.as_slice.ensures.same i, c.in_ok-row.ensures i) ∷ []))))
    (ap files_in c.in-Some.ensures.value)

pub returns-in_ok-insert-in-None-clause-written : goal.returns-in_ok-insert-in-None-clause-written
returns-in_ok-insert-in-None-clause-written c =
    let w : Family = record { table = c.put-in-None.new.self; files = c.new.result } in
    put_written c.args.families.now c.insert.new.self c.args.number c.args.change.now w
    (λ q. c.in_ok-insert-in-None.ensures.updates.0 q
    ∙ (λ i. cond (is_eq (nat_cmp c.args.change.now.family q)) (Some w)
    (get nat_cmp (c.get_mut.follows.holds-at-none i) q)))
    (c.in_ok-put-in-None.ensures.rows
    ∙ (λ i. joined_map join_row ((c.new-table.ensures.rows ∙ ap rows_in c.in-None.ensures.value) i)
    (from_sorted ((c.as_slice-in-None.ensures.same i, c.in_ok-row.ensures i) ∷ []))))
    (c.new.ensures.items ∙ ap files_in c.in-None.ensures.value)
