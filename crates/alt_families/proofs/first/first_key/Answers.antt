-- The one row that a walk over all gives.
use Rattle.std.proofs.Common.{◌≡◌, ◌++◌, [], ℕ, List, take, None, true, sym, ap, ◌∙◌}
use Rattle.alt_cells.specs.Changes.{Columns}
use Rattle.alt_families.specs.Ranges.{shown_between}
use Rattle.alt_families.proofs.FirstLaws.{key_given, none_given}
use Rattle.alt_families.proofs.first.first_key.Goals as goal

pub returns-in-Some-clause-first : goal.returns-in-Some-clause-first
returns-in-Some-clause-first g c told rows reads =
    let given : c.shown_rows.new.out.items ≡ take 1 (shown_between rows [] None true) =
    c.in-Ok.ensures.rows told rows reads
    ∙ ap (λ (l : List (List ℕ × Columns)). l ++ take 1 (shown_between rows c.in_ok-new.field-0 None true)) c.new-rows.ensures.items
    ∙ ap (λ (k : List ℕ). take 1 (shown_between rows k None true)) c.in_ok-new.ensures.copied in
    key_given rows c.shown_rows.new.out.items c.pop.new.self.items _ given c.in-Some.ensures.items

pub returns-clause-first : goal.returns-clause-first
returns-clause-first g c told rows reads =
    let given : c.shown_rows.new.out.items ≡ take 1 (shown_between rows [] None true) =
    c.in-Ok.ensures.rows told rows reads
    ∙ ap (λ (l : List (List ℕ × Columns)). l ++ take 1 (shown_between rows c.in_ok-new.field-0 None true)) c.new-rows.ensures.items
    ∙ ap (λ (k : List ℕ). take 1 (shown_between rows k None true)) c.in_ok-new.ensures.copied in
    none_given rows c.shown_rows.new.out.items given
    (sym c.shown_rows.new.out.ok.0 ∙ c.in-None.ensures.cases.0)
