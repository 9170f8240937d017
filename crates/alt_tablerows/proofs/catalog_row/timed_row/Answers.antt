-- The row has both entries.
use Rattle.std.proofs.Common.{refl, ◌∙◌, ◌∷◌, [], ◌++◌}
use Rattle.std.specs.Prelude.{codes}
use Rattle.alt_tablerows.proofs.TableRow.{two_pushed}
use Rattle.alt_tablerows.proofs.catalog_row.timed_row.Goals as goal

pub returns : goal.returns
returns c = record {
  row = two_pushed c.push-2.new.self (codes "l") (codes "t") c.args.name.now c.args.bytes.items
      (c.in_ok-push-2.ensures.ok
      ∙ (λ i. (c.in_ok-push.ensures.ok ∙ (λ j. c.new-row.ensures.none j
      ++ (
        c.in_ok-new.ensures.copied j,
        (c.in_ok-value.ensures.copied ∙ c.as_bytes.ensures.value
            ∙ c.as_str.ensures.same) j,
      ) ∷ [])) i
      ++ (c.in_ok-new-2.ensures.copied i, c.from_vec.ensures.same i) ∷ []))
      refl refl;
}
