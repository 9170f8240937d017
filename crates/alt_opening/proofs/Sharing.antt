-- Whether a table has one of some families, part by part.
use Rattle.std.proofs.Common.{◌≡◌, refl, ap, ◌∙◌, ℕ, Bool, false, ◌||◌, List, [], ◌∷◌, ◌++◌, map, Option, Some, None}
use Rattle.std.specs.Prelude.{◌==◌}
use Rattle.std.specs.List.{list_any}
use Rattle.std.specs.Option.{option_map_or}
use Rattle.std.proofs.lemmas.List.Folds.{list_any-append}
use Rattle.std.proofs.Math.Bool.{or-false}
use Rattle.alt_base.proofs.Bools.{or_grouped_four}
use Rattle.alt_schema.specs.Indexes.{indexes}
use Rattle.alt_schema.specs.declared.schema.IndexSchema.{IndexSchema}
use Rattle.alt_schema.specs.declared.schema.TableSchema.{TableSchema}
use Rattle.alt_opening.specs.private.Opening.{shares}

module _ (test : ℕ → Bool) where
  any_index : (is : List IndexSchema) → list_any test (map (λ i. i.family) is)
      ≡ list_any (λ i. test i.family) is
  any_index [] = refl
  any_index (i ∷ is) = ap (λ b. test i.family || b) (any_index is)

  any_stream : (o : Option ℕ) → list_any test (option_map_or (λ f. f ∷ []) o [])
      ≡ option_map_or test o false
  any_stream None = refl
  any_stream (Some f) = or-false (test f)

  any_parts : (d : TableSchema) → list_any test (map (λ i. i.family) (indexes d)
      ++ option_map_or (λ f. f ∷ []) d.stream_family [])
      ≡ ((list_any (λ i. test i.family) d.locals || list_any (λ i. test i.family) d.globals)
      || option_map_or test d.stream_family false)
  any_parts d = list_any-append test (map (λ i. i.family) (indexes d))
      (option_map_or (λ f. f ∷ []) d.stream_family [])
      ∙ (λ i. (any_index (indexes d)
      ∙ list_any-append (λ i. test i.family) d.locals d.globals) i
      || any_stream d.stream_family i)

-- its own, those of its local and its global indexes, and that of its stream
pub shares_parts : (families : List ℕ) (d : TableSchema) → shares families d
    ≡ (((list_any (λ g. g == d.family) families
    || list_any (λ i. list_any (λ g. g == i.family) families) d.locals)
    || list_any (λ i. list_any (λ g. g == i.family) families) d.globals)
    || option_map_or (λ f. list_any (λ g. g == f) families) d.stream_family false)
shares_parts families d =
    ap (λ b. list_any (λ g. g == d.family) families || b)
    (any_parts (λ f. list_any (λ g. g == f) families) d)
    ∙ or_grouped_four (list_any (λ g. g == d.family) families)
    (list_any (λ i. list_any (λ g. g == i.family) families) d.locals)
    (list_any (λ i. list_any (λ g. g == i.family) families) d.globals)
    (option_map_or (λ f. list_any (λ g. g == f) families) d.stream_family false)
