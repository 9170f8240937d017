-- Values gathered by keys: one more of them.
use Rattle.std.proofs.Common.{◌≡◌, refl, sym, ap, ◌∙◌, true, false, cond, List, [], ◌∷◌, ◌++◌, map, Option, Some}
use Rattle.std.specs.Prelude.{filter}
use Rattle.std.specs.Option.{option_map_or}
use Rattle.std.specs.declared.cmp.Ordering.{Ordering}
use Rattle.std.specs.declared.cmp.Ordering.TheVariants.{Equal}
use Rattle.std.specs.Ordering.{eq_by_cmp, is_eq}
use Rattle.std.specs.Cmp.{IsTotalOrder, alike_right}
use Rattle.std.proofs.lemmas.List.{append-nil, map-append}
use Rattle.std.proofs.lemmas.List.Elements.{filter-append}
use Rattle.alt_base.proofs.Orderings.{is_eq-true}

module _ {K T V : Type 0} (R : K → K → Ordering) (o : IsTotalOrder R) (items : V → List T) where
  -- the values of pairs that have a key
  abbrev pub grouped : K → List (K × T) → List T
  grouped q ps = map (λ p. p.1) (filter (λ p. eq_by_cmp R p.0 q) ps)

  -- one pair more adds its value to those of its key, and nothing to the others
  more : (q key : K) (value : T) (ps : List (K × T))
      → grouped q (ps ++ (key, value) ∷ []) ≡ grouped q ps ++ grouped q ((key, value) ∷ [])
  more q key value ps =
      ap (λ (l : List (K × T)). map (λ p. p.1) l)
      (filter-append (λ (p : K × T). eq_by_cmp R p.0 q) ps ((key, value) ∷ []))
      ∙ map-append (λ (p : K × T). p.1) (filter (λ (p : K × T). eq_by_cmp R p.0 q) ps)
      (filter (λ (p : K × T). eq_by_cmp R p.0 q) ((key, value) ∷ []))

  alike : (q key : K) (ps : List (K × T)) → R key q ≡ Equal → grouped key ps ≡ grouped q ps
  alike q key ps e =
      λ i. map (λ p. p.1) (filter (λ (p : K × T). is_eq (alike_right o key q p.0 e i)) ps)

  -- one value more in its key's group leaves each group what it has to be
  pub one_more : (q key : K) (value : T) (ps : List (K × T)) {now : Option V}
      (before : Option V) (w r : V)
      → now ≡ cond (eq_by_cmp R key q) (Some w) before
      → option_map_or items before [] ≡ grouped q ps
      → items w ≡ items r ++ value ∷ [] → items r ≡ grouped key ps
      → option_map_or items now [] ≡ grouped q (ps ++ (key, value) ∷ [])
  one_more q key value ps before w r is was written read =
      ap (λ n. option_map_or items n []) is ∙
      elim (eq_by_cmp R key q) as (λ b. eq_by_cmp R key q ≡ b
      → option_map_or items (cond b (Some w) before) [] ≡ grouped q (ps ++ (key, value) ∷ [])) [
        | true ↦ λ e. written
            ∙ ap (λ l. l ++ value ∷ []) (read ∙ alike q key ps (is_eq-true (R key q) e))
            ∙ sym (more q key value ps
            ∙ ap (λ b. grouped q ps ++ map (λ (p : K × T). p.1) (cond b ((key, value) ∷ []) []))
            e)
        | false ↦ λ e. was ∙ sym (append-nil (grouped q ps))
            ∙ sym (more q key value ps
            ∙ ap (λ b. grouped q ps ++ map (λ (p : K × T). p.1) (cond b ((key, value) ∷ []) []))
            e)
      ] refl
