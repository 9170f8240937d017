-- What holds of all that is found in a map holds of its entries.
use Rattle.std.proofs.Common.{◌≡◌, refl, sym, ap, subst, ◌∙◌, cond, ◌&&◌, T, is_eq, is_lt, ℕ, List, [], ◌∷◌, Some, None}
use Rattle.std.specs.Cmp.{tied_itself}
use Rattle.std.specs.FinMap as finite
use Rattle.std.specs.FinMap.Entries.{below_all, find, is_sorted}
use Rattle.std.specs.List.{AllByRecursion}
use Rattle.std.specs.declared.cmp.Ordering.{Ordering}
use Rattle.std.specs.declared.cmp.Ordering.TheVariants.{Less, Equal, Greater}
use Rattle.alt_base.proofs.Bools.{first_holds, second_holds}
use Rattle.alt_value.specs.Members.{text_order}
use Rattle.alt_value.proofs.Texts.{text_total, text_apart}
use Rattle.alt_machine.specs.State.{Texts}

module _ {X : Type 0} where
  -- a key below all is none of them
  pub none_below : (q : List ℕ) (es : List (List ℕ × X)) → T (below_all text_order q es)
      → find text_order q es ≡ None
  none_below q [] h = refl
  none_below q (e ∷ es) h =
      (elim (text_order q e.0) as (λ o. T (is_lt o && below_all text_order q es)
      → cond (is_eq o) (Some e.1) (find text_order q es) ≡ None) [
        | Less ↦ λ g. none_below q es g
        | Equal ↦ λ g. absurd g
        | Greater ↦ λ g. absurd g
      ]) h

  -- what is found behind an entry is found with it
  behind : (e : List ℕ × X) (es : List (List ℕ × X)) → T (below_all text_order e.0 es)
      → (k : List ℕ) (x : X) → find text_order k es ≡ Some x → find text_order k (e ∷ es) ≡ Some x
  behind e es below k x at = by (text_order k e.0) refl
    where
      by : (o : Ordering) → text_order k e.0 ≡ o
          → cond (is_eq o) (Some e.1) (find text_order k es) ≡ Some x
      by Less t = at
      by Equal t = absurd (let no : None ≡ Some x = sym (none_below k es
          (subst (λ n. T (below_all text_order n es)) (sym (text_apart k e.0 t)) below)) ∙ at in
          let f : ⊥ = cc in f)
      by Greater t = at

  module _ (P : List ℕ → X → Type 0) where
    each_so : (es : List (List ℕ × X)) → T (is_sorted text_order es)
        → ((k : List ℕ) (x : X) → find text_order k es ≡ Some x → P k x)
        → AllByRecursion (λ e. P e.0 e.1) es
    each_so [] h f = tt
    each_so (e ∷ es) h f = (
      f e.0 e.1 (ap (λ o. cond (is_eq o) (Some e.1) (find text_order e.0 es))
          (tied_itself text_total e.0)),
      each_so es (second_holds (below_all text_order e.0 es) _ h)
          (λ k x at. f k x (behind e es (first_holds (below_all text_order e.0 es) _ h) k x at)),
    )

    -- what holds of all that is found holds of each entry
    pub each_entry : (m : Texts X)
        → ((k : List ℕ) (x : X) → finite.get m k ≡ Some x → P k x)
        → AllByRecursion (λ e. P e.0 e.1) (finite.entries m)
    each_entry m f = each_so (finite.entries m) (finite.entries_sorted m)
        (λ k x at. f k x (finite.get-entries m k ∙ at))
