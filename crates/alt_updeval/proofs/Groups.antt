-- Groups of values by key, as what goes on from a name or an index.
use Rattle.std.proofs.Common.{◌≡◌, refl, sym, ap, ◌∙◌, ℕ, ◌+◌, ◌<◌, Bool, true, false, cond, ◌||◌, List, [], ◌∷◌, map, take, length, get_or, Some, None, Vec, Global}
use Rattle.std.specs.Prelude.{filter, slice_get}
use Rattle.std.specs.List.{list_any}
use Rattle.std.specs.List.Sorted.{IsStrictlySortedBy}
use Rattle.std.specs.Map.{lookup, keys_of}
use Rattle.std.specs.Option.{option_map_or}
use Rattle.std.specs.declared.cmp.Ordering.{Ordering}
use Rattle.std.specs.Ordering.{eq_by_cmp, is_eq}
use Rattle.std.specs.Cmp.{IsTotalOrder, eq_by_cmp_equiv, on_total}
use Rattle.std.proofs.lemmas.List.Folds.{list_any_more}
use Rattle.std.proofs.lemmas.Map.Entries.{lookup_from_place}
use Rattle.std.proofs.lemmas.Map.Keys.{IsDistinct-from_sorted}
use Rattle.alt_base.proofs.Bools.{neither_first, neither_second}

either_turned : (a b : Bool) → (a || b) ≡ cond b true a
either_turned true true = refl
either_turned true false = refl
either_turned false true = refl
either_turned false false = refl

lookup-none : {K X : Type 0} (test : K → Bool) (es : List (K × X))
    → list_any (λ e. test e.0) es ≡ false → lookup test es ≡ None
lookup-none test [] e = refl
lookup-none test (p ∷ es) e =
    ap (λ b. cond b (Some p.1) (lookup test es)) (neither_first (test p.0) _ e)
    ∙ lookup-none test es (neither_second (test p.0) _ e)

-- one element more was looked at
pub any_more : {X : Type 0} (test : X → Bool) (xs : List X) (i : ℕ) (x : X) → i < length xs
    → x ≡ get_or xs i x
    → list_any test (take (i + 1) xs) ≡ cond (test x) true (list_any test (take i xs))
any_more test xs i x lt e =
    list_any_more test xs i x lt ∙ ap (λ y. list_any test (take i xs) || test y) (sym e)
    ∙ either_turned (list_any test (take i xs)) (test x)

-- keys of type K that stand for a Key, and what comes with them, that stands for a W
module _ {K Key T W : Type 0} (at : K → Key) (R : Key → Key → Ordering) (o : IsTotalOrder R)
    (what : T → W) where
  abbrev cmp : K → K → Ordering
  cmp x y = R (at x) (at y)

  -- what is taken of a group's values is the group of what is taken
  pub commute : (k : Key) (pairs : List (K × T))
      → map what (map (λ (p : K × T). p.1) (filter (λ (p : K × T). is_eq (R (at p.0) k)) pairs))
      ≡ map (λ (p : Key × W). p.1)
      (filter (λ (p : Key × W). eq_by_cmp R p.0 k)
      (map (λ (p : K × T). (at p.0, what p.1)) pairs))
  commute k [] = refl
  commute k (p ∷ pairs) =
      let rest = filter (λ (p : K × T). is_eq (R (at p.0) k)) pairs in
      let shown = filter (λ (p : Key × W). eq_by_cmp R p.0 k)
      (map (λ (p : K × T). (at p.0, what p.1)) pairs) in
      elim (is_eq (R (at p.0) k)) as (λ b.
      map what (map (λ (p : K × T). p.1) (cond b (p ∷ rest) rest))
      ≡ map (λ (p : Key × W). p.1) (cond b ((at p.0, what p.1) ∷ shown) shown)) [
        | true ↦ ap (λ (l : List W). what p.1 ∷ l) (commute k pairs)
        | false ↦ commute k pairs
      ]

  module _ (pairs : List (K × T)) (ways : List (Key × W))
      (same : map (λ (p : K × T). (at p.0, what p.1)) pairs ≡ ways)
      (groups : List (K × Vec T Global)) (rising : IsStrictlySortedBy cmp (keys_of groups))
      (held : (q : K) → option_map_or (λ g. g.items) (lookup (eq_by_cmp cmp q) groups) []
      ≡ map (λ (p : K × T). p.1) (filter (λ (p : K × T). eq_by_cmp cmp p.0 q) pairs)) where
    pub of_key : (q : K)
        → map what (option_map_or (λ g. g.items) (lookup (eq_by_cmp cmp q) groups) [])
        ≡ map (λ (p : Key × W). p.1) (filter (λ (p : Key × W). eq_by_cmp R p.0 (at q)) ways)
    of_key q =
        ap (λ (l : List T). map what l) (held q) ∙ commute (at q) pairs
        ∙ ap (λ (l : List (Key × W)). map (λ (p : Key × W). p.1)
        (filter (λ (p : Key × W). eq_by_cmp R p.0 (at q)) l)) same

    -- the group at a place has what comes with its key
    pub group_at : (i : ℕ) (k : K) (v : Vec T Global) → slice_get groups i ≡ Some (k, v)
        → map what v.items ≡ map (λ (p : Key × W). p.1)
        (filter (λ (p : Key × W). eq_by_cmp R p.0 (at k)) ways)
    group_at i k v e =
        let found : lookup (eq_by_cmp cmp k) groups ≡ Some v =
        lookup_from_place (eq_by_cmp_equiv (on_total at o)) groups i k v
        (IsDistinct-from_sorted cmp (keys_of groups) rising) e in
        ap (λ s. map what (option_map_or (λ g. g.items) s [])) (sym found) ∙ of_key k

    -- nothing comes with a key that has no group
    pub no_group : (q : K) → list_any (λ g. eq_by_cmp cmp q g.0) groups ≡ false
        → map (λ (p : Key × W). p.1) (filter (λ (p : Key × W). eq_by_cmp R p.0 (at q)) ways) ≡ []
    no_group q none =
        sym (of_key q) ∙ ap (λ s. map what (option_map_or (λ g. g.items) s []))
        (lookup-none (eq_by_cmp cmp q) groups none)
