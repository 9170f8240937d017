-- The lesser of two keys, and rows of the same columns.
use Rattle.std.proofs.Common.{◌≡◌, refl, sym, ap, subst, ◌∙◌, ℕ, Bool, true, false, List, Option, Some, None, IfSome, Less, Equal, Greater}
use Rattle.std.proofs.lemmas.Bool.Decides.{Decides-and, Decides-like}
use Rattle.std.proofs.lemmas.Slice.Eq.{bytes_eq-Decides, slice_eq-Decides}
use Rattle.std.specs.Bool.{Decides}
use Rattle.std.specs.Cmp.Lexicographic.{pointwise}
use Rattle.std.specs.FinMap as map
use Rattle.std.specs.FinMap.Entries.{find}
use Rattle.std.specs.Ordering.{is_lt, ordering_reverse}
use Rattle.std.specs.Prelude.{◌&&◌, if◌then◌else◌}
use Rattle.std.specs.Str.{bytes_eq}
use Rattle.std.specs.declared.cmp.Ordering.{Ordering}
use Rattle.alt_cells.specs.Changes.{Columns}
use Rattle.alt_cells.specs.Keys.{key_cmp}
use Rattle.alt_cells.proofs.CellLaws.{key_total, key_exact}
use Rattle.alt_opening.specs.private.IndexScans.{IsAhead, lesser}
use Rattle.alt_opening.specs.Scans.{IsBelow}

-- ---- keys

-- what is so of both keys is so of the lesser
pub of_lesser : (P : List ℕ → Type 0) (a b : Option (List ℕ)) → IfSome a P → IfSome b P
    → IfSome (lesser a b) P
of_lesser P None b p q = q
of_lesser P (Some a) None p q = p
of_lesser P (Some a) (Some b) p q = by (is_lt (key_cmp b a))
  where
    by : (c : Bool) → IfSome (if c then Some b else Some a) P
    by true = q
    by false = p

-- below a key, and so below one that isn't below it
below_up : (k a b : List ℕ) → IsBelow k a → (o : Ordering) → key_cmp b a ≡ o → is_lt o ≡ false
    → IsBelow k b
below_up k a b low Less e not = absurd (let f : ⊥ = cc in f)
below_up k a b low Equal e not = subst (IsBelow k) (sym (key_exact b a e)) low
below_up k a b low Greater e not =
    key_total.trans k a b low (key_total.antisymm a b ∙ ap ordering_reverse e)

-- what is ahead of the lesser key is ahead of both
pub ahead_first : (k : List ℕ) (a b : Option (List ℕ)) → IsAhead k (lesser a b) → IsAhead k a
ahead_first k None b low = tt
ahead_first k (Some a) None low = low
ahead_first k (Some a) (Some b) low = by (key_cmp b a) refl low
  where
    by : (o : Ordering) → key_cmp b a ≡ o → IsAhead k (if is_lt o then Some b else Some a)
        → IsBelow k a
    by Less e low = key_total.trans k b a low e
    by Equal e low = low
    by Greater e low = low

-- what is ahead of the lesser of two is ahead of the second
pub ahead_second : (k : List ℕ) (a b : Option (List ℕ)) → IsAhead k (lesser a b) → IsAhead k b
ahead_second k None b low = low
ahead_second k (Some a) None low = tt
ahead_second k (Some a) (Some b) low = by (key_cmp b a) refl low
  where
    by : (o : Ordering) → key_cmp b a ≡ o → IsAhead k (if is_lt o then Some b else Some a)
        → IsBelow k b
    by Less e low = low
    by Equal e low = below_up k a b low Equal e refl
    by Greater e low = below_up k a b low Greater e refl

-- no key is below itself
pub not_itself : (k : List ℕ) → IsBelow k k → ⊥
not_itself k low =
    let turned : Less ≡ Greater = sym low ∙ key_total.antisymm k k ∙ ap ordering_reverse low in
    let f : ⊥ = cc in f

-- the lesser of two that are there
pub lesser_is : (a b : Option (List ℕ)) (x y : List ℕ) → a ≡ Some x → b ≡ Some y → (r : Bool)
    → is_lt (key_cmp y x) ≡ r → (if r then Some y else Some x) ≡ lesser a b
lesser_is a b x y is_a is_b r is = ap (λ t. if t then Some y else Some x) (sym is)
    ∙ (λ i. lesser (sym is_a i) (sym is_b i))

-- ---- rows

-- a name and a value are those of another column
same_column : (a b : List ℕ × List ℕ) → Decides (bytes_eq a.0 b.0 && bytes_eq a.1 b.1) (a ≡ b)
same_column a b = Decides-like (bytes_eq a.0 b.0 && bytes_eq a.1 b.1)
    (λ same i. (same.0 i, same.1 i))
    (λ e. (ap (λ (c : List ℕ × List ℕ). c.0) e, ap (λ (c : List ℕ × List ℕ). c.1) e))
    (Decides-and (bytes_eq a.0 b.0) (bytes_eq a.1 b.1) (bytes_eq-Decides a.0 b.0)
    (bytes_eq-Decides a.1 b.1))

-- rows are the same where their columns are, one by one
pub same_columns : (a b : Columns) (r : Bool)
    → r ≡ pointwise (λ (c d : List ℕ × List ℕ). bytes_eq c.0 d.0 && bytes_eq c.1 d.1)
    (map.entries a) (map.entries b)
    → Decides r (a ≡ b)
same_columns a b r is = Decides-like r
    (λ same. map.same_map key_total key_exact a b (λ q. map.get-entries a q
    ∙ ap (find key_cmp q) same ∙ sym (map.get-entries b q)))
    (λ e. ap map.entries e)
    (slice_eq-Decides same_column (map.entries a) (map.entries b) r is)
