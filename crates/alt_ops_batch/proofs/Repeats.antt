-- Keys that stand twice: each that is left was seen before, or stands again behind itself, or does neither.
use Rattle.std.proofs.Common.{◌≡◌, ◌<◌, refl, sym, ap, ◌∙◌, ℕ, zero, suc, ◌+◌, ◌&&◌, ◌||◌, Bool, true, false, not, List, [], ◌∷◌, length, drop, get_or, add-one, arith}
use Rattle.std.specs.Bool.{MatchBool}
use Rattle.std.specs.Borrow.{Bor}
use Rattle.std.specs.List.{list_any}
use Rattle.std.specs.List.Sorted.{IsPermutation}
use Rattle.std.specs.Str.{bytes_eq}
use Rattle.std.proofs.lemmas.Cmp.{nat_list_eq_equiv}
use Rattle.std.proofs.lemmas.List.Sorted.{list_any-IsPermutation}
use Rattle.alt_machine.specs.declared.PlacedMember.{PlacedMember}
use Rattle.alt_machine.specs.Batches.{is_same_key, has_repeat}

-- a key that was seen: the name of its table, and its place
abbrev pub Key : Type 0
Key = Bor (List ℕ) × Bor (List ℕ)

-- a member has it
abbrev has : PlacedMember → Key → Bool
has m k = bytes_eq m.table k.0.now && bytes_eq m.place k.1.now

-- the key of a member was seen
abbrev pub is_seen : List Key → PlacedMember → Bool
is_seen ks m = list_any (has m) ks

-- a key of those that are left was seen, or stands twice among them
abbrev pub repeats : List Key → List PlacedMember → Bool
repeats ks ms = list_any (is_seen ks) ms || has_repeat ms

-- with nothing seen yet
pub repeats_start : (ms : List PlacedMember) → has_repeat ms ≡ repeats [] ms
repeats_start ms = ap (λ b. b || has_repeat ms) (sym (none_seen ms))
  where
    none_seen : (ns : List PlacedMember) → list_any (is_seen []) ns ≡ false
    none_seen [] = refl
    none_seen (n ∷ ns) = none_seen ns

-- ---- one key more is seen

module _ (m : PlacedMember) (k : Key) (named : k.0.now ≡ m.table) (placed : k.1.now ≡ m.place)
    (old new : List Key) (more : IsPermutation (k ∷ old) new) where
  -- a member has it where it has the key of this one
  has_same : (n : PlacedMember) → has n k ≡ is_same_key m n
  has_same n = ap (λ t. bytes_eq n.table t && bytes_eq n.place k.1.now) named
      ∙ ap (λ p. bytes_eq n.table m.table && bytes_eq n.place p) placed
      ∙ ap (λ b. b && bytes_eq n.place m.place) (nat_list_eq_equiv.symm n.table m.table)
      ∙ ap (λ b. bytes_eq m.table n.table && b) (nat_list_eq_equiv.symm n.place m.place)

  -- the key of a member is seen then, where it is this one or was seen before
  seen_then : (n : PlacedMember) → is_seen new n ≡ (is_same_key m n || is_seen old n)
  seen_then n = sym (list_any-IsPermutation (has n) (k ∷ old) new more)
      ∙ ap (λ b. b || is_seen old n) (has_same n)

  -- what stands twice, in another order
  pairs : (a b c d : Bool) → ((a || b) || (c || d)) ≡ ((a || c) || (b || d))
  pairs true b c d = refl
  pairs false true true d = refl
  pairs false true false d = refl
  pairs false false c d = refl

  -- one of those that are left is seen then
  left_seen : (ns : List PlacedMember)
      → list_any (is_seen new) ns ≡ (list_any (is_same_key m) ns || list_any (is_seen old) ns)
  left_seen [] = refl
  left_seen (n ∷ ns) = ap (λ b. b || list_any (is_seen new) ns) (seen_then n)
      ∙ ap (λ b. (is_same_key m n || is_seen old n) || b) (left_seen ns)
      ∙ pairs (is_same_key m n) (is_seen old n) (list_any (is_same_key m) ns)
      (list_any (is_seen old) ns)

  threes : (a b c : Bool) → (a || (b || c)) ≡ ((b || a) || c)
  threes true true c = refl
  threes true false c = refl
  threes false true c = refl
  threes false false c = refl

  -- so behind it a key stands twice as from it on, where it wasn't seen before
  pub repeats_behind : (ns : List PlacedMember) → is_seen old m ≡ false
      → repeats old (m ∷ ns) ≡ repeats new ns
  repeats_behind ns e =
      ap (λ b. (b || list_any (is_seen old) ns) || (list_any (is_same_key m) ns || has_repeat ns)) e
      ∙ threes (list_any (is_seen old) ns) (list_any (is_same_key m) ns) (has_repeat ns)
      ∙ ap (λ b. b || has_repeat ns) (sym (left_seen ns))

-- a key that was seen stands twice
pub repeats_here : (ks : List Key) (m : PlacedMember) (ns : List PlacedMember)
    → is_seen ks m ≡ true → repeats ks (m ∷ ns) ≡ true
repeats_here ks m ns e =
    ap (λ b. (b || list_any (is_seen ks) ns) || (list_any (is_same_key m) ns || has_repeat ns)) e

-- ---- what an insertion says

-- what is new wasn't there
pub absent : (added there : Bool) → added ≡ not there → added ≡ true → there ≡ false
absent true true e n = absurd (let f : ⊥ = cc in f)
absent true false e n = refl
absent false there e n = absurd (let f : ⊥ = cc in f)

-- and is there then
pub inserted : (P Q : Type 0) (added : Bool) → added ≡ true → MatchBool added P Q → P
inserted P Q true n p = p
inserted P Q false n p = absurd (let f : ⊥ = cc in f)

-- ---- from a place on

at_suc : (ms : List PlacedMember) (i : ℕ) (d : PlacedMember) → i < length ms
    → drop i ms ≡ get_or ms i d ∷ drop (suc i) ms
at_suc [] i d h = absurd (omega arith)
at_suc (x ∷ xs) zero d h = refl
at_suc (x ∷ xs) (suc i) d h = at_suc xs i d (omega arith)

-- the member there and those behind it
pub members_at : (ms : List PlacedMember) (i : ℕ) (d : PlacedMember) → i < length ms
    → drop i ms ≡ get_or ms i d ∷ drop (i + 1) ms
members_at ms i d h = rw add-one (at_suc ms i d h)
