-- One member more, read or written.
use Rattle.std.proofs.Common.{◌≡◌, refl, sym, ap, subst, ◌∙◌, ℕ, zero, suc, ◌+◌, ◌<◌, ◌≤◌, List, [], ◌∷◌, ◌++◌, length, take, Some, None, arith, add-one, append_assoc, length-append}
use Rattle.std.specs.Prelude.{slice_get}
use Rattle.std.specs.Cmp.{IsTotalOrder}
use Rattle.std.specs.List.{flat_map, AllByRecursion}
use Rattle.std.specs.declared.cmp.Ordering.{Ordering}
use Rattle.alt_base.specs.Prefix.{IsPrefix}
use Rattle.alt_base.proofs.Lists.{take_next}
use Rattle.alt_fields.specs.Field.{field}
use Rattle.alt_value.specs.CellBytes.{cell_bytes}
use Rattle.alt_value.specs.Item.{with_pair}
use Rattle.alt_value.specs.Size.{depth}
use Rattle.alt_value.specs.Members.{IsSet, with_member}
use Rattle.alt_value.specs.Tree.{Tree, NULL_tree, Pair}
use Rattle.alt_cellbytes.specs.Places.{IsMapEntry, AreMapEntries, IsNextName, entry_bytes}
use Rattle.alt_fields.specs.Bytes.{IsShort}
use Rattle.alt_cellbytes.specs.Values.{AreSetMembers, HasBytes}
use Rattle.alt_fields.proofs.Apart.{all_append, flat_map_snoc}
use Rattle.alt_cellbytes.proofs.Rising.{with_member-last, with_pair-last, item_other, name_some}

-- ---- read

-- a list with one member more is longer by one
pub length-snoc : {A : Type 0} (xs : List A) (x : A) (n : ℕ) → length xs ≡ n
    → length (xs ++ x ∷ []) ≡ n + 1
length-snoc xs x n e = omega (arith, e, length-append xs (x ∷ []))

-- and its bytes stand behind the others'
pub bytes-snoc : {K : Type 0} (spell : K → List ℕ) (P : K → Type 0) (ks : List K) (k : K)
    (bytes rest behind : List ℕ) → bytes ≡ flat_map spell ks ++ rest
    → rest ≡ spell k ++ behind → bytes ≡ flat_map spell (ks ++ k ∷ []) ++ behind
bytes-snoc spell P ks k bytes rest behind is e =
    is ∙ ap (λ s. flat_map spell ks ++ s) e ∙ flat_map_snoc spell P ks k behind

module _ {K : Type 0} (R : K → K → Ordering) (o : IsTotalOrder R) (spell : K → List ℕ)
    (P : K → Type 0) where
  -- a set with a member more that stands above the others
  pub one_more : (set new : List K) (k : K) (n : ℕ) (bytes rest behind : List ℕ) → length set ≡ n
      → AreSetMembers P R set → bytes ≡ flat_map spell set ++ rest
      → P k → IsSet R (set ++ k ∷ []) → rest ≡ spell k ++ behind → new ≡ with_member R k set
      → (length new ≡ n + 1) × (AreSetMembers P R new) × (bytes ≡ flat_map spell new ++ behind)
  one_more set new k n bytes rest behind count are is right rising e added =
      let last : new ≡ set ++ k ∷ [] = added ∙ with_member-last R o set k rising in (
        ap length last ∙ length-snoc set k n count,
        subst (AreSetMembers P R) (sym last) (all_append P set (k ∷ []) are.0 (right, tt), rising),
        bytes-snoc spell P set k bytes rest behind is e
            ∙ ap (λ ks. flat_map spell ks ++ behind) (sym last),
      )

-- ---- written

take_whole : {A : Type 0} (xs : List A) (i : ℕ) → None ≡ slice_get xs i → take i xs ≡ xs
take_whole [] zero e = refl
take_whole [] (suc i) e = refl
take_whole (x ∷ xs) zero e = absurd (let f : ⊥ = cc in f)
take_whole (x ∷ xs) (suc i) e = ap (λ zs. x ∷ zs) (take_whole xs i e)

-- one spelling more is written
pub wrote_more : {K : Type 0} (spell : K → List ℕ) (xs : List K) (i : ℕ) (x : K)
    (first out new : List ℕ) → out ≡ first ++ flat_map spell (take i xs)
    → Some x ≡ slice_get xs i → new ≡ out ++ spell x
    → new ≡ first ++ flat_map spell (take (i + 1) xs)
wrote_more {K} spell xs i x first out new so_far here e =
    let P : K → Type 0 = λ k. Unit {0} in
    let more : take (i + 1) xs ≡ take i xs ++ x ∷ [] =
    ap (λ j. take j xs) (add-one i) ∙ take_next xs i x here in
    e ∙ ap (λ s. s ++ spell x) so_far ∙ append_assoc first (flat_map spell (take i xs)) (spell x)
    ∙ ap (λ s. first ++ s) (ap (λ s. flat_map spell (take i xs) ++ s) (sym (append_nil (spell x)))
    ∙ flat_map_snoc spell P (take i xs) x []
    ∙ append_nil (flat_map spell (take i xs ++ x ∷ [])))
    ∙ ap (λ ks. first ++ flat_map spell ks) (sym more)
  where
    append_nil : (xs : List ℕ) → xs ++ [] ≡ xs
    append_nil [] = refl
    append_nil (y ∷ ys) = ap (λ zs. y ∷ zs) (append_nil ys)

-- and all of them are, where none is left
pub wrote_whole : {K : Type 0} (spell : K → List ℕ) (xs : List K) (i : ℕ) (first out : List ℕ)
    → out ≡ first ++ flat_map spell (take i xs)
    → None ≡ slice_get xs i → out ≡ first ++ flat_map spell xs
wrote_whole spell xs i first out so_far past =
    so_far ∙ ap (λ ks. first ++ flat_map spell ks) (take_whole xs i past)

-- what begins with more, begins with the first of it
pub begins : (first more out new : List ℕ) → out ≡ first ++ more → IsPrefix out new
    → IsPrefix first new
begins first more out new e p = (
  more ++ p.0,
  p.1 ∙ ap (λ s. s ++ p.0) e
      ∙ append_assoc first more p.0,
)

-- a name and then its value
pub wrote_entry : (a b out one two : List ℕ) → one ≡ out ++ a → two ≡ one ++ b
    → two ≡ out ++ (a ++ b)
wrote_entry a b out one two p q = q ∙ ap (λ s. s ++ b) p ∙ append_assoc out a b

-- ---- entries

-- one entry more of a map
pub entry_more : (ps new : List Pair) (name : List ℕ) (t : Tree) (n : ℕ)
    (bytes rest within behind : List ℕ) → length ps ≡ n → AreMapEntries ps
    → bytes ≡ flat_map entry_bytes ps ++ rest → IsShort name → IsNextName ps name
    → rest ≡ field name ++ within → HasBytes t → within ≡ cell_bytes t ++ behind
    → new ≡ with_pair name t ps → (length new ≡ n + 1) × (AreMapEntries new)
    × (bytes ≡ flat_map entry_bytes new ++ behind)
entry_more ps new name t n bytes rest within behind count are is short next at value there added =
    let last : new ≡ ps ++ (name, t) ∷ [] = added ∙ with_pair-last ps name t NULL_tree next.1 in (
      ap length last ∙ length-snoc ps (name, t) n count,
      subst AreMapEntries (sym last) (
        all_append IsMapEntry ps ((name, t) ∷ []) are.0
            (((next.0, short), value), tt),
        item_other ps name NULL_tree t next.1,
      ),
      bytes-snoc entry_bytes IsMapEntry ps (name, t) bytes rest behind is
          (at ∙ ap (λ s. field name ++ s) there
          ∙ sym (append_assoc (field name) (cell_bytes t) behind))
          ∙ ap (λ qs. flat_map entry_bytes qs ++ behind) (sym last),
    )

-- and nothing in it is nested deeper
pub entry_shallow : (n : ℕ) (ps new : List Pair) (name : List ℕ) (t : Tree)
    → AllByRecursion (λ e. depth e.1 ≤ n) ps
    → IsNextName ps name → depth t ≤ n → new ≡ with_pair name t ps
    → AllByRecursion (λ e. depth e.1 ≤ n) new
entry_shallow n ps new name t shallow next d added =
    let last : new ≡ ps ++ (name, t) ∷ [] = added ∙ with_pair-last ps name t NULL_tree next.1 in
    subst (λ (qs : List Pair). AllByRecursion (λ e. depth e.1 ≤ n) qs) (sym last)
    (all_append (λ (e : Pair). depth e.1 ≤ n) ps ((name, t) ∷ []) shallow (d, tt))

-- no next name is empty
pub name_length : (ps : List Pair) (name : List ℕ) → IsNextName ps name → 0 < length name
name_length ps [] next = absurd (let f = name_some ps [] NULL_tree next.1 in let g : ⊥ = cc in g)
name_length ps (b ∷ name) next = omega arith
