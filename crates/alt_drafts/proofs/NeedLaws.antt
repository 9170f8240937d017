-- How many files the rows in memory of families take.
use Rattle.std.proofs.Common.{◌≡◌, ◌≢◌, ◌<◌, ◌≤◌, ◌+◌, inl, inr, ℕ, List, [], ◌∷◌, ◌++◌, length, take, drop, get_or, Option, zero, suc, true, false, append-nil, refl, sym, ap, subst, ◌∙◌, arith, ⊎_elim}
use Rattle.std.proofs.lemmas.List.{drop_more}
use Rattle.std.specs.BTreeMap.{get}
use Rattle.std.specs.FinMap.{empty, entries, len-empty, len-entries}
use Rattle.std.specs.Ordering.{nat_cmp}
use Rattle.alt_cells.specs.Keys.{key_cmp}
use Rattle.alt_cells.specs.declared.row.RowCells.{RowCells}
use Rattle.alt_manifest.specs.Versions.{IsIn, RiseFrom}
use Rattle.alt_families.specs.Families.{Families, files_in, rows_in}
use Rattle.alt_families.specs.declared.family.Family.{Family}
use Rattle.alt_rowfile.specs.declared.rowfile.RowFile.{RowFile}
use Rattle.alt_drafts.specs.Drafting.{MemoryIsFlushed, IsSpentFor, files_for, files_needed, is_some_row}
use Rattle.alt_drafts.specs.declared.fault.EngineFault.{EngineFault}
use Rattle.alt_drafts.specs.declared.fault.EngineFault.TheVariants.{Spent, Damaged, Failed, NoMemory}
use Rattle.alt_manifest.proofs.Among.{in_at, risen}

-- no rows take none
pub files_for-empty : files_for (entries (empty {K = List ℕ} {X = RowCells} {R = key_cmp})) ≡ 0
files_for-empty = nothing (entries empty) (sym (len-entries (empty {K = List ℕ} {X = RowCells} {R = key_cmp}))
    ∙ len-empty key_cmp RowCells)
  where
    nothing : (es : List (List ℕ × RowCells)) → length es ≡ 0 → files_for es ≡ 0
    nothing [] e = refl
    nothing (x ∷ xs) e = absurd (omega (arith, e))

-- rows take one exactly where there are some
pub files_for-some : (es : List (List ℕ × RowCells)) → is_some_row es ≡ true → files_for es ≡ 1
files_for-some [] e = absurd (cc)
files_for-some (x ∷ xs) e = refl

pub files_for-none : (es : List (List ℕ × RowCells)) → is_some_row es ≡ false → files_for es ≡ 0
files_for-none [] e = refl
files_for-none (x ∷ xs) e = absurd (cc)

-- families with the same rows take as many
pub needed_same : (old new : Families) (fs : List ℕ)
    → ((f : ℕ) → IsIn fs f → get nat_cmp new f ≡ get nat_cmp old f)
    → files_needed new fs ≡ files_needed old fs
needed_same old new [] same = refl
needed_same old new (f ∷ fs) same = λ i.
    files_for (entries (rows_in (same f (inl refl) i)))
    + needed_same old new fs (λ g there. same g (inr there)) i

-- numbers that rise do so from any one of them on
rise_drop : (least : ℕ) (xs : List ℕ) (i : ℕ) → RiseFrom least xs
    → (low : ℕ) × RiseFrom low (drop i xs)
rise_drop least xs zero rise = (least, rise)
rise_drop least [] (suc i) rise = (least, tt)
rise_drop least (x ∷ xs) (suc i) rise = rise_drop (x + 1) xs i rise.1

-- none of those behind it is the number
pub behind_apart : (xs : List ℕ) (i f : ℕ) → RiseFrom 0 xs → i < length xs
    → IsIn (drop (i + 1) xs) f → f ≢ get_or xs i 0
behind_apart xs i f rise within there same =
    let low = rise_drop 0 xs i rise in
    let rest : RiseFrom low.0 (get_or xs i 0 ∷ drop (i + 1) xs) =
    subst (RiseFrom low.0) (drop_more xs i 0 within) low.1 in
    let above = risen (get_or xs i 0 + 1) f (drop (i + 1) xs) rest.1 there in
    omega (arith, above, same)

-- nor is one of those before it
pub before_apart : (xs : List ℕ) (i f : ℕ) → RiseFrom 0 xs → i < length xs → IsIn (take i xs) f
    → f ≢ get_or xs i 0
before_apart xs i f rise within there same =
    let low = below_all 0 xs i f rise within there in omega (arith, low, same)
  where
    below_all : (least : ℕ) (xs : List ℕ) (i f : ℕ) → RiseFrom least xs → i < length xs
        → IsIn (take i xs) f → f < get_or xs i 0
    below_all least xs zero f rise within there = absurd there
    below_all least [] (suc i) f rise within there = absurd there
    below_all least (x ∷ xs) (suc i) f rise within there = ⊎_elim
        (λ (e : f ≡ x). let at = risen (x + 1) (get_or xs i 0) xs rise.1
        (in_at xs i (let w = within in omega (arith, w))) in omega (arith, e, at))
        (λ (later : IsIn (take i xs) f). below_all (x + 1) xs i f rise.1
        (let w = within in omega (arith, w)) later) there

-- A number below one of them is among those before it.
pub in_before : (xs : List ℕ) (i f : ℕ) → RiseFrom 0 xs → i < length xs → IsIn xs f
    → f < get_or xs i 0 → IsIn (take i xs) f
in_before xs i f rise within there low = below_in 0 xs i f rise within there low
  where
    below_in : (least : ℕ) (xs : List ℕ) (i f : ℕ) → RiseFrom least xs → i < length xs → IsIn xs f
        → f < get_or xs i 0 → IsIn (take i xs) f
    below_in least [] i f rise within there low = absurd there
    below_in least (x ∷ xs) zero f rise within there low = absurd (⊎_elim
        (λ (e : f ≡ x). omega (arith, e, low))
        (λ (later : IsIn xs f). let above = risen (x + 1) f xs rise.1 later in
        omega (arith, above, low)) there)
    below_in least (x ∷ xs) (suc i) f rise within there low = ⊎_elim (λ (e : f ≡ x). inl e)
        (λ (later : IsIn xs f). inr (below_in (x + 1) xs i f rise.1
        (let w = within in omega (arith, w)) later low)) there

-- A family of which nothing changed was flushed, where it has no rows in memory.
pub none_flushed : (o : Option Family) → rows_in o ≡ empty → MemoryIsFlushed o o
none_flushed o none = record {
  rows = none;
  made = [];
  files = sym (append-nil (files_in o));
  count = sym (ap (λ m. files_for (entries m)) none ∙ files_for-empty);
}

-- And one with rows, that has one file more and none.
pub one_flushed : (old new : Option Family) (made : RowFile) → rows_in new ≡ empty
    → files_in new ≡ files_in old ++ made ∷ [] → is_some_row (entries (rows_in old)) ≡ true
    → MemoryIsFlushed old new
one_flushed old new made none files some = record {
  rows = none;
  made = made ∷ [];
  files = files;
  count = sym (files_for-some (entries (rows_in old)) some);
}

-- What is taken for one family is taken for it and those behind it.
pub needed_more : (old new : Families) (xs : List ℕ) (i : ℕ) → RiseFrom 0 xs → i < length xs
    → ((f : ℕ) → f ≢ get_or xs i 0 → get nat_cmp new f ≡ get nat_cmp old f)
    → files_for (entries (rows_in (get nat_cmp old (get_or xs i 0))))
    + files_needed new (drop (i + 1) xs) ≡ files_needed old (drop i xs)
needed_more old new xs i rise within stay =
    ap (λ n. files_for (entries (rows_in (get nat_cmp old (get_or xs i 0)))) + n)
    (needed_same old new (drop (i + 1) xs) (λ f there. stay f (behind_apart xs i f rise within there)))
    ∙ ap (files_needed old) (sym (drop_more xs i 0 within))

-- at least that many are taken for all
pub needed_least : (families : Families) (xs : List ℕ) (i : ℕ) → i < length xs
    → files_for (entries (rows_in (get nat_cmp families (get_or xs i 0))))
    ≤ files_needed families (drop i xs)
needed_least families xs i within =
    let at = ap (files_needed families) (drop_more xs i 0 within) in omega (arith, at)

-- a number is spent for more files too
pub spent_more : (fault : EngineFault) (m n : ℕ) → m ≤ n → IsSpentFor m fault → IsSpentFor n fault
spent_more (Spent number) m n le spent = (spent.0, let low = spent.1 in omega (arith, low, le))
spent_more (Damaged file at) m n le spent = spent
spent_more Failed m n le spent = tt
spent_more NoMemory m n le spent = tt
