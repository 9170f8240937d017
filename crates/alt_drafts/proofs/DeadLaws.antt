-- Families that aren't live, gathered and left out.
use Rattle.std.proofs.Common.{◌≡◌, ◌<◌, ◌+◌, ◌^◌, ◌++◌, ⊎_elim, inl, inr, cond, ℕ, Bool, true, false, List, [], ◌∷◌, length, take, drop, get_or, Option, refl, sym, ap, subst, ◌∙◌, arith, eqb-true, zero, suc}
use Rattle.std.proofs.lemmas.List.{drop_more, take_more}
use Rattle.std.specs.Prelude.{◌⊎◌, ◌==◌, ◌||◌, is_some, None}
use Rattle.std.specs.BTreeMap.{get}
use Rattle.std.specs.FinMap.{empty, empty_of_len, entries, len-entries}
use Rattle.std.specs.Ordering.{eq_by_cmp, is_eq, nat_cmp}
use Rattle.std.specs.Set.{is_member}
use Rattle.alt_base.proofs.Orderings.{is_eq-nat_cmp}
use Rattle.alt_disk.specs.Disk.{DiskState}
use Rattle.alt_flush.specs.Drafts.{without_family}
use Rattle.alt_layout.specs.Layout.{Layout, RowMap}
use Rattle.alt_layout.proofs.FileLaws.{in_either}
use Rattle.alt_manifest.specs.Versions.{IsIn, numbers_of, row_files}
use Rattle.alt_manifest.specs.declared.version.FamilyVersion.{FamilyVersion}
use Rattle.alt_manifest.specs.declared.version.Version.{Version}
use Rattle.alt_families.specs.Families.{Families, rows_in}
use Rattle.alt_writes.specs.Writes.{Write}
use Rattle.alt_layout.specs.Families.{layout_of}
use Rattle.alt_layout.specs.Files.{all_of}
use Rattle.alt_drafts.specs.Drafting.{AreDead, Empties, Makes, is_some_row, without_families}
use Rattle.alt_drafts.proofs.MakesLaws.{empties_none, empties_then, makes_none}
use Rattle.alt_manifest.proofs.Among.{in_at, in_back, in_front}

-- ---- lists of numbers

-- a number put behind others
pub in_push : (xs : List ℕ) (x : ℕ) → IsIn (xs ++ x ∷ []) x
in_push xs x = in_back xs (x ∷ []) x (inl refl)

-- one more that isn't live
pub dead_push : (live dead : List ℕ) (family : ℕ) → AreDead live dead → (IsIn live family → ⊥)
    → AreDead live (dead ++ family ∷ [])
dead_push live dead family are not_live other there = in_either dead (family ∷ []) other
    (are other) (λ it. ⊎_elim (λ (e : other ≡ family) in_live. not_live (subst (IsIn live) e in_live))
    (λ (no : ⊥). absurd no) it) there

-- the numbers of the families so far, with one more
pub numbers_more : (fs : List FamilyVersion) (i : ℕ) (f : FamilyVersion) (n : ℕ) → i < length fs
    → f ≡ get_or fs i f → IsIn (numbers_of (take (i + 1) fs)) n
    → IsIn (numbers_of (take i fs)) n ⊎ (n ≡ f.family)
numbers_more fs i f n within at there = parts (take i fs)
    (subst (λ (gs : List FamilyVersion). IsIn (numbers_of gs) n)
    (take_more fs i f within ∙ ap (λ (g : FamilyVersion). take i fs ++ g ∷ []) (sym at)) there)
  where
    parts : (gs : List FamilyVersion) → IsIn (numbers_of (gs ++ f ∷ [])) n
        → IsIn (numbers_of gs) n ⊎ (n ≡ f.family)
    parts [] there = ⊎_elim (λ (e : n ≡ f.family). inr e) (λ (no : ⊥). absurd no) there
    parts (g ∷ gs) there = ⊎_elim (λ (e : n ≡ g.family). inl (inl e))
        (λ (later : IsIn (numbers_of (gs ++ f ∷ [])) n). ⊎_elim
        (λ (old : IsIn (numbers_of gs) n). inl (inr old)) (λ (e : n ≡ f.family). inr e)
        (parts gs later)) there

-- the files of one of the families are among those of all
pub in_row_files_at : (fs : List FamilyVersion) (i : ℕ) (f : FamilyVersion) (g : ℕ) → i < length fs
    → f ≡ get_or fs i f → IsIn f.files g → IsIn (row_files fs) g
in_row_files_at fs i f g within at own =
    reach fs i within (subst (λ (h : FamilyVersion). IsIn h.files g) at own)
  where
    reach : (fs : List FamilyVersion) (i : ℕ) → i < length fs → IsIn (get_or fs i f).files g
        → IsIn (row_files fs) g
    reach [] i within own = absurd (let w = within in omega (arith, w))
    reach (h ∷ fs) zero within own = in_front h.files (row_files fs) g own
    reach (h ∷ fs) (suc i) within own = in_back h.files (row_files fs) g
        (reach fs i (let w = within in omega (arith, w)) own)

-- a member of a list is in it
pub member_in : (xs : List ℕ) (n : ℕ) → is_member (eq_by_cmp nat_cmp) xs n ≡ true → IsIn xs n
member_in [] n e = absurd (cc)
member_in (x ∷ xs) n e = by_test (n == x) refl (λ later. member_in xs n later)
  where
    by_test : (t : Bool) → (n == x) ≡ t
        → (is_member (eq_by_cmp nat_cmp) xs n ≡ true → IsIn xs n) → (n ≡ x) ⊎ IsIn xs n
    by_test true same rest = inl (eqb-true n x same)
    by_test false apart rest = inr (rest
        (ap (λ t. t || is_member (eq_by_cmp nat_cmp) xs n) (sym (is_eq-nat_cmp n x ∙ apart)) ∙ e))

-- ---- families in hand

-- no row is no rows
pub no_rows_in : (m : RowMap) → is_some_row (entries m) ≡ false → m ≡ empty
no_rows_in m none = empty_of_len m (len-entries m ∙ ap length (nothing (entries m) none))
  where
    nothing : (es : List (List ℕ × Rattle.alt_cells.specs.declared.row.RowCells.RowCells))
        → is_some_row es ≡ false → es ≡ []
    nothing [] e = refl
    nothing (x ∷ xs) e = absurd (cc)

-- a family in hand is among their numbers, any other has no rows
pub in_hand_or_none : (families : Families) (numbers : List ℕ) (family : ℕ)
    → is_some (get nat_cmp families family) ≡ is_member (eq_by_cmp nat_cmp) numbers family
    → IsIn numbers family ⊎ (rows_in (get nat_cmp families family) ≡ empty)
in_hand_or_none families numbers family has =
    here (get nat_cmp families family) (λ some. member_in numbers family (sym has ∙ some))
  where
    here : (o : Option Rattle.alt_families.specs.declared.family.Family.Family)
        → (is_some o ≡ true → IsIn numbers family) → IsIn numbers family ⊎ (rows_in o ≡ empty)
    here None member = inr refl
    here (Option.Some f) member = inl (member refl)

-- a family that was taken out of those in hand
pub taken_out : (old new : Families) (family : ℕ) → ((q : ℕ) → get nat_cmp new q
    ≡ cond (is_eq (nat_cmp family q)) None (get nat_cmp old q))
    → get nat_cmp new family ≡ None
taken_out old new family at = at family ∙ ap (λ t. cond t None (get nat_cmp old family))
    (is_eq-nat_cmp family family ∙ Rattle.std.proofs.Common.eq-eqb family family refl)

pub others_stay : (old new : Families) (family : ℕ) → ((q : ℕ) → get nat_cmp new q
    ≡ cond (is_eq (nat_cmp family q)) None (get nat_cmp old q)) → (other : ℕ)
    → (other ≡ family → ⊥) → get nat_cmp new other ≡ get nat_cmp old other
others_stay old new family at other apart =
    at other ∙ ap (λ t. cond t None (get nat_cmp old other))
    (is_eq-nat_cmp family other ∙ differs (family == other) refl)
  where
    differs : (t : Bool) → (family == other) ≡ t → (family == other) ≡ false
    differs false is = is
    differs true is = absurd (apart (sym (eqb-true family other is)))

-- ---- several left out

-- the draft without those from one on is the draft without that one, without those behind it
pub without_more : (u : Version) (dead : List ℕ) (i : ℕ) → i < length dead
    → without_families (without_family u (get_or dead i 0)) (drop (i + 1) dead) ≡ without_families u (drop i dead)
without_more u dead i within = ap (without_families u) (sym (drop_more dead i 0 within))

-- a family that isn't among those so far with one more isn't among those so far, and isn't that one
pub others_more : (old new first : Families) (dead : List ℕ) (i other : ℕ) → i < length dead
    → ((o : ℕ) → (o ≡ get_or dead i 0 → ⊥) → get nat_cmp new o ≡ get nat_cmp old o)
    → ((o : ℕ) → (IsIn (take i dead) o → ⊥) → get nat_cmp old o ≡ get nat_cmp first o)
    → (IsIn (take (i + 1) dead) other → ⊥) → get nat_cmp new other ≡ get nat_cmp first other
others_more old new first dead i other within stay before not_in =
    stay other (λ e. not_in (more (in_back (take i dead) (get_or dead i 0 ∷ []) other (inl e))))
    ∙ before other (λ there. not_in (more (in_front (take i dead) (get_or dead i 0 ∷ []) other there)))
  where
    more : IsIn (take i dead ++ get_or dead i 0 ∷ []) other → IsIn (take (i + 1) dead) other
    more there = subst (λ xs. IsIn xs other) (sym (take_more dead i 0 within)) there

-- One more is left out of a draft and its layout.
pub dropped_more : (s : DiskState) (u w : Version) (old new : Families)
    (parts : List (List Write)) (l : Layout) (live dead : List ℕ) (i : ℕ) → i < length dead
    → get_or dead i 0 < 2 ^ 32 → w ≡ without_family u (get_or dead i 0)
    → get nat_cmp new (get_or dead i 0) ≡ None
    → ((o : ℕ) → (o ≡ get_or dead i 0 → ⊥) → get nat_cmp new o ≡ get nat_cmp old o)
    → AreDead live dead → (m : Layout) × Makes s u old parts m × Empties live l m
    → (n : Layout) × Makes s w new parts n × Empties live l n
dropped_more s u w old new parts l live dead i within fits is none stay are so_far =
    let family = get_or dead i 0 in
    let m = so_far.0 in
    let n = layout_of (without_family u family) so_far.1.held (all_of parts) in (
      n,
      subst (λ (v : Version). Makes s v new parts n) (sym is)
          (makes_none s u old parts m so_far.1 family fits new none stay),
      empties_then live l m n so_far.2
          (empties_none s u old parts m so_far.1 family fits new none stay live
          (are family (in_at dead i within))),
    )

-- what is left out changes no number and no segment
pub without_all-file : (u : Version) (dead : List ℕ)
    → (without_families u dead).next_file ≡ u.next_file
without_all-file u [] = refl
without_all-file u (family ∷ dead) = without_all-file (without_family u family) dead

pub without_all-segments : (u : Version) (dead : List ℕ)
    → (without_families u dead).segments ≡ u.segments
without_all-segments u [] = refl
without_all-segments u (family ∷ dead) = without_all-segments (without_family u family) dead
