-- Families that are left out of a draft, and the files that go with them.
use Rattle.std.proofs.Common.{◌≡◌, ◌≢◌, ◌<◌, ◌+◌, ◌-◌, ⊎_elim, inl, inr, ℕ, Bool, true, false, List, [], ◌∷◌, ◌++◌, length, take, get_or, refl, sym, ap, subst, ◌∙◌, eqb-true, eq-eqb}
use Rattle.std.proofs.lemmas.List.{take-append-drop, take_more}
use Rattle.std.specs.Prelude.{◌⊎◌, ◌==◌, Option, drop, if◌then◌else◌, nat_lt}
use Rattle.std.specs.FinMap.{empty}
use Rattle.alt_families.specs.Families.{rows_in}
use Rattle.alt_families.specs.declared.family.Family.{Family}
use Rattle.alt_flush.specs.Drafts.{with_none, without_family}
use Rattle.alt_flush.specs.Laws.{DropsOnly}
use Rattle.alt_flush.proofs.DropLaws.{flushed_of-none, none-other}
use Rattle.alt_flush.proofs.NamedLaws.{without_drops}
use Rattle.alt_layout.specs.Families.{files_of, flushed_of}
use Rattle.alt_layout.specs.Flushes.{with_file}
use Rattle.alt_layout.specs.Merged.{with_made}
use Rattle.alt_layout.proofs.FlushedFiles.{differs}
use Rattle.alt_layout.proofs.MomentLaws.{same_or_not}
use Rattle.alt_manifest.specs.Versions.{IsIn, files_named, numbers_of}
use Rattle.alt_manifest.specs.declared.version.FamilyVersion.{FamilyVersion}
use Rattle.alt_manifest.specs.declared.version.Version.{Version}
use Rattle.alt_drafts.specs.Drafting.{IsLeftOut, IsThere, AreDead, without_families}
use Rattle.alt_manifest.proofs.Among.{in_back, in_front, in_or_not}

-- ---- files of families

-- a family that isn't named has none
files_of-unnamed : (fs : List FamilyVersion) (family : ℕ) → (IsIn (numbers_of fs) family → ⊥)
    → files_of fs family ≡ []
files_of-unnamed [] family out = refl
files_of-unnamed (f ∷ fs) family out =
    ap (λ t. if t then f.files else files_of fs family)
    (differs f.family family (λ same. out (inl (sym same))))
    ∙ files_of-unnamed fs family (λ there. out (inr there))

-- what is in a list by a test is in one of two
by_test_of : (t : Bool) (xs ys : List ℕ) (n : ℕ) {P : Type 0} → (t ≡ true → IsIn xs n → P)
    → (IsIn ys n → P) → IsIn (if t then xs else ys) n → P
by_test_of true xs ys n own later there = own refl there
by_test_of false xs ys n own later there = later there

-- the files of a family among those so far, with one more
pub files_more : (fs : List FamilyVersion) (i : ℕ) (f : FamilyVersion) (family n : ℕ)
    → i < length fs → f ≡ get_or fs i f → IsIn (files_of (take (i + 1) fs) family) n
    → IsIn (files_of (take i fs) family) n ⊎ ((f.family ≡ family) × IsIn f.files n)
files_more fs i f family n within at there = parts (take i fs)
    (subst (λ (gs : List FamilyVersion). IsIn (files_of gs family) n)
    (take_more fs i f within ∙ ap (λ (g : FamilyVersion). take i fs ++ g ∷ []) (sym at)) there)
  where
    front : (g : FamilyVersion) (t : Bool) (xs ys : List ℕ)
        → (IsIn xs n → IsIn ys n ⊎ ((f.family ≡ family) × IsIn f.files n))
        → IsIn (if t then g.files else xs) n
        → IsIn (if t then g.files else ys) n ⊎ ((f.family ≡ family) × IsIn f.files n)
    front g true xs ys rest there = inl there
    front g false xs ys rest there = rest there

    parts : (gs : List FamilyVersion) → IsIn (files_of (gs ++ f ∷ []) family) n
        → IsIn (files_of gs family) n ⊎ ((f.family ≡ family) × IsIn f.files n)
    parts [] there = by_test_of (f.family == family) f.files [] n
        (λ same own. inr (eqb-true f.family family same, own)) (λ no. absurd no) there
    parts (g ∷ gs) there = front g (g.family == family) (files_of (gs ++ f ∷ []) family)
        (files_of gs family) (λ later. parts gs later) there

-- the first files of a family are files of it
pub in_first : (taken : ℕ) (xs : List ℕ) (n : ℕ) → IsIn (take taken xs) n → IsIn xs n
in_first taken xs n there = subst (λ ys. IsIn ys n) (take-append-drop taken xs)
    (in_front (take taken xs) (drop taken xs) n there)

-- what isn't among numbers so far with one more isn't among those so far, and isn't that one
pub in_less : (xs : List ℕ) (i n : ℕ) → i < length xs → (IsIn (take (i + 1) xs) n → ⊥)
    → (IsIn (take i xs) n → ⊥) × (n ≡ get_or xs i 0 → ⊥)
in_less xs i n within out = (
  λ there. out (more (in_front (take i xs) (get_or xs i 0 ∷ []) n there)),
  λ e. out (more (in_back (take i xs) (get_or xs i 0 ∷ []) n (inl e))),
)
  where
    more : IsIn (take i xs ++ get_or xs i 0 ∷ []) n → IsIn (take (i + 1) xs) n
    more there = subst (λ ys. IsIn ys n) (sym (take_more xs i 0 within)) there

-- ---- families that are left out

-- one has no files
files_of-left : (family flushed : ℕ) (fs : List FamilyVersion)
    → files_of (with_none family flushed fs) family ≡ []
files_of-left family flushed [] = ap (λ t. if t then [] else []) (eq-eqb family family refl)
files_of-left family flushed (f ∷ fs) =
    here (f.family == family) (nat_lt family f.family) refl (files_of-left family flushed fs)
  where
    here : (t u : Bool) → (f.family == family) ≡ t
        → files_of (with_none family flushed fs) family ≡ []
        → files_of (if t
        then record { family = f.family; flushed = flushed; files = [] } ∷ fs
        else (if u
        then record { family = family; flushed = flushed; files = [] } ∷ f ∷ fs
        else f ∷ with_none family flushed fs)) family ≡ []
    here true u same rest = ap (λ t. if t then [] else files_of fs family) same
    here false true same rest =
        ap (λ t. if t then [] else (if f.family == family then f.files else files_of fs family))
        (eq-eqb family family refl)
    here false false same rest =
        ap (λ t. if t then f.files else files_of (with_none family flushed fs) family) same ∙ rest

-- another has those that it had
files_beside : (u : Version) (d family : ℕ) → family ≢ d
    → files_of (without_family u d).families family ≡ files_of u.families family
files_beside u d family apart = none-other (λ (f : FamilyVersion). f.files) d (u.next_number - 1) family
    [] (λ fs. files_of fs family) refl (λ f fs. refl) apart u.families

pub files_others : (u : Version) (dead : List ℕ) (family : ℕ) → (IsIn dead family → ⊥)
    → files_of (without_families u dead).families family ≡ files_of u.families family
files_others u [] family out = refl
files_others u (d ∷ dead) family out =
    files_others (without_family u d) dead family (λ there. out (inr there))
    ∙ files_beside u d family (λ same. out (inl same))

pub flushed_others : (u : Version) (dead : List ℕ) (family : ℕ) → (IsIn dead family → ⊥)
    → flushed_of (without_families u dead).families family ≡ flushed_of u.families family
flushed_others u [] family out = refl
flushed_others u (d ∷ dead) family out =
    flushed_others (without_family u d) dead family (λ there. out (inr there))
    ∙ none-other (λ (f : FamilyVersion). f.flushed) d (u.next_number - 1) family 0
    (λ fs. flushed_of fs family) refl (λ f fs. refl) (λ same. out (inl same)) u.families

-- none of several has files
left_files : (u : Version) (dead : List ℕ) (family : ℕ) → IsIn dead family
    → files_of (without_families u dead).families family ≡ []
left_files u [] family there = absurd there
left_files u (d ∷ dead) family there = ⊎_elim
    (λ (later : IsIn dead family). left_files (without_family u d) dead family later)
    (λ (out : IsIn dead family → ⊥). files_others (without_family u d) dead family out
    ∙ ⊎_elim (λ (e : family ≡ d). subst (λ k. files_of (without_family u d).families k ≡ []) (sym e)
    (files_of-left d (u.next_number - 1) u.families))
    (λ (later : IsIn dead family). absurd (out later)) there) (in_or_not dead family)

-- and each was flushed up to the last write
left_flushed : (u : Version) (dead : List ℕ) (family : ℕ) → IsIn dead family
    → flushed_of (without_families u dead).families family ≡ u.next_number - 1
left_flushed u [] family there = absurd there
left_flushed u (d ∷ dead) family there = ⊎_elim
    (λ (later : IsIn dead family). left_flushed (without_family u d) dead family later)
    (λ (out : IsIn dead family → ⊥). flushed_others (without_family u d) dead family out
    ∙ ⊎_elim (λ (e : family ≡ d). subst (λ k. flushed_of (without_family u d).families k ≡ u.next_number - 1)
    (sym e) (flushed_of-none d (u.next_number - 1) u.families))
    (λ (later : IsIn dead family). absurd (out later)) there) (in_or_not dead family)

-- it is named
named_left : (family flushed : ℕ) (fs : List FamilyVersion)
    → IsIn (numbers_of (with_none family flushed fs)) family
named_left family flushed [] = inl refl
named_left family flushed (f ∷ fs) =
    here (f.family == family) (nat_lt family f.family) refl (named_left family flushed fs)
  where
    here : (t u : Bool) → (f.family == family) ≡ t
        → IsIn (numbers_of (with_none family flushed fs)) family
        → IsIn (numbers_of (if t
        then record { family = f.family; flushed = flushed; files = [] } ∷ fs
        else (if u
        then record { family = family; flushed = flushed; files = [] } ∷ f ∷ fs
        else f ∷ with_none family flushed fs))) family
    here true u same rest = inl (sym (eqb-true f.family family same))
    here false true same rest = inl refl
    here false false same rest = inr rest

-- and so are those that were named
named_on : (family flushed other : ℕ) (fs : List FamilyVersion) → IsIn (numbers_of fs) other
    → IsIn (numbers_of (with_none family flushed fs)) other
named_on family flushed other [] there = inr there
named_on family flushed other (f ∷ fs) there =
    here (f.family == family) (nat_lt family f.family) (named_on family flushed other fs)
  where
    here : (t u : Bool)
        → (IsIn (numbers_of fs) other → IsIn (numbers_of (with_none family flushed fs)) other)
        → IsIn (numbers_of (if t
        then record { family = f.family; flushed = flushed; files = [] } ∷ fs
        else (if u
        then record { family = family; flushed = flushed; files = [] } ∷ f ∷ fs
        else f ∷ with_none family flushed fs))) other
    here true u rest = there
    here false true rest = inr there
    here false false rest = ⊎_elim (λ (e : other ≡ f.family). inl e)
        (λ (later : IsIn (numbers_of fs) other). inr (rest later)) there

-- also where a file is put behind another family's
pub named_file : (family flushed file other : ℕ) (fs : List FamilyVersion)
    → IsIn (numbers_of fs) other → IsIn (numbers_of (with_file family flushed file fs)) other
named_file family flushed file other [] there = inr there
named_file family flushed file other (f ∷ fs) there =
    here (f.family == family) (nat_lt family f.family) (named_file family flushed file other fs)
  where
    here : (t u : Bool)
        → (IsIn (numbers_of fs) other → IsIn (numbers_of (with_file family flushed file fs)) other)
        → IsIn (numbers_of (if t
        then record { family = f.family; flushed = flushed; files = f.files ++ file ∷ [] } ∷ fs
        else (if u
        then record { family = family; flushed = flushed; files = file ∷ [] } ∷ f ∷ fs
        else f ∷ with_file family flushed file fs))) other
    here true u rest = there
    here false true rest = inr there
    here false false rest = ⊎_elim (λ (e : other ≡ f.family). inl e)
        (λ (later : IsIn (numbers_of fs) other). inr (rest later)) there

-- or files stand in the place of its first
pub named_made : (family taken other : ℕ) (made : List ℕ) (fs : List FamilyVersion)
    → IsIn (numbers_of fs) other → IsIn (numbers_of (with_made family taken made fs)) other
named_made family taken other made [] there = there
named_made family taken other made (f ∷ fs) there =
    here (f.family == family) (named_made family taken other made fs)
  where
    here : (t : Bool)
        → (IsIn (numbers_of fs) other → IsIn (numbers_of (with_made family taken made fs)) other)
        → IsIn (numbers_of (if t
        then record { family = f.family; flushed = f.flushed; files = made ++ drop taken f.files } ∷ fs
        else f ∷ with_made family taken made fs)) other
    here true rest = there
    here false rest = ⊎_elim (λ (e : other ≡ f.family). inl e)
        (λ (later : IsIn (numbers_of fs) other). inr (rest later)) there

-- each of several is named
names_others : (u : Version) (dead : List ℕ) (family : ℕ) → IsIn (numbers_of u.families) family
    → IsIn (numbers_of (without_families u dead).families) family
names_others u [] family there = there
names_others u (d ∷ dead) family there = names_others (without_family u d) dead family
    (named_on d (u.next_number - 1) family u.families there)

left_named : (u : Version) (dead : List ℕ) (family : ℕ) → IsIn dead family
    → IsIn (numbers_of (without_families u dead).families) family
left_named u [] family there = absurd there
left_named u (d ∷ dead) family there = ⊎_elim
    (λ (e : family ≡ d). names_others (without_family u d) dead family
    (subst (λ k. IsIn (numbers_of (without_family u d).families) k) (sym e)
    (named_left d (u.next_number - 1) u.families)))
    (λ (later : IsIn dead family). left_named (without_family u d) dead family later) there

-- the file was one of a family that was left out
pub record IsLost (u : Version) (dead : List ℕ) (f : ℕ) : Type 0 where
  pub family : ℕ
  pub there : IsIn dead family
  pub own : IsIn (files_of u.families family) f

lost_back : (u : Version) (d : ℕ) (dead : List ℕ) (f : ℕ) → IsLost (without_family u d) dead f
    → IsLost u (d ∷ dead) f
lost_back u d dead f lost = record {
  family = lost.family;
  there = inr lost.there;
  own = ⊎_elim
      (λ (e : lost.family ≡ d). absurd (subst (λ xs. IsIn xs f)
      (ap (λ k. files_of (without_family u d).families k) e ∙ files_of-left d (u.next_number - 1) u.families)
      lost.own))
      (λ (apart : lost.family ≢ d). subst (λ xs. IsIn xs f) (files_beside u d lost.family apart) lost.own)
      (same_or_not lost.family d);
}

-- What the draft without several names no more are files of theirs.
pub left_drops : (u : Version) (dead : List ℕ) (f : ℕ) → IsIn (files_named u) f
    → IsIn (files_named (without_families u dead)) f ⊎ IsLost u dead f
left_drops u [] f there = inl there
left_drops u (d ∷ dead) f there = ⊎_elim
    (λ (on : IsIn (files_named (without_family u d)) f). ⊎_elim
    (λ (still : IsIn (files_named (without_families (without_family u d) dead)) f). inl still)
    (λ (lost : IsLost (without_family u d) dead f). inr (lost_back u d dead f lost))
    (left_drops (without_family u d) dead f on))
    (λ (own : IsIn (files_of u.families d) f).
    inr (record { family = d; there = inl refl; own = own })) (without_drops u d f there)

-- ---- steps, one behind another

-- what one step behind another drops
pub drops_then : (u v w : Version) (left more : List ℕ) → DropsOnly u v left → DropsOnly v w more
    → ((g : ℕ) → IsIn more g → IsIn left g) → DropsOnly u w left
drops_then u v w left more first later among f there = ⊎_elim
    (λ (on : IsIn (files_named v) f). ⊎_elim
    (λ (still : IsIn (files_named w) f). inl still)
    (λ (gone : IsIn more f). inr (among f gone)) (later f on))
    (λ (gone : IsIn left f). inr gone) (first f there)

-- ---- all that aren't live

module _ (u w : Version) (live dead : List ℕ) (are : AreDead live dead)
    (is : w ≡ without_families u dead) where
  pub drops_dead : (left : List ℕ)
      → ((family : ℕ) → (IsIn live family → ⊥) → (f : ℕ) → IsIn (files_of u.families family) f
      → IsIn left f) → DropsOnly u w left
  drops_dead left put f there = ⊎_elim
      (λ (on : IsIn (files_named (without_families u dead)) f).
      inl (subst (λ (v : Version). IsIn (files_named v) f) (sym is) on))
      (λ (lost : IsLost u dead f). inr (put lost.family (are lost.family lost.there) f lost.own))
      (left_drops u dead f there)

  pub bare_dead : ((family : ℕ) → IsIn (numbers_of u.families) family
      → IsIn live family ⊎ IsIn dead family) → (family : ℕ) → (IsIn live family → ⊥)
      → files_of w.families family ≡ []
  bare_dead named family out = ap (λ (v : Version). files_of v.families family) is ∙ ⊎_elim
      (λ (there : IsIn dead family). left_files u dead family there)
      (λ (not_in : IsIn dead family → ⊥). files_others u dead family not_in
      ∙ files_of-unnamed u.families family (λ there. ⊎_elim out not_in (named family there)))
      (in_or_not dead family)

  pub past_dead : (o : Option Family) (family : ℕ)
      → (IsIn (numbers_of u.families) family → IsIn live family ⊎ IsIn dead family)
      → IsIn live family ⊎ (IsIn dead family ⊎ (rows_in o ≡ empty)) → (IsIn live family → ⊥)
      → IsThere u o family → IsLeftOut w family (u.next_number - 1)
  past_dead o family named rest out there =
      let gone : IsIn dead family = ⊎_elim (λ (name : IsIn (numbers_of u.families) family).
      ⊎_elim (λ (lives : IsIn live family). absurd (out lives)) (λ (it : IsIn dead family). it) (named name))
      (λ (some : rows_in o ≢ empty). ⊎_elim (λ (lives : IsIn live family). absurd (out lives))
      (λ (or : IsIn dead family ⊎ (rows_in o ≡ empty)). ⊎_elim (λ (it : IsIn dead family). it)
      (λ (none : rows_in o ≡ empty). absurd (some none)) or) rest) there in
      subst (λ (v : Version). IsLeftOut v family (u.next_number - 1)) (sym is) (record {
        named = left_named u dead family gone;
        files = left_files u dead family gone;
        flushed = left_flushed u dead family gone;
      })

  pub same_live : (family : ℕ) → IsIn live family
      → files_of w.families family ≡ files_of u.families family
  same_live family there = ap (λ (v : Version). files_of v.families family) is
      ∙ files_others u dead family (λ gone. are family gone there)
