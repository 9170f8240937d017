-- Which files each step of a draft names of each family, and which it names no more.
use Rattle.std.proofs.Common.{◌≡◌, ◌+◌, ⊎_elim, inl, inr, ℕ, Bool, true, false, List, [], ◌∷◌, ◌++◌, take, drop, refl, sym, subst, ◌∙◌, arith, eq-eqb, eqb-true}
use Rattle.std.proofs.lemmas.List.{take-append-drop}
use Rattle.std.specs.Prelude.{◌==◌, ◌-◌, ◌⊎◌, if◌then◌else◌, nat_lt}
use Rattle.alt_manifest.specs.Versions.{IsIn, RiseFrom, numbers_of, row_files}
use Rattle.alt_manifest.specs.declared.version.FamilyVersion.{FamilyVersion}
use Rattle.alt_layout.specs.Families.{files_of, flushed_of}
use Rattle.alt_layout.specs.Flushes.{with_file}
use Rattle.alt_layout.specs.Merged.{with_made}
use Rattle.alt_layout.proofs.FileLaws.{in_either}
use Rattle.alt_layout.proofs.FlushedFiles.{files_of-own, flushed_of-own, of-other, put_file}
use Rattle.alt_flush.specs.Drafts.{kept_before, with_files, with_none}
use Rattle.alt_flush.specs.Laws.{FlushDrops, FlushNames, LogDrops, LogNames, MergeDrops, WithoutDrops, WithoutNames}
use Rattle.alt_flush.proofs.DropLaws.{files_of-none, flushed_of-none, none-other}
use Rattle.alt_flush.proofs.NewLogLaws.{files_of-with_files, row_files-with_files}
use Rattle.alt_manifest.proofs.Among.{in_back, in_front, risen}

-- ---- the files of each family

pub flush_names : FlushNames
flush_names u family rising = record {
  own = files_of-own family (u.next_number - 1) u.next_file u.families rising;
  number = flushed_of-own family (u.next_number - 1) u.next_file u.families;
  others = λ other apart. (
    of-other (λ f. f.files) family (u.next_number - 1) u.next_file other []
        (λ fs. files_of fs other) refl (λ f fs. refl) apart u.families,
    of-other (λ f. f.flushed) family (u.next_number - 1) u.next_file other 0
        (λ fs. flushed_of fs other) refl (λ f fs. refl) apart u.families,
  );
}

pub without_names : WithoutNames
without_names u family rising = record {
  own = files_of-none family (u.next_number - 1) u.families rising;
  number = flushed_of-none family (u.next_number - 1) u.families;
  others = λ other apart. (
    none-other (λ f. f.files) family (u.next_number - 1) other []
        (λ fs. files_of fs other) refl (λ f fs. refl) apart u.families,
    none-other (λ f. f.flushed) family (u.next_number - 1) other 0
        (λ fs. flushed_of fs other) refl (λ f fs. refl) apart u.families,
  );
}

-- families that have files are families
in_kept : (n : ℕ) (fs : List FamilyVersion) → IsIn (numbers_of (with_files fs)) n
    → IsIn (numbers_of fs) n
in_kept n [] there = there
in_kept n (f ∷ fs) there = here f.files (in_kept n fs) there
  where
    here : (gs : List ℕ) → (IsIn (numbers_of (with_files fs)) n → IsIn (numbers_of fs) n)
        → IsIn (numbers_of (kept_before f gs (with_files fs))) n → IsIn (numbers_of (f ∷ fs)) n
    here [] rest there = inr (rest there)
    here (g ∷ gs) rest there = ⊎_elim (λ (e : n ≡ f.family). inl e)
        (λ (later : IsIn (numbers_of (with_files fs)) n). inr (rest later)) there

-- one without files isn't among them
left_out : (least family : ℕ) (fs : List FamilyVersion) → RiseFrom least (numbers_of fs)
    → files_of fs family ≡ [] → IsIn (numbers_of (with_files fs)) family → ⊥
left_out least family [] rising none there = there
left_out least family (f ∷ fs) rising none there =
    here f.files refl (f.family == family) refl none
    (left_out (f.family + 1) family fs rising.1) there
  where
    here : (gs : List ℕ) → f.files ≡ gs → (t : Bool) → (f.family == family) ≡ t
        → (if t then f.files else files_of fs family) ≡ []
        → (files_of fs family ≡ [] → IsIn (numbers_of (with_files fs)) family → ⊥)
        → IsIn (numbers_of (kept_before f gs (with_files fs))) family → ⊥
    here [] e true same none rest there =
        let high = risen (f.family + 1) family (numbers_of fs) rising.1 (in_kept family fs there) in
        let it = eqb-true f.family family same in omega (arith, high, it)
    here (g ∷ gs) e true same none rest there = let no : [] ≡ g ∷ gs = sym none ∙ e in cc no
    here [] e false same none rest there = rest none there
    here (g ∷ gs) e false same none rest there = ⊎_elim
        (λ (first : family ≡ f.family).
        let no : false ≡ true = sym same ∙ eq-eqb f.family family (sym first) in cc no)
        (λ (later : IsIn (numbers_of (with_files fs)) family). rest none later) there

pub log_names : LogNames
log_names u rising family = (
  files_of-with_files 0 family u.families rising,
  left_out 0 family u.families rising,
)

-- ---- the files that are named no more

-- a file more, and all others
still_put : (family flushed file n : ℕ) (fs : List FamilyVersion) → IsIn (row_files fs) n
    → IsIn (row_files (with_file family flushed file fs)) n
still_put family flushed file n fs there =
    let put = put_file family flushed file fs in
    subst (λ ys. IsIn ys n) (sym put.after)
    (in_either put.front put.back n (λ here. in_front put.front (file ∷ put.back) n here)
    (λ later. in_back put.front (file ∷ put.back) n (inr later))
    (subst (λ xs. IsIn xs n) put.before there))

pub flush_drops : FlushDrops
flush_drops u family f there =
    let more = row_files (with_file family (u.next_number - 1) u.next_file u.families) in
    inl (in_either u.segments (row_files u.families) f (λ here. in_front u.segments more f here)
    (λ later. in_back u.segments more f
    (still_put family (u.next_number - 1) u.next_file f u.families later)) there)

-- all but those of one family
still_none : (family flushed n : ℕ) (fs : List FamilyVersion) → IsIn (row_files fs) n
    → IsIn (row_files (with_none family flushed fs)) n ⊎ IsIn (files_of fs family) n
still_none family flushed n [] there = absurd there
still_none family flushed n (f ∷ fs) there =
    here (f.family == family) (nat_lt family f.family) (still_none family flushed n fs)
  where
    here : (t u : Bool)
        → (IsIn (row_files fs) n
        → IsIn (row_files (with_none family flushed fs)) n ⊎ IsIn (files_of fs family) n)
        → IsIn (row_files (if t
        then record { family = f.family; flushed = flushed; files = [] } ∷ fs
        else (if u
        then record { family = family; flushed = flushed; files = [] } ∷ f ∷ fs
        else f ∷ with_none family flushed fs))) n
        ⊎ IsIn (if t then f.files else files_of fs family) n
    here true u rest = in_either f.files (row_files fs) n (λ own. inr own) (λ later. inl later) there
    here false true rest = inl there
    here false false rest = in_either f.files (row_files fs) n
        (λ own. inl (in_front f.files (row_files (with_none family flushed fs)) n own))
        (λ later. ⊎_elim
        (λ (on : IsIn (row_files (with_none family flushed fs)) n).
        inl (in_back f.files (row_files (with_none family flushed fs)) n on))
        (λ (gone : IsIn (files_of fs family) n). inr gone) (rest later)) there

pub without_drops : WithoutDrops
without_drops u family f there =
    let rest = row_files (with_none family (u.next_number - 1) u.families) in
    in_either u.segments (row_files u.families) f (λ here. inl (in_front u.segments rest f here))
    (λ later. ⊎_elim (λ (on : IsIn rest f). inl (in_back u.segments rest f on))
    (λ (gone : IsIn (files_of u.families family) f). inr gone)
    (still_none family (u.next_number - 1) f u.families later)) there

pub log_drops : LogDrops
log_drops u f there = in_either u.segments (row_files u.families) f (λ here. inr here)
    (λ later. inl (inr (subst (λ xs. IsIn xs f) (sym (row_files-with_files u.families)) later))) there

-- all but the first ones of one family
still_made : (family taken n : ℕ) (made : List ℕ) (fs : List FamilyVersion) → IsIn (row_files fs) n
    → IsIn (row_files (with_made family taken made fs)) n ⊎ IsIn (take taken (files_of fs family)) n
still_made family taken n made [] there = absurd there
still_made family taken n made (f ∷ fs) there =
    here (f.family == family) (still_made family taken n made fs)
  where
    since : List ℕ
    since = drop taken f.files

    here : (t : Bool)
        → (IsIn (row_files fs) n → IsIn (row_files (with_made family taken made fs)) n
        ⊎ IsIn (take taken (files_of fs family)) n)
        → IsIn (row_files (if t
        then record { family = f.family; flushed = f.flushed; files = made ++ drop taken f.files } ∷ fs
        else f ∷ with_made family taken made fs)) n
        ⊎ IsIn (take taken (if t then f.files else files_of fs family)) n
    here true rest = in_either f.files (row_files fs) n
        (λ own. in_either (take taken f.files) since n (λ took. inr took)
        (λ left. inl (in_front (made ++ since) (row_files fs) n (in_back made since n left)))
        (subst (λ xs. IsIn xs n) (sym (take-append-drop taken f.files)) own))
        (λ later. inl (in_back (made ++ since) (row_files fs) n later)) there
    here false rest = in_either f.files (row_files fs) n
        (λ own. inl (in_front f.files (row_files (with_made family taken made fs)) n own))
        (λ later. ⊎_elim
        (λ (on : IsIn (row_files (with_made family taken made fs)) n).
        inl (in_back f.files (row_files (with_made family taken made fs)) n on))
        (λ (gone : IsIn (take taken (files_of fs family)) n). inr gone) (rest later)) there

pub merge_drops : MergeDrops
merge_drops u family taken made f there =
    let rest = row_files (with_made family taken made u.families) in
    in_either u.segments (row_files u.families) f (λ here. inl (in_front u.segments rest f here))
    (λ later. ⊎_elim (λ (on : IsIn rest f). inl (in_back u.segments rest f on))
    (λ (gone : IsIn (take taken (files_of u.families family)) f). inr gone)
    (still_made family taken f made u.families later)) there
