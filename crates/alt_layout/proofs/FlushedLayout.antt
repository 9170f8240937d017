-- The layout of the version in which a family is flushed is the old one.
use Rattle.std.proofs.Common.{◌≡◌, ◌≢◌, ◌<◌, ◌≤◌, ◌+◌, ◌-◌, ℕ, Bool, true, false, List, [], ◌∷◌, refl, sym, ap, subst, ◌∙◌, arith, eqb-true, eq-eqb, max}
use Rattle.std.proofs.lemmas.Bool.{false≢true}
use Rattle.std.specs.Prelude.{◌⊎◌, ◌==◌, if◌then◌else◌}
use Rattle.std.specs.FinMap.{empty}
use Rattle.std.specs.List.{AllByRecursion}
use Rattle.alt_fields.proofs.Apart.{all_front, all_back}
use Rattle.alt_layout.specs.Layout.{RowMap}
use Rattle.alt_writes.specs.Writes.{Write}
use Rattle.alt_manifest.specs.Versions.{IsIn, IsVersion, files_named, row_files}
use Rattle.alt_manifest.specs.declared.version.FamilyVersion.{FamilyVersion}
use Rattle.alt_manifest.specs.declared.version.Version.{Version}
use Rattle.alt_layout.specs.Families.{Held, flushed_of, files_of, with_later, next_after, family_rows, layout_of}
use Rattle.alt_layout.specs.Files.{all_of}
use Rattle.alt_layout.specs.Flushes.{HasNext, with_file, with_rows, version_with}
use Rattle.alt_layout.proofs.RowLaws.{none_behind, next_after-least}
use Rattle.alt_layout.proofs.FamilyLaws.{flushed_rows, left_rows, same_layouts}
use Rattle.alt_layout.proofs.FlushedFiles.{files_of-own, flushed_of-own, of-other, put_file, in_put, put_behind}
use Rattle.alt_layout.proofs.FlushLaws.{above_all, all_later, other_rows, own_rows}

-- a number that no write is above stays the next
pub next_after-stays : (start n : ℕ) (ws : List Write) → next_after start ws ≤ n → next_after n ws ≡ n
next_after-stays start n [] top = refl
next_after-stays start n (w ∷ ws) top =
    ap (λ k. next_after k ws) (let least = next_after-least (max start (w.number + 1)) ws in
    let same : max n (w.number + 1) ≡ n = omega (arith, least, top) in same)
    ∙ next_after-stays (max start (w.number + 1)) n ws top

-- what holds of all row files holds of a family's
pub of_family : (P : ℕ → Type 0) (fs : List FamilyVersion) (family : ℕ)
    → AllByRecursion P (row_files fs) → AllByRecursion P (files_of fs family)
of_family P [] family all = tt
of_family P (f ∷ fs) family all = here (f.family == family)
    (of_family P fs family (all_back P f.files (row_files fs) all))
  where
    here : (t : Bool) → AllByRecursion P (files_of fs family)
        → AllByRecursion P (if t then f.files else files_of fs family)
    here true rest = all_front P f.files (row_files fs) all
    here false rest = rest

-- files before the new one have the rows that they had
pub rows_stay : (held : Held) (file : ℕ) (m : RowMap) (gs : List ℕ) → AllByRecursion (λ g. g < file) gs
    → AllByRecursion (λ g. with_rows held file m g ≡ held g) gs
rows_stay held file m [] below = tt
rows_stay held file m (g ∷ gs) below = (
  other_rows held file m g (λ e. let low = below.0 in omega (arith, low, e)),
  rows_stay held file m gs below.1,
)

-- A flush leaves the layout: what was in memory is in the new file, and the writes count for nothing there any more.
pub flush_same : (v : Version) (held : Held) (parts : List (List Write)) (family file next : ℕ)
    (m : RowMap) → IsVersion v → HasNext v family file next
    → m ≡ with_later (flushed_of v.families family) family empty (all_of parts)
    → next ≡ next_after v.next_number (all_of parts)
    → layout_of (version_with v family file next) (with_rows held file m) (all_of parts)
    ≡ layout_of v held (all_of parts)
flush_same v held parts family file next m is has rows top =
    same_layouts v (version_with v family file next) held (with_rows held file m) (all_of parts)
    (all_of parts) (λ other. by_test other (other == family) refl)
    (next_after-stays v.next_number next (all_of parts) (omega (arith, top)) ∙ top)
  where
    below : AllByRecursion (λ g. g < file) (row_files v.families)
    below = all_back (λ f. f < file) v.segments (row_files v.families)
        (all_later (files_named v) v.next_file file has.free is.below)

    own : family_rows (with_file family (next - 1) file v.families) (with_rows held file m)
        (all_of parts) family ≡ family_rows v.families held (all_of parts) family
    own = flushed_rows v.families (with_file family (next - 1) file v.families) held
        (with_rows held file m) (all_of parts) v.next_number family (record {
          file = file ∷ [];
          files = files_of-own family (next - 1) file v.families is.rising;
          old = rows_stay held file m (files_of v.families family)
              (of_family (λ g. g < file) v.families family below);
          new = none_behind (with_rows held file m file) ∙ own_rows held file m ∙ rows;
        })
        (let first = is.next_number.0 in let later = has.later in
        omega (arith, top, first, later, flushed_of-own family (next - 1) file v.families))

    others : (other : ℕ) → other ≢ family
        → family_rows (with_file family (next - 1) file v.families) (with_rows held file m)
        (all_of parts) other ≡ family_rows v.families held (all_of parts) other
    others other apart = left_rows v.families (with_file family (next - 1) file v.families) held
        (with_rows held file m) (all_of parts) other (record {
          files = of-other (λ f. f.files) family (next - 1) file other []
              (λ fs. files_of fs other) refl (λ f fs. refl) apart v.families;
          rows = rows_stay held file m (files_of v.families other)
              (of_family (λ g. g < file) v.families other below);
          flushed = of-other (λ f. f.flushed) family (next - 1) file other 0
              (λ fs. flushed_of fs other) refl (λ f fs. refl) apart v.families;
        })

    by_test : (other : ℕ) (t : Bool) → (other == family) ≡ t
        → family_rows (with_file family (next - 1) file v.families)
        (with_rows held file m) (all_of parts) other
        ≡ family_rows v.families held (all_of parts) other
    by_test other true e = subst (λ x. family_rows (with_file family (next - 1) file v.families)
        (with_rows held file m) (all_of parts) x ≡ family_rows v.families held (all_of parts) x)
        (sym (eqb-true other family e)) own
    by_test other false e = others other (λ same. false≢true (sym e ∙ eq-eqb other family same))

-- the files that the new version names are the new one and old ones
pub named_with : (v : Version) (family file next g : ℕ)
    → IsIn (files_named (version_with v family file next)) g → (g ≡ file) ⊎ IsIn (files_named v) g
named_with v family file next g there = in_put (files_named v)
    (files_named (version_with v family file next)) file g
    (put_behind v.segments (row_files v.families)
    (row_files (with_file family (next - 1) file v.families)) file
    (put_file family (next - 1) file v.families)) there

-- a file from the next one on isn't named
pub unnamed : (v : Version) (file : ℕ) → IsVersion v → v.next_file ≤ file
    → IsIn (files_named v) file → ⊥
unnamed v file is free there = above_all (files_named v) file
    (all_later (files_named v) v.next_file file free is.below) there
