-- What a walk reads, from the words of the engine's rows to those of the items.
use Rattle.std.proofs.Common.{◌≡◌, ◌≤◌, ◌+◌, ◌*◌, refl, sym, ap, subst, ◌∙◌, ℕ, zero, suc, Bool, true, false, not, ◌&&◌, List, [], ◌∷◌, map, take, length, Option, Some, None, option_map}
use Rattle.std.proofs.lemmas.List.{take-map}
use Rattle.std.specs.BTreeMap.Range.{entries_between, range_contains}
use Rattle.std.specs.Cmp.Lexicographic.{nat_list_cmp_total}
use Rattle.std.specs.FinMap as finite
use Rattle.std.specs.List.{AllByRecursion, last_or}
use Rattle.std.specs.Ordering.{is_le, is_lt, ordering_reverse}
use Rattle.std.specs.declared.cmp.Ordering.{Ordering}
use Rattle.std.specs.declared.cmp.Ordering.TheVariants.{Less, Equal, Greater}
use Rattle.std.specs.declared.ops.Bound.TheVariants.{Included}
use Rattle.alt_cells.specs.Changes.{Columns}
use Rattle.alt_cells.specs.Keys.{key_cmp}
use Rattle.alt_cells.specs.Walks.{RowMap, walk_cmp}
use Rattle.alt_disk.specs.Disk.{DiskState}
use Rattle.alt_rowchanges.specs.OpeningEngineInHand.{ReadsLayout as EngineReads, hand_of}
use Rattle.alt_rowchanges.specs.OpeningEngineDeclaredEngine.{Engine}
use Rattle.alt_families.specs.Reads as engine
use Rattle.alt_families.specs.Reads.{most_reads, versions_of}
use Rattle.alt_rowchanges.specs.OpeningHandInHand.{file_rows}
use Rattle.alt_layout.specs.Families.{Held, files_of}
use Rattle.alt_layout.specs.Files.{AreRowFiles}
use Rattle.alt_layout.specs.Fresh.{versions_file}
use Rattle.alt_layout.specs.Layout.{Layout, rows_between, shown}
use Rattle.alt_layout.proofs.OneLayout.{same_files}
use Rattle.alt_machine.specs.State.{Texts}
use Rattle.alt_machine.specs.Walks.{end_bound, is_beyond, turned}
use Rattle.alt_manifest.specs.InHand.{version_of}
use Rattle.alt_manifest.specs.Versions.{HasVersion}
use Rattle.alt_manifest.specs.declared.version.Version.{Version}
use Rattle.alt_manifest.proofs.AppendLaws.{has_version}
use Rattle.alt_manifest.proofs.OneVersion.{same_version}
use Rattle.alt_tables.specs.Reading.{HasRowFiles, is_place_reached, most_walk_reads}
use Rattle.alt_tables.proofs.Pages.{row_at, rows_between-items, same_end}
use Rattle.alt_value.specs.Members.{text_order}

-- ---- the row files

-- files that hold the same rows give one list
map-same : (held more : Held) (gs : List ℕ) → AllByRecursion (λ g. more g ≡ held g) gs
    → map held gs ≡ map more gs
map-same held more [] same = refl
map-same held more (g ∷ gs) same = λ i. sym same.0 i ∷ map-same held more gs same.1 i

-- The rows that the engine's files of a family hold are those of the files on the disk.
pub maps_are : (disk : DiskState) (e : Engine) (l : Layout) (reads : EngineReads disk e l)
    (family : ℕ) (maps : List RowMap) → HasRowFiles disk.file family maps
    → file_rows (hand_of e) reads.held family ≡ maps
maps_are disk e l reads family maps has =
    let v : Version = version_of (hand_of e).manifest in
    let w : Version = has.is.version in
    let last : HasVersion v (disk.file versions_file) =
    subst (λ f. HasVersion v (disk.file f)) reads.first
    (has_version disk (hand_of e).manifest reads.versions) in
    let same : v ≡ w = same_version (disk.file versions_file) v w last has.is.last in
    ap (λ (x : Version). map reads.held (files_of x.families family)) same
    ∙ map-same reads.held has.is.held (files_of w.families family)
    (same_files disk.file reads.held has.is.held w.families family
    (subst (λ (x : Version). AllByRecursion (AreRowFiles disk.file reads.held) x.families) same
    reads.stored.files) has.is.stored.files)
    ∙ sym has.are

-- ---- the places that are passed

-- what is at most the other way round isn't below
le_reverse : (o : Ordering) → is_le (ordering_reverse o) ≡ not (is_lt o)
le_reverse Less = refl
le_reverse Equal = refl
le_reverse Greater = refl

-- a key at most another in the order of a walk isn't beyond it
le_is : (forward : Bool) (key other : List ℕ)
    → is_le (walk_cmp forward key other) ≡ not (is_beyond forward (Some other) key)
le_is true key other = ap is_le (nat_list_cmp_total.antisymm key other)
    ∙ le_reverse (text_order other key)
le_is false key other = ap is_le (nat_list_cmp_total.antisymm other key)
    ∙ le_reverse (text_order key other)

-- a walk over rows goes as far as that over the items at their places
reached_is : (forward : Bool) (n : ℕ) (shows : List (List ℕ × Columns)) (key : List ℕ)
    → engine.is_reached forward n shows key ≡ is_place_reached forward n (map (λ e. e.0) shows) key
reached_is forward zero shows key = refl
reached_is forward (suc n) [] key = refl
reached_is forward (suc zero) (e ∷ es) key = le_is forward key e.0
reached_is forward (suc (suc n)) (e ∷ es) key = reached_is forward (suc n) es key

-- so the reads of both have one bound
pub reads_are : (forward : Bool) (from : List ℕ) (to : Option (List ℕ)) (most : ℕ)
    (shows : List (List ℕ × Columns)) (maps : List RowMap)
    → most_reads forward from to most shows maps
    ≡ most_walk_reads forward from to most (map (λ e. e.0) shows) maps
reads_are forward from to most shows maps =
    ap (λ (p : List ℕ → Bool). versions_of p maps + 2 * length maps)
    (λ i key. range_contains key_cmp (Included from) (same_end to i) key
    && reached_is forward most shows key i)

-- ---- the places of the items

-- rows lie at the places of their items
places-rows : {X : Type 0} (columns : X → Columns) (es : List (List ℕ × X))
    → map (λ (e : List ℕ × Columns). e.0) (map (row_at columns) es) ≡ map (λ e. e.0) es
places-rows columns [] = refl
places-rows columns (e ∷ es) = ap (λ ps. e.0 ∷ ps) (places-rows columns es)

module _ {X : Type 0} (columns : X → Columns) (l : Layout) (family : ℕ) (items : Texts X)
    (shows : (key : List ℕ) → shown l family key ≡ option_map columns (finite.get items key))
    (from : List ℕ) (to : Option (List ℕ)) (forward : Bool) where
  -- the items of the range, in the order of a walk
  abbrev placed : List (List ℕ × X)
  placed = turned forward
      (entries_between text_order (Included from) (end_bound to) (finite.entries items))

  -- A walk over the rows that show items reads what one over these items may read.
  pub walk_paid : (disk : DiskState) (e : Engine) (reads : EngineReads disk e l) (most : ℕ)
      (before after : ℕ) → after ≤ before + most_reads forward from to most
      (rows_between l family from to forward) (file_rows (hand_of e) reads.held family)
      → (maps : List RowMap) → HasRowFiles disk.file family maps
      → after ≤ before + most_walk_reads forward from to most (map (λ e. e.0) placed) maps
  walk_paid disk e reads most before after paid maps has =
      subst (λ n. after ≤ before + n)
      (ap (most_reads forward from to most (rows_between l family from to forward))
      (maps_are disk e l reads family maps has)
      ∙ reads_are forward from to most (rows_between l family from to forward) maps
      ∙ ap (λ places. most_walk_reads forward from to most places maps)
      (ap (map (λ (e : List ℕ × Columns). e.0))
      (rows_between-items columns l family items shows from to forward)
      ∙ places-rows columns placed)) paid

  -- and where it gave the first of the rows, the last of them lies at the place of the last of as many items
  pub last_given : (most : ℕ) (page : List (List ℕ × Columns))
      → page ≡ take most (map (row_at columns) placed)
      → last_or None (map (λ (e : List ℕ × Columns). e.0) page)
      ≡ last_or None (take most (map (λ e. e.0) placed))
  last_given most page is = ap (last_or None)
      (ap (map (λ (e : List ℕ × Columns). e.0)) is
      ∙ sym (take-map (λ (e : List ℕ × Columns). e.0) most (map (row_at columns) placed))
      ∙ ap (take most) (places-rows columns placed))
