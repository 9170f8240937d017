-- What follows of layouts from their definitions alone, and of calls of the disk on one file of a store.
use Rattle.std.specs.Prelude.{◌≡◌, ◌⊎◌, ◌≤◌, ◌+◌, ◌-◌, ℕ, Bool, List, [], ◌∷◌, ◌++◌, option_and_then, Some, T}
use Rattle.std.specs.FinMap.{empty, get}
use Rattle.std.specs.List.{AllByRecursion}
use Rattle.alt_cells.specs.Batches.{is_distinct}
use Rattle.alt_cells.specs.Shown.{row_shown}
use Rattle.alt_disk.specs.Disk.{DiskState, Call, IsImage, IsSettled, Removed}
use Rattle.alt_disk.specs.Runs.{Run, Spans}
use Rattle.alt_gatelog.specs.Log.{IsLog, BeforeOrAfter, log_bytes}
use Rattle.alt_gatelog.specs.declared.form.Form.{Form}
use Rattle.alt_gatelog.specs.declared.form.Form.TheVariants.{One, Two}
use Rattle.alt_layout.specs.Layout.{Layout, RowMap, IsPast, change_of, no_rows, shown, shown_by, shown_rows}
use Rattle.alt_writes.specs.Writes.{Write, AreRising}
use Rattle.alt_layout.specs.Entries.{HoldWrites, IsEntry}
use Rattle.alt_layout.specs.Fresh.{entries_file, first_version, versions_file}
use Rattle.alt_manifest.specs.InHand.{OldOrNew}
use Rattle.alt_manifest.specs.Versions.{HasVersion, IsIn, IsVersion, files_named}
use Rattle.alt_manifest.specs.declared.version.FamilyVersion.{FamilyVersion}
use Rattle.alt_manifest.specs.declared.version.Version.{Version}
use Rattle.alt_layout.specs.Families.{Held, family_rows, flushed_of, layout_of, next_after, with_later}
use Rattle.alt_layout.specs.Files.{Image, EndsWith, HoldsRows, IsLayout, IsOf, Stored, all_of}
use Rattle.alt_layout.specs.Flushes.{HasNext, IsFlushed, IsMerged, version_with, with_rows}
use Rattle.alt_layout.specs.Merged.{IsCompaction, MayReplace, ShowsSame, version_made}
use Rattle.alt_layout.specs.Moments.{Lies, Has, HasEither, IsIt}
use Rattle.alt_layout.specs.Writes.{with_write, with_writes}

-- ---- Layouts.

-- An image has one layout at most.
abbrev pub OneLayout : Type 0
OneLayout = (image : Image) (l m : Layout) → IsLayout image l → IsLayout image m → l ≡ m

-- Each timestamp of an image's rows is below its next number.
abbrev pub ImagesArePast : Type 0
ImagesArePast = (image : Image) (l : Layout) → IsLayout image l → IsPast l

-- What two layouts show alike at a key they show alike there after any writes that are numbered from the next number on.
abbrev pub SameAfter : Type 0
SameAfter = (l m : Layout) (ws : List Write) → IsPast l → IsPast m → m.next_number ≡ l.next_number
    → AreRising l.next_number ws → (family : ℕ) (key : List ℕ)
    → shown m family key ≡ shown l family key
    → shown (with_writes m ws) family key ≡ shown (with_writes l ws) family key

-- A family that was flushed up to all writes has the rows that it had, while the writes still stand in the log.
abbrev pub Flushes : Type 0
Flushes = (fs gs : List FamilyVersion) (held more : Held) (ws : List Write) (start family : ℕ)
    → IsFlushed fs gs held more ws family → next_after start ws ≤ flushed_of gs family + 1
    → family_rows gs more ws family ≡ family_rows fs held ws family

-- And so it has once the log is empty.
abbrev pub FlushesAll : Type 0
FlushesAll = (fs gs : List FamilyVersion) (held more : Held) (ws : List Write) (family : ℕ)
    → IsFlushed fs gs held more ws family
    → family_rows gs more [] family ≡ family_rows fs held ws family

-- The version in which one family was flushed is a version, its files hold rows and writes, and it has the layout of the one before.
abbrev pub FlushesOne : Type 0
FlushesOne = (image : Image) (v : Version) (held : Held) (parts : List (List Write))
    (family file next : ℕ) (m : RowMap) → IsVersion v → HasNext v family file next → 2 ≤ file
    → HoldsRows m (next - 1) (image file)
    → m ≡ with_later (flushed_of v.families family) family empty (all_of parts)
    → next ≡ next_after v.next_number (all_of parts) → Stored image v held parts
    → IsVersion (version_with v family file next)
    × Stored image (version_with v family file next) (with_rows held file m) parts
    × (layout_of (version_with v family file next) (with_rows held file m) (all_of parts)
    ≡ layout_of v held (all_of parts))

-- A family that was merged shows what it showed.
abbrev pub Merges : Type 0
Merges = (fs gs : List FamilyVersion) (held more : Held) (ws : List Write) (number family : ℕ)
    → IsMerged fs gs held more number family → (key : List ℕ)
    → option_and_then row_shown (get (family_rows gs more ws family) key)
    ≡ option_and_then row_shown (get (family_rows fs held ws family) key)

-- Where what was made of the oldest files of a family may take their place, the version in which it does is a version, its files hold rows and writes, and
-- it shows what the one before shows.
abbrev pub MergesOne : Type 0
MergesOne = (image : Image) (v : Version) (held more : Held) (parts : List (List Write))
    (family taken number : ℕ) (made : List ℕ) → IsVersion v
    → MayReplace v held more family taken number made → Stored image v held parts
    → AllByRecursion (λ g. HoldsRows (more g) (flushed_of v.families family) (image g)) made
    → IsVersion (version_made v family taken made)
    × Stored image (version_made v family taken made) more parts
    × ShowsSame (layout_of v held (all_of parts))
    (layout_of (version_made v family taken made) more (all_of parts))

-- The files that this version names were made, or were named before.
abbrev pub NamesMade : Type 0
NamesMade = (v : Version) (held more : Held) (family taken number : ℕ) (made : List ℕ)
    → IsVersion v → MayReplace v held more family taken number made → (g : ℕ)
    → IsIn (files_named (version_made v family taken made)) g
    → IsIn made g ⊎ IsIn (files_named v) g

-- A compaction without tombstones leaves of a map of rows a map of its rows, purged.
abbrev pub Compacts : Type 0
Compacts = (m : RowMap) → (p : RowMap) × IsCompaction m p

-- Where no row stands twice in a write, a row shows after it what the write's one change of it makes of what it showed.
abbrev pub ShowsBatch : Type 0
ShowsBatch = (l : Layout) (w : Write) → T (is_distinct w.changes) → IsPast l
    → l.next_number ≤ w.number → (family : ℕ) (key : List ℕ)
    → shown (with_write l w) family key
    ≡ shown_by (change_of family key w.changes) (shown l family key)

-- The files of a fresh store have the layout without rows.
abbrev pub FreshHasNone : Type 0
FreshHasNone = (image : Image)
    → image versions_file ≡ Some (log_bytes One (first_version ∷ []) 0 [])
    → image entries_file ≡ Some (log_bytes Two [] 0 []) → IsLayout image no_rows

-- The rows that a family shows are found by their keys.
abbrev pub FindsShown : Type 0
FindsShown = (l : Layout) (family : ℕ) (key : List ℕ)
    → get (shown_rows l family) key ≡ shown l family key

-- ---- Moments.

-- A stop now leaves the layout of the store.
abbrev pub InEachImage : Type 0
InEachImage = (s : DiskState) (v : Version) (held : Held) (parts : List (List Write))
    → Lies s v held parts → (image : Image) → IsImage s s.moment image
    → IsLayout image (layout_of v held (all_of parts))

-- Calls on a file that isn't one of the store's leave its layout, then and at each moment.
abbrev pub LayoutStaysElsewhere : Type 0
LayoutStaysElsewhere = (a b : DiskState) (f : ℕ) (v : Version) (held : Held)
    (parts : List (List Write)) → Lies a v held parts → Run a b f (λ t left. Unit {0})
    → (IsOf v f → ⊥)
    → Lies b v held parts × Spans a b (IsIt f) (Has (layout_of v held (all_of parts)))

-- And so does the removal of such a file.
abbrev pub StaysByRemoval : Type 0
StaysByRemoval = (a b : DiskState) (f : ℕ) (ok : Bool) (v : Version) (held : Held)
    (parts : List (List Write)) → Lies a v held parts → Call a b ok → Removed a b f ok
    → (IsOf v f → ⊥)
    → Lies b v held parts × Spans a b (IsIt f) (Has (layout_of v held (all_of parts)))

-- While a version is added whose files are there and settled, each image has the layout before or that of the new version; and once it is the last and
-- settled, the store is that of the new version.
abbrev pub TakesVersion : Type 0
TakesVersion = (a b : DiskState) (v w : Version) (held more : Held) (parts us : List (List Write))
    → Lies a v held parts → Stored a.file w more us
    → ((f : ℕ) → IsIn (files_named w) f → IsSettled a f) → Run a b versions_file (OldOrNew v w)
    → Spans a b (IsIt versions_file)
    (HasEither (layout_of v held (all_of parts)) (layout_of w more (all_of us)))
    × (HasVersion w (b.file versions_file) → IsSettled b versions_file → Lies b w more us)

-- While an entry is added to the last segment, each image has the layout before or the one with all writes of the entry; and once it stands there and is
-- settled, the store has them.
abbrev pub TakesWrites : Type 0
TakesWrites = (a b : DiskState) (v : Version) (held : Held) (parts : List (List Write)) (f : ℕ)
    (ws : List Write) (form : Form) (entries : List (List ℕ)) (entry : List ℕ)
    (more : List Write) → Lies a v held parts → (ends : EndsWith v parts f ws)
    → HoldWrites form entries ws → IsEntry form entry more
    → AreRising (next_after v.next_number (all_of parts)) more
    → Run a b f (BeforeOrAfter form entries entry)
    → Spans a b (IsIt f) (HasEither (layout_of v held (all_of parts))
    (with_writes (layout_of v held (all_of parts)) more))
    × (IsLog form (entries ++ entry ∷ []) (b.file f) → IsSettled b f
    → Lies b v held (ends.fronts ++ (ws ++ more) ∷ []))
