-- Why files that are explained as no store's have no layout, and what is left on the way of a recovery.
use Rattle.std.proofs.Common.{◌≡◌, ◌<◌, ◌≤◌, ◌+◌, ◌-◌, ◌++◌, ◌∷◌, ⊎_elim, ℕ, List, [], take, drop, length, max, Option, Some, refl, sym, ap, subst, ◌∙◌, length-append, append_assoc, arith}
use Rattle.std.proofs.lemmas.List.{drop_at, take_at}
use Rattle.std.specs.Prelude.{⊤, Result, Ok, Err, IfOk, OnOk}
use Rattle.std.specs.FinMap.{entries, same_entries_map}
use Rattle.std.specs.List.{AllByRecursion}
use Rattle.alt_base.proofs.Lists.{last_same, all_among, cons_rest, cons_first as front}
use Rattle.sha2.specs.Sha256.{sha256}
use Rattle.sha2.proofs.Facts256.{length-sha256}
use Rattle.alt_disk.specs.Disk.{DiskState, IsImage, bytes_or_none, now}
use Rattle.alt_disk.specs.Fates.{Fates, Fits}
use Rattle.alt_disk.specs.Runs.{Spans}
use Rattle.alt_disk.proofs.Settled.{synced_settled}
use Rattle.alt_gatelog.specs.Log.{LogIsDamagedAt, IsLog}
use Rattle.alt_gatelog.specs.declared.form.Form.{Form}
use Rattle.alt_gatelog.specs.declared.form.Form.TheVariants.{One, Two}
use Rattle.alt_gatelog.proofs.OneList.{damaged_no_log, one_form, one_list}
use Rattle.alt_layout.specs.Families.{IsMapBelow, next_after}
use Rattle.alt_layout.specs.Files.{AreRowFiles, AreSegments, HoldsRows, Image, IsLayout, IsOf, IsSegment, all_of}
use Rattle.alt_layout.specs.Entries.{AreEntries, HoldWrites, IsEntry}
use Rattle.alt_layout.specs.Fresh.{versions_file}
use Rattle.alt_layout.specs.Layout.{Layout, RowMap}
use Rattle.alt_layout.proofs.OneLayout.{same_parts}
use Rattle.alt_manifest.specs.Recovery.{IsBadLast, no_entry, no_version as bad_version}
use Rattle.alt_manifest.specs.Versions.{HasVersion, version_bytes}
use Rattle.alt_manifest.specs.declared.version.Version.{Version}
use Rattle.alt_manifest.proofs.OneVersion.{same_version}
use Rattle.alt_recovery.proofs.ReplayLaws.{next_after-append}
use Rattle.alt_recovery.specs.Others.{IsOther}
use Rattle.alt_rowfile.proofs.OneFile.{one_list as one_list_of_rows}
use Rattle.alt_rowfile.specs.Format.{IsRowFile, body}
use Rattle.alt_rowfile.specs.Recovery.{HasDigest, NoRowFile}
use Rattle.alt_layout.proofs.EntryLaws.{one_entry}
use Rattle.alt_writes.specs.Writes.{AreRising, Write}
use Rattle.alt_hand.specs.Found.{Found, version_in}
use Rattle.alt_hand.specs.Recovery.{ExplainsStore, HasNoLayout, IsBadFileAt, IsBadDigest, IsRowFileOf, IsSegmentOf, LeftLike, late_rows, no_rows, no_segment, no_version, no_versions, no_write, other_form}
use Rattle.alt_hand.specs.Syncing.{AllSynced, Narrows}
use Rattle.alt_hand.specs.declared.hand.Hand.{Hand}
use Rattle.alt_hand.specs.declared.recover.RecoverFault.{RecoverFault}
use Rattle.alt_hand.specs.declared.recover.RecoverFault.TheVariants.{Damaged, DigestDiffers, Failed, NoMemory}
use Rattle.alt_hand.proofs.KeepLaws.{found_version, layout_kept, of_there}
use Rattle.alt_manifest.proofs.Among.{in_all}

-- ---- row files

-- a row file has a digest
row_file_long : (m : RowMap) (bytes : List ℕ) → IsRowFile (entries m) bytes → 32 ≤ length bytes
row_file_long m bytes is =
    let size = ap length is.file.is ∙ length-append (body is.blocks) (sha256 (body is.blocks)) in
    let digest = length-sha256 (body is.blocks) in omega (arith, size, digest)

-- and it is that of the rest
row_file_digest : (m : RowMap) (bytes : List ℕ) → IsRowFile (entries m) bytes → HasDigest bytes
row_file_digest m bytes is =
    let size : length (body is.blocks) ≡ length bytes - 32 =
    (let all = ap length is.file.is ∙ length-append (body is.blocks) (sha256 (body is.blocks)) in
    let digest = length-sha256 (body is.blocks) in omega (arith, all, digest)) in
    let whole = is.file.is in
    ap sha256 (ap (take (length bytes - 32)) whole
    ∙ take_at (body is.blocks) (sha256 (body is.blocks)) (length bytes - 32) size)
    ∙ sym (ap (drop (length bytes - 32)) whole
    ∙ drop_at (body is.blocks) (sha256 (body is.blocks)) (length bytes - 32) size)

-- ---- writes

-- numbers that rise over two lists rise over the first, and then over the second
rising_front : (first : ℕ) (xs ys : List Write) → AreRising first (xs ++ ys) → AreRising first xs
rising_front first [] ys rising = tt
rising_front first (x ∷ xs) ys rising = (rising.0, rising_front (x.number + 1) xs ys rising.1)

rising_back : (first : ℕ) (xs ys : List Write) → AreRising first (xs ++ ys)
    → AreRising (next_after first xs) ys
rising_back first [] ys rising = rising
rising_back first (x ∷ xs) ys rising =
    let same : x.number + 1 ≡ max first (x.number + 1) = (let low = rising.0 in omega (arith, low)) in
    subst (λ (n : ℕ). AreRising (next_after n xs) ys) same (rising_back (x.number + 1) xs ys rising.1)

-- writes that an entry holds, with this number or later ones
record IsEntryFrom (form : Form) (number : ℕ) (entry : List ℕ) : Type 0 where
  pub writes : List Write
  pub is : IsEntry form entry writes
  pub rising : AreRising number writes

-- an entry behind others that hold writes is one of those that a log has
among : (form : Form) (n : ℕ) (es : List (List ℕ)) (gs : List (List Write))
    (before : List (List ℕ)) (hs : List (List Write)) (entry : List ℕ) (behind : List (List ℕ))
    → AreEntries form es gs → AreEntries form before hs → es ≡ before ++ entry ∷ behind
    → AreRising n (all_of gs) → IsEntryFrom form (next_after n (all_of hs)) entry
among form n [] gs [] hs entry behind each_g each_h e rising =
    let none : [] ≡ entry ∷ behind = e in cc none
among form n [] gs (x ∷ before) hs entry behind each_g each_h e rising =
    let none : [] ≡ x ∷ (before ++ entry ∷ behind) = e in cc none
among form n (y ∷ es) [] before hs entry behind each_g each_h e rising = absurd each_g
among form n (y ∷ es) (g ∷ gs) [] [] entry behind each_g each_h e rising = record {
  writes = g;
  is = subst (λ (x : List ℕ). IsEntry form x g) (front y entry es behind e) each_g.0;
  rising = rising_front n g (all_of gs) rising;
}
among form n (y ∷ es) (g ∷ gs) [] (h ∷ hs) entry behind each_g each_h e rising = absurd each_h
among form n (y ∷ es) (g ∷ gs) (x ∷ before) [] entry behind each_g each_h e rising =
    absurd each_h
among form n (y ∷ es) (g ∷ gs) (x ∷ before) (h ∷ hs) entry behind each_g each_h e rising =
    let same : y ≡ x = front y x es (before ++ entry ∷ behind) e in
    let group : g ≡ h = one_entry form x g h
    (subst (λ (z : List ℕ). IsEntry form z g) same each_g.0) each_h.0 in
    subst (λ (k : ℕ). IsEntryFrom form k entry)
    (ap (λ (z : List Write). next_after (next_after n z) (all_of hs)) group
    ∙ sym (next_after-append n h (all_of hs)))
    (among form (next_after n g) es gs before hs entry behind each_g.1 each_h.1
    (cons_rest y x es (before ++ entry ∷ behind) e) (rising_back n g (all_of gs) rising))

-- ---- segments

-- a segment among others, with its writes
record SegmentAt (image : Image) (before : List ℕ) (f : ℕ) (parts : List (List Write)) : Type 0 where
  pub fronts : List (List Write)
  pub writes : List Write
  pub behind : List (List Write)
  pub is : parts ≡ fronts ++ writes ∷ behind
  pub are : AreSegments image before fronts
  pub log : IsSegment writes (image f)

segment_at : (image : Image) (before behind : List ℕ) (f : ℕ) (parts : List (List Write))
    → AreSegments image (before ++ f ∷ behind) parts → SegmentAt image before f parts
segment_at image [] behind f [] are = absurd are
segment_at image [] behind f (ws ∷ parts) are = record {
  fronts = [];
  writes = ws;
  behind = parts;
  is = refl;
  are = tt;
  log = are.0;
}
segment_at image (g ∷ before) behind f [] are = absurd are
segment_at image (g ∷ before) behind f (ws ∷ parts) are =
    let rest = segment_at image before behind f parts are.1 in record {
      fronts = ws ∷ rest.fronts;
      writes = rest.writes;
      behind = rest.behind;
      is = ap (λ l. ws ∷ l) rest.is;
      are = (are.0, rest.are);
      log = rest.log;
    }

-- all writes, with those of one segment among them
all_of-split : (fronts : List (List Write)) (ws : List Write) (behind : List (List Write))
    → all_of (fronts ++ ws ∷ behind) ≡ all_of fronts ++ (ws ++ all_of behind)
all_of-split [] ws behind = refl
all_of-split (us ∷ fronts) ws behind = ap (λ x. us ++ x) (all_of-split fronts ws behind)
    ∙ sym (append_assoc us (all_of fronts) (ws ++ all_of behind))

-- ---- damaged files have no layout

module _ (files : Image) (l : Layout) (layout : IsLayout files l) where
  -- a log isn't damaged
  no_log : (form : Form) (f at : ℕ) (es : List (List ℕ)) → IsLog form es (files f)
      → LogIsDamagedAt at (bytes_or_none (files f)) → ⊥
  no_log form f at es is bad = damaged_no_log at (bytes_or_none (files f)) bad form es
      (subst (IsLog form es) (is.is
      ∙ ap (λ (file : Option (List ℕ)). Some (bytes_or_none file)) (sym is.is)) is)

  -- the version is the layout's
  same : (v : Version) → HasVersion v (files versions_file) → v ≡ layout.version
  same v has = same_version (files versions_file) v layout.version has layout.last

  -- a row file that it names holds rows up to its family's number
  holds : (v : Version) (f flushed : ℕ) → HasVersion v (files versions_file)
      → IsRowFileOf v f flushed → HoldsRows (layout.held f) flushed (files f)
  holds v f flushed has of =
      let all : AllByRecursion (AreRowFiles files layout.held) (of.before ++ of.family ∷ of.behind) =
      subst (AllByRecursion (AreRowFiles files layout.held))
      (sym (ap (λ (w : Version). w.families) (same v has)) ∙ of.is) layout.stored.files in
      subst (λ (n : ℕ). HoldsRows (layout.held f) n (files f)) (sym of.flushed_is)
      (in_all (λ g. HoldsRows (layout.held g) of.family.flushed (files g)) of.family.files f
      (all_among (AreRowFiles files layout.held) of.before of.family of.behind all) of.files)

  -- its bytes are those that are read
  inside : (f flushed : ℕ) (m : RowMap) (h : HoldsRows m flushed (files f))
      → bytes_or_none (files f) ≡ h.bytes
  inside f flushed m h = ap bytes_or_none h.there

  -- a segment that it names
  segment : (v : Version) (before : List ℕ) (f : ℕ) → HasVersion v (files versions_file)
      → IsSegmentOf v before f → SegmentAt files before f layout.parts
  segment v before f has of = segment_at files before of.behind f layout.parts
      (subst (λ fs. AreSegments files fs layout.parts)
      (sym (ap (λ (w : Version). w.segments) (same v has)) ∙ of.is) layout.stored.segments)

  -- the last entry of the versions is one
  last_is_none : (es : List (List ℕ)) (at : ℕ) → IsLog One es (files versions_file)
      → IsBadLast es at → ⊥
  last_is_none es at is (no_entry empty place) =
      let both = one_list One (files versions_file) es _ is layout.last.log in
      let n : 0 ≡ length (layout.last.before ++ version_bytes layout.version ∷ []) =
      sym (ap length empty) ∙ ap length both in
      let m = length-append layout.last.before (version_bytes layout.version ∷ []) in
      omega (arith, n, m)
  last_is_none es at is (bad_version before last ends none place) =
      none layout.version layout.last.is (last_same before layout.last.before last
      (version_bytes layout.version)
      (sym ends ∙ one_list One (files versions_file) es _ is layout.last.log))

  -- an entry that holds no writes
  entry_is_none : (v : Version) (before : List ℕ) (f : ℕ) → HasVersion v (files versions_file)
      → IsSegmentOf v before f → (parts : List (List Write)) → AreSegments files before parts
      → (form : Form) (front : List (List ℕ)) (ws : List Write) (entry : List ℕ)
      (behind : List (List ℕ)) → IsLog form (front ++ entry ∷ behind) (files f)
      → HoldWrites form front ws → IsEntryFrom form (next_after 1 (all_of parts ++ ws)) entry
  entry_is_none v before f has of parts are form front ws entry behind log holds =
      let at = segment v before f has of in
      let own = at.log in
      let all = all_of-split at.fronts at.writes at.behind in
      let fronts_are : at.fronts ≡ parts = same_parts files before at.fronts parts at.are are in
      let rising : AreRising (next_after 1 (all_of parts)) at.writes =
      subst (λ (ps : List (List Write)). AreRising (next_after 1 (all_of ps)) at.writes) fronts_are
      (rising_front (next_after 1 (all_of at.fronts)) at.writes (all_of at.behind)
      (rising_back 1 (all_of at.fronts) (at.writes ++ all_of at.behind)
      (subst (AreRising 1) (ap all_of at.is ∙ all) layout.stored.rising))) in
      let same_form : own.form ≡ form = one_form own.form form (files f) own.entries
      (front ++ entry ∷ behind) own.log log in
      let entries : own.entries ≡ front ++ entry ∷ behind = one_list form (files f) own.entries
      (front ++ entry ∷ behind)
      (subst (λ (x : Form). IsLog x own.entries (files f)) same_form own.log) log in
      subst (λ (n : ℕ). IsEntryFrom form n entry)
      (ap (next_after (next_after 1 (all_of parts))) (sym holds.are)
      ∙ sym (next_after-append 1 (all_of parts) ws))
      (among form (next_after 1 (all_of parts)) own.entries own.holds.groups front holds.groups
      entry behind
      (subst (λ (x : Form). AreEntries x own.entries own.holds.groups) same_form own.holds.each)
      holds.each entries
      (subst (AreRising (next_after 1 (all_of parts))) own.holds.are rising))

  -- files that have a layout are bad at no place
  bad_is_none : (f at : ℕ) → IsBadFileAt files f at → ⊥
  bad_is_none f at (no_versions is bad) = no_log One versions_file at _ layout.last.log bad
  bad_is_none f at (other_form is place es log) =
      let no : One ≡ Two = one_form One Two (files versions_file) _ es layout.last.log log in cc no
  bad_is_none f at (no_version is es log bad) = last_is_none es at log bad
  bad_is_none f at (no_rows v has flushed of place why) =
      let h = holds v f flushed has of in
      let bytes = inside f flushed (layout.held f) h in
      ⊎_elim
      (λ (short : length (bytes_or_none (files f)) < 32).
      let long = row_file_long (layout.held f) h.bytes h.rows in let size = ap length bytes in
      absurd (omega (arith, short, long, size)))
      (λ (none : HasDigest (bytes_or_none (files f)) × NoRowFile (bytes_or_none (files f))).
      none.1 (entries (layout.held f)) (subst (IsRowFile (entries (layout.held f))) (sym bytes) h.rows))
      why
  bad_is_none f at (late_rows v has flushed of place m bytes there are late) =
      let h = holds v f flushed has of in
      let one : bytes ≡ h.bytes = (let e : Some bytes ≡ Some h.bytes = sym there ∙ h.there in cc e) in
      late (subst (IsMapBelow (flushed + 1)) (sym (same_entries_map m (layout.held f)
      (one_list_of_rows (entries m) (entries (layout.held f)) h.bytes
      (subst (IsRowFile (entries m)) one are) h.rows))) h.past)
  bad_is_none f at (no_segment v has before of bad) =
      let own = (segment v before f has of).log in no_log own.form f at own.entries own.log bad
  bad_is_none f at (no_write v has before of parts are form front ws entry behind log holds held
      rising none place) =
      let found = entry_is_none v before f has of parts are form front ws entry behind log holds in
      none found.writes found.is found.rising

  -- and no digest differs
  digest_is_none : (f : ℕ) (kept found : List ℕ) → IsBadDigest files f kept found → ⊥
  digest_is_none f kept found bad =
      let h = holds bad.version f bad.flushed bad.last bad.of_version in
      let bytes = inside f bad.flushed (layout.held f) h in
      bad.differ (bad.found_is
      ∙ subst HasDigest (sym bytes) (row_file_digest (layout.held f) h.bytes h.rows)
      ∙ sym bad.kept_is)

-- damage leaves no layout
pub no_layout : (files : Image) (fault : RecoverFault) → ExplainsStore files fault
    → HasNoLayout files fault
no_layout files (Damaged file at) h = λ l layout. bad_is_none files l layout file at h
no_layout files (DigestDiffers file kept found) h =
    λ l layout. digest_is_none files l layout file kept found h
no_layout files Failed h = tt
no_layout files NoMemory h = tt

-- ---- what is left on the way

-- while files are synced and read a stop leaves what one left before
pub spans_narrow : (a b : DiskState) → Narrows a b → Spans a b (λ _. ⊤) (LeftLike a)
spans_narrow a b narrows = record {
  later = narrows.later;
  past = narrows.past;
  file = λ g outside. absurd (outside tt);
  fates = λ t g outside low high. absurd (outside tt);
  each = λ t image low high is_image. record {
    before = image;
    left = λ f. narrows.each t f (image f) low high (is_image f);
    same = λ l is. is;
  };
}

-- while the others are removed it leaves the layout of the files as they read before
pub spans_removed : (a c d : DiskState) (e : Hand) (l : Layout)
    → ((f : ℕ) → Fits (now a f) (a.file f)) → ((f : ℕ) → c.file f ≡ a.file f) → AllSynced c
    → Found c e l → Spans c d (IsOther (version_in e)) (λ _ _. ⊤) → Spans c d (λ _. ⊤) (LeftLike a)
spans_removed a c d e l reads same all found spans = record {
  later = spans.later;
  past = spans.past;
  file = λ g outside. absurd (outside tt);
  fates = λ t g outside low high. absurd (outside tt);
  each = λ t image low high is_image. record {
    before = a.file;
    left = reads;
    same = λ m layout. layout_kept a.file image (version_in e) m
        (subst (HasVersion (version_in e)) (same versions_file) (found_version c e l found))
        (λ f of. kept t image low high is_image f of ∙ same f) layout;
  };
}
  where
    kept : (t : ℕ) (image : Image) → c.moment ≤ t → t ≤ d.moment → IsImage d t image → (f : ℕ)
        → IsOf (version_in e) f → image f ≡ c.file f
    kept t image low high is_image f of =
        let there = of_there c.file (version_in e) found.held found.parts f
        (found_version c e l found) found.stored of in
        synced_settled c f there.bytes there.there (all f there.bytes there.there) (image f)
        (subst (λ (x : Fates). Fits x (image f)) (spans.fates t f (λ other. other of) low high)
        (is_image f))

-- ---- results

-- what holds where a result is Ok leads to what holds of its value
pub ok_if : {A E : Type 0} (r : Result A E) (P : Type 0) (Q : A → Type 0) → ((x : A) → P → Q x)
    → OnOk r P → IfOk r Q
ok_if (Ok x) P Q leads ok = leads x ok
ok_if (Err e) P Q leads ok = tt
