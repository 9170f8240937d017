-- An engine and drafts: the first one is of the version in hand, and by the last one an engine stands.
use Rattle.std.proofs.Common.{◌≡◌, ◌≤◌, ◌<◌, ◌+◌, ◌-◌, ◌^◌, max, ℕ, Option, List, [], ◌∷◌, refl, sym, ap, subst, ◌∙◌, arith, ⊎_elim, Bool, false}
use Rattle.std.specs.BTreeMap.{get}
use Rattle.std.specs.FinMap.{empty}
use Rattle.std.specs.Ordering.{nat_cmp}
use Rattle.alt_disk.specs.Disk.{DiskState, IsSettled}
use Rattle.alt_disk.specs.Runs.{Run}
use Rattle.alt_disk.proofs.Staying.{settled_on}
use Rattle.alt_flush.specs.Drafts.{renumbered}
use Rattle.alt_flush.proofs.DraftLaws.{first_drafted, first_same, next_above}
use Rattle.alt_gatelog.specs.InHand.{file_of_gate_log as log_file}
use Rattle.alt_gatelog.specs.declared.gatelog.GateLog.{GateLog}
use Rattle.alt_layout.specs.Families.{files_of, flushed_of, layout_of, next_after, with_later}
use Rattle.alt_layout.specs.Files.{EndsWith, IsOf, Stored, all_of}
use Rattle.alt_layout.specs.Fresh.{versions_file}
use Rattle.alt_layout.specs.Layout.{Layout}
use Rattle.alt_layout.proofs.FileLaws.{last_named, named_later, stored_on}
use Rattle.alt_layout.proofs.RowLaws.{next_after-least}
use Rattle.alt_manifest.specs.InHand.{file_of_manifest as manifest_file, version_of, StandsForVersion as ManifestStands}
use Rattle.alt_manifest.specs.Versions.{IsIn, files_named, row_files}
use Rattle.alt_manifest.specs.declared.manifest.Manifest.{Manifest}
use Rattle.alt_manifest.specs.declared.version.Version.{Version}
use Rattle.alt_writes.specs.Bytes.{AllHeld}
use Rattle.alt_writes.specs.Writes.{Write}
use Rattle.alt_families.specs.Families.{Families, files_in, rows_in}
use Rattle.alt_hand.specs.Drafting.{Makes}
use Rattle.alt_hand.specs.InHand.{AreBelow, AreOpen, IsLength, LogHolds, HandStandsForLayout}
use Rattle.alt_hand.specs.declared.hand.Hand.{Hand}
use Rattle.alt_drafts.proofs.MakesLaws.{named_of, open_still}
use Rattle.alt_hand.proofs.HandLaws.{lies_of}
use Rattle.alt_hand.proofs.LogLaws.{holds_on, length_on}
use Rattle.alt_manifest.proofs.Among.{in_front}

-- ---- the first draft

-- numbers that fit, and the one behind them
next_fits : (next : ℕ) (ws : List Write) → next ≤ 2 ^ 62 - 1 → AllHeld ws
    → next_after next ws ≤ 2 ^ 62 - 1
next_fits next [] fits held = fits
next_fits next (w ∷ ws) fits held =
    next_fits (max next (w.number + 1)) ws (let low = held.0.number in omega (arith, fits, low)) held.1

-- The last version with the engine's numbers is a draft of its layout.
pub makes_first : (s : DiskState) (e : Hand) (l : Layout) (stands : HandStandsForLayout s e l)
    → e.next_file < 2 ^ 32
    → Makes s (renumbered (version_of e.manifest) e.next_file e.next) e.families stands.reads.parts l
makes_first s e l stands fits =
    let v = version_of e.manifest in
    let top : e.next ≡ next_after v.next_number (all_of stands.reads.parts) =
    stands.reads.next ∙ ap (λ (m : Layout). m.next_number) stands.reads.is in
    record {
      held = stands.reads.held;
      drafted = first_drafted s v stands.reads.held stands.reads.parts e.next_file e.next
          (lies_of s e l stands) stands.reads.fresh stands.reads.free fits
          (let most = next_fits v.next_number (all_of stands.reads.parts)
          stands.reads.versions.is.next_number.1 stands.reads.stored.writes in
          omega (arith, most, top))
          (let least = next_after-least v.next_number (all_of stands.reads.parts) in
          omega (arith, least, top)) top;
      memory = stands.reads.memory;
      opened = stands.reads.opened;
      is = stands.reads.is
          ∙ sym (first_same v stands.reads.held stands.reads.parts e.next_file e.next top);
    }

-- ---- the draft as the last version

-- An engine stands where its files lie, by the version that was a draft before calls on the file of the versions alone.
pub stands_by : (b c : DiskState) (e : Hand) (u : Version) (families : Families)
    (parts : List (List Write)) (l : Layout) (P : ℕ → Option (List ℕ) → Type 0)
    (n : Manifest) (log : GateLog) (writes : List Write) (size : ℕ)
    → Makes b u families parts l → Run b c versions_file P → manifest_file n ≡ versions_file
    → version_of n ≡ u → ManifestStands c n → EndsWith u parts (log_file log) writes
    → LogHolds b log writes → IsLength b.file u.segments size → e.next ≡ l.next_number
    → (full : Bool) → (full ≡ false → AreBelow e.limits.flush families)
    → HandStandsForLayout c (record e {
      manifest = n;
      log = log;
      length = size;
      next_file = u.next_file;
      families = families;
      full = full;
    }) l
stands_by b c e u families parts l P n log writes size makes run first version manifest ends reads
    size_is next full calm = record {
      reads = record {
        held = makes.held;
        parts = parts;
        writes = writes;
        versions = manifest.reads;
        first = first;
        stored = subst (λ (w : Version). Stored c.file w makes.held parts) (sym version)
            (stored_on b.file c.file u makes.held makes.held parts on (λ g there. refl)
            makes.drafted.stored);
        ends = subst (λ (w : Version). EndsWith w parts (log_file log) writes) (sym version) ends;
        log = holds_on b c log writes (on (log_file log)
            (last_named u parts (log_file log) writes ends)) reads;
        is = makes.is ∙ ap (λ (w : Version). layout_of w makes.held (all_of parts)) (sym version);
        next = next;
        length = subst (λ (w : Version). IsLength c.file w.segments size) (sym version)
            (length_on b.file c.file u.segments size
            (λ g there. on g (in_front u.segments (row_files u.families) g there)) size_is);
        free = subst (λ (w : Version). w.next_file ≤ u.next_file) (sym version) (omega arith);
        fresh = λ g le. run.file g (λ same. let two = next_above u makes.drafted.is in
            omega (arith, le, same, two)) ∙ makes.drafted.fresh g le;
        memory = λ family. subst (λ (w : Version). rows_in (get nat_cmp families family)
            ≡ with_later (flushed_of w.families family) family empty (all_of parts)) (sym version)
            (makes.memory family);
        opened = λ family. subst (λ (w : Version). AreOpen c makes.held (files_of w.families family)
            (files_in (get nat_cmp families family))) (sym version)
            (open_still b c makes.held makes.held (files_of u.families family)
            (files_in (get nat_cmp families family))
            (λ g there. on g (named_of u family g there)) (λ g there. refl) (makes.opened family));
        calm = calm;
      };
      settled = subst (λ (w : Version). (f : ℕ) → IsOf w f → IsSettled c f) (sym version) settled;
    }
  where
    on : (g : ℕ) → IsIn (files_named u) g → c.file g ≡ b.file g
    on g there = run.file g (named_later u g makes.drafted.is there)

    settled : (f : ℕ) → IsOf u f → IsSettled c f
    settled f of = ⊎_elim
        (λ (it : f ≡ versions_file). subst (IsSettled c) (first ∙ sym it) manifest.settled)
        (λ (there : IsIn (files_named u) f). settled_on b c versions_file f P run
        (named_later u f makes.drafted.is there) (makes.drafted.settled f there)) of
