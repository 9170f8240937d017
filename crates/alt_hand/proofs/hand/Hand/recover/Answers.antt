-- All files synced, then read, and then those removed that aren't named.
use Rattle.std.proofs.Common.{◌≡◌, inl, inr, ℕ, List, None, IsTrue, sym, subst, ap, ◌∙◌}
use Rattle.std.proofs.lemmas.Result.{IfOk-weaker, on_ok_weaker}
use Rattle.std.specs.Prelude.{⊤}
use Rattle.alt_base.proofs.Prefixes.{on_err_holds}
use Rattle.alt_disk.specs.Disk.{DiskState, IsNames, IsTrusted}
use Rattle.alt_disk.proofs.Runs.{spans_on, tells_of, trusted_on}
use Rattle.alt_disk.proofs.Staying.{tells_on}
use Rattle.alt_layout.specs.Files.{Image, IsLayout}
use Rattle.alt_layout.specs.Fresh.{versions_file}
use Rattle.alt_layout.specs.Layout.{Layout}
use Rattle.alt_manifest.proofs.OneVersion.{same_version}
use Rattle.alt_manifest.specs.Versions.{HasVersion}
use Rattle.alt_manifest.specs.declared.version.Version.{Version}
use Rattle.alt_recovery.specs.Others.{IsOther, next_past}
use Rattle.alt_hand.specs.Found.{Found, version_in}
use Rattle.alt_hand.specs.InHand.{HandReadsLayout, HandStandsForLayout, next_file_of}
use Rattle.alt_hand.specs.Recovery.{ExplainsStore, IsNextFile, LeavesStore, LeftLike}
use Rattle.alt_hand.specs.Syncing.{AllSynced}
use Rattle.alt_hand.specs.declared.hand.Hand.{Hand}
use Rattle.alt_hand.proofs.KeepLaws.{found_layout, found_version, layout_kept, synced_kept, synced_stands}
use Rattle.alt_hand.proofs.RecoverLaws.{no_layout, ok_if, spans_narrow, spans_removed}
use Rattle.alt_hand.proofs.SyncLaws.{narrows_quiet, synced_quiet}
use Rattle.alt_hand.proofs.hand.Hand.recover.Goals as goal

pub returns-in-Err-clause-any_moment : goal.returns-in-Err-clause-any_moment
returns-in-Err-clause-any_moment g c trusted =
    spans_narrow (g.D.Disk.state c.args.disk.now) (g.D.Disk.state c.sync_all.new.disk)
    (c.sync_all.ensures.any_moment trusted)

pub returns-in-Err-clause-none_before : goal.returns-in-Err-clause-none_before
returns-in-Err-clause-none_before g c told = inl (λ f. c.sync_all.ensures.files told f)

pub returns-in-Ok-read_store-clause-ok : goal.returns-in-Ok-read_store-clause-ok
returns-in-Ok-read_store-clause-ok g c =
    let a : DiskState = g.D.Disk.state c.args.disk.now in
    let b : DiskState = g.D.Disk.state c.sync_all.new.disk in
    let d : DiskState = g.D.Disk.state c.read_store.new.disk in
    let n : DiskState = g.D.Disk.state c.keep_named.new.disk in
    let old = c.in-Ok-read_store.engine in
    IfOk-weaker c.keep_named.result
    (λ (e : Hand). IsTrue d.tells → (l : Layout) → Found d old l → HandReadsLayout n e l)
    (λ (e : Hand). IsTrue a.tells → (l : Layout) × IsLayout a.file l × HandReadsLayout n e l)
    (λ e reads told.
    let told_b = tells_on a b c.sync_all.ensures.goes told in
    let found = c.in-Ok-read_store.ensures.ok told_b in (
      found.0,
      subst (λ (files : Image). IsLayout files found.0)
          (λ i f. ((c.read_store.ensures.quiet told_b).file f ∙ c.sync_all.ensures.files told f) i)
          (found_layout d old found.0 found.1),
      reads (tells_on b d c.read_store.ensures.goes told_b) found.0 found.1,
    ))
    c.keep_named.ensures.ok

pub returns-in-Ok-read_store-clause-synced : goal.returns-in-Ok-read_store-clause-synced
returns-in-Ok-read_store-clause-synced g c =
    let a : DiskState = g.D.Disk.state c.args.disk.now in
    let b : DiskState = g.D.Disk.state c.sync_all.new.disk in
    let d : DiskState = g.D.Disk.state c.read_store.new.disk in
    let n : DiskState = g.D.Disk.state c.keep_named.new.disk in
    let v : Version = version_in c.in-Ok-read_store.engine in
    on_ok_weaker c.keep_named.result
    (λ (gone : IsTrue d.tells → (f : ℕ) → IsOther v f → n.file f ≡ None) (trusted : IsTrusted a).
    let trusted_b = trusted_on a b c.sync_all.ensures.goes trusted in
    let trusted_d = trusted_on b d c.read_store.ensures.goes trusted_b in
    synced_kept d n v (synced_quiet b d (c.in-Ok.ensures.synced trusted)
    (c.read_store.ensures.quiet (tells_of b trusted_b)))
    (c.keep_named.ensures.any_moment trusted_d) (gone (tells_of d trusted_d)))
    c.keep_named.ensures.gone

pub returns-in-Ok-read_store-clause-stands : goal.returns-in-Ok-read_store-clause-stands
returns-in-Ok-read_store-clause-stands g c =
    let a : DiskState = g.D.Disk.state c.args.disk.now in
    let n : DiskState = g.D.Disk.state c.keep_named.new.disk in
    ok_if c.keep_named.result (IsTrusted a → AllSynced n)
    (λ (e : Hand). IsTrusted a → (l : Layout) → HandReadsLayout n e l → HandStandsForLayout n e l)
    (λ e all trusted l reads. synced_stands n e l (all trusted) reads)
    (returns-in-Ok-read_store-clause-synced g c)

pub returns-in-Ok-read_store-clause-next_file : goal.returns-in-Ok-read_store-clause-next_file
returns-in-Ok-read_store-clause-next_file g c =
    let a : DiskState = g.D.Disk.state c.args.disk.now in
    let b : DiskState = g.D.Disk.state c.sync_all.new.disk in
    let d : DiskState = g.D.Disk.state c.read_store.new.disk in
    let old = c.in-Ok-read_store.engine in
    IfOk-weaker c.keep_named.result
    (λ (e : Hand). IsTrue d.tells → (names : List ℕ) × IsNames names d.file
    × (next_file_of e ≡ next_past (next_file_of old) names))
    (λ (e : Hand). IsTrue a.tells → (v : Version) → HasVersion v (a.file versions_file)
    → IsNextFile v a.file (next_file_of e))
    (λ e next told v has.
    let told_b = tells_on a b c.sync_all.ensures.goes told in
    let found = c.in-Ok-read_store.ensures.ok told_b in
    let same = λ (f : ℕ). (c.read_store.ensures.quiet told_b).file f ∙ c.sync_all.ensures.files told f
    in
    let is = next (tells_on b d c.read_store.ensures.goes told_b) in
    let one : version_in old ≡ v = same_version (a.file versions_file) (version_in old) v
    (subst (HasVersion (version_in old)) (same versions_file) (found_version d old found.0 found.1)) has
    in record {
      names = is.0;
      named = subst (IsNames is.0) (λ i f. same f i) is.1;
      is = is.2 ∙ ap (λ (m : ℕ). next_past m is.0) (found.1.file ∙ ap (λ (w : Version). w.next_file) one);
    })
    c.keep_named.ensures.next_file

pub returns-in-Ok-read_store-clause-removed : goal.returns-in-Ok-read_store-clause-removed
returns-in-Ok-read_store-clause-removed g c =
    let a : DiskState = g.D.Disk.state c.args.disk.now in
    let b : DiskState = g.D.Disk.state c.sync_all.new.disk in
    let d : DiskState = g.D.Disk.state c.read_store.new.disk in
    let n : DiskState = g.D.Disk.state c.keep_named.new.disk in
    let old = c.in-Ok-read_store.engine in
    on_ok_weaker c.keep_named.result
    (λ (gone : IsTrue d.tells → (f : ℕ) → IsOther (version_in old) f → n.file f ≡ None)
    (told : IsTrue a.tells) (v : Version) (has : HasVersion v (a.file versions_file)).
    let told_b = tells_on a b c.sync_all.ensures.goes told in
    let told_d = tells_on b d c.read_store.ensures.goes told_b in
    let found = c.in-Ok-read_store.ensures.ok told_b in
    let same = λ (f : ℕ). (c.read_store.ensures.quiet told_b).file f ∙ c.sync_all.ensures.files told f
    in
    let one : version_in old ≡ v = same_version (a.file versions_file) (version_in old) v
    (subst (HasVersion (version_in old)) (same versions_file) (found_version d old found.0 found.1)) has
    in
    subst (λ (w : Version). LeavesStore w a.file n.file) one (record {
      kept = λ f of. c.keep_named.ensures.kept told_d f of ∙ same f;
      removed = gone told_d;
    }))
    c.keep_named.ensures.gone

pub returns-in-Ok-read_store-clause-files : goal.returns-in-Ok-read_store-clause-files
returns-in-Ok-read_store-clause-files g c told l layout =
    let a : DiskState = g.D.Disk.state c.args.disk.now in
    let b : DiskState = g.D.Disk.state c.sync_all.new.disk in
    let d : DiskState = g.D.Disk.state c.read_store.new.disk in
    let n : DiskState = g.D.Disk.state c.keep_named.new.disk in
    let old = c.in-Ok-read_store.engine in
    let told_b = tells_on a b c.sync_all.ensures.goes told in
    let found = c.in-Ok-read_store.ensures.ok told_b in
    layout_kept d.file n.file (version_in old) l (found_version d old found.0 found.1)
    (c.keep_named.ensures.kept (tells_on b d c.read_store.ensures.goes told_b))
    (subst (λ (files : Image). IsLayout files l)
    (λ i f. sym ((c.read_store.ensures.quiet told_b).file f ∙ c.sync_all.ensures.files told f) i) layout)

pub returns-in-Ok-read_store-clause-none_before : goal.returns-in-Ok-read_store-clause-none_before
returns-in-Ok-read_store-clause-none_before g c told =
    let a : DiskState = g.D.Disk.state c.args.disk.now in
    let b : DiskState = g.D.Disk.state c.sync_all.new.disk in
    let d : DiskState = g.D.Disk.state c.read_store.new.disk in
    let n : DiskState = g.D.Disk.state c.keep_named.new.disk in
    let told_b = tells_on a b c.sync_all.ensures.goes told in
    let found = c.in-Ok-read_store.ensures.ok told_b in
    on_err_holds c.keep_named.result (inr (
      found.0,
      subst (λ (files : Image). IsLayout files found.0)
          (λ i f. ((c.read_store.ensures.quiet told_b).file f ∙ c.sync_all.ensures.files told f) i)
          (found_layout d c.in-Ok-read_store.engine found.0 found.1),
    ))

pub returns-in-Ok-read_store-clause-any_moment : goal.returns-in-Ok-read_store-clause-any_moment
returns-in-Ok-read_store-clause-any_moment g c trusted =
    let a : DiskState = g.D.Disk.state c.args.disk.now in
    let b : DiskState = g.D.Disk.state c.sync_all.new.disk in
    let d : DiskState = g.D.Disk.state c.read_store.new.disk in
    let n : DiskState = g.D.Disk.state c.keep_named.new.disk in
    let trusted_b = trusted_on a b c.sync_all.ensures.goes trusted in
    let told_b = tells_of b trusted_b in
    let quiet = c.read_store.ensures.quiet told_b in
    let found = c.in-Ok-read_store.ensures.ok told_b in
    spans_on a d n (λ _. ⊤) (LeftLike a)
    (spans_narrow a d (narrows_quiet a b d (c.sync_all.ensures.any_moment trusted) quiet))
    (spans_removed a d n c.in-Ok-read_store.engine found.0
    (g.met.D.Disk.reads_as_image c.args.disk.now trusted)
    (λ f. quiet.file f ∙ c.sync_all.ensures.files (tells_of a trusted) f)
    (synced_quiet b d (c.in-Ok.ensures.synced trusted) quiet) found.1
    (c.keep_named.ensures.any_moment (trusted_on b d c.read_store.ensures.goes trusted_b)))

pub returns-in-Err-read_store-clause-files : goal.returns-in-Err-read_store-clause-files
returns-in-Err-read_store-clause-files g c told l layout =
    let a : DiskState = g.D.Disk.state c.args.disk.now in
    let b : DiskState = g.D.Disk.state c.sync_all.new.disk in
    subst (λ (files : Image). IsLayout files l)
    (λ i f. sym ((c.read_store.ensures.quiet (tells_on a b c.sync_all.ensures.goes told)).file f
    ∙ c.sync_all.ensures.files told f) i) layout

pub returns-in-Err-read_store-clause-none_before : goal.returns-in-Err-read_store-clause-none_before
returns-in-Err-read_store-clause-none_before g c told =
    let a : DiskState = g.D.Disk.state c.args.disk.now in
    let b : DiskState = g.D.Disk.state c.sync_all.new.disk in
    inl (λ f. (c.read_store.ensures.quiet (tells_on a b c.sync_all.ensures.goes told)).file f
    ∙ c.sync_all.ensures.files told f)

pub returns-in-Err-read_store-clause-any_moment : goal.returns-in-Err-read_store-clause-any_moment
returns-in-Err-read_store-clause-any_moment g c trusted =
    let a : DiskState = g.D.Disk.state c.args.disk.now in
    let b : DiskState = g.D.Disk.state c.sync_all.new.disk in
    let d : DiskState = g.D.Disk.state c.read_store.new.disk in
    spans_narrow a d (narrows_quiet a b d (c.sync_all.ensures.any_moment trusted)
    (c.read_store.ensures.quiet (tells_of b (trusted_on a b c.sync_all.ensures.goes trusted))))

pub returns-in-Err-read_store-clause-damaged : goal.returns-in-Err-read_store-clause-damaged
returns-in-Err-read_store-clause-damaged g c told =
    let a : DiskState = g.D.Disk.state c.args.disk.now in
    let b : DiskState = g.D.Disk.state c.sync_all.new.disk in
    subst (λ (files : Image). ExplainsStore files c.in-Err-read_store.fault)
    (λ i f. c.sync_all.ensures.files told f i)
    (c.in-Err-read_store.ensures.damaged (tells_on a b c.sync_all.ensures.goes told))

pub returns-in-Err-read_store-clause-no_layout : goal.returns-in-Err-read_store-clause-no_layout
returns-in-Err-read_store-clause-no_layout g c told =
    no_layout (g.D.Disk.state c.args.disk.now).file c.in-Err-read_store.fault
    (returns-in-Err-read_store-clause-damaged g c told)
