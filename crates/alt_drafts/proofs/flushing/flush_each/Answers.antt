-- A family more.
use Rattle.std.proofs.Common.{◌≡◌, ◌≤◌, ⊎_elim, inl, ℕ, [], take, get_or, refl, sym, subst, ◌∙◌, arith}
use Rattle.std.specs.BTreeMap.{get}
use Rattle.std.specs.Ordering.{nat_cmp}
use Rattle.alt_disk.specs.Disk.{DiskState}
use Rattle.alt_disk.specs.Runs.{Spans}
use Rattle.alt_disk.proofs.Calls.{goes_refl, goes_on}
use Rattle.alt_disk.proofs.Runs.{spans_on, spans_weaker, trusted_back, trusted_on}
use Rattle.alt_flush.specs.Drafts.{From}
use Rattle.alt_flush.proofs.RemoveLaws.{in_more, none_removed}
use Rattle.alt_manifest.specs.Versions.{IsIn}
use Rattle.alt_drafts.specs.Drafting.{MemoryIsFlushed}
use Rattle.alt_drafts.proofs.DeadLaws.{others_more}
use Rattle.alt_drafts.proofs.NeedLaws.{before_apart, needed_more}
use Rattle.alt_drafts.proofs.LeftOutLaws.{drops_then, in_less}
use Rattle.alt_drafts.proofs.CarryDrafts.{carries_same, carries_then}
use Rattle.alt_drafts.proofs.flushing.flush_each.Goals as goal

-- calls that touch files from a later one on, behind others
spans_later : (a b c : DiskState) (m n : ℕ) → n ≤ m → Spans a b (From n) (λ t image. Unit {0})
    → Spans b c (From m) (λ t image. Unit {0}) → Spans a c (From n) (λ t image. Unit {0})
spans_later a b c m n le first later =
    spans_on a b c (From n) (λ t image. Unit {0}) first
    (spans_weaker b c (From m) (From n) (λ t image. Unit {0}) (λ t image. Unit {0}) later
    (λ g low. omega (arith, le, low)) (λ t image any. any))

pub loop-family-init : goal.loop-family-init
loop-family-init g c =
    let a : DiskState = g.D.Disk.state c.args.disk.now in
    record {
      makes = λ trusted parts m makes. makes;
      carries = λ trusted parts m makes family. carries_same a c.args.draft
          (get nat_cmp c.args.families.now family) family;
      file = refl;
      low = omega arith;
      segments = refl;
      flushed = λ family no. absurd no;
      others = λ family out. refl;
      drops = λ f there. inl there;
      apart = λ family out. refl;
      spans = λ trusted. none_removed a (From c.args.draft.next_file);
      goes = goes_refl a;
      well = refl;
    }

pub flush_rows-requires : goal.flush_rows-requires
flush_rows-requires g c = record {
  makes = λ trusted. let told = trusted_back _ _ c.loop-family.invariant.goes trusted in
      let given = c.requires.makes told in
      (given.0, given.1, c.loop-family.invariant.makes told given.0 given.1 given.2);
}

pub returns-in_err-draft-clause-spans : goal.returns-in_err-draft-clause-spans
returns-in_err-draft-clause-spans g c trusted =
    let a : DiskState = g.D.Disk.state c.args.disk.now in
    let b : DiskState = g.D.Disk.state c.loop-family.disk in
    spans_later a b (g.D.Disk.state c.flush_rows.new.disk) c.loop-family.draft.next_file
    c.args.draft.next_file c.loop-family.invariant.low (c.loop-family.invariant.spans trusted)
    (c.in_err-draft.ensures.spans (trusted_on a b c.loop-family.invariant.goes trusted))

pub loop-family-preserved : goal.loop-family-preserved
loop-family-preserved g c =
    let a : DiskState = g.D.Disk.state c.args.disk.now in
    let b : DiskState = g.D.Disk.state c.loop-family.disk in
    let d : DiskState = g.D.Disk.state c.flush_rows.new.disk in
    let i = c.loop-family.family-index in
    let live = c.args.live.now in
    let family = get_or live i 0 in
    let within = c.loop-family-test.true in
    let before = c.loop-family.invariant in
    let old = c.loop-family.families in
    let new = c.flush_rows.new.families in
    let one = c.in_ok-draft.ensures in
    record {
      makes = λ trusted parts m makes. one.makes (trusted_on a b before.goes trusted) parts m
          (before.makes trusted parts m makes);
      carries = λ trusted parts m makes other. carries_then a b d c.args.draft c.loop-family.draft
          c.in_ok-draft.draft (get nat_cmp c.args.families.now other) (get nat_cmp old other)
          (get nat_cmp new other) other (before.carries trusted parts m makes other)
          (one.carries (trusted_on a b before.goes trusted) parts m (before.makes trusted parts m makes)
          other);
      file = let more = needed_more old new live i c.requires.rising within one.others in
          let file = one.file in let all = before.file in omega (arith, more, file, all);
      low = let file = one.file in let low = before.low in omega (arith, file, low);
      segments = one.segments ∙ before.segments;
      flushed = λ other there. ⊎_elim
          (λ (earlier : IsIn (take i live) other).
          let apart : (other ≡ family → ⊥) = before_apart live i other c.requires.rising within earlier in
          subst (MemoryIsFlushed (get nat_cmp c.args.families.now other)) (sym (one.others other apart))
          (before.flushed other earlier))
          (λ (e : other ≡ family). subst (λ o. MemoryIsFlushed (get nat_cmp c.args.families.now o)
          (get nat_cmp new o)) (sym e) (subst (λ o. MemoryIsFlushed o (get nat_cmp new family))
          (before.others family (λ earlier. before_apart live i family c.requires.rising within earlier
          refl)) one.flushed)) (in_more live i other within there);
      others = λ other not_in. others_more old new c.args.families.now live i other within one.others
          before.others not_in;
      drops = drops_then c.args.draft c.loop-family.draft c.in_ok-draft.draft [] [] before.drops one.drops
          (λ f no. no);
      apart = λ other not_in. let at = in_less live i other within not_in in
          one.apart other at.1 ∙ before.apart other at.0;
      spans = λ trusted. spans_later a b d c.loop-family.draft.next_file c.args.draft.next_file
          before.low (before.spans trusted) (one.spans (trusted_on a b before.goes trusted));
      goes = goes_on a b d before.goes one.goes;
      well = one.well ∙ before.well;
    }
