-- Where the file ends before the block does, no rows' bytes stand there.
use Rattle.std.proofs.Common.{◌≡◌, ◌∙◌, ◌-◌, [], ap, refl, sym, subst, ℕ, take, drop}
use Rattle.std.proofs.lemmas.List.{get_or_read}
use Rattle.alt_disk.specs.Disk.{DiskState, contents}
use Rattle.alt_rowfile.specs.Damage.{IsDamageIn}
use Rattle.alt_rowblocks.specs.Format.{Mark}
use Rattle.alt_rowblocks.specs.Loading.{place_at, next_place}
use Rattle.alt_rowfile.proofs.LoadLaws.{here, at_place}
use Rattle.alt_rowblocks.proofs.PlaceLaws.{has_bytes}
use Rattle.alt_rowfile.proofs.load.block_at.Goals as goal

pub returns-in-Ok-None-clause-damage : goal.returns-in-Ok-None-clause-damage
returns-in-Ok-None-clause-damage g c =
    let s : DiskState = g.D.Disk.state c.args.disk.now in
    let file = c.args.file.now in
    let marks = file.marks.items in
    let i = c.args.i in
    let at = c.index.result.now.0 in
    let n = c.saturating_sub-count.result in
    let is_at : at ≡ place_at marks i =
    ap (λ (m : Mark). m.0)
    (get_or_read marks i c.index.result.now c.requires c.index.ensures (0, [])) in
    let is_n : n ≡ next_place marks file.end i - at = c.saturating_sub-count.ensures
    ∙ ap (λ (k : ℕ). k - at) c.next_place-next.ensures in
    subst (IsDamageIn s file) (sym c.damaged.ensures) (
      refl,
      record {
        block = i;
        within = c.requires;
        place = refl;
        bad = λ told b loaded.
            rw c.in-Ok-None.field-0-is at
            (c.in-Ok-None.ensures.short told
            (has_bytes (contents s file.file) marks file.end i b loaded at n is_at is_n));
      },
    )

pub returns-in-Ok-None-clause-undamaged : goal.returns-in-Ok-None-clause-undamaged
returns-in-Ok-None-clause-undamaged g c = λ told rows reads damaged.
    let s : DiskState = g.D.Disk.state c.args.disk.now in
    let file = c.args.file.now in
    let marks = file.marks.items in
    let i = c.args.i in
    let at = c.index.result.now.0 in
    let n = c.saturating_sub-count.result in
    let is_at : at ≡ place_at marks i =
    ap (λ (m : Mark). m.0)
    (get_or_read marks i c.index.result.now c.requires c.index.ensures (0, [])) in
    let is_n : n ≡ next_place marks file.end i - at = c.saturating_sub-count.ensures
    ∙ ap (λ (k : ℕ). k - at) c.next_place-next.ensures in
    rw c.in-Ok-None.field-0-is at
    (c.in-Ok-None.ensures.short told
    (has_bytes (contents s file.file) marks file.end i
    (here s file.file marks file.end i rows reads c.requires)
    (at_place s file.file marks file.end i rows reads c.requires) at n is_at is_n))

pub returns-in-Ok-Some-clause-given : goal.returns-in-Ok-Some-clause-given
returns-in-Ok-Some-clause-given g c =
    let s : DiskState = g.D.Disk.state c.args.disk.now in
    let file = c.args.file.now in
    let marks = file.marks.items in
    let i = c.args.i in
    let at = c.index.result.now.0 in
    let n = c.saturating_sub-count.result in
    let is_at : at ≡ place_at marks i =
    ap (λ (m : Mark). m.0)
    (get_or_read marks i c.index.result.now c.requires c.index.ensures (0, [])) in
    let is_n : n ≡ next_place marks file.end i - place_at marks i = c.saturating_sub-count.ensures
    ∙ (λ j. c.next_place-next.ensures j - is_at j) in
    record {
      within = c.requires;
      size = (rw c.in-Ok-Some.field-0-is at c.in-Ok-Some.ensures.size) ∙ is_n;
      there = λ told. (rw c.in-Ok-Some.field-0-is at (c.in-Ok-Some.ensures.bytes told))
          ∙ (λ j. take (is_n j) (drop (is_at j) (contents s file.file)));
    }
