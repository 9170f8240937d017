-- What was kept is given.
use Rattle.std.proofs.Common.{ap, sym, ◌∙◌, length, take, min, List, ℕ}
use Rattle.alt_disk.specs.Disk.{contents}
use Rattle.alt_blocks.specs.Places.{ReadPlace, same_place}
use Rattle.alt_blocks.proofs.Agreeing.{found, within_promoted, read_given}
use Rattle.alt_blocks.proofs.Bounded.{short_promoted}
use Rattle.alt_blocks.proofs.cache.BlockCache.recall.Goals as goal

pub invariant_of-self : goal.invariant_of-self
invariant_of-self c = record {
  short =
      short_promoted c.args.self.now.places.entries c.promote.new.self.entries
      (same_place (c.args.f, c.args.at, length c.args.buf.now))
      (ap (λ l. l.entries) c.promote.ensures.entries) c.args.self.now.short;
}

pub returns-in-Some-clause-within : goal.returns-in-Some-clause-within
returns-in-Some-clause-within c =
    within_promoted c.args.self.now.places.entries c.promote.new.self.entries
    (same_place (c.args.f, c.args.at, length c.args.buf.now))
    (ap (λ l. l.entries) c.promote.ensures.entries)

pub returns-in-Some-clause-hit : goal.returns-in-Some-clause-hit
returns-in-Some-clause-hit c = λ s h.
    let place : ReadPlace = (c.args.f, c.args.at, length c.args.buf.now) in
    let bytes = c.in-Some.bytes.now in
    let is = h place bytes (found c.args.self.now place bytes (sym c.in-Some.ensures)) in
    let same = c.as_slice.ensures.same in
    read_given (contents s c.args.f) c.args.buf.now c.copy_front-count.new.buf bytes c.args.at
    c.copy_front-count.result is
    (c.copy_front-count.ensures.count
    ∙ ap (λ (l : List ℕ). min (length c.args.buf.now) (length l)) same)
    (c.copy_front-count.ensures.front ∙ ap (take c.copy_front-count.result) same)
