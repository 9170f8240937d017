-- What the name in the middle tells of those on its side.
use Rattle.std.proofs.Common.{◌≡◌, ◌+◌, ◌-◌, ◌/◌, arith}
use Rattle.std.specs.declared.cmp.Ordering.TheVariants.{Less, Greater}
use Rattle.alt_cells.specs.Keys.{key_cmp}
use Rattle.alt_cells.proofs.CellLaws.{key_total}
use Rattle.alt_cells.proofs.Searched.{before_more, after_more, find_between}
use Rattle.alt_cells.proofs.shown.place_of.Goals as goal

pub loop-low-preserved-in-Less : goal.loop-low-preserved-in-Less
loop-low-preserved-in-Less c =
    let middle = c.loop-low.low + (c.loop-low.high - c.loop-low.low) / 2 in
    let e = c.index-entries-middle.result in
    let name = c.args.name.now in
    let less : key_cmp e.0 name ≡ Less =
    cc (c.as_slice.ensures.same, c.cmp.ensures, c.in-Less.is) in record {
      within = c.loop-low.invariant.within;
      order = omega arith;
      before = before_more key_cmp key_total name c.args.entries.now middle e c.requires
          (omega (arith, c.loop-low.invariant.within)) c.index-entries-middle.is less;
      after = c.loop-low.invariant.after;
    }

pub loop-low-preserved : goal.loop-low-preserved
loop-low-preserved c =
    let middle = c.loop-low.low + (c.loop-low.high - c.loop-low.low) / 2 in
    let e = c.index-entries-middle.result in
    let name = c.args.name.now in
    let more : key_cmp e.0 name ≡ Greater =
    cc (c.as_slice.ensures.same, c.cmp.ensures, c.in-Greater.is) in record {
      within = omega (arith, c.loop-low.invariant.within);
      order = omega arith;
      before = c.loop-low.invariant.before;
      after = after_more key_cmp key_total name c.args.entries.now middle e c.requires
          (omega (arith, c.loop-low.invariant.within)) c.index-entries-middle.is more;
    }

pub returns-clause-none : goal.returns-clause-none
returns-clause-none c =
    find_between key_cmp key_total c.args.name.now c.args.entries.now c.loop-low.low
    c.loop-low.invariant.before
    (λ k d behind within. c.loop-low.invariant.after k d
    (omega (arith, behind, c.loop-low.invariant.order)) within)
