-- After the seek one read a file was made, and one more is due.
use Rattle.std.proofs.Common.{map, arith}
use Rattle.std.specs.Option.{option_copied}
use Rattle.alt_cells.specs.Walks.{RowMap, rows_from}
use Rattle.alt_disk.proofs.Staying.{tells_on}
use Rattle.alt_merge.proofs.Costs.{due_le, same_times}
use Rattle.alt_merge.proofs.passing.pass_over.Goals as goal

pub loop-i-init : goal.loop-i-init
loop-i-init g c =
    let state = g.D.Disk.state in
    let s = g.S.RowSource in
    let was = c.args.merge.now.sources.items in
    let now = c.seek.new.self.sources.items in
    record {
      tells = λ t. tells_on (state c.args.disk.now) (state c.seek.new.disk)
          c.seek.ensures.keeps.goes t;
      way = c.in_ok-seek.ensures.way;
      spent = λ t maps h.
          let lists = map (λ (m : RowMap). rows_from m (option_copied c.args.from) c.args.forward)
          maps in
          let due = due_le s.width c.seek.new.self.heads.items now in
          let same = same_times s.width now was lists c.seek.ensures.widths in (
            lists,
            c.in_ok-seek.ensures.begins t maps h,
            omega (arith, due, same, c.seek.ensures.reads, c.seek.ensures.width),
          );
    }
