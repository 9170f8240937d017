-- A row was added, and its block written.
use Rattle.std.proofs.Common.{◌≡◌, ◌++◌, ◌∷◌, ◌==◌, [], ℕ, IsTrue, List, length, sym, ap, subst, ◌∙◌, arith, append_assoc, T}
use Rattle.std.proofs.lemmas.Result.{on_ok_weaker}
use Rattle.std.specs.FinMap.Entries.{is_sorted}
use Rattle.std.proofs.lemmas.List.{append-nil}
use Rattle.alt_disk.specs.Disk.{DiskState}
use Rattle.alt_cells.specs.Keys.{key_cmp}
use Rattle.alt_fields.proofs.Apart.{all_append}
use Rattle.alt_rowblocks.specs.Format.{Entry, rows_of, IsFull}
use Rattle.alt_disk.specs.Runs.{Spans}
use Rattle.alt_cells.specs.Walks.{Anything}
use Rattle.alt_rowfile.specs.declared.sink.Sink.{Sink}
use Rattle.alt_rowfile.proofs.SinkLaws.{writer_spans, none_spans, well_answered}
use Rattle.alt_rowfile.proofs.WriterLaws.{block_push}
use Rattle.alt_rowblocks.proofs.PushLaws.{rows_of-push}
use Rattle.alt_rowfile.proofs.writer.RowFileWriterRowWriter.add.Goals as goal

pub returns-clause-added : goal.returns-clause-added
returns-clause-added g c = on_ok_weaker c.shut.result (λ shut trusted rows writes sorted.
    let s0 : DiskState = g.D.Disk.state c.args.disk.now in
    let e : Entry = (c.args.key.now, c.args.row.now) in
    let whole : rows ++ e ∷ [] ≡ rows_of writes.closed ++ (writes.waiting ++ e ∷ []) =
    ap (λ (l : List Entry). l ++ e ∷ []) writes.are
    ∙ append_assoc (rows_of writes.closed) writes.waiting (e ∷ []) in
    let held = c.in-Ok.ensures.held s0 writes.closed writes.waiting writes.to writes.short
    (subst (λ (l : List Entry). T (is_sorted key_cmp l)) whole sorted) in
    record {
      closed = writes.closed ++ (writes.waiting ++ e ∷ []) ∷ [];
      waiting = [];
      to = shut trusted writes.closed (writes.waiting ++ e ∷ []) held
          (block_push writes.waiting e writes.short);
      full = all_append IsFull writes.closed ((writes.waiting ++ e ∷ []) ∷ []) writes.full
          (omega (arith, c.if-len-lt4096.false, c.len.ensures, ap length held.bytes), tt);
      short = omega arith;
      are = whole ∙ sym (rows_of-push writes.closed (writes.waiting ++ e ∷ []))
          ∙ sym (append-nil (rows_of (writes.closed ++ (writes.waiting ++ e ∷ []) ∷ [])));
    }) c.shut.ensures.shut

pub returns-clause-others : goal.returns-clause-others
returns-clause-others g c = λ trusted.
    let s : DiskState = g.D.Disk.state c.args.disk.now in
    let t : DiskState = g.D.Disk.state c.shut.new.disk in
    let same : c.hold.new.self.sink.file ≡ c.args.self.now.sink.file =
    ap (λ (k : Sink). k.file) c.in-Ok.ensures.sink in
    subst (λ (n : ℕ). Spans s t (λ f. IsTrue (f == n)) Anything) same
    (writer_spans s t c.hold.new.self.sink.file (c.shut.ensures.any_moment trusted))

pub returns-then-len-lt4096-clause-others : goal.returns-then-len-lt4096-clause-others
returns-then-len-lt4096-clause-others g c =
    λ trusted. none_spans (g.D.Disk.state c.args.disk.now) c.args.self.now.sink.file

pub returns-in-Err-clause-others : goal.returns-in-Err-clause-others
returns-in-Err-clause-others g c =
    λ trusted. none_spans (g.D.Disk.state c.args.disk.now) c.args.self.now.sink.file

pub returns-clause-files : goal.returns-clause-files
returns-clause-files g c =
    ap (λ (n : ℕ). (λ (f : ℕ). f == n)) (c.shut.ensures.file
    ∙ ap (λ (k : Sink). k.file) c.in-Ok.ensures.sink)

pub returns-clause-well : goal.returns-clause-well
returns-clause-well g c = well_answered c.shut.result c.shut.ensures.well
