-- The tables are read, or another member is passed.
use Rattle.std.proofs.Common.{◌≡◌, true, false, bytes_eq, true≢false, sym, ◌∙◌, arith, rules}
use Rattle.std.specs.Prelude.{◌≢◌, codes}
use Rattle.std.proofs.lemmas.Slice.Eq.{bytes_eq-Decides}
use Rattle.serde_json.specs.Data.{object}
use Rattle.alt_readahead.proofs.Batches.{batch-put, batch-pass}
use Rattle.alt_readahead.proofs.Payloads.{reads_object, value_shorter}
use Rattle.alt_readahead.proofs.batch.member_batch.Goals as goal

pub returns-then-eq-clause-member : goal.returns-then-eq-clause-member
returns-then-eq-clause-member c =
    let k = c.args.name.now in
    let same : bytes_eq k (codes "RequestItems") ≡ true = search rules in
    let is = (bytes_eq-Decides k (codes "RequestItems")).0 same in
    let reads = c.in_ok-read.ensures.tables in (
      object reads.0,
      reads_object 126 c.args.reader.now c.open_object.new.reader c.tables_ahead.new.reader reads.0
          (omega arith) c.in_ok-open_object.ensures.passed reads.1,
      λ ms h. batch-put k reads.0 c.in_ok-read.read.items ms is reads.2,
    )

pub returns-then-eq-clause-shorter : goal.returns-then-eq-clause-shorter
returns-then-eq-clause-shorter c =
    let reads = c.in_ok-read.ensures.tables in
    value_shorter 126 c.args.reader.now c.tables_ahead.new.reader (object reads.0)
    (reads_object 126 c.args.reader.now c.open_object.new.reader c.tables_ahead.new.reader reads.0
    (omega arith) c.in_ok-open_object.ensures.passed reads.1)

pub returns-clause-member : goal.returns-clause-member
returns-clause-member c =
    let k = c.args.name.now in
    let passed = c.in_ok-pass.ensures.passed in
    let differs : bytes_eq k (codes "RequestItems") ≡ false = search rules in
    let other : k ≢ codes "RequestItems" =
    λ is. true≢false (sym ((bytes_eq-Decides k (codes "RequestItems")).1 is) ∙ differs) in (
      passed.0,
      passed.1,
      λ ms h. batch-pass k passed.0 ms c.args.tables.now other h,
    )
