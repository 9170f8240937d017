-- Each turn reads one table more, up to the brace.
use Rattle.std.proofs.Common.{◌≡◌, Some, None, arith}
use Rattle.json.specs.Json.{read_key}
use Rattle.alt_readahead.proofs.Batches.{tables_begin, tables_turn, tables_less, tables_end}
use Rattle.alt_readahead.specs.declared.batch.TableWrites.{TableWrites}
use Rattle.alt_readahead.proofs.batch.tables_ahead.Goals as goal

pub tables-init : goal.tables-init
tables-init c =
    tables_begin c.args.depth c.args.reader.now c.new-tables.result.items c.new-tables.ensures.items

pub tables-smaller : goal.tables-smaller
tables-smaller c =
    let l = c.tables in
    let name = c.in-Some.name.now in
    let named : read_key l.reader ≡ Some (Some name, c.next_key.new.self) = grind arith in
    tables_less c.args.depth c.args.reader.now l.reader c.next_key.new.self c.open_array.new.reader
    c.writes_ahead.new.reader name c.in_ok-writes.writes.items (omega (arith, c.requires)) named
    c.in_ok-open_array.ensures.passed c.in_ok-writes.ensures.writes

pub tables-preserved : goal.tables-preserved
tables-preserved c =
    let l = c.tables in
    let name = c.in-Some.name.now in
    let named : read_key l.reader ≡ Some (Some name, c.next_key.new.self) = grind arith in
    let t : TableWrites = record { table = c.in_ok-table.table; writes = c.in_ok-writes.writes } in
    tables_turn c.args.depth c.args.reader.now l.reader c.next_key.new.self c.open_array.new.reader
    c.writes_ahead.new.reader name l.tables.items c.put_table.new.tables.items t
    (omega (arith, c.requires)) l.invariant named c.in_ok-open_array.ensures.passed
    c.in_ok-writes.ensures.writes c.in_ok-table.ensures.copied c.in_ok-put_table.ensures.put

pub returns : goal.returns
returns c =
    let l = c.tables in
    let over : read_key l.reader ≡ Some (None, c.next_key.new.self) = grind arith in
    record {
      tables = tables_end c.args.depth c.args.reader.now l.reader c.next_key.new.self l.tables.items
          l.invariant over;
    }
