-- The table of that name stands behind the other and has a stream, or none is listed.
use Rattle.std.proofs.Common.{◌≡◌, sym, ap, ◌∙◌, true, false, None, Some, option_map}
use Rattle.std.specs.Ordering.{is_lt}
use Rattle.alt_streams.proofs.Following.{named_none, named_shown}
use Rattle.alt_streams.proofs.list.named_stream.Goals as goal
use Rattle.alt_request.specs.TablesStands.{catalog_of}

pub returns-then-not-is_lt : goal.returns-then-not-is_lt
returns-then-not-is_lt c = record {
  named = λ named. named_none (catalog_of c.args.tables.now) named c.args.last.now c.args.name.now
      (λ d there shown less.
      let no : false ≡ true = sym c.if-not-is_lt.true ∙ c.is_lt.ensures
      ∙ ap is_lt c.cmp.ensures ∙ less in
      cc no);
}

pub returns-in_err-table : goal.returns-in_err-table
returns-in_err-table c = record {
  named = λ named. ap (option_map (λ d. d.now)) c.from_residual.ensures
      ∙ named_none (catalog_of c.args.tables.now) named c.args.last.now c.args.name.now
      (λ d there shown less.
      let no : None ≡ Some d = c.in_err-table.ensures.table ∙ there in cc no);
}

pub returns : goal.returns
returns c = record {
  named = λ named. c.with_stream.ensures ∙ named_shown (catalog_of c.args.tables.now) named
      c.args.last.now c.args.name.now c.in_ok-table.field-0.now c.in_ok-table.ensures.table
      (sym (ap is_lt c.cmp.ensures) ∙ sym c.is_lt.ensures ∙ c.if-not-is_lt.false);
}
