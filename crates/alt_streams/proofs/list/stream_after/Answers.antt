-- The first whose name comes after has a stream, or what follows it is what is left.
use Rattle.std.proofs.Common.{sym, ap, ◌∙◌, ℕ, List, None, Some}
use Rattle.std.specs.List.{find}
use Rattle.alt_streams.specs.private.Listed.{all_in, is_listed}
use Rattle.alt_streams.proofs.Following.{names_less, walk_here, walk_next, walk_end}
use Rattle.alt_streams.proofs.list.stream_after.Goals as goal
use Rattle.alt_request.specs.TablesStands.{catalog_of}

pub loop-schema-preserved : goal.loop-schema-preserved
loop-schema-preserved c = (
  c.as_str-last.utf8,
  λ named. ap (λ (k : List ℕ). find (is_listed k None) (all_in (catalog_of c.args.tables.now)))
      c.as_str-last.ensures.same
      ∙ sym (walk_next (catalog_of c.args.tables.now) named c.loop-schema.last.now
      c.in-Some.schema.now c.in-Some.ensures.table (sym c.is_some.ensures ∙ c.if-is_some.false))
      ∙ c.loop-schema.invariant.1 named,
)

pub loop-schema-smaller : goal.loop-schema-smaller
loop-schema-smaller c = names_less c.loop-schema.last.now c.as_str-last.result.now
    (catalog_of c.args.tables.now)
    (ap (λ (x : List ℕ). Some x) c.as_str-last.ensures.same ∙ c.in-Some.ensures.name)

pub returns-then-is_some : goal.returns-then-is_some
returns-then-is_some c = record {
  next = λ named. walk_here (catalog_of c.args.tables.now) named c.loop-schema.last.now
      c.in-Some.schema.now c.in-Some.ensures.table (sym c.is_some.ensures ∙ c.if-is_some.true)
      ∙ c.loop-schema.invariant.1 named;
}

pub returns : goal.returns
returns c = record {
  next = λ named. walk_end (catalog_of c.args.tables.now) named c.loop-schema.last.now
      c.in_default.ensures.table ∙ c.loop-schema.invariant.1 named;
}
