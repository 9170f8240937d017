-- An index that can be read is one of the table's.
use Rattle.std.proofs.Common.{subst}
use Rattle.std.specs.Prelude.{IfSome}
use Rattle.alt_views.specs.Readable.{CanRead}
use Rattle.alt_ops_query.proofs.sources.index_of.Goals as goal

pub index_at-requires : goal.index_at-requires
index_at-requires c = record {
  there = (subst (λ o. IfSome o (λ n. CanRead c.args.schema.now n)) c.in-Some.is
      c.requires.there).0;
}
