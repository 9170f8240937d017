-- What goes with the write isn't changed yet.
use Rattle.std.proofs.Common.{◌+◌, refl, sym, subst, IsSome, arith}
use Rattle.alt_rowchanges.specs.Trims.{TrimIsWithin}
use Rattle.alt_rowchanges.proofs.CanTrim.{can_trim}
use Rattle.alt_tables.proofs.tables.Tables.batch.Goals as goal

pub put_trim-requires : goal.put_trim-requires
put_trim-requires c = record {
  rows = λ family stream. can_trim c.in-Some.schema.now c.in-Some.ensures.families
      (c.next_number.result + c.args.count) c.args.moment c.args.by c.args.found.place
      c.args.found.item c.args.new.now c.in_ok-batch.batch c.in_ok-batch.ensures.changes
      c.args.before c.args.trim.now
      (subst (λ n. TrimIsWithin c.args.before (n + c.args.count) c.args.trim.now)
      (sym c.next_number.ensures.next)
      (c.requires.within c.in-Some.schema.now (sym c.in-Some.ensures.table)
      (subst IsSome (sym stream) refl)))
      (omega (arith, c.next_number.ensures.next, c.requires.room)) family stream;
}
