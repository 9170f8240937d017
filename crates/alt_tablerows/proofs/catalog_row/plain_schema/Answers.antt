-- The cells of a table's row are the text of its time to live and the bytes of its description, and these are never bad.
use Rattle.std.proofs.Common.{◌≡◌, ◌∙◌, ap, sym, subst, Err}
use Rattle.std.specs.Result.{IsErrAnd}
use Rattle.alt_fields.specs.declared.bytes.BytesFault.{BytesFault}
use Rattle.alt_schemabytes.specs.Held.{IsHeldText, IsReadAs, Where}
use Rattle.alt_schemabytes.specs.Format.{description_bytes}
use Rattle.alt_tablerows.proofs.TableRow.{row_timed, timed_is, timed_whole, told_alike}
use Rattle.alt_tablerows.proofs.catalog_row.plain_schema.Goals as goal

pub returns-in-Ok-clause-schema : goal.returns-in-Ok-clause-schema
returns-in-Ok-clause-schema c = (
  timed_is c.in_ok-ttl.ttl c.in-Ok.schema c.with_time-timed.result c.in-Ok.ensures.description.0
      c.with_time-timed.ensures,
  c.held.ensures.held,
  row_timed c.args.row.now _ c.in_ok-ttl.ttl _ c.in-Ok.schema c.with_time-timed.result
      c.in-Some.ensures.cells c.in_ok-ttl.ensures.text c.in-Ok.ensures.description.1
      c.with_time-timed.ensures,
)

pub returns-in-Ok-clause-whole : goal.returns-in-Ok-clause-whole
returns-in-Ok-clause-whole c = timed_whole c.in_ok-ttl.ttl c.in-Ok.schema c.with_time-timed.result
    c.in-Ok.ensures.bare c.with_time-timed.ensures

pub returns-in-Err-Bad-clause-none : goal.returns-in-Err-Bad-clause-none
returns-in-Err-Bad-clause-none c bad d is held same =
    subst (λ (f : BytesFault). IsReadAs d (Err f)) c.in-Err-Bad.field-0-is
    (c.in-Err-Bad.ensures.again d is held
    (told_alike c.args.row.now _ d.ttl _ (description_bytes d) c.in-Some.ensures.cells same).1)

pub returns-in_err-ttl-clause-none : goal.returns-in_err-ttl-clause-none
returns-in_err-ttl-clause-none c bad d is held same =
    c.time_of.ensures.none
    (c.in_err-ttl.was ∙ ap Err (sym (subst (λ r. IsErrAnd r (λ e. e ≡ c.in_err-ttl.field-0.0)) bad
    c.from_residual.ensures.1)))
    (subst (Where IsHeldText) (sym (told_alike c.args.row.now _ d.ttl _ (description_bytes d)
    c.in-Some.ensures.cells same).0) held.ttl)
