-- The text is read as the iterator again.
use Rattle.std.proofs.lemmas.Result.{IfOk-weaker}
use Rattle.alt_schema.specs.Json.{stream_arn}
use Rattle.alt_changes.proofs.IteratorTexts.{iterator_again}
use Rattle.alt_changes.proofs.iterators.iterator_text.Goals as goal

pub returns-clause-again : goal.returns-clause-again
returns-clause-again c small = IfOk-weaker c.written.result _ _
    (λ text is. iterator_again c.args.number small
    (stream_arn c.args.schema.now.name c.args.schema.now.number) text is) c.written.ensures
