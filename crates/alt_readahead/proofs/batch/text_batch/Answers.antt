-- A body with nothing behind it is what the text says.
use Rattle.std.proofs.Common.{◌≡◌, [], ◌∷◌, sym, ◌∙◌, arith}
use Rattle.json.specs.Lex.{tokens}
use Rattle.json.specs.Token.{Token}
use Rattle.alt_readahead.proofs.Turns.{body_read}
use Rattle.alt_readahead.proofs.batch.text_batch.Goals as goal

pub returns : goal.returns
returns c =
    let text = c.args.text.now in
    let r = c.open_object.new.reader in
    let s = c.body_batch.new.reader in
    let first : tokens text ≡ Token.begin_object ∷ r =
    sym c.in_ok-reader.ensures.ok ∙ c.in_ok-open_object.ensures.passed in
    let none : s ≡ [] = grind arith in
    let done = c.in_ok-tables.ensures.body in
    record {
      body = (
        done.0,
        (c.utf8.text, body_read text r s done.0 first done.1 none),
        done.2,
      );
    }
