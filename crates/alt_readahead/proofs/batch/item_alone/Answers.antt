-- A brace, the name, the item and a brace.
use Rattle.std.proofs.Common.{◌≡◌, ◌∷◌, ap, ◌∙◌, true, bytes_eq, arith, rules}
use Rattle.std.proofs.lemmas.Slice.Eq.{bytes_eq-Decides}
use Rattle.json.specs.Token.{Token}
use Rattle.serde_json.specs.Data.{object}
use Rattle.alt_readahead.proofs.Batches.{reads_alone}
use Rattle.alt_readahead.proofs.batch.item_alone.Goals as goal

pub returns : goal.returns
returns c =
    let k = c.in_ok-name.field-0.now in
    let same : bytes_eq k c.args.member.now ≡ true = search rules in
    let is : k ≡ c.args.member.now = (bytes_eq-Decides k c.args.member.now).0 same in
    let reads = c.in_ok-item.ensures.item in
    let named : c.open_object.new.reader ≡ Token.key c.args.member.now ∷ c.name.new.reader =
    c.in_ok-name.ensures.passed ∙ ap (λ w. Token.key w ∷ c.name.new.reader) is in
    record {
      item = (
        reads.0,
        reads_alone c.args.depth c.args.reader.now c.open_object.new.reader c.name.new.reader
            c.item_ahead.new.reader c.close_object.new.reader c.args.member.now (object reads.0)
            (omega (arith, c.requires)) c.in_ok-open_object.ensures.passed named reads.1
            c.in_ok-close_object.ensures.passed,
        reads.2,
      );
    }
