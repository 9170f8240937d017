-- A brace and the fields behind it, which are passed.
use Rattle.std.proofs.Common.{ℕ, ◌<◌, List, length, Result, Ok, Err, IfOk, arith}
use Rattle.std.specs.Prelude.{OnOk}
use Rattle.json.specs.Token.{Token}
use Rattle.alt_readahead.specs.Direct.{ReadsItem}
use Rattle.alt_readahead.proofs.Payloads.{reads_item, value_shorter}
use Rattle.alt_readahead.specs.declared.tokens.Unread.{Unread}
use Rattle.alt_value.specs.Tree.{Pair}
use Rattle.alt_readahead.proofs.direct.item_ahead.Goals as goal

-- what is read as an item is passed
passed : (depth : ℕ) (before after : List Token) (r : Result (List Pair) Unread)
    → IfOk r (λ i. ReadsItem depth before i after) → OnOk r (length after < length before)
passed depth before after (Ok i) h = value_shorter depth before after _ h.1
passed depth before after (Err e) h = tt

pub returns : goal.returns
returns c =
    let reads = reads_item c.args.depth c.args.reader.now c.open_object.new.reader
    c.fields_at.new.reader c.fields_at.result (omega arith) c.in_ok-open_object.ensures.passed
    c.fields_at.ensures.fields in record {
      item = reads;
      shorter = passed c.args.depth c.args.reader.now c.fields_at.new.reader c.fields_at.result reads;
    }
