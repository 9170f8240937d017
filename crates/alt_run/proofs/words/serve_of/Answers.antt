use Rattle.std.proofs.Common.{arith}
use Rattle.std.specs.Prelude.{string_bytes}
use Rattle.std.proofs.lemmas.List.{length-map}
use Rattle.alt_run.specs.Words.{bytes_of}
use Rattle.alt_run.proofs.Numbers.{serve_few, serve_many}
use Rattle.alt_run.proofs.words.serve_of.Goals as goal

pub returns-in_default-clause-command : goal.returns-in_default-clause-command
returns-in_default-clause-command c =
    let l = length-map c.args.words.now string_bytes in
    let k = c.in_default.len_below in
    serve_few (bytes_of c.args.words.now) (omega (arith, l, k))

pub returns-in_default-2-clause-command : goal.returns-in_default-2-clause-command
returns-in_default-2-clause-command c =
    let l = length-map c.args.words.now string_bytes in
    let k = c.in_default.len_at_least in
    serve_many (bytes_of c.args.words.now) (omega (arith, l, k))
