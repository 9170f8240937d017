-- A text is an object with these members, or none, as its tokens are.
use Rattle.std.proofs.Common.{◌≡◌, [], ◌∷◌, Some, sym, ap, ◌∙◌, arith}
use Rattle.json.specs.Lex.{tokens}
use Rattle.json.specs.Reads.{token_of}
use Rattle.json.specs.Token.{Token}
use Rattle.alt_named.specs.Parts.{object_of}
use Rattle.alt_named.proofs.Bodies.{object_and_more, object_read, object_refused}
use Rattle.alt_named.proofs.named.text_named.Goals as goal

pub returns-in_err-open_object-clause-refused : goal.returns-in_err-open_object-clause-refused
returns-in_err-open_object-clause-refused c refused =
    ap object_of (sym c.in_ok-reader.ensures.ok) ∙ c.open_object.ensures.refused (grind arith)

pub returns-in_err-found-clause-refused : goal.returns-in_err-found-clause-refused
returns-in_err-found-clause-refused c refused =
    let text = c.args.text.now in
    let r = c.open_object.new.reader in
    let first : tokens text ≡ Token.begin_object ∷ r =
    sym c.in_ok-reader.ensures.ok ∙ c.in_ok-open_object.ensures.passed in
    object_refused text r first (c.members_named.ensures.refused (grind arith))

pub returns-in-Some-clause-refused : goal.returns-in-Some-clause-refused
returns-in-Some-clause-refused c refused =
    let text = c.args.text.now in
    let r = c.open_object.new.reader in
    let first : tokens text ≡ Token.begin_object ∷ r =
    sym c.in_ok-reader.ensures.ok ∙ c.in_ok-open_object.ensures.passed in
    let done = c.in_ok-found.ensures.named in
    object_and_more text r first (token_of c.in-Some.field-0) c.next.new.self done.0
    (done.1 ∙ ap (λ l. Some (done.0, l)) c.in-Some.ensures.value)

pub returns-in-None-clause-named : goal.returns-in-None-clause-named
returns-in-None-clause-named c =
    let text = c.args.text.now in
    let r = c.open_object.new.reader in
    let s = c.members_named.new.reader in
    let first : tokens text ≡ Token.begin_object ∷ r =
    sym c.in_ok-reader.ensures.ok ∙ c.in_ok-open_object.ensures.passed in
    let none : s ≡ [] = grind arith in
    let done = c.in_ok-found.ensures.named in
    (done.0, object_read text r first s done.0 done.1 none, done.2)
