use Rattle.std.proofs.Common.{sym, subst, List, ℕ}
use Rattle.std.specs.Str.{IsUtf8}
use Rattle.alt_keyorder.proofs.Unclosed.{no_text}
use Rattle.alt_keyorder.proofs.take.text_at_front.Goals as goal

pub returns-in-Some : goal.returns-in-Some
returns-in-Some c =
    let at = rw c.in-Some.is at c.in_ok-content.ensures in
    let P : List ℕ → Type 0 = λ s. IsUtf8 s in
    no_text c.args.bytes.now c.in-Some.content.items c.in-Some.len at
    (λ u. c.in-Err.ensures.cases.0 (subst P (sym c.as_slice.ensures.value) u))
