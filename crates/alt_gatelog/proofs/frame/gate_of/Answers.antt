use Rattle.std.proofs.Common.{◌≡◌, ◌+◌, ℕ, List, length, min, take, drop, get_or, length-drop, sym, ◌∙◌, ap, arith}
use Rattle.std.proofs.lemmas.List.{length-take, get_or-drop, drop-drop}
use Rattle.std.proofs.lemmas.Nat.{from_be_bytes-to_be_bytes_8}
use Rattle.std.specs.Int.{w64, to_be_bytes, from_be_bytes}
use Rattle.alt_gatelog.proofs.Entries.{cut_short, cut_long, has_entry, first_same, number_same}
use Rattle.alt_gatelog.proofs.frame.gate_of.Goals as goal

open_ahead : (head ahead : List ℕ) → head ≡ take 9 ahead → get_or head 0 0 ≡ 1
    → get_or ahead 0 0 ≡ 1
open_ahead head ahead is gate = sym (first_same ahead) ∙ ap (λ (l : List ℕ). get_or l 0 0) (sym is)
    ∙ gate

number_ahead : (head ahead number : List ℕ) → head ≡ take 9 ahead → number ≡ take 8 (drop 1 head)
    → number ≡ take 8 (drop 1 ahead)
number_ahead head ahead number is number_is =
    number_is ∙ ap (λ (l : List ℕ). take 8 (drop 1 l)) is ∙ number_same ahead

size_ahead : (head ahead : List ℕ) → head ≡ take 9 ahead → length head ≡ min 9 (length ahead)
size_ahead head ahead is = ap length is ∙ length-take 9 ahead

pub returns-then-head-lt9-clause-none : goal.returns-then-head-lt9-clause-none
returns-then-head-lt9-clause-none c bytes at is left =
    let ahead = drop at bytes in
    cut_short ahead (open_ahead c.args.head.now ahead is c.if-head-ne1.false)
    (grind (
      arith,
      c.then-head-lt9.either,
      size_ahead c.args.head.now ahead is,
      length-drop at bytes,
      left,
    ))

pub returns-then-length-left-clause-none : goal.returns-then-length-left-clause-none
returns-then-length-left-clause-none c bytes at is left =
    let ahead = drop at bytes in
    let n = c.number_of-length.result in
    let number = number_ahead c.args.head.now ahead
    (to_be_bytes w64 n) is c.number_of-length.ensures in
    cut_long ahead n (open_ahead c.args.head.now ahead is c.if-head-ne1.false)
    (ap (from_be_bytes w64) (sym number) ∙ from_be_bytes-to_be_bytes_8 n
    c.number_of-length.type_inv)
    (omega (arith, c.if-length-left.true, length-drop at bytes, left))

pub returns-clause-some : goal.returns-clause-some
returns-clause-some c bytes at is left =
    let ahead = drop at bytes in
    let n = c.number_of-length.result in
    let number = number_ahead c.args.head.now ahead
    (to_be_bytes w64 n) is c.number_of-length.ensures in
    let here : at ≡ at + 0 = omega arith in
    has_entry bytes at n (omega (arith, c.if-left-lt9.false, left))
    (ap (λ (k : ℕ). get_or bytes k 0) here ∙ sym (get_or-drop at bytes 0 0)
    ∙ open_ahead c.args.head.now ahead is c.if-head-ne1.false)
    (omega (arith, c.if-length-left.false, c.if-left-lt9.false, left))
    (number ∙ ap (take 8) (drop-drop 1 at bytes))
