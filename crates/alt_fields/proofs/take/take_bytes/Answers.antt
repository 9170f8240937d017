use Rattle.std.proofs.Common.{◌≡◌, refl, sym, ap, ◌∙◌, ◌+◌, ◌<◌, ◌≤◌, ℕ, length, take, drop, Ok, arith}
use Rattle.std.specs.Int.{w64, to_be_bytes}
use Rattle.std.proofs.lemmas.List.{length-take, length-take-le, length-drop}
use Rattle.alt_fields.proofs.Numbers.{stands_within, field_from_parts, counted-field, content-field}
use Rattle.alt_fields.proofs.take.take_bytes.Goals as goal

pub returns-in_err-count-clause-again : goal.returns-in_err-count-clause-again
returns-in_err-count-clause-again c = λ content fits stands.
    let within : c.args.at + 8 ≤ length c.args.bytes.now =
    stands_within c.args.bytes.now (to_be_bytes w64 (length content)) c.args.at 8
    (counted-field c.args.bytes.now c.args.at content stands) refl (omega arith) in
    let short : length c.args.bytes.now < c.args.at + 8 = c.in_err-count.ensures.short.1 in
    absurd (omega arith)

pub content_at-requires : goal.content_at-requires
content_at-requires c =
    let within : c.args.at + 8 ≤ length c.args.bytes.now =
    stands_within c.args.bytes.now (to_be_bytes w64 c.in_ok-count.count) c.args.at 8
    c.in_ok-count.ensures.ok.0 refl (omega arith) in
    let start : c.in_ok-count.start ≡ c.args.at + 8 = c.in_ok-count.ensures.ok.1 in
    omega arith

pub returns-in_err-content-clause-again : goal.returns-in_err-content-clause-again
returns-in_err-content-clause-again c = λ content fits stands.
    let told : Ok (c.in_ok-count.count, c.in_ok-count.start) ≡ Ok (length content, c.args.at + 8) =
    c.in_ok-count.ensures.again (length content) fits
    (counted-field c.args.bytes.now c.args.at content stands) in
    let pair : (c.in_ok-count.count, c.in_ok-count.start) ≡ (length content, c.args.at + 8) = cc in
    let count : c.in_ok-count.count ≡ length content = ap (λ (p : ℕ × ℕ). p.0) pair in
    let start : c.in_ok-count.start ≡ c.args.at + 8 = ap (λ (p : ℕ × ℕ). p.1) pair in
    let within : c.args.at + 8 ≤ length c.args.bytes.now =
    stands_within c.args.bytes.now (to_be_bytes w64 c.in_ok-count.count) c.args.at 8
    c.in_ok-count.ensures.ok.0 refl (omega arith) in
    let short : length c.args.bytes.now < c.in_ok-count.start + c.in_ok-count.count =
    c.in_err-content.ensures.short.1 in
    absurd (omega (
      arith,
      length-take (length content) (drop (c.args.at + 8) c.args.bytes.now),
      length-drop (c.args.at + 8) c.args.bytes.now,
      ap length (content-field c.args.bytes.now c.args.at content stands),
    ))

pub returns-clause-ok : goal.returns-clause-ok
returns-clause-ok c =
    let start : c.in_ok-count.start ≡ c.args.at + 8 = c.in_ok-count.ensures.ok.1 in
    let taken : c.in_ok-content.content.now ≡ take c.in_ok-count.count
    (drop c.in_ok-count.start c.args.bytes.now) = c.in_ok-content.ensures.ok.0 in
    let room : c.in_ok-count.start + c.in_ok-count.count ≤ length c.args.bytes.now =
    c.in_ok-content.ensures.ok.2 in
    let count : c.in_ok-count.count ≡ length c.in_ok-content.content.now =
    sym (ap length taken ∙ length-take-le c.in_ok-count.count
    (drop c.in_ok-count.start c.args.bytes.now)
    (omega (arith, length-drop c.in_ok-count.start c.args.bytes.now))) in
    let end : c.in_ok-content.end ≡ c.in_ok-count.start + c.in_ok-count.count =
    c.in_ok-content.ensures.ok.1 in (
      field_from_parts c.args.bytes.now c.args.at c.in_ok-count.count c.in_ok-content.content.now
          c.in_ok-count.ensures.ok.0 count
          (taken ∙ ap (λ k. take c.in_ok-count.count (drop k c.args.bytes.now)) start),
      omega arith,
    )

pub returns-clause-again : goal.returns-clause-again
returns-clause-again c = λ content fits stands.
    let told : Ok (c.in_ok-count.count, c.in_ok-count.start) ≡ Ok (length content, c.args.at + 8) =
    c.in_ok-count.ensures.again (length content) fits
    (counted-field c.args.bytes.now c.args.at content stands) in
    let pair : (c.in_ok-count.count, c.in_ok-count.start) ≡ (length content, c.args.at + 8) = cc in
    let count : c.in_ok-count.count ≡ length content = ap (λ (p : ℕ × ℕ). p.0) pair in
    let start : c.in_ok-count.start ≡ c.args.at + 8 = ap (λ (p : ℕ × ℕ). p.1) pair in
    let taken : c.in_ok-content.content.now ≡ take c.in_ok-count.count
    (drop c.in_ok-count.start c.args.bytes.now) = c.in_ok-content.ensures.ok.0 in
    let follows : take (length content) (drop (c.args.at + 8) c.args.bytes.now) ≡ content =
    content-field c.args.bytes.now c.args.at content stands in
    cc
