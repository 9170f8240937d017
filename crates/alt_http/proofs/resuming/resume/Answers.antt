use Rattle.std.proofs.Common.{◌≡◌, take, true, false, inl, inr}
use Rattle.alt_http.proofs.Continuing.{same_front, resumed_far}
use Rattle.alt_http.proofs.LastLine.{within_filled}
use Rattle.alt_http.proofs.resuming.resume.Goals as goal

pub without_head-requires : goal.without_head-requires
without_head-requires c = same_front c.args.bytes.now c.args.front.now c.args.before c.requires
    c.if-before-front.true

pub resume_fields-requires-clause-within : goal.resume_fields-requires-clause-within
resume_fields-requires-clause-within c =
    let before = take c.args.before c.args.front.now in
    elim (resumed_far c.requires.old before c.requires.on c.requires.is_front) [
      | inl within ↦ within
      | inr blank ↦ let no : true ≡ false = c.if-is_filled.ensures.blank blank in cc
    ]

pub resume_start-requires-clause-blank : goal.resume_start-requires-clause-blank
resume_start-requires-clause-blank c =
    let before = take c.args.before c.args.front.now in
    elim (resumed_far c.requires.old before c.requires.on c.requires.is_front) [
      | inl within ↦ let no : false ≡ true = c.if-is_filled.ensures.filled
          (within_filled before within) in cc
      | inr blank ↦ blank
    ]
