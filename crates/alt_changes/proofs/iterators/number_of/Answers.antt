-- Digits that aren't parsed are too large.
use Rattle.std.proofs.Common.{◌≡◌, ◌∙◌, true, None, sym}
use Rattle.std.specs.Char.{is_ascii_digit}
use Rattle.std.specs.List.{list_all}
use Rattle.std.specs.Result.{result_ok}
use Rattle.alt_changes.proofs.IteratorTexts.{each_digit, parsed_none}
use Rattle.alt_changes.proofs.iterators.number_of.Goals as goal

pub returns-in_err-number : goal.returns-in_err-number
returns-in_err-number c =
    let all : list_all is_ascii_digit c.args.digits.now ≡ true =
    cc (c.all_digits.ensures, c.as_bytes.ensures.value, c.if-not-all_digits.false) in
    let none : result_ok c.parse.result ≡ None = cc (c.ok.ensures.value, c.in_err-number.was) in
    c.from_residual.ensures ∙ sym (parsed_none c.args.digits.now c.parse.result
    (sym (each_digit c.args.digits.now) ∙ all) c.requires c.parse.ensures.value.0 none)
