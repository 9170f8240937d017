use Rattle.std.proofs.Common.{◌≡◌, sym, subst, ◌∙◌, ap}
use Rattle.std.specs.Str.{IsCharBoundary}
use Rattle.std.specs.List.{prefix_len}
use Rattle.alt_expr.specs.Spelling.{is_blank}
use Rattle.alt_expr.proofs.AsciiCuts.{blank_cut}
use Rattle.alt_expr.proofs.lexer.skip.Goals as goal

pub range_from-requires : goal.range_from-requires
range_from-requires c =
    let text = c.args.text.now in
    let same : prefix_len is_blank text ≡ c.blank_len.result =
    ap (prefix_len is_blank) (sym c.as_bytes.ensures.value) ∙ sym c.blank_len.ensures.value in
    λ some. subst (IsCharBoundary text) same (blank_cut text c.utf8.text)
