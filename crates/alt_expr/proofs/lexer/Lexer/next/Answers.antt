-- The lexer stands behind the longest token, and the text that is left stays a back of the whole.
use Rattle.std.proofs.Common.{◌≡◌, refl, sym, subst, ◌∙◌, ap, take, drop, Some, None, arith}
use Rattle.alt_expr.specs.Spelling.{skip, TokenStands, NoneStands}
use Rattle.alt_expr.specs.Look.{found, kind_tok, LooksFit}
use Rattle.alt_expr.specs.Tokens.{tok_of}
use Rattle.alt_expr.specs.Spelling.{is_blank}
use Rattle.alt_expr.proofs.Longest.{stands_of, none_of, fits_nine, prefix_fits, not_empty}
use Rattle.alt_expr.proofs.AsciiCuts.{found_cut}
use Rattle.alt_expr.proofs.Suffix.{IsBack, back_of_back}
use Rattle.alt_expr.proofs.lexer.Lexer.next.Goals as goal

pub returns-in_default-clause-found : goal.returns-in_default-clause-found
returns-in_default-clause-found c =
    let self = c.args.self.now in
    let text = c.skip-text.result.now in
    let here : text ≡ skip self.rest.now = c.skip-text.ensures in
    let none : found text ≡ None = ap found (sym c.as_bytes.ensures.value) ∙ sym c.look.ensures
    ∙ c.in_default.is in
    let back : IsBack self.whole.now self.rest.now =
    record { fits = self.within; same = self.suffix } in
    let left = subst (IsBack self.whole.now) (sym here)
    (back_of_back self.whole.now self.rest.now _ back (prefix_fits is_blank self.rest.now)) in (
      λ empty. not_empty text c.if-is_empty.ensures (here ∙ empty),
      subst NoneStands here (none_of text none),
      omega arith,
      sym left.same ∙ here,
      refl,
    )

pub split_at-requires : goal.split_at-requires
split_at-requires c =
    let text = c.skip-text.result.now in
    let is : found text ≡ Some (c.in-Some.kind, c.in-Some.len) =
    ap found (sym c.as_bytes.ensures.value) ∙ sym c.look.ensures ∙ c.in-Some.is in
    found_cut text c.in-Some.kind c.in-Some.len c.skip-text.utf8 is

pub token_of-requires : goal.token_of-requires
token_of-requires c =
    let text = c.skip-text.result.now in
    let is : found text ≡ Some (c.in-Some.kind, c.in-Some.len) =
    ap found (sym c.as_bytes.ensures.value) ∙ sym c.look.ensures ∙ c.in-Some.is in
    subst (LooksFit c.in-Some.kind) (sym c.split_at.ensures.front)
    (fits_nine text c.in-Some.kind c.in-Some.len is)

pub invariant_of-self : goal.invariant_of-self
invariant_of-self c =
    let self = c.args.self.now in
    let text = c.skip-text.result.now in
    let here : text ≡ skip self.rest.now = c.skip-text.ensures in
    let is : found text ≡ Some (c.in-Some.kind, c.in-Some.len) =
    ap found (sym c.as_bytes.ensures.value) ∙ sym c.look.ensures ∙ c.in-Some.is in
    let back : IsBack self.whole.now self.rest.now =
    record { fits = self.within; same = self.suffix } in
    let left = subst (IsBack self.whole.now) (sym here)
    (back_of_back self.whole.now self.rest.now _ back (prefix_fits is_blank self.rest.now)) in
    let stands = stands_of text c.in-Some.kind c.in-Some.len is in
    let next = subst (IsBack self.whole.now) (sym c.split_at.ensures.back)
    (back_of_back self.whole.now text c.in-Some.len left stands.within) in
    record { within = next.fits; suffix = next.same }

pub returns-clause-found : goal.returns-clause-found
returns-clause-found c =
    let text = c.skip-text.result.now in
    let here : text ≡ skip c.args.self.now.rest.now = c.skip-text.ensures in
    let is : found text ≡ Some (c.in-Some.kind, c.in-Some.len) =
    ap found (sym c.as_bytes.ensures.value) ∙ sym c.look.ensures ∙ c.in-Some.is in
    let s = stands_of text c.in-Some.kind c.in-Some.len is in
    let tok : kind_tok c.in-Some.kind (take c.in-Some.len text) ≡ tok_of c.token_of.result =
    ap (kind_tok c.in-Some.kind) (sym c.split_at.ensures.front) ∙ sym c.token_of.ensures in
    (c.in-Some.len, subst (λ t. TokenStands t c.in-Some.len (tok_of c.token_of.result)) here (subst (TokenStands text c.in-Some.len) tok s), c.split_at.ensures.back ∙ ap (drop c.in-Some.len) here)
