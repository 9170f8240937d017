-- One more token.
use Rattle.std.proofs.Common.{◌≡◌, refl, sym, ap, subst, ℕ, zero, suc, ◌<◌, Bool, List, [], ◌∷◌, ◌++◌, length, map, Some, arith, append-nil, length-drop, Ok}
use Rattle.alt_expr.specs.declared.token.Token.{Token}
use Rattle.alt_expr.specs.Tokens.{Tok, tok_of}
use Rattle.alt_expr.specs.Spelling.{TokenStands, skip}
use Rattle.alt_expr.specs.Lexed.{Lexed, Lexes}
use Rattle.alt_expr.proofs.Longest.{skip_fits}

-- what is left makes the whole
pub record Continues (text rest : List ℕ) (found : List Token) : Type 0 where
  pub goes_on : (ts : List Tok) (whole : Bool) → Lexes rest ts whole
      → Lexes text (map tok_of found ++ ts) whole

-- at first no token was found, and the whole text is left
pub begin : (text rest : List ℕ) → rest ≡ text → Continues text rest []
begin text rest e = record { goes_on = λ ts whole h. subst (λ r. Lexes r ts whole) e h }

-- one token more, in front of the others, is one token more at the end
map_snoc : (found : List Token) (t : Token) (ts : List Tok)
    → map tok_of (found ++ t ∷ []) ++ ts ≡ map tok_of found ++ tok_of t ∷ ts
map_snoc [] t ts = refl
map_snoc (x ∷ xs) t ts = ap (λ z. tok_of x ∷ z) (map_snoc xs t ts)

-- one token more was found
pub one_on : (text old whole_text new : List ℕ) (found : List Token) (t : Token)
    → Continues text old found → Lexed whole_text old (Ok (Some t)) new
    → Continues text new (found ++ t ∷ [])
one_on text old whole_text new found t c h = record {
  goes_on = λ ts whole g.
      subst (λ z. Lexes text z whole) (sym (map_snoc found t ts))
      (c.goes_on (tok_of t ∷ ts) whole (h.0, h.1, subst (λ r. Lexes r ts whole) h.2 g));
}

-- where no token is left those that were found are the text's
pub ends : (text rest : List ℕ) (found : List Token) (whole : Bool) → Continues text rest found
    → Lexes rest [] whole → Lexes text (map tok_of found) whole
ends text rest found whole c h =
    subst (λ z. Lexes text z whole) (append-nil (map tok_of found)) (c.goes_on [] whole h)

-- a token has bytes
pub stands_some : (text : List ℕ) (len : ℕ) (t : Tok) → TokenStands text len t → 0 < len
stands_some text zero t s = let e = s.spells in cc
stands_some text (suc n) t s = omega arith

-- behind a token less is left
pub shorter : (old whole_text new : List ℕ) (t : Token) → Lexed whole_text old (Ok (Some t)) new
    → length new < length old
shorter old whole_text new t h =
    let some = stands_some (skip old) h.0 (tok_of t) h.1 in
    let fits = h.1.within in
    let cut = ap length h.2 in
    omega (arith, some, fits, cut, length-drop h.0 (skip old), skip_fits old)
