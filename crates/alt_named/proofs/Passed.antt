-- A value alone is passed as what it is.
use Rattle.std.proofs.Common.{◌≡◌, ℕ, List, ◌∷◌, Bool, Some, None, sym, ap, ◌∙◌}
use Rattle.std.specs.Prelude.{option_map}
use Rattle.json.specs.Json.{value}
use Rattle.json.specs.Token.{Token}
use Rattle.json.proofs.Grammar.{value_is}
use Rattle.serde_json.specs.Data.{Data, Num, null, boolean, number, string}
use Rattle.serde_json.specs.Read.{converted, number_of, of_json}

-- what the first of these tokens is, with those behind it
abbrev pub Passes : ℕ → List Token → List Token → Type 0
Passes depth before after = (d : Data) × (converted of_json (value depth before) ≡ Some (d, after))

module _ (depth : ℕ) (before after : List Token) where
  pub text_passed : (s : List ℕ) → before ≡ Token.string s ∷ after → Passes depth before after
  text_passed s e = (
    string s,
    ap (λ ts. converted of_json (value depth ts)) e
        ∙ ap (converted of_json) (value_is depth (Token.string s ∷ after)),
  )

  pub truth_passed : (b : Bool) → before ≡ Token.boolean b ∷ after → Passes depth before after
  truth_passed b e = (
    boolean b,
    ap (λ ts. converted of_json (value depth ts)) e
        ∙ ap (converted of_json) (value_is depth (Token.boolean b ∷ after)),
  )

  pub null_passed : before ≡ Token.null ∷ after → Passes depth before after
  null_passed e = (
    null,
    ap (λ ts. converted of_json (value depth ts)) e
        ∙ ap (converted of_json) (value_is depth (Token.null ∷ after)),
  )

  module _ (s : List ℕ) (e : before ≡ Token.number s ∷ after) where
    number_is : converted of_json (value depth before)
        ≡ option_map (λ d. (d, after)) (option_map number (number_of s))
    number_is = ap (λ ts. converted of_json (value depth ts)) e
        ∙ ap (converted of_json) (value_is depth (Token.number s ∷ after))

    pub number_passed : (n : Num) → Some n ≡ number_of s → Passes depth before after
    number_passed n is =
        (number n, number_is ∙ ap (λ o. option_map (λ d. (d, after)) (option_map number o)) (sym is))

    -- a number that is out of range is refused
    pub number_refused : None ≡ number_of s → converted of_json (value depth before) ≡ None
    number_refused is = number_is
        ∙ ap (λ o. option_map (λ d. (d, after)) (option_map number o)) (sym is)
