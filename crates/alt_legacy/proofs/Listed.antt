-- The names of AttributesToGet: one at least, and no two of them equal.
use Rattle.std.proofs.Common.{◌≡◌, sym, ap, ◌∙◌, ℕ, zero, suc, nat_eq, ◌<◌, Bool, true, false, List, [], ◌∷◌, length, map, refl, Option, Some, None, arith}
use Rattle.std.specs.Prelude.{is_some, option_map, option_and_then, if◌then◌else◌}
use Rattle.serde_json.specs.Data.{Data, Items}
use Rattle.serde_json.specs.Find.{as_array}
use Rattle.alt_value.specs.Members.{text_order, set_of, are_apart, gathered}
use Rattle.alt_expr.specs.declared.path.PathPart.{PathPart}
use Rattle.alt_legacy.specs.Names.{if_apart, names_of_member, element_names}
use Rattle.alt_legacy.specs.Trees.{attribute_path}

-- names make a set exactly where they differ
apart_so : (ns : List (List ℕ)) (b : Bool) → is_some (set_of text_order ns) ≡ b
    → are_apart text_order ns ≡ b
unfolding set_of
apart_so ns b = elim (are_apart text_order ns) as
    (λ a. is_some (if a then Some (gathered text_order ns) else None) ≡ b → a ≡ b) [
      | true ↦ λ e. e
      | false ↦ λ e. e
    ]

-- names that differ are the whole
apart_names : (ns : List (List ℕ)) → 0 < length ns → is_some (set_of text_order ns) ≡ true
    → if_apart ns ≡ Some ns
apart_names [] h e = absurd (omega (arith, h))
apart_names (n ∷ ns) h e =
    ap (λ (b : Bool). if b then Some (n ∷ ns) else None) (apart_so (n ∷ ns) true e)

-- names of which two are equal are none
repeated : (ns : List (List ℕ)) → is_some (set_of text_order ns) ≡ false → if_apart ns ≡ None
repeated [] e = refl
repeated (n ∷ ns) e =
    ap (λ (b : Bool). if b then Some (n ∷ ns) else None) (apart_so (n ∷ ns) false e)

module _ (d : Data) (ds : Items) (ns : List (List ℕ)) (is : Some ds ≡ as_array d)
    (read : element_names ds ≡ Some ns) where
  -- the names of a member are those of its list
  listed : names_of_member d ≡ if_apart ns
  listed = ap (λ (o : Option Items). option_and_then if_apart (option_and_then element_names o)) (sym is)
      ∙ ap (option_and_then if_apart) read

  -- their paths
  pub listed_paths : (ps : List (List PathPart)) → 0 < length ns
      → is_some (set_of text_order ns) ≡ true → ps ≡ map attribute_path ns
      → option_map (map attribute_path) (names_of_member d) ≡ Some ps
  listed_paths ps some apart made = ap (option_map (map attribute_path)) (listed ∙ apart_names ns some apart)
      ∙ ap (λ (qs : List (List PathPart)). Some qs) (sym made)

  -- no member may stand twice
  pub listed_twice : is_some (set_of text_order ns) ≡ false → names_of_member d ≡ None
  listed_twice twice = listed ∙ repeated ns twice

-- a count that isn't 0
pub filled : (b : Bool) (n : ℕ) → b ≡ nat_eq n 0 → b ≡ false → 0 < n
filled b zero h e = absurd (cc)
filled b (suc n) h e = omega arith
