-- What a list or a map holds is less deep than it.
use Rattle.std.specs.Prelude.{◌≤◌, max, List, [], ◌∷◌, map}
use Rattle.std.proofs.Common.{arith}
use denote.Param.Weighed.{most}
use Rattle.alt_value.specs.declared.attr.Attr.{Attr}
use Rattle.alt_value.specs.declared.attr.Pair.{Pair}
use Rattle.alt_value.specs.declared.attr.Attr.TheVariants.{S, N, B, Bool, Null, Ss, Ns, Bs, L, M}
use Rattle.alt_value.specs.declared.attr.AttrList.TheDeep.{deep-Attr, deep-Pair}
use Rattle.alt_value.specs.Size.{depth, elements_depth, fields_depth}
use Rattle.alt_value.specs.Tree.{trees_of, fields_of}
use Rattle.alt_value.specs.Stands.{tree_of, pair_of}

-- a value is stored no deeper than its tree is
deep-le-depth : (a : Attr) → deep-Attr a ≤ depth (tree_of a)
deep-le-depth (S s) = omega arith
deep-le-depth (N z) = omega arith
deep-le-depth (B b) = omega arith
deep-le-depth (Bool b) = omega arith
deep-le-depth Null = omega arith
deep-le-depth (Ss ss) = omega arith
deep-le-depth (Ns ss) = omega arith
deep-le-depth (Bs ss) = omega arith
deep-le-depth (L ts) = omega arith
deep-le-depth (M ps) = omega arith

-- nor are the elements of a list
pub elements_fall : (xs : List Attr) → max (most (λ x. deep-Attr x) xs) 0 ≤ elements_depth
    (trees_of (map tree_of xs))
elements_fall [] = omega arith
elements_fall (x ∷ xs) = omega (arith, deep-le-depth x, elements_fall xs)

-- nor are the values of an item
pub fields_fall : (ps : List Pair) → max (most (λ p. deep-Pair p) ps) 0 ≤ fields_depth
    (fields_of (map pair_of ps))
fields_fall [] = omega arith
fields_fall (p ∷ ps) = omega (arith, deep-le-depth p.value, fields_fall ps)
