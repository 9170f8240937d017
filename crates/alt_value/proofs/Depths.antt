-- What stands in a list or an item is no deeper than it.
use Rattle.std.proofs.Common.{◌≡◌, ℕ, zero, suc, ◌≤◌, List, [], ◌∷◌, Some, arith, ap}
use Rattle.std.specs.Prelude.{slice_get}
use Rattle.alt_value.specs.Size.{depth, elements_depth, fields_depth}
use Rattle.alt_value.specs.Tree.{Tree, Pair, trees_of, fields_of}

-- an element is no deeper than its list without the outermost level
pub element_depth : (ts : List Tree) (i : ℕ) (t : Tree) → Some t ≡ slice_get ts i
    → depth t ≤ elements_depth (trees_of ts)
element_depth [] i t e = absurd (let f : ⊥ = cc in f)
element_depth (u ∷ ts) zero t e = let f : t ≡ u = cc in omega (arith, ap depth f)
element_depth (u ∷ ts) (suc i) t e = omega (arith, element_depth ts i t e)

-- nor is a value than its item
pub value_depth : (ps : List Pair) (i : ℕ) (p : Pair) → Some p ≡ slice_get ps i
    → depth p.1 ≤ fields_depth (fields_of ps)
value_depth [] i p e = absurd (let f : ⊥ = cc in f)
value_depth (q ∷ ps) zero p e = let f : p ≡ q = cc in omega (arith, ap (λ (r : Pair). depth r.1) f)
value_depth (q ∷ ps) (suc i) p e = omega (arith, value_depth ps i p e)
