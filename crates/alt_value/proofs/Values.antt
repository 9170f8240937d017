-- What changes a value leaves a value: an element more, a pair more or another, a pair less.
use Rattle.std.proofs.Common.{sym, subst, ℕ, suc, ◌<◌, ◌≤◌, Bool, true, false, not, cond, List, [], ◌∷◌, ◌++◌, length, arith}
use Rattle.std.specs.declared.cmp.Ordering.TheVariants.{Less, Equal, Greater}
use Rattle.std.specs.Ordering.{eq_by_cmp}
use Rattle.std.specs.FinMap.Entries.{by_order, where_key}
use Rattle.alt_fields.specs.Bytes.{IsShort}
use Rattle.alt_value.specs.Item.{IsItem, with_pair, without}
use Rattle.alt_value.specs.Members.{text_order}
use Rattle.alt_value.specs.Tree.{Tree, L_tree, M_tree, Pair, trees_of, fields_of}
use Rattle.alt_value.specs.Values.{IsText, IsValue, AreValues, AreFields, IsListOfValues, IsItemOfValues}
use Rattle.alt_value.proofs.Entries.{IsItem-with_pair, IsItem-without}
use Rattle.alt_value.proofs.Trees.{elements-trees_of, pairs-fields_of}

-- a value behind others
AreValues-push : (ts : List Tree) (t : Tree) → AreValues (trees_of ts) → IsValue t
    → AreValues (trees_of (ts ++ t ∷ []))
AreValues-push [] t h v = (v, tt)
AreValues-push (u ∷ us) t h v = (h.0, AreValues-push us t h.1 v)

-- a list of values with one more, where it isn't too long
pub IsListOfValues-push : (ts : List Tree) (t : Tree) → IsListOfValues ts → IsValue t
    → IsShort (ts ++ t ∷ [])
    → IsListOfValues (ts ++ t ∷ [])
IsListOfValues-push ts t h v short = (AreValues-push ts t h.0 v, short)

-- pairs of values, with one put in
AreFields-with_pair : (name : List ℕ) (t : Tree) (ps : List Pair) → IsText name → IsValue t
    → AreFields (fields_of ps)
    → AreFields (fields_of (with_pair name t ps))
AreFields-with_pair name t [] n v h = (n, v, tt)
AreFields-with_pair name t (q ∷ qs) n v h =
    elim (text_order name q.0) as (λ o. AreFields
    (fields_of (by_order o ((name, t) ∷ q ∷ qs) ((q.0, t) ∷ qs) (q ∷ with_pair name t qs)))) [
      | Less ↦ (n, v, h)
      | Equal ↦ (h.0, v, h.2)
      | Greater ↦ (h.0, h.1, AreFields-with_pair name t qs n v h.2)
    ]

-- an item with that value at a text that isn't empty, where it isn't too long
pub IsItemOfValues-with_pair : (name : List ℕ) (t : Tree) (ps : List Pair) → 0 < length name
    → IsText name → IsValue t
    → IsShort (with_pair name t ps) → IsItemOfValues ps → IsItemOfValues (with_pair name t ps)
IsItemOfValues-with_pair name t ps some n v short h = record {
  names = IsItem-with_pair name t ps some h.names;
  fields = AreFields-with_pair name t ps n v h.fields;
  count = short;
}

-- those of them whose names pass a test, which are no more
AreFields-where : (p : List ℕ → Bool) (qs : List Pair) → AreFields (fields_of qs)
    → AreFields (fields_of (where_key text_order p qs))
AreFields-where p [] h = tt
AreFields-where p (q ∷ qs) h =
    elim (p q.0) as (λ b. AreFields (fields_of
    (cond b (q ∷ where_key text_order p qs) (where_key text_order p qs)))) [
      | true ↦ (h.0, h.1, AreFields-where p qs h.2)
      | false ↦ AreFields-where p qs h.2
    ]

fewer-where : (p : List ℕ → Bool) (qs : List Pair) → length (where_key text_order p qs) ≤ length qs
fewer-where p [] = omega arith
fewer-where p (q ∷ qs) =
    elim (p q.0) as (λ b. length (cond b (q ∷ where_key text_order p qs)
    (where_key text_order p qs)) ≤ suc (length qs)) [
      | true ↦ omega (arith, fewer-where p qs)
      | false ↦ omega (arith, fewer-where p qs)
    ]

-- an item without a name
pub IsItemOfValues-without : (name : List ℕ) (ps : List Pair) → IsItemOfValues ps
    → IsItemOfValues (without name ps)
IsItemOfValues-without name ps h = record {
  names = IsItem-without name ps h.names;
  fields = AreFields-where (λ other. not (eq_by_cmp text_order name other)) ps h.fields;
  count = let few : length (without name ps) ≤ length ps =
      fewer-where (λ other. not (eq_by_cmp text_order name other)) ps in
      omega (arith, few, h.count);
}

-- the list of values, and the map of an item's pairs, is a value
pub IsValue-list : (ts : List Tree) → IsListOfValues ts → IsValue (L_tree (trees_of ts))
IsValue-list ts h = (h.0, subst IsShort (sym (elements-trees_of ts)) h.1)

-- so is the map of an item's pairs
pub IsValue-map : (ps : List Pair) → IsItemOfValues ps → IsValue (M_tree (fields_of ps))
IsValue-map ps h = (
  subst IsItem (sym (pairs-fields_of ps)) h.names,
  h.fields,
  subst IsShort (sym (pairs-fields_of ps)) h.count,
)
