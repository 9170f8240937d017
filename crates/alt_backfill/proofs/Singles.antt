-- Of single changes at most one asks for an index that comes, or for one that goes.
use Rattle.std.proofs.Common.{◌≡◌, refl, ap, ◌∙◌, ◌≤◌, ◌+◌, Bool, true, false, cond, List, [], ◌∷◌, map, length, Option, Some, None, is_some, arith}
use Rattle.std.specs.Prelude.{◌&&◌, ◌||◌, ◌==◌, codes, option_and_then}
use Rattle.std.specs.List.{filter, flat_map, list_all}
use Rattle.std.specs.Option.{option_map_or}
use Rattle.std.proofs.lemmas.List.{length-append}
use Rattle.std.proofs.lemmas.Bool.{leb-true}
use Rattle.std.specs.Cmp.{first_so, second_so}
use Rattle.serde_json.specs.Data.{Data, Members}
use Rattle.serde_json.specs.Find.{as_object}
use Rattle.alt_backfill.specs.private.Asked.{first_of, names_index}
use Rattle.alt_machine.specs.Ops.UpdateTable.{acts, are_single, asked_at, asked_in, changes, is_one, changed_index_names_fit}
use Rattle.alt_schema.specs.Rules.{is_name}
use Rattle.alt_schema.specs.Stated.{at_most_one, index_in, text_of}
use Rattle.alt_shape.specs.Shape.{given}

-- at most one is at most one
one_at_most : (o : Option Members) → length (at_most_one o) ≤ 1
one_at_most None = omega arith
one_at_most (Some m) = omega arith

-- what one change asks
asks_once : (u : Members) (c n d : Option Data)
    → (length (cond (is_some c) (codes "Create" ∷ cond (is_some n) (codes "Update" ∷ cond (is_some d) (codes "Delete" ∷ []) []) (cond (is_some d) (codes "Delete" ∷ []) []))
    (cond (is_some n) (codes "Update" ∷ cond (is_some d) (codes "Delete" ∷ []) []) (cond (is_some d) (codes "Delete" ∷ []) []))) == 1) ≡ true
    → length (at_most_one (option_and_then as_object c)) + length (at_most_one (option_and_then as_object d))
    ≤ length (cond (is_some c || is_some d) (u ∷ []) [])
asks_once u None n None e = omega arith
asks_once u None n (Some d) e = omega (arith, one_at_most (as_object d))
asks_once u (Some c) n None e = omega (arith, one_at_most (as_object c))
asks_once u (Some c) None (Some d) e = absurd (let f : ⊥ = cc in f)
asks_once u (Some c) (Some n) (Some d) e = absurd (let f : ⊥ = cc in f)

-- no more is asked than there are changes that act
pub asks_few : (us : List Members) → list_all is_one us ≡ true
    → length (flat_map (asked_in (codes "Create")) us) + length (flat_map (asked_in (codes "Delete")) us)
    ≤ length (filter acts us)
asks_few [] e = omega arith
asks_few (u ∷ us) e =
    let here = asks_once u (given (codes "Create") u) (given (codes "Update") u) (given (codes "Delete") u)
    (first_so (is_one u) (list_all is_one us) e) in
    let rest = asks_few us (second_so (is_one u) (list_all is_one us) e) in
    let one : length (filter acts (u ∷ us)) ≡ length (filter acts (u ∷ [])) + length (filter acts us) =
    by (acts u) in
    omega (
      arith,
      one,
      here,
      rest,
      length-append (asked_in (codes "Create") u) (flat_map (asked_in (codes "Create")) us),
      length-append (asked_in (codes "Delete") u) (flat_map (asked_in (codes "Delete")) us),
    )
  where
    by : (b : Bool) → length (cond b (u ∷ filter acts us) (filter acts us))
        ≡ length (cond b (u ∷ []) []) + length (filter acts us)
    by true = omega arith
    by false = omega arith

module _ (ms : Members) (single : are_single ms ≡ true) where
  -- of single changes one asks at most
  pub asks_one : length (asked_at (codes "Create") ms) + length (asked_at (codes "Delete") ms) ≤ 1
  asks_one = omega (
    arith,
    asks_few (changes ms) (first_so (list_all is_one (changes ms)) _ single),
    leb-true (length (filter acts (changes ms))) 1
        (second_so (list_all is_one (changes ms)) _ single),
  )

  -- what holds of all of one at most holds of the first
  of_first : (p : Members → Bool) (xs : List Members) → length xs ≤ 1
      → option_map_or p (first_of xs) true ≡ list_all p xs
  of_first p [] few = refl
  of_first p (x ∷ []) few = by (p x)
    where
      by : (b : Bool) → b ≡ (b && true)
      by true = refl
      by false = refl
  of_first p (x ∷ y ∷ xs) few = absurd (omega arith)

  each_index : (xs : List Members) → list_all names_index xs
      ≡ list_all (λ i. is_name i.name) (map index_in xs)
  each_index [] = refl
  each_index (x ∷ xs) = ap (λ b. names_index x && b) (each_index xs)

  each_name : (xs : List Members) → list_all names_index xs
      ≡ list_all is_name (map (text_of (codes "IndexName")) xs)
  each_name [] = refl
  each_name (x ∷ xs) = ap (λ b. names_index x && b) (each_name xs)

  -- the first of them have good names where all have
  pub names_fit_so : (option_map_or names_index (first_of (asked_at (codes "Create") ms)) true
      && option_map_or names_index (first_of (asked_at (codes "Delete") ms)) true) ≡ changed_index_names_fit ms
  names_fit_so = λ i.
      (of_first names_index (asked_at (codes "Create") ms) (omega (arith, asks_one))
      ∙ each_index (asked_at (codes "Create") ms)) i
      && (of_first names_index (asked_at (codes "Delete") ms) (omega (arith, asks_one))
      ∙ each_name (asked_at (codes "Delete") ms)) i

  -- where an index comes, it is the only one, and none goes
  pub only_comes : (m : Members) → first_of (asked_at (codes "Create") ms) ≡ Some m
      → (asked_at (codes "Create") ms ≡ m ∷ []) × (asked_at (codes "Delete") ms ≡ [])
  only_comes m e = by (asked_at (codes "Create") ms) (asked_at (codes "Delete") ms) asks_one e
    where
      by : (xs ys : List Members) → length xs + length ys ≤ 1 → first_of xs ≡ Some m
          → (xs ≡ m ∷ []) × (ys ≡ [])
      by [] ys few first = absurd (let f : ⊥ = cc in f)
      by (x ∷ []) [] few first = (ap (λ y. y ∷ []) (let f : x ≡ m = cc in f), refl)
      by (x ∷ []) (y ∷ ys) few first = absurd (omega arith)
      by (x ∷ z ∷ xs) ys few first = absurd (omega arith)

  -- where one goes, it is the only one
  pub only_goes : (m : Members) → first_of (asked_at (codes "Delete") ms) ≡ Some m
      → asked_at (codes "Delete") ms ≡ m ∷ []
  only_goes m e = by (asked_at (codes "Create") ms) (asked_at (codes "Delete") ms) asks_one e
    where
      by : (xs ys : List Members) → length xs + length ys ≤ 1 → first_of ys ≡ Some m → ys ≡ m ∷ []
      by xs [] few first = absurd (let f : ⊥ = cc in f)
      by xs (y ∷ []) few first = ap (λ z. z ∷ []) (let f : y ≡ m = cc in f)
      by xs (y ∷ z ∷ ys) few first = absurd (omega arith)

-- where the first of several is none, there are none
pub none_first : {A : Type 0} (xs : List A) → first_of xs ≡ None → xs ≡ []
none_first [] e = refl
none_first (x ∷ xs) e = absurd (let f : ⊥ = cc in f)
