-- The families of a new description are a row of numbers, and the first of them is the table's.
use Rattle.std.proofs.Common.{◌≡◌, ◌≢◌, refl, ap, subst, ◌∙◌, ℕ, zero, suc, ◌+◌, ◌<◌, ◌≤◌, List, [], ◌∷◌, ◌++◌, length, Option, Some, None, option_map, slice_index_or, arith, All, AllPairs, Contains}
use Rattle.std.specs.Option.{option_map_or}
use Rattle.std.proofs.lemmas.List.{length-append}
use Rattle.alt_schema.specs.Described.{IsNew, from_on}
use Rattle.alt_schema.specs.Indexes.{indexes}
use Rattle.alt_schema.specs.declared.schema.TableSchema.{TableSchema}
use Rattle.alt_machine.specs.State.{families_of}

-- so many numbers that rise by one
row : ℕ → ℕ → List ℕ
row f zero = []
row f (suc n) = f ∷ row (suc f) n

-- it has as many as that
length-row : (f n : ℕ) → length (row f n) ≡ n
unfolding row
length-row f zero = refl
length-row f (suc n) = ap suc (length-row (suc f) n)

-- the number at a place of a row
row-at : (f n i x : ℕ) → i < n → slice_index_or (row f n) i x ≡ f + i
unfolding row
row-at f zero i x within = absurd (omega arith)
row-at f (suc n) zero x within = omega arith
row-at f (suc n) (suc i) x within = omega (arith, row-at (suc f) n i x (omega arith))

-- numbers that rise by one over a list are a row of the list's length
from_on-row : {A : Type 0} (f : ℕ) (xs : List A) → from_on f xs ≡ row f (length xs)
unfolding row
from_on-row f [] = refl
from_on-row f (x ∷ xs) = ap (λ rest. f ∷ rest) (from_on-row (suc f) xs)

-- a row and the one that goes on where it ends are one
row-append : (f n k : ℕ) → row f n ++ row (f + n) k ≡ row f (n + k)
unfolding row
row-append f zero k = rw (zero_left k, add_nothing f) refl
  where
    zero_left : (m : ℕ) → 0 + m ≡ m
    zero_left m = omega arith

    add_nothing : (m : ℕ) → m + 0 ≡ m
    add_nothing m = omega arith
row-append f (suc n) k = let later : f + suc n ≡ suc f + n = omega arith in
    let more : suc (n + k) ≡ suc n + k = omega arith in
    ap (λ rest. f ∷ rest) (ap (λ m. row (suc f) n ++ row m k) later ∙ row-append (suc f) n k)
    ∙ ap (λ m. row f m) more

-- the row of a stream: one number, or none
stream_row : {V : Type 0} (f : ℕ) (view : Option V) (stream : Option ℕ)
    → stream ≡ option_map (λ v. f) view
    → option_map_or (λ g. g ∷ []) stream [] ≡ row f (option_map_or (λ v. 1) view 0)
unfolding row
stream_row f None stream e = ap (λ s. option_map_or (λ g. g ∷ []) s []) e
stream_row f (Some v) stream e = ap (λ s. option_map_or (λ g. g ∷ []) s []) e

-- a stream takes one family at most
one_stream : {V : Type 0} (v : Option V) → option_map_or (λ _. 1) v 0 ≤ 1
one_stream None = omega arith
one_stream (Some w) = omega arith

-- as many as a description takes
count : TableSchema → ℕ
count d = suc (length (indexes d) + option_map_or (λ v. 1) d.view 0)

module _ (d : TableSchema) (new : IsNew d) where
  -- the families of a new description are a row from the table's on
  is_row : families_of d ≡ row d.family (count d)
  unfolding row count
  is_row = ap (λ rest. d.family ∷ rest) (
      (λ i. new.families i ++ stream_row (d.family + 1 + length (indexes d)) d.view d.stream_family
      new.stream_family i)
      ∙ ap (λ front. front ++ row (d.family + 1 + length (indexes d))
      (option_map_or (λ v. 1) d.view 0)) (from_on-row (d.family + 1) (indexes d))
      ∙ row-append (d.family + 1) (length (indexes d)) (option_map_or (λ v. 1) d.view 0)
      ∙ ap (λ f. row f (length (indexes d) + option_map_or (λ v. 1) d.view 0)) (omega arith))

  -- and as many as it takes
  how_many : length (families_of d) ≡ count d
  how_many = ap length is_row ∙ length-row d.family (count d)

  -- 27 at most
  pub families_few : length (families_of d) ≤ 27
  unfolding count
  families_few = omega (
    arith,
    how_many,
    length-append d.locals d.globals,
    new.locals,
    new.globals,
    one_stream d.view,
  )

  -- the one at a place is the table's, and as much more
  at_place : (i x : ℕ) → i < length (families_of d)
      → slice_index_or (families_of d) i x ≡ d.family + i
  at_place i x within = ap (λ fs. slice_index_or fs i x) is_row
      ∙ row-at d.family (count d) i x (omega (arith, how_many))

  -- each is one of as many from the table's on
  pub families_within : All (λ f. (d.family ≤ f) × (f < d.family + length (families_of d)))
      (families_of d)
  families_within i x within = (
    omega (arith, at_place i x within),
    omega (arith, at_place i x within),
  )

  -- no two of them are the same
  pub families_differ : AllPairs (λ f g. f ≢ g) (families_of d)
  families_differ i j x before within e = omega
      (arith, at_place i x (omega arith), at_place j x within, e)

-- what holds of each element holds of one of them
pub of_contained : {A : Type 0} (P : A → Type 0) (xs : List A) (x : A) → All P xs → Contains xs x
    → P x
of_contained P xs x all (k, within, is) = subst P is (all k x within)
