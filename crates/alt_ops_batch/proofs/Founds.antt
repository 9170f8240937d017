-- Steps over all members of a batch, one after another; and its members, table by table.
use Rattle.std.proofs.Common.{◌≡◌, ◌<◌, refl, sym, ap, ◌∙◌, ℕ, zero, suc, ◌+◌, ◌&&◌, Bool, true, false, nat_le, nat_lt, List, [], ◌∷◌, ◌++◌, map, length, drop, get_or, append_assoc, append-nil, Option, Some, None, Result, Ok, Err, add-one, arith}
use Rattle.std.specs.FinMap as finite
use Rattle.std.specs.List.{list_all}
use Rattle.std.proofs.lemmas.List.{length-append, length-map, map_push}
use Rattle.serde_json.specs.Data.{Data}
use Rattle.serde_json.specs.View.{view, items_view}
use Rattle.serde_json.specs.declared.value.Value.{Value}
use Rattle.alt_machine.specs.declared.BatchMember.{BatchMember}
use Rattle.alt_machine.specs.declared.PlacedMember.{PlacedMember}
use Rattle.alt_machine.specs.Batches.{array_elements, of_each, each_found, is_sized, at_place, placed_in, placed}
use Rattle.alt_machine.specs.Ops.BatchWriteItem.{is_one, of_member, of_members}
use Rattle.alt_machine.specs.Refusals.{first_answer, or_refused, unless_answer, ◌>>=◌}
use Rattle.alt_machine.specs.State.{Texts}
use Rattle.alt_machine.specs.Targets.{of_length, place_in}
use Rattle.alt_ops_batch.specs.private.Batches.{requested_write}
use Rattle.alt_request.specs.Steps.{Comes}
use Rattle.alt_request.specs.Targets.{place_that_fits}
use Rattle.alt_ops_batch.specs.declared.asked_writes.Request.{Request}
use Rattle.alt_request.specs.declared.stop.Stop.{Stop}
use Rattle.alt_request.specs.declared.stop.Stop.TheVariants.{Refused, Fault}
use Rattle.alt_request.proofs.Walks.{all_mapped}
use Rattle.alt_schema.specs.declared.schema.TableSchema.{TableSchema}
use Rattle.alt_shape.specs.Refusals.{Answer, refused, not_found, bad_key}

-- ---- what each step finds

-- what is found of the others, behind what was found
abbrev pub behind : {A B : Type 0} → (A → Result B Answer) → List B → List A
    → Result (List B) Answer
behind step done rest = each_found step rest >>= (λ ys. Ok (done ++ ys))

module _ {A B : Type 0} (step : A → Result B Answer) where
  -- with nothing found yet, all is found of the rest
  pub found_start : (xs : List A) → each_found step xs ≡ behind step [] xs
  found_start xs = by (each_found step xs)
    where
      by : (r : Result (List B) Answer) → r ≡ (r >>= (λ ys. Ok ([] ++ ys)))
      by (Ok ys) = refl
      by (Err a) = refl

  -- one more is found
  pub found_more : (done : List B) (x : A) (y : B) (rest : List A) → step x ≡ Ok y
      → behind step done (x ∷ rest) ≡ behind step (done ++ y ∷ []) rest
  found_more done x y rest e =
      ap (λ r. (r >>= (λ z. each_found step rest >>= (λ zs. Ok (z ∷ zs))))
      >>= (λ ys. Ok (done ++ ys))) e
      ∙ by (each_found step rest)
    where
      by : (r : Result (List B) Answer) → ((r >>= (λ zs. Ok (y ∷ zs))) >>= (λ ys. Ok (done ++ ys)))
          ≡ (r >>= (λ ys. Ok ((done ++ y ∷ []) ++ ys)))
      by (Ok ys) = ap (λ l. Ok l) (sym (append_assoc done (y ∷ []) ys))
      by (Err a) = refl

  -- one is refused
  pub found_stop : (done : List B) (x : A) (rest : List A) (a : Answer) → step x ≡ Err a
      → behind step done (x ∷ rest) ≡ Err a
  found_stop done x rest a e =
      ap (λ r. (r >>= (λ z. each_found step rest >>= (λ zs. Ok (z ∷ zs))))
      >>= (λ ys. Ok (done ++ ys))) e

  -- all are found
  pub found_end : (done : List B) → behind step done [] ≡ Ok done
  found_end done = ap (λ l. Ok l) (append-nil done)

pub ruleset founds = (found_start, found_more, found_stop, found_end)

-- one more is found of those that are left
pub one_more_found : {A B : Type 0} (step : A → Result B Answer) (r : Result (List B) Answer)
    (done next : List B) (left rest : List A) (x : A) (y : B) → r ≡ behind step done left
    → left ≡ x ∷ rest → next ≡ done ++ y ∷ [] → step x ≡ Ok y → r ≡ behind step next rest
one_more_found step r done next left rest x y so at more found =
    so ∙ ap (behind step done) at ∙ found_more step done x y rest found
    ∙ ap (λ ys. behind step ys rest) (sym more)

-- the same of what is read from those that were found
pub one_more_seen : {A B Y : Type 0} (step : A → Result B Answer) (of : Y → B)
    (r : Result (List B) Answer) (done next : List Y) (left rest : List A) (x : A) (y : Y)
    → r ≡ behind step (map of done) left → left ≡ x ∷ rest → next ≡ done ++ y ∷ []
    → step x ≡ Ok (of y) → r ≡ behind step (map of next) rest
one_more_seen step of r done next left rest x y so at more found =
    one_more_found step r (map of done) (map of next) left rest x (of y) so at
    (ap (map of) more ∙ map_push of done y) found

-- ---- the place of a member

module _ (catalog : Texts TableSchema) (m : BatchMember) (d : TableSchema)
    (there : or_refused not_found (finite.get catalog m.table) ≡ Ok d) where
  placed_so : placed catalog m ≡ placed_in d m
  placed_so = ap (λ r. r >>= (λ x. placed_in x m)) there

  -- a member that has no place, or whose key is too long, is refused
  pub unplaced : (stop : Stop)
      → Comes {X = List ℕ} (λ b. b) (place_that_fits m.sought d m.item) (Err stop)
      → Comes {X = PlacedMember} (λ p. p) (placed catalog m) (Err stop)
  unplaced (Refused r) h = (
    placed_so ∙ by (or_refused bad_key (place_in m.sought d m.item))
        (first_answer (of_length d m.item)) h.0,
    h.1,
  )
    where
      by : (q : Result (List ℕ) Answer) (o : Option Answer)
          → q >>= (λ place. unless_answer o place) ≡ Err (refused r)
          → q >>= (λ place. unless_answer o (at_place m place)) ≡ Err (refused r)
      by (Err b) o e = ap (λ a. Err a) (let same : b ≡ refused r = cc in same)
      by (Ok place) None e = absurd (let f : ⊥ = cc in f)
      by (Ok place) (Some b) e = ap (λ a. Err a) (let same : b ≡ refused r = cc in same)
  unplaced (Fault f) h = h

-- ---- how many members there are

-- there are as many as in the first table and in the others
pub of_each_length : (inside : Data → List Data) (t : List ℕ × Data) (ts : List (List ℕ × Data))
    → length (of_each inside (t ∷ ts)) ≡ length (inside t.1) + length (of_each inside ts)
of_each_length inside t ts = length-append (map (λ d. (t.0, d)) (inside t.1)) (of_each inside ts)
    ∙ ap (λ n. n + length (of_each inside ts)) (length-map (inside t.1) (λ d. (t.0, d)))

-- more than there may be
pub too_many : (most count : ℕ) → most < count → is_sized most count ≡ false
too_many most count h = by (nat_le 1 count) (nat_le count most) (above most count h)
  where
    above : (m n : ℕ) → m < n → nat_le n m ≡ false
    above m n k = grind (arith, k)

    by : (a b : Bool) → b ≡ false → (a && b) ≡ false
    by true b e = e
    by false b e = refl

-- as many as the room that isn't left
pub sized_by_room : (most count room : ℕ) → count + room ≡ most
    → is_sized most count ≡ nat_lt room most
sized_by_room most count room e = grind (arith, e)

-- ---- tests of each member

-- behind tests that don't apply the others tell
both_tests : (a b : List (Option Answer)) → first_answer a ≡ None
    → first_answer (a ++ b) ≡ first_answer b
both_tests [] b e = refl
both_tests (None ∷ a) b e = both_tests a b e
both_tests (Some x ∷ a) b e = absurd (let f : ⊥ = cc in f)

-- and the first that applies does so whatever stands behind
first_test : (a b : List (Option Answer)) (x : Answer) → first_answer a ≡ Some x
    → first_answer (a ++ b) ≡ Some x
first_test [] b x e = absurd (let f : ⊥ = cc in f)
first_test (None ∷ a) b x e = first_test a b x e
first_test (Some y ∷ a) b x e = e

module _ (catalog : Texts TableSchema) where
  -- where the member at a place isn't refused, those from there on are refused as those behind it
  taken_on_suc : (ms : List PlacedMember) (i : ℕ) (m : PlacedMember) → i < length ms
      → first_answer (of_member catalog (get_or ms i m)) ≡ None
      → first_answer (of_members catalog (drop i ms))
      ≡ first_answer (of_members catalog (drop (suc i) ms))
  taken_on_suc [] i m h e = absurd (omega arith)
  taken_on_suc (x ∷ xs) zero m h e = both_tests (of_member catalog x) (of_members catalog xs) e
  taken_on_suc (x ∷ xs) (suc i) m h e = taken_on_suc xs i m (omega arith) e

  -- the same, with the next place counted by + 1
  pub taken_on : (ms : List PlacedMember) (i : ℕ) (m : PlacedMember) → i < length ms
      → first_answer (of_member catalog (get_or ms i m)) ≡ None
      → first_answer (of_members catalog (drop i ms))
      ≡ first_answer (of_members catalog (drop (i + 1) ms))
  taken_on ms i m h e = rw add-one (taken_on_suc ms i m h e)

  -- where it is refused, so are those from there on, for the same
  pub refused_at : (ms : List PlacedMember) (i : ℕ) (m : PlacedMember) (a : Answer) → i < length ms
      → first_answer (of_member catalog (get_or ms i m)) ≡ Some a
      → first_answer (of_members catalog (drop i ms)) ≡ Some a
  refused_at [] i m a h e = absurd (omega arith)
  refused_at (x ∷ xs) zero m a h e = first_test (of_member catalog x) (of_members catalog xs) a e
  refused_at (x ∷ xs) (suc i) m a h e = refused_at xs i m a (omega arith) e

-- ---- the elements of an array

-- an array has as many elements as values
pub elements_length : (vs : List Value) → length (array_elements (items_view vs)) ≡ length vs
elements_length [] = refl
elements_length (v ∷ vs) = ap suc (elements_length vs)

-- from a place on
elements_from_suc : (vs : List Value) (i : ℕ) (v : Value) → i < length vs
    → array_elements (items_view (drop i vs)) ≡ view (get_or vs i v) ∷ array_elements
    (items_view (drop (suc i) vs))
elements_from_suc [] i v h = absurd (omega arith)
elements_from_suc (x ∷ xs) zero v h = refl
elements_from_suc (x ∷ xs) (suc i) v h = elements_from_suc xs i v (omega arith)

-- the same, with the next place counted by + 1
pub elements_from : (vs : List Value) (i : ℕ) (v : Value) → i < length vs
    → array_elements (items_view (drop i vs)) ≡ view (get_or vs i v) ∷ array_elements
    (items_view (drop (i + 1) vs))
elements_from vs i v h = rw add-one (elements_from_suc vs i v h)

-- each write is one put or one delete
pub all_one : (rs : List Request) → list_all (λ r. is_one (view r.value.now)) rs
    ≡ list_all (λ r. is_one r.1) (map requested_write rs)
all_one rs = all_mapped requested_write (λ r. is_one r.1) rs
