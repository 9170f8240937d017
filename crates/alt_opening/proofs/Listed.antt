-- The list of the tables and the map that it stands for: what a search found, and what a change there leaves.
use Rattle.std.proofs.Common.{◌≡◌, refl, true, false, cond, sym, ap, ◌∙◌, ℕ, zero, ◌+◌, ◌<◌, ◌≤◌, List, [], ◌∷◌, length, get_or, map, Option, Some, None, option_map, slice_get, MatchOption, Bor, All, take, drop, set, suc, arith}
use Rattle.std.proofs.lemmas.List.{get_or_default}
use Rattle.std.proofs.lemmas.List.Elements.{All-append, All-cons, All-head, All-tail, All-take, All-drop}
use Rattle.std.specs.List.{insert, remove, filter, HoldsAt}
use Rattle.std.specs.List.{find as find_first}
use Rattle.std.specs.List.Sorted.{IsPartitionPoint}
use Rattle.std.proofs.lemmas.Option.{slice_get_past, slice_get-get_or}
use Rattle.std.specs.declared.cmp.Ordering.TheVariants.{Less, Greater}
use Rattle.std.specs.Ordering.{is_lt}
use Rattle.std.specs.FinMap.{from_sorted, entries-from_sorted, get-from_sorted}
use Rattle.std.specs.FinMap as map
use Rattle.alt_machine.specs.Ops.ListTables.{names_after}
use Rattle.alt_machine.specs.State.{Texts}
use Rattle.alt_value.specs.Members.{text_order}
use Rattle.alt_opening.specs.Order.{first_after}
use Rattle.alt_schema.specs.declared.schema.TableSchema.{TableSchema}
use Rattle.alt_opening.proofs.Named.{entry, IsInOrder, Stands, Goes, stands, goes, find-stands, find-goes, put-stands, put-goes, where_key-stands, where_key-goes, after-stands, after-goes, next_stands, next_goes}
use Rattle.alt_opening.proofs.Sorted.{put-in_order, map-put, where_key-in_order, map-where_key}

-- ---- what holds of each of a list

module _ {X : Type 0} (P : X → Type 0) where
  -- holds with one more of which it holds
  pub All-insert : (xs : List X) (i : ℕ) (y : X) → All P xs → P y → All P (insert xs i y)
  All-insert xs i y all holds = All-append P (take i xs) (y ∷ drop i xs) (All-take P i xs all)
      (All-cons P y (drop i xs) holds (All-drop P i xs all))

  -- and with one less
  pub All-remove : (xs : List X) (i : ℕ) → All P xs → All P (remove xs i)
  All-remove xs i all = All-append P (take i xs) (drop (suc i) xs) (All-take P i xs all)
      (All-drop P (suc i) xs all)

  -- and with another at a place
  pub All-set : (xs : List X) (i : ℕ) (y : X) → All P xs → P y → All P (set xs i y)
  All-set [] i y all holds = all
  All-set (x ∷ xs) zero y all holds = All-cons P y xs holds (All-tail P x xs all)
  All-set (x ∷ xs) (suc i) y all holds = All-cons P x (set xs i y) (All-head P x xs all)
      (All-set xs i y (All-tail P x xs all) holds)

-- ---- descriptions in order

-- a description as it is
abbrev pub itself : TableSchema → TableSchema
itself d = d

-- the name of a description
abbrev pub name_of : TableSchema → List ℕ
name_of e = e.name

-- descriptions with their names
abbrev pub pairs : List TableSchema → List (List ℕ × TableSchema)
pairs es = map (entry name_of itself) es

-- their names rise
abbrev pub AreInOrder : List TableSchema → Type 0
AreInOrder es = IsInOrder name_of itself es

-- the map that they are
abbrev pub tables : List TableSchema → Texts TableSchema
tables es = from_sorted (pairs es)

-- a name is to go to this place
abbrev pub Parts : List ℕ → List TableSchema → ℕ → Type 0
Parts name es i = IsPartitionPoint (λ e. text_order (name_of e) name ≡ Less)
    (λ e. text_order (name_of e) name ≡ Greater) es i

-- the entry that a look-up in the list gave, as a table
pub table_at : (o : Option (Bor TableSchema)) (fs es : List TableSchema) (i : ℕ)
    → MatchOption o (length fs ≤ i) (λ x. (i < length fs) × HoldsAt (λ y. x.now ≡ y) fs i) → fs ≡ es
    → option_map (λ e. e.now) o ≡ option_map itself (slice_get es i)
table_at None fs es i past same = sym (ap (option_map itself)
    (ap (λ l. slice_get l i) (sym same) ∙ slice_get_past fs i past))
table_at (Some x) fs es i at same =
    sym (ap (option_map itself) (ap (λ l. slice_get l i) (sym same)
    ∙ slice_get-get_or fs i x.now at.0 ∙ ap Some (sym (at.1 x.now))))

-- its name
pub name_at : (o : Option (Bor TableSchema)) (fs es : List TableSchema) (i : ℕ)
    → MatchOption o (length fs ≤ i) (λ x. (i < length fs) × HoldsAt (λ y. x.now ≡ y) fs i) → fs ≡ es
    → option_map (λ e. e.now.name) o ≡ option_map name_of (slice_get es i)
name_at None fs es i past same = sym (ap (option_map name_of)
    (ap (λ l. slice_get l i) (sym same) ∙ slice_get_past fs i past))
name_at (Some x) fs es i at same =
    sym (ap (option_map name_of) (ap (λ l. slice_get l i) (sym same)
    ∙ slice_get-get_or fs i x.now at.0 ∙ ap Some (sym (at.1 x.now))))

-- the first of the names above one is that of the first entry above it
first_name : (name : List ℕ) (ps : List (List ℕ × TableSchema))
    → slice_get (filter (λ k. is_lt (text_order name k)) (map (λ p. p.0) ps)) 0
    ≡ option_map (λ p. p.0) (find_first (λ p. is_lt (text_order name p.0)) ps)
first_name name [] = refl
first_name name (p ∷ ps) = elim (is_lt (text_order name p.0)) as (λ b.
    slice_get (cond b (p.0 ∷ filter (λ k. is_lt (text_order name k)) (map (λ q. q.0) ps))
    (filter (λ k. is_lt (text_order name k)) (map (λ q. q.0) ps))) 0
    ≡ option_map (λ q. q.0) (cond b (Some p) (find_first (λ q. is_lt (text_order name q.0)) ps))) [
      | true ↦ refl
      | false ↦ first_name name ps
    ]

key_of : (o : Option TableSchema) → option_map (λ (p : List ℕ × TableSchema). p.0)
    (option_map (entry name_of itself) o) ≡ option_map name_of o
key_of None = refl
key_of (Some e) = refl

-- what stands at a place
one_there : (es : List TableSchema) (i : ℕ) → i < length es
    → (d : TableSchema) × (get_or es i d ≡ d)
one_there [] i within = absurd (omega arith)
one_there (e ∷ es) i within =
    (get_or (e ∷ es) i e, get_or_default (e ∷ es) i (get_or (e ∷ es) i e) e within)

-- what is there isn't missing
pub not_both : {X P : Type 0} (o : Option X) (x : X) → o ≡ Some x → o ≡ None → P
not_both o x some none = let e : Some x ≡ None = sym some ∙ none in cc

module _ (name : List ℕ) (es : List TableSchema) (i : ℕ) (sorted : AreInOrder es) where
  -- the first of the tables behind a name is the first whose name is greater
  first_of : slice_get (names_after name (tables es)) 0
      ≡ option_map (λ p. p.0) (find_first (λ p. is_lt (text_order name p.0)) (pairs es))
  first_of = ap (λ ps. slice_get (filter (λ k. is_lt (text_order name k)) (map (λ p. p.0) ps)) 0)
      (entries-from_sorted text_order (pairs es) sorted)
      ∙ first_name name (pairs es)

  -- where the name stands at the place
  module _ (within : i < length es) (same : HoldsAt (λ e. name_of e ≡ name) es i) where
    here : Stands name_of itself name es i
    here = stands name_of itself name es i sorted within same

    -- the map has it
    pub get-found : (d : TableSchema) → map.get (tables es) name ≡ Some (itself (get_or es i d))
    get-found d = get-from_sorted text_order (pairs es) name sorted
        ∙ find-stands name_of itself name es i d here

    -- the next table behind it
    pub after-found : first_after name (tables es) ≡ option_map itself (slice_get es (i + 1))
    after-found = ap (λ ps. option_map (λ p. p.1)
        (find_first (λ p. is_lt (text_order name p.0)) ps))
        (entries-from_sorted text_order (pairs es) sorted)
        ∙ after-stands name_of itself name es i sorted here

    -- and the name of that
    pub name-found : slice_get (names_after name (tables es)) 0
        ≡ option_map name_of (slice_get es (i + 1))
    name-found = first_of ∙ ap (option_map (λ p. p.0))
        (next_stands name_of itself name es i sorted here)
        ∙ key_of _ ∙ ap (λ k. option_map name_of (slice_get es k)) (omega arith)

    -- what is left without it
    pub removed : (fs : List TableSchema) → fs ≡ remove es i
        → AreInOrder fs × (tables fs ≡ map.remove (tables es) name)
    removed fs is =
        let left = where_key-stands name_of itself name es i sorted here ∙ ap pairs (sym is) in
        (where_key-in_order _ _ name sorted left, map-where_key _ _ name sorted left)

    -- what is there with another of that name in its place
    pub replaced : (fs : List TableSchema) (f : TableSchema) → fs ≡ set es i f → name_of f ≡ name
        → AreInOrder fs × (tables fs ≡ map.insert (tables es) name (itself f))
    replaced fs f is named =
        let new = put-stands name_of itself name es i f named here ∙ ap pairs (sym is) in
        (put-in_order _ _ name (itself f) sorted new, map-put _ _ name (itself f) sorted new)

    -- where its time to live is another, its description was there
    pub retimed : (fs : List TableSchema) (ttl : Option (List ℕ))
        → ((d : TableSchema) → fs ≡ set es i (record (get_or es i d) { ttl = ttl }))
        → (d : TableSchema) × (get_or es i d ≡ d) × (fs ≡ set es i (record d { ttl = ttl }))
    retimed fs ttl given =
        let (e, at) = one_there es i within in
        (e, at, given e ∙ ap (λ (x : TableSchema). set es i (record x { ttl = ttl })) at)

  -- where it is to go there
  module _ (within : i ≤ length es) (apart : Parts name es i) where
    there : Goes name_of itself name es i
    there = goes name_of itself name es i within apart

    -- the map hasn't it
    pub get-missed : map.get (tables es) name ≡ None
    get-missed = get-from_sorted text_order (pairs es) name sorted
        ∙ find-goes name_of itself name es i there

    -- the next table is the one at the place
    pub after-missed : first_after name (tables es) ≡ option_map itself (slice_get es i)
    after-missed = ap (λ ps. option_map (λ p. p.1)
        (find_first (λ p. is_lt (text_order name p.0)) ps))
        (entries-from_sorted text_order (pairs es) sorted)
        ∙ after-goes name_of itself name es i there

    -- and so is its name
    pub name-missed : slice_get (names_after name (tables es)) 0
        ≡ option_map name_of (slice_get es i)
    name-missed = first_of ∙ ap (option_map (λ p. p.0)) (next_goes name_of itself name es i there)
        ∙ key_of _

    -- nothing is left out
    pub remove-missed : tables es ≡ map.remove (tables es) name
    remove-missed = map-where_key _ _ name sorted (where_key-goes name_of itself name es i there)

    -- what is there with it
    pub added : (fs : List TableSchema) (f : TableSchema) → fs ≡ insert es i f → name_of f ≡ name
        → AreInOrder fs × (tables fs ≡ map.insert (tables es) name (itself f))
    added fs f is named =
        let new = put-goes name_of itself name es i f named there ∙ ap pairs (sym is) in
        (put-in_order _ _ name (itself f) sorted new, map-put _ _ name (itself f) sorted new)
