-- Expired items in the order of their places: they rise, and each place at which an item has expired is one of them.
use Rattle.std.proofs.Common.{◌≡◌, refl, sym, ap, subst, ◌∙◌, cond, ℕ, Bool, true, false, T, List, [], ◌∷◌, ◌++◌, ◌⊎◌, inl, inr, map, Option, Some, None, All}
use Rattle.std.specs.FinMap as finite
use Rattle.std.specs.FinMap.Entries.{below_all, find, is_sorted}
use Rattle.std.specs.List.{filter, flat_map}
use Rattle.std.specs.Option.{option_map_or}
use Rattle.std.specs.Cmp.{tied_itself}
use Rattle.std.specs.Ordering.{eq_by_cmp, is_lt, ordering_reverse, ordering_then}
use Rattle.std.specs.declared.cmp.Ordering.{Ordering}
use Rattle.std.specs.declared.cmp.Ordering.TheVariants.{Less, Equal, Greater}
use Rattle.std.proofs.lemmas.List.Elements.{All-head, All-tail}
use Rattle.std.proofs.lemmas.Option.{same_Some}
use Rattle.alt_base.proofs.Bools.{first_holds as first, holds_true, second_holds}
use Rattle.alt_base.proofs.Orderings.{then-equal_both, is_lt-true}
use Rattle.alt_cells.proofs.CellLaws.{key_exact, key_total}
use Rattle.alt_cells.proofs.SameKeys.{one_key}
use Rattle.alt_due.specs.Order.{spot_cmp, spot_of, spot_total}
use Rattle.alt_due.specs.declared.spot.Spot.{Spot}
use Rattle.alt_machine.specs.declared.Standing.{Standing}
use Rattle.alt_machine.specs.Expiry.{all_expired, expired_in, is_expired}
use Rattle.alt_machine.specs.State.{State, Table}
use Rattle.alt_request.specs.TablesSeveral.{Every}
use Rattle.alt_request.proofs.TablesEach.{every_weaker}
use Rattle.alt_ttl.specs.private.Foresight.{is_over_at, spot_at}
use Rattle.alt_ttl.proofs.Founds.{every_both}
use Rattle.alt_ttl.proofs.Searching.{each_found}
use Rattle.alt_value.specs.Members.{text_order}
use Rattle.alt_value.specs.Tree.{Pair}

-- ---- the order of places

-- one is before another
abbrev pub is_less : Spot → Spot → Bool
is_less x y = is_lt (spot_cmp x y)

pub less_trans : (x y z : Spot) → is_less x y ≡ true → is_less y z ≡ true → is_less x z ≡ true
less_trans x y z first then = ap is_lt (spot_total.trans x y z (is_lt-true (spot_cmp x y) first)
    (is_lt-true (spot_cmp y z) then))

-- places that tie are one
pub same_spot : (x y : Spot) → spot_cmp x y ≡ Equal → x ≡ y
same_spot x y e =
    let parts = then-equal_both (text_order x.table y.table) (text_order x.place y.place) e in
    λ i. record {
      table = key_exact x.table y.table parts.0 i;
      place = key_exact x.place y.place parts.1 i;
    }

-- how two places lie
pub data Lies (x y : Spot) : Type 0 where
  lies_before : is_less x y ≡ true → is_less y x ≡ false → Lies x y
  lies_there : x ≡ y → Lies x y
  lies_behind : is_less y x ≡ true → Lies x y

pub lies : (x y : Spot) → Lies x y
lies x y = by (spot_cmp x y) refl (spot_total.antisymm y x)
  where
    by : (o : Ordering) → spot_cmp x y ≡ o → spot_cmp y x ≡ ordering_reverse (spot_cmp x y) → Lies x y
    by Less e turned = lies_before (ap is_lt e) (ap is_lt (turned ∙ ap ordering_reverse e))
    by Equal e turned = lies_there (same_spot x y e)
    by Greater e turned = lies_behind (ap is_lt (turned ∙ ap ordering_reverse e))

-- none is before itself
pub not_itself : (x : Spot) → is_less x x ≡ false
not_itself x = ap is_lt (tied_itself spot_total x)

-- ---- lists in order

-- one stands before another
abbrev pub Before : Standing → Standing → Type 0
Before e f = is_less (spot_at e) (spot_at f) ≡ true

-- each stands before those behind it
abbrev pub Rise : List Standing → Type 0
Rise [] = Unit {0}
Rise (e ∷ es) = Every (Before e) es × Rise es

-- a list behind another one
rise_both : (xs ys : List Standing) → Rise xs → Rise ys → Every (λ x. Every (Before x) ys) xs
    → Rise (xs ++ ys)
rise_both [] ys rx ry cross = ry
rise_both (x ∷ xs) ys rx ry cross =
    (every_both (Before x) xs ys rx.0 cross.0, rise_both xs ys rx.1 ry cross.1)

-- an item with its place
abbrev Entry : Type 0
Entry = List ℕ × List Pair

-- where one stands in a table of a name
abbrev at : List ℕ → Entry → Standing
at name e = record { table = name; place = e.0 }

-- in one table they lie as their places
at_less : (name k q : List ℕ) → is_lt (text_order k q) ≡ true
    → is_less (spot_of name k) (spot_of name q) ≡ true
at_less name k q less =
    ap (λ o. is_lt (ordering_then o (text_order k q))) (tied_itself key_total name) ∙ less

-- and in two as their names
table_less : (x y : Spot) → is_lt (text_order x.table y.table) ≡ true → is_less x y ≡ true
table_less x y less = ap (λ o. is_lt (ordering_then o (text_order x.place y.place)))
    (is_lt-true (text_order x.table y.table) less)

module _ (name : List ℕ) (p : Entry → Bool) where
  -- those of a table that pass a test
  abbrev passing : List Entry → List Standing
  passing es = map (at name) (filter p es)

  below_items : (k : List ℕ) (i : List Pair) (es : List Entry) → T (below_all text_order k es)
      → Every (Before (at name (k, i))) (passing es)
  below_items k i [] low = tt
  below_items k i (e ∷ es) low = by (p e)
      (at_less name k e.0
      (holds_true _ (first (is_lt (text_order k e.0)) (below_all text_order k es) low)))
      (below_items k i es (second_holds (is_lt (text_order k e.0)) (below_all text_order k es) low))
    where
      by : (b : Bool) → Before (at name (k, i)) (at name e)
          → Every (Before (at name (k, i))) (passing es)
          → Every (Before (at name (k, i))) (map (at name) (cond b (e ∷ filter p es) (filter p es)))
      by true here rest = (here, rest)
      by false here rest = rest

  rise_items : (es : List Entry) → T (is_sorted text_order es) → Rise (passing es)
  rise_items [] sorted = tt
  rise_items (e ∷ es) sorted = by (p e)
      (below_items e.0 e.1 es (first (below_all text_order e.0 es) (is_sorted text_order es) sorted))
      (rise_items es (second_holds (below_all text_order e.0 es) (is_sorted text_order es) sorted))
    where
      by : (b : Bool) → Every (Before (at name e)) (passing es) → Rise (passing es)
          → Rise (map (at name) (cond b (e ∷ filter p es) (filter p es)))
      by true low rest = (low, rest)
      by false low rest = rest

  -- what holds of each that passes
  pub every_passing : (P : Standing → Type 0) (es : List Entry)
      → All (λ (e : Entry). p e ≡ true → P (at name e)) es → Every P (passing es)
  every_passing P [] all = tt
  every_passing P (e ∷ es) all = by (p e) refl
      (every_passing P es (All-tail (λ (x : Entry). p x ≡ true → P (at name x)) e es all))
    where
      by : (b : Bool) → p e ≡ b → Every P (passing es)
          → Every P (map (at name) (cond b (e ∷ filter p es) (filter p es)))
      by true passes rest =
          (All-head (λ (x : Entry). p x ≡ true → P (at name x)) e es all passes, rest)
      by false passes rest = rest

  -- of all that pass by their name alone
  pub every_named : (P : Standing → Type 0) → ((e : Entry) → P (at name e)) → (es : List Entry)
      → Every P (passing es)
  every_named P of [] = tt
  every_named P of (e ∷ es) = by (p e) (every_named P of es)
    where
      by : (b : Bool) → Every P (passing es)
          → Every P (map (at name) (cond b (e ∷ filter p es) (filter p es)))
      by true rest = (of e, rest)
      by false rest = rest

-- ---- those of all tables

-- those of some tables
abbrev expired_among : ℕ → List (List ℕ × Table) → List Standing
expired_among moment es = flat_map (λ e. expired_in moment e.0 e.1) es

-- they are in tables behind a name that is below theirs
above_name : (moment : ℕ) (k : List ℕ) (es : List (List ℕ × Table)) → T (below_all text_order k es)
    → Every (λ (y : Standing). is_lt (text_order k y.table) ≡ true) (expired_among moment es)
above_name moment k [] low = tt
above_name moment k (e ∷ es) low = every_both
    (λ (y : Standing). is_lt (text_order k y.table) ≡ true) (expired_in moment e.0 e.1)
    (expired_among moment es)
    (every_named e.0 (λ x. is_expired e.1.description moment x.1)
    (λ (y : Standing). is_lt (text_order k y.table) ≡ true)
    (λ x. holds_true _ (first (is_lt (text_order k e.0)) (below_all text_order k es) low))
    (finite.entries e.1.items))
    (above_name moment k es
    (second_holds (is_lt (text_order k e.0)) (below_all text_order k es) low))

rise_tables : (moment : ℕ) (es : List (List ℕ × Table)) → T (is_sorted text_order es)
    → Rise (expired_among moment es)
rise_tables moment [] sorted = tt
rise_tables moment (e ∷ es) sorted = rise_both (expired_in moment e.0 e.1)
    (expired_among moment es)
    (rise_items e.0 (λ x. is_expired e.1.description moment x.1) (finite.entries e.1.items)
    (finite.entries_sorted e.1.items))
    (rise_tables moment es
    (second_holds (below_all text_order e.0 es) (is_sorted text_order es) sorted))
    (every_named e.0 (λ x. is_expired e.1.description moment x.1)
    (λ x. Every (Before x) (expired_among moment es))
    (λ x. every_weaker (λ (y : Standing). is_lt (text_order e.0 y.table) ≡ true) (Before (at e.0 x))
    (λ y less. table_less (spot_of e.0 x.0) (spot_at y) less) (expired_among moment es)
    (above_name moment e.0 es
    (first (below_all text_order e.0 es) (is_sorted text_order es) sorted)))
    (finite.entries e.1.items))

-- they rise
pub rise_all : (s : State) (moment : ℕ) → Rise (all_expired s moment)
rise_all s moment = rise_tables moment (finite.entries s.tables) (finite.entries_sorted s.tables)

-- ---- which they are

-- what stands there has expired
over_here : (s : State) (moment : ℕ) (name place : List ℕ) (t : Table) (item : List Pair)
    → finite.get s.tables name ≡ Some t → finite.get t.items place ≡ Some item
    → is_over_at s moment (spot_of name place) ≡ is_expired t.description moment item
over_here s moment name place t item at_t at_i =
    ap (λ o. option_map_or (λ (u : Table). option_map_or (is_expired u.description moment)
    (finite.get u.items place) false) o false) at_t
    ∙ ap (λ o. option_map_or (is_expired t.description moment) o false) at_i

-- of each of them
pub every_over : (s : State) (moment : ℕ)
    → Every (λ e. is_over_at s moment (spot_at e) ≡ true) (all_expired s moment)
every_over s moment = by (finite.entries s.tables)
    (each_found (λ e. finite.get s.tables e.0 ≡ Some e.1) (finite.entries s.tables)
    (finite.entries_sorted s.tables) (λ name t at. finite.get-entries s.tables name ∙ at))
  where
    by : (es : List (List ℕ × Table)) → All (λ e. finite.get s.tables e.0 ≡ Some e.1) es
        → Every (λ e. is_over_at s moment (spot_at e) ≡ true) (expired_among moment es)
    by [] all = tt
    by (e ∷ es) all = every_both (λ e. is_over_at s moment (spot_at e) ≡ true)
        (expired_in moment e.0 e.1) (expired_among moment es)
        (every_passing e.0 (λ x. is_expired e.1.description moment x.1)
        (λ e. is_over_at s moment (spot_at e) ≡ true) (finite.entries e.1.items)
        (each_found (λ x. is_expired e.1.description moment x.1 ≡ true
        → is_over_at s moment (spot_of e.0 x.0) ≡ true) (finite.entries e.1.items)
        (finite.entries_sorted e.1.items) (λ place item at over.
        over_here s moment e.0 place e.1 item
        (All-head (λ x. finite.get s.tables x.0 ≡ Some x.1) e es all)
        (finite.get-entries e.1.items place ∙ at) ∙ over)))
        (by es (All-tail (λ x. finite.get s.tables x.0 ≡ Some x.1) e es all))

-- a place is one of theirs
abbrev pub Has : Spot → List Standing → Type 0
Has y [] = ⊥
Has y (e ∷ es) = (spot_at e ≡ y) ⊎ Has y es

has_front : (y : Spot) (xs ys : List Standing) → Has y xs → Has y (xs ++ ys)
has_front y [] ys h = absurd h
has_front y (x ∷ xs) ys (inl same) = inl same
has_front y (x ∷ xs) ys (inr rest) = inr (has_front y xs ys rest)

has_back : (y : Spot) (xs ys : List Standing) → Has y ys → Has y (xs ++ ys)
has_back y [] ys h = h
has_back y (x ∷ xs) ys h = inr (has_back y xs ys h)

has_item : (name : List ℕ) (p : Entry → Bool) (k : List ℕ) (item : List Pair) (es : List Entry)
    → find text_order k es ≡ Some item → p (k, item) ≡ true
    → Has (spot_of name k) (map (at name) (filter p es))
has_item name p k item [] found passes =
    absurd (let no : None ≡ Some item = found in let f : ⊥ = cc no in f)
has_item name p k item (e ∷ es) found passes = by (eq_by_cmp text_order k e.0) refl found
    (λ is. has_item name p k item es is passes)
  where
    here : (b : Bool) → p e ≡ b → p e ≡ true → k ≡ e.0
        → Has (spot_of name k) (map (at name) (cond b (e ∷ filter p es) (filter p es)))
    here true is so same = inl (ap (spot_of name) (sym same))
    here false is so same = absurd (let no : false ≡ true = sym is ∙ so in let f : ⊥ = cc no in f)

    there : (b : Bool) → Has (spot_of name k) (map (at name) (filter p es))
        → Has (spot_of name k) (map (at name) (cond b (e ∷ filter p es) (filter p es)))
    there true h = inr h
    there false h = h

    by : (b : Bool) → eq_by_cmp text_order k e.0 ≡ b
        → cond b (Some e.1) (find text_order k es) ≡ Some item
        → (find text_order k es ≡ Some item → Has (spot_of name k) (map (at name) (filter p es)))
        → Has (spot_of name k) (map (at name) (cond (p e) (e ∷ filter p es) (filter p es)))
    by true same is rest = here (p e) refl (subst (λ (x : Entry). p x ≡ true)
        (λ i. (one_key k e.0 same i, same_Some item e.1 (sym is) i)) passes) (one_key k e.0 same)
    by false differs is rest = there (p e) (rest is)

has_table : (moment : ℕ) (y : Spot) (t : Table) (es : List (List ℕ × Table))
    → find text_order y.table es ≡ Some t → Has y (expired_in moment y.table t)
    → Has y (expired_among moment es)
has_table moment y t [] found has =
    absurd (let no : None ≡ Some t = found in let f : ⊥ = cc no in f)
has_table moment y t (e ∷ es) found has = by (eq_by_cmp text_order y.table e.0) refl found
    (λ is. has_table moment y t es is has)
  where
    by : (b : Bool) → eq_by_cmp text_order y.table e.0 ≡ b
        → cond b (Some e.1) (find text_order y.table es) ≡ Some t
        → (find text_order y.table es ≡ Some t → Has y (expired_among moment es))
        → Has y (expired_among moment (e ∷ es))
    by true same is rest = has_front y (expired_in moment e.0 e.1) (expired_among moment es)
        (subst (λ (x : List ℕ × Table). Has y (expired_in moment x.0 x.1))
        (λ i. (one_key y.table e.0 same i, same_Some t e.1 (sym is) i)) has)
    by false differs is rest = has_back y (expired_in moment e.0 e.1) (expired_among moment es)
        (rest is)

-- each place at which an item has expired is
pub has_over : (s : State) (moment : ℕ) (y : Spot) → is_over_at s moment y ≡ true
    → Has y (all_expired s moment)
has_over s moment y over = by (finite.get s.tables y.table) refl over
  where
    in_table : (t : Table) → finite.get s.tables y.table ≡ Some t → (o : Option (List Pair))
        → finite.get t.items y.place ≡ o
        → option_map_or (is_expired t.description moment) o false ≡ true
        → Has y (all_expired s moment)
    in_table t at_t None at_i over = absurd (let f : ⊥ = cc over in f)
    in_table t at_t (Some item) at_i over = has_table moment y t (finite.entries s.tables)
        (sym (finite.get-entries s.tables y.table) ∙ at_t)
        (has_item y.table (λ x. is_expired t.description moment x.1) y.place item
        (finite.entries t.items) (sym (finite.get-entries t.items y.place) ∙ at_i) over)

    by : (o : Option Table) → finite.get s.tables y.table ≡ o
        → option_map_or (λ (t : Table). option_map_or (is_expired t.description moment)
        (finite.get t.items y.place) false) o false ≡ true → Has y (all_expired s moment)
    by None at_t over = absurd (let f : ⊥ = cc over in f)
    by (Some t) at_t over = in_table t at_t (finite.get t.items y.place) refl over
