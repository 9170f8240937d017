-- What a list of the items that are due next knows behind a walk over the items of tables.
use Rattle.std.proofs.Common.{◌≡◌, ◌<◌, ◌≤◌, refl, sym, ap, subst, ◌∙◌, cond, ℕ, zero, suc, Bool, true, false, List, [], ◌∷◌, ◌++◌, ◌⊎◌, inl, inr, map, take, drop, length, Option, Some, None, All, take-append-drop, is_some, arith}
use Rattle.std.specs.Prelude.{◌&&◌, not}
use Rattle.std.specs.BTreeMap.Range.{entries_between}
use Rattle.std.specs.FinMap as finite
use Rattle.std.specs.FinMap.Entries.{find}
use Rattle.std.specs.List.{last_or}
use Rattle.std.specs.Ordering.{eq_by_cmp, is_gt, is_le, is_lt, ordering_reverse, ordering_then}
use Rattle.std.specs.declared.cmp.Ordering.{Ordering}
use Rattle.std.specs.declared.cmp.Ordering.TheVariants.{Less, Equal, Greater}
use Rattle.std.specs.declared.ops.Bound.TheVariants.{Included, Unbounded}
use Rattle.std.specs.Cmp.{tied_itself}
use Rattle.std.proofs.lemmas.Bool.{false≢true}
use Rattle.std.proofs.lemmas.List.Elements.{All-head, All-tail}
use Rattle.alt_cells.proofs.CellLaws.{key_total}
use Rattle.alt_cells.proofs.SameKeys.{one_key}
use Rattle.alt_due.specs.Due.{KeepsKnown, is_before, suffices_at}
use Rattle.alt_due.specs.Order.{spot_of}
use Rattle.alt_due.specs.declared.due.Due.{Due}
use Rattle.alt_due.specs.declared.spot.Spot.{Spot}
use Rattle.alt_machine.specs.Keys.{place_of}
use Rattle.alt_machine.specs.State.{State, Table}
use Rattle.alt_machine.specs.Walks.{items_between}
use Rattle.alt_ops_query.proofs.Beyond.{beyond_after}
use Rattle.alt_ops_query.proofs.Rests.{contains_so}
use Rattle.alt_ops_query.proofs.Steps.{IsLast, last_of_step}
use Rattle.alt_schema.specs.declared.schema.TableSchema.{TableSchema}
use Rattle.alt_request.specs.TablesForeseen.{ForeseesItem}
use Rattle.alt_request.specs.TablesReading.{places_between}
use Rattle.alt_request.specs.TablesSeveral.{Every}
use Rattle.alt_ttl.specs.private.Foresight.{ForeseesPlaced, ForeseesRest, ForeseesTable, ForeseesFromNext}
use Rattle.alt_ttl.proofs.Foretelling.{no_time}
use Rattle.alt_ttl.proofs.Founds.{every_both}
use Rattle.alt_ttl.proofs.Ordered.{lies, lies_before, lies_behind, lies_there, is_less, less_trans}
use Rattle.alt_ttl.proofs.Searching.{each_found, from_none}
use Rattle.alt_value.specs.Members.{text_order}
use Rattle.alt_value.specs.Tree.{Pair}

-- an item with its place
abbrev Entry : Type 0
Entry = List ℕ × List Pair

-- ---- lists that know more

-- of an item
pub placed_on : (d : TableSchema) (name : List ℕ) (old new : Due) → KeepsKnown old new
    → (item : List Pair) → ForeseesPlaced d name old item → ForeseesPlaced d name new item
placed_on d name old new keeps item knows place at moment fits over =
    keeps moment _ (knows place at moment fits over)

-- of several
pub every_placed_on : (d : TableSchema) (name : List ℕ) (old new : Due) → KeepsKnown old new
    → (items : List (List Pair)) → Every (ForeseesPlaced d name old) items
    → Every (ForeseesPlaced d name new) items
every_placed_on d name old new keeps [] h = tt
every_placed_on d name old new keeps (i ∷ is) h =
    (placed_on d name old new keeps i h.0, every_placed_on d name old new keeps is h.1)

-- of a table's
pub table_on : (name : List ℕ) (t : Table) (old new : Due) → KeepsKnown old new
    → ForeseesTable name t old → ForeseesTable name t new
table_on name t old new keeps knows place item at moment fits over =
    keeps moment _ (knows place item at moment fits over)

-- of a table whose items have no time to live every list knows
pub table_untimed : (name : List ℕ) (t : Table) (due : Due) → is_some t.description.ttl ≡ false
    → ForeseesTable name t due
table_untimed name t due none place item at moment fits over =
    absurd (false≢true (sym (no_time t.description none moment item) ∙ over))

-- ---- a table

-- what holds of all that are found holds of the entry that is found
find_every : (P : Entry → Type 0) (es : List Entry) → Every P es → (place : List ℕ)
    (item : List Pair) → find text_order place es ≡ Some item → P (place, item)
find_every P [] h place item found =
    absurd (let no : None ≡ Some item = found in let f : ⊥ = cc no in f)
find_every P (e ∷ es) h place item found = by (eq_by_cmp text_order place e.0) refl found
    (find_every P es h.1 place item)
  where
    same_some : (x y : List Pair) → Some x ≡ Some y → x ≡ y
    same_some x y e = cc

    by : (b : Bool) → eq_by_cmp text_order place e.0 ≡ b
        → cond b (Some e.1) (find text_order place es) ≡ Some item
        → (find text_order place es ≡ Some item → P (place, item)) → P (place, item)
    by true same is rest = subst P
        (λ i. (sym (one_key place e.0 same) i, same_some e.1 item is i)) h.0
    by false differs is rest = rest is

module _ (name : List ℕ) (t : Table)
    (stored : (place : List ℕ) (item : List Pair) → finite.get t.items place ≡ Some item
    → place_of t.description item ≡ Some place) where
  -- a list that knows of all items from the empty place on knows of the table's
  pub rest_all : (due : Due) → ForeseesRest name t [] due → ForeseesTable name t due
  rest_all due h place item at = find_every
      (λ e. (p : List ℕ) → place_of t.description e.1 ≡ Some p
      → ForeseesItem t.description name p due e.1) (finite.entries t.items)
      (each (finite.entries t.items)
      (subst (λ es. Every (ForeseesPlaced t.description name due) (map (λ (e : Entry). e.1) es))
      (from_none (finite.entries t.items)) h))
      place item (sym (finite.get-entries t.items place) ∙ at) place (stored place item at)
    where
      each : (es : List Entry)
          → Every (ForeseesPlaced t.description name due) (map (λ (e : Entry). e.1) es)
          → Every (λ (e : Entry). (p : List ℕ) → place_of t.description e.1 ≡ Some p
          → ForeseesItem t.description name p due e.1) es
      each [] h = tt
      each (e ∷ es) h = (h.0, each es h.1)

  module _ (from : List ℕ) (most : ℕ) (items : List (List Pair)) (due : Due)
      (given : items ≡ take most (items_between t None from None true))
      (noted : Every (ForeseesPlaced t.description name due) items) where
    -- behind the last page nothing is left
    pub surveyed_last : length items < most → ForeseesFromNext name t from due None
    surveyed_last few = subst (Every (ForeseesPlaced t.description name due)) (given ∙ short most
        (items_between t None from None true) (subst (λ l. length l < most) given few)) noted
      where
        short : {A : Type 0} (n : ℕ) (xs : List A) → length (take n xs) < n → take n xs ≡ xs
        short zero xs h = absurd (omega (arith, h))
        short (suc n) [] h = refl
        short (suc n) (x ∷ xs) h = ap (λ l. x ∷ l) (short n xs (omega (arith, h)))

    -- behind another one what stands behind its last item
    pub surveyed_on : 0 < most → most ≤ length items → (last : Option (List ℕ)) (place : List ℕ)
        → last ≡ last_or None (take most (places_between t None from None true))
        → last ≡ Some place → ForeseesFromNext name t from due (Some (place ++ 0 ∷ []))
    surveyed_on some many last place told is later keeps h =
        let end : IsLast t None true from None most items last =
        last_of_step t None stored true from None most items last given told some many in
        let at : end.place ≡ place = same_some end.place place (sym end.told ∙ is) in
        let reaches : is_gt (text_order from end.place) ≡ false =
        up_to (text_order from end.place) (contains_so from None end.place end.within).0 in
        let rest : items_between t None (place ++ 0 ∷ []) None true
        ≡ drop most (items_between t None from None true) =
        subst (λ (p : List ℕ). items_between t None (p ++ 0 ∷ []) None true
        ≡ drop most (items_between t None from None true)) at
        (end.rest (end.place ++ 0 ∷ []) None (beyond_after from None end.place reaches)) in
        subst (Every (ForeseesPlaced t.description name later))
        (take-append-drop most (items_between t None from None true))
        (every_both (ForeseesPlaced t.description name later)
        (take most (items_between t None from None true))
        (drop most (items_between t None from None true))
        (every_placed_on t.description name due later keeps
        (take most (items_between t None from None true))
        (subst (Every (ForeseesPlaced t.description name due)) given noted))
        (subst (Every (ForeseesPlaced t.description name later)) rest h))
      where
        same_some : (x y : List ℕ) → Some x ≡ Some y → x ≡ y
        same_some x y e = cc

        up_to : (o : Ordering) → (o ≡ Greater → ⊥) → is_gt o ≡ false
        up_to Less h = refl
        up_to Equal h = refl
        up_to Greater h = absurd (h refl)

  -- where the list ends up to a place, it knows of all items from there on
  pub surveyed_ended : (from : List ℕ) (due : Due)
      → not (is_before due.end (spot_of name from)) ≡ true → ForeseesFromNext name t from due None
  surveyed_ended from due ends = each (finite.entries t.items)
      (each_found (λ e. place_of t.description e.1 ≡ Some e.0) (finite.entries t.items)
      (finite.entries_sorted t.items)
      (λ place item at. stored place item (finite.get-entries t.items place ∙ at)))
    where
      -- one from there on isn't before the end
      never : (o : Option Spot) → not (is_before o (spot_of name from)) ≡ true → (place : List ℕ)
          → is_le (text_order from place) ≡ true → is_before o (spot_of name place) ≡ true → ⊥
      never None ends_here place le before = false≢true ends_here
      never (Some end) ends_here place le before = elim (lies (spot_of name place) (spot_of name from)) [
        | lies_before low high ↦ false≢true (sym (behind_place (text_order from place) le
            (text_order place from) (key_total.antisymm place from)) ∙ lower low)
        | lies_there is ↦ false≢true (sym (denied (is_less (spot_of name from) end) ends_here)
            ∙ subst (λ x. is_less x end ≡ true) is before)
        | lies_behind more ↦ false≢true (sym (denied (is_less (spot_of name from) end) ends_here)
            ∙ less_trans (spot_of name from) (spot_of name place) end more before)
      ]
        where
          denied : (b : Bool) → not b ≡ true → b ≡ false
          denied true e = absurd (false≢true e)
          denied false e = refl

          lower : is_less (spot_of name place) (spot_of name from) ≡ true
              → is_lt (text_order place from) ≡ true
          lower low = ap (λ o. is_lt (ordering_then o (text_order place from)))
              (sym (tied_itself key_total name)) ∙ low

          behind_place : (o : Ordering) → is_le o ≡ true → (p : Ordering)
              → p ≡ ordering_reverse o → is_lt p ≡ false
          behind_place Less le p is = ap is_lt is
          behind_place Equal le p is = ap is_lt is
          behind_place Greater le p is = absurd (false≢true le)

      knows : (e : Entry) → place_of t.description e.1 ≡ Some e.0
          → is_le (text_order from e.0) ≡ true → ForeseesPlaced t.description name due e.1
      knows e is le place at moment fits over covered =
          absurd (never due.end ends place (subst (λ p. is_le (text_order from p) ≡ true)
          (same_some e.0 place (sym is ∙ at)) le)
          (right (suffices_at due moment) (is_before due.end (spot_of name place)) covered))
        where
          same_some : (x y : List ℕ) → Some x ≡ Some y → x ≡ y
          same_some x y e = cc

          right : (a b : Bool) → (a && b) ≡ true → b ≡ true
          right true b h = h
          right false b h = absurd (false≢true h)

      each : (es : List Entry) → All (λ (e : Entry). place_of t.description e.1 ≡ Some e.0) es
          → Every (ForeseesPlaced t.description name due)
          (map (λ (e : Entry). e.1) (entries_between text_order (Included from) Unbounded es))
      each [] all = tt
      each (e ∷ es) all = by (is_le (text_order from e.0)) refl
          (each es (All-tail (λ (x : Entry). place_of t.description x.1 ≡ Some x.0) e es all))
        where
          rest : List Entry
          rest = entries_between text_order (Included from) Unbounded es

          by : (b : Bool) → is_le (text_order from e.0) ≡ b
              → Every (ForeseesPlaced t.description name due) (map (λ (x : Entry). x.1) rest)
              → Every (ForeseesPlaced t.description name due)
              (map (λ (x : Entry). x.1) (cond (b && true) (e ∷ rest) rest))
          by true le h = (
            knows e
                (All-head (λ (x : Entry). place_of t.description x.1 ≡ Some x.0) e es all) le,
            h,
          )
          by false le h = h

-- ---- all tables

-- a name is one of some
abbrev pub Among : List ℕ → List (List ℕ) → Type 0
Among q [] = ⊥
Among q (n ∷ ns) = (q ≡ n) ⊎ Among q ns

-- one that is found is
among_found : (q : List ℕ) (t : Table) (es : List (List ℕ × Table)) → find text_order q es ≡ Some t
    → Among q (map (λ e. e.0) es)
among_found q t [] found = absurd (let no : None ≡ Some t = found in let f : ⊥ = cc no in f)
among_found q t (e ∷ es) found =
    here (eq_by_cmp text_order q e.0) refl found (among_found q t es)
  where
    here : (b : Bool) → eq_by_cmp text_order q e.0 ≡ b
        → cond b (Some e.1) (find text_order q es) ≡ Some t
        → (find text_order q es ≡ Some t → Among q (map (λ e. e.0) es))
        → Among q (map (λ e. e.0) (e ∷ es))
    here true same is rest = inl (one_key q e.0 same)
    here false differs is rest = inr (rest is)

-- that of a table that is there is one of them all
pub among_all : (s : State) (q : List ℕ) (t : Table) → finite.get s.tables q ≡ Some t
    → Among q (map (λ e. e.0) (finite.entries s.tables))
among_all s q t at =
    among_found q t (finite.entries s.tables) (sym (finite.get-entries s.tables q) ∙ at)
