-- The search for expired items, table by table and page by page.
use Rattle.std.proofs.Common.{◌≡◌, ◌≢◌, ◌<◌, ◌≤◌, refl, sym, ap, subst, ◌∙◌, cond, ℕ, zero, suc, Bool, true, false, T, List, [], ◌∷◌, ◌++◌, map, take, drop, length, Option, Some, None, All, append_assoc, take-append-drop, is_some, arith}
use Rattle.std.specs.Prelude.{if◌then◌else◌, option_and_then, ◌&&◌}
use Rattle.std.specs.BTreeMap.Range.{entries_between}
use Rattle.std.specs.FinMap as finite
use Rattle.std.specs.FinMap.Entries.{below_all, find, is_sorted}
use Rattle.std.specs.List.{filter, flat_map, last_or}
use Rattle.std.specs.Option.{option_map_or}
use Rattle.std.specs.Ordering.{eq_by_cmp, is_gt, is_le, is_lt}
use Rattle.std.specs.declared.cmp.Ordering.{Ordering}
use Rattle.std.specs.declared.cmp.Ordering.TheVariants.{Less, Equal, Greater}
use Rattle.std.specs.declared.ops.Bound.TheVariants.{Included, Unbounded}
use Rattle.std.proofs.lemmas.List.{length-map, take_all}
use Rattle.std.proofs.lemmas.List.Elements.{All-nil, All-cons, All-head, All-map, All-tail}
use Rattle.alt_base.proofs.Bools.{first_holds, second_holds}
use Rattle.alt_base.proofs.Lists.{filter-all}
use Rattle.alt_cells.proofs.CellLaws.{key_total}
use Rattle.alt_cells.proofs.Entries.{find_below}
use Rattle.alt_cells.proofs.SameKeys.{key_itself, one_key}
use Rattle.alt_machine.specs.declared.Standing.{Standing}
use Rattle.alt_machine.specs.declared.TheConstants.{MOST_EXPIRED, MOST_TABLES}
use Rattle.alt_machine.specs.Expiry.{all_expired, expired_in, expiring, is_expired, is_over}
use Rattle.alt_machine.specs.Keys.{place_of}
use Rattle.alt_machine.specs.Ops.ListTables.{names_after}
use Rattle.alt_machine.specs.State.{State, Table, Texts, descriptions}
use Rattle.alt_machine.specs.Valid.{IsTable, IsValid}
use Rattle.alt_machine.specs.Walks.{items_between}
use Rattle.alt_machine.proofs.Descriptions.{keys-descriptions, there-descriptions}
use Rattle.alt_ops_query.proofs.Beyond.{beyond_after}
use Rattle.alt_ops_query.proofs.Lists.{each_entry}
use Rattle.alt_ops_query.proofs.Rests.{contains_so}
use Rattle.alt_ops_query.proofs.Steps.{IsLast, last_of_step}
use Rattle.alt_schema.specs.Rules.{is_name}
use Rattle.alt_schema.specs.declared.schema.TableSchema.{TableSchema}
use Rattle.alt_request.specs.TablesReading.{places_between}
use Rattle.alt_request.specs.TablesSeveral.{Every}
use Rattle.alt_schema.proofs.CutRows.{empty_before_name}
use Rattle.alt_ttl.specs.private.Searched.{left_in, standing_of, standings_of}
use Rattle.alt_ttl.proofs.Fronts.{take_step}
use Rattle.alt_ttl.proofs.Founds.{every_take}
use Rattle.alt_value.specs.Item.{at_name}
use Rattle.alt_value.specs.Members.{text_order}
use Rattle.alt_value.specs.Tree.{Pair}

-- an item with its place
abbrev Entry : Type 0
Entry = List ℕ × List Pair

-- ---- lists of items

-- where those of two lists stand
pub standings-append : (d : TableSchema) (name : List ℕ) (moment : ℕ) (is js : List (List Pair))
    → standings_of d name moment (is ++ js)
    ≡ standings_of d name moment is ++ standings_of d name moment js
standings-append d name moment [] js = refl
standings-append d name moment (i ∷ is) js =
    ap (λ l. standing_of d name moment i ++ l) (standings-append d name moment is js)
    ∙ sym (append_assoc (standing_of d name moment i) (standings_of d name moment is)
    (standings_of d name moment js))

-- where one stands that has its place by its key
standing-placed : (d : TableSchema) (name : List ℕ) (moment : ℕ) (e : Entry)
    → place_of d e.1 ≡ Some e.0 → standing_of d name moment e.1
    ≡ (if is_expired d moment e.1 then record { table = name; place = e.0 } ∷ [] else [])
standing-placed d name moment e at = ap (λ o. if is_expired d moment e.1
    then option_map_or (λ place. record { table = name; place = place } ∷ []) o [] else []) at

-- where those stand that have theirs
standings-placed : (d : TableSchema) (name : List ℕ) (moment : ℕ) (es : List Entry)
    → All (λ e. place_of d e.1 ≡ Some e.0) es → standings_of d name moment (map (λ e. e.1) es)
    ≡ map (λ e. record { table = name; place = e.0 })
    (filter (λ e. is_expired d moment e.1) es)
standings-placed d name moment [] all = refl
standings-placed d name moment (e ∷ es) all =
    ap (λ l. l ++ standings_of d name moment (map (λ x. x.1) es))
    (standing-placed d name moment e (All-head (λ x. place_of d x.1 ≡ Some x.0) e es all))
    ∙ by (is_expired d moment e.1)
    (standings-placed d name moment es (All-tail (λ x. place_of d x.1 ≡ Some x.0) e es all))
  where
    rest : List Entry
    rest = filter (λ x. is_expired d moment x.1) es

    by : (b : Bool) → standings_of d name moment (map (λ x. x.1) es)
        ≡ map (λ x. record { table = name; place = x.0 }) rest
        → (if b then record { table = name; place = e.0 } ∷ [] else [])
        ++ standings_of d name moment (map (λ x. x.1) es)
        ≡ map (λ x. record { table = name; place = x.0 }) (cond b (e ∷ rest) rest)
    by true h = ap (λ l. record { table = name; place = e.0 } ∷ l) h
    by false h = h

-- ---- a table

-- every place lies from the empty one on
pub from_none : (es : List Entry) → entries_between text_order (Included []) Unbounded es ≡ es
from_none [] = refl
from_none (e ∷ es) = by (text_order [] e.0) (not_greater e.0) (from_none es)
  where
    not_greater : (k : List ℕ) → is_le (text_order [] k) ≡ true
    not_greater [] = refl
    not_greater (x ∷ xs) = refl

    by : (o : Ordering) → is_le o ≡ true
        → entries_between text_order (Included []) Unbounded es ≡ es
        → cond (is_le o && true) (e ∷ entries_between text_order (Included []) Unbounded es)
        (entries_between text_order (Included []) Unbounded es) ≡ e ∷ es
    by Less h rest = ap (λ l. e ∷ l) rest
    by Equal h rest = ap (λ l. e ∷ l) rest
    by Greater h rest = absurd (let f : ⊥ = cc in f)

module _ (name : List ℕ) (t : Table) (moment : ℕ)
    (stored : (place : List ℕ) (item : List Pair) → finite.get t.items place ≡ Some item
    → place_of t.description item ≡ Some place) where
  -- all its items are those from the empty place on
  pub all_of_table : standings_of t.description name moment (items_between t None [] None true)
      ≡ expired_in moment name t
  all_of_table =
      ap (λ es. standings_of t.description name moment (map (λ (e : Entry). e.1) es))
      (from_none (finite.entries t.items))
      ∙ standings-placed t.description name moment (finite.entries t.items)
      (each_entry (λ e. place_of t.description e.1 ≡ Some e.0) (finite.entries t.items)
      (finite.entries_sorted t.items)
      (λ place item at. stored place item (finite.get-entries t.items place ∙ at)))

  -- so that is what there is to find at first
  pub left_first : (out : List Standing)
      → left_in name t moment out [] ≡ take MOST_EXPIRED (out ++ expired_in moment name t)
  left_first out = ap (λ l. take MOST_EXPIRED (out ++ l)) all_of_table

  -- ---- a page

  -- one that has as many items as were asked for has a last one
  pub page_none : (from : List ℕ) (most : ℕ) (items : List (List Pair))
      → items ≡ take most (items_between t None from None true) → 0 < most → most ≤ length items
      → (last : Option (List ℕ))
      → last ≡ last_or None (take most (places_between t None from None true)) → last ≡ None → ⊥
  page_none from most items given some many last told none =
      let end : IsLast t None true from None most items last =
      last_of_step t None stored true from None most items last given told some many in
      let no : Some end.place ≡ None = sym end.told ∙ none in cc no

  module _ (out next : List Standing) (from : List ℕ) (most : ℕ) (items : List (List Pair))
      (given : items ≡ take most (items_between t None from None true))
      (put : next ≡ take MOST_EXPIRED (out ++ standings_of t.description name moment items)) where
    -- the last page leaves nothing
    pub page_last : length items < most → next ≡ left_in name t moment out from
    page_last few = put ∙ ap (λ l. take MOST_EXPIRED (out ++ standings_of t.description name moment l))
        (given ∙ all_given)
      where
        short : {A : Type 0} (n : ℕ) (xs : List A) → length (take n xs) < n → take n xs ≡ xs
        short zero xs h = absurd (omega (arith, h))
        short (suc n) [] h = refl
        short (suc n) (x ∷ xs) h = ap (λ l. x ∷ l) (short n xs (omega (arith, h)))

        all_given : take most (items_between t None from None true)
            ≡ items_between t None from None true
        all_given = short most (items_between t None from None true)
            (subst (λ l. length l < most) given few)

    -- another leaves what stands behind its last item
    pub page_on : 0 < most → most ≤ length items → (last : Option (List ℕ)) (place : List ℕ)
        → last ≡ last_or None (take most (places_between t None from None true))
        → last ≡ Some place
        → left_in name t moment next (place ++ 0 ∷ []) ≡ left_in name t moment out from
    page_on some many last place told is =
        let end : IsLast t None true from None most items last =
        last_of_step t None stored true from None most items last given told some many in
        let at : end.place ≡ place = same_some end.place place (sym end.told ∙ is) in
        let reaches : is_gt (text_order from end.place) ≡ false =
        up_to (text_order from end.place) (contains_so from None end.place end.within).0 in
        let rest : items_between t None (place ++ 0 ∷ []) None true
        ≡ drop most (items_between t None from None true) =
        subst (λ (p : List ℕ). items_between t None (p ++ 0 ∷ []) None true
        ≡ drop most (items_between t None from None true)) at
        (end.rest (end.place ++ 0 ∷ []) None (beyond_after from None end.place reaches)) in
        ap (λ l. take MOST_EXPIRED (next ++ standings_of t.description name moment l)) rest
        ∙ take_step MOST_EXPIRED out (standings_of t.description name moment items)
        (standings_of t.description name moment (drop most (items_between t None from None true)))
        next put
        ∙ ap (λ l. take MOST_EXPIRED (out ++ l))
        (sym (standings-append t.description name moment items
        (drop most (items_between t None from None true)))
        ∙ ap (standings_of t.description name moment)
        (ap (λ l. l ++ drop most (items_between t None from None true)) given
        ∙ take-append-drop most (items_between t None from None true)))
      where
        same_some : (x y : List ℕ) → Some x ≡ Some y → x ≡ y
        same_some x y e = cc

        up_to : (o : Ordering) → o ≢ Greater → is_gt o ≡ false
        up_to Less h = refl
        up_to Equal h = refl
        up_to Greater h = absurd (h refl)

-- ---- a table whose items have no time to live

-- none of them expires
pub none_expired : (name : List ℕ) (t : Table) (moment : ℕ) → is_some t.description.ttl ≡ false
    → expired_in moment name t ≡ []
none_expired name t moment none = by t.description.ttl none
  where
    none_of : (es : List Entry) → filter (λ (e : Entry). false) es ≡ []
    none_of [] = refl
    none_of (e ∷ es) = none_of es

    by : (o : Option (List ℕ)) → is_some o ≡ false
        → map {B = Standing} (λ (e : Entry). record { table = name; place = e.0 })
        (filter (λ e. option_map_or (is_over moment)
        (option_and_then (λ n. at_name n e.1) o) false) (finite.entries t.items)) ≡ []
    by None h = ap (map {B = Standing} (λ (e : Entry). record { table = name; place = e.0 }))
        (none_of (finite.entries t.items))
    by (Some n) h = absurd (let f : ⊥ = cc in f)

-- ---- all tables

-- what there is to find in the table of a name
abbrev pub expired_at : State → ℕ → List ℕ → List Standing
expired_at s moment name =
    option_map_or (λ t. expired_in moment name t) (finite.get s.tables name) []

-- in those of several
abbrev pub expired_of : State → ℕ → List (List ℕ) → List Standing
expired_of s moment names = flat_map (expired_at s moment) names

-- what holds of each that is found holds of each entry
pub each_found : {X : Type 0} (P : List ℕ × X → Type 0) (es : List (List ℕ × X)) → T (is_sorted text_order es)
    → ((name : List ℕ) (t : X) → find text_order name es ≡ Some t → P (name, t)) → All P es
each_found P [] sorted found = All-nil P
each_found P (e ∷ es) sorted found = All-cons P e es
    (found e.0 e.1 (ap (λ b. cond b (Some e.1) (find text_order e.0 es)) (key_itself e.0)))
    (each_found P es (second_holds (below_all text_order e.0 es) _ sorted)
    (λ name t at. found name t (later name t at (eq_by_cmp text_order name e.0) refl)))
  where
    later : (name : List ℕ) (t : _) → find text_order name es ≡ Some t → (b : Bool)
        → eq_by_cmp text_order name e.0 ≡ b → find text_order name (e ∷ es) ≡ Some t
    later name t at true same = absurd (let no : None ≡ Some t =
        sym (find_below text_order key_total e.0 es
        (first_holds _ (is_sorted text_order es) sorted))
        ∙ ap (λ q. find text_order q es) (sym (one_key name e.0 same)) ∙ at in cc no)
    later name t at false differs =
        ap (λ b. cond b (Some e.1) (find text_order name es)) differs ∙ at

-- in all of them it is what has expired
pub expired_all : (s : State) (moment : ℕ)
    → expired_of s moment (map (λ e. e.0) (finite.entries s.tables)) ≡ all_expired s moment
expired_all s moment = each (finite.entries s.tables)
    (each_found (λ e. finite.get s.tables e.0 ≡ Some e.1) (finite.entries s.tables)
    (finite.entries_sorted s.tables)
    (λ name t at. finite.get-entries s.tables name ∙ at))
  where
    each : (es : List (List ℕ × Table)) → All (λ e. finite.get s.tables e.0 ≡ Some e.1) es
        → expired_of s moment (map (λ e. e.0) es) ≡ flat_map (λ e. expired_in moment e.0 e.1) es
    each [] all = refl
    each (e ∷ es) all = λ i.
        option_map_or (λ t. expired_in moment e.0 t)
        (All-head (λ x. finite.get s.tables x.0 ≡ Some x.1) e es all i) []
        ++ each es (All-tail (λ x. finite.get s.tables x.0 ≡ Some x.1) e es all) i

-- the names of tables behind the empty one are all their names
pub all_names : (s : State) → IsValid s
    → take MOST_TABLES (names_after [] (descriptions s.tables))
    ≡ map (λ e. e.0) (finite.entries s.tables)
all_names s valid =
    ap (λ (ns : List (List ℕ)). take MOST_TABLES (filter (λ name. is_lt (text_order [] name)) ns))
    (keys-descriptions s.tables)
    ∙ ap (take MOST_TABLES) (filter-all (λ name. is_lt (text_order [] name))
    (map (λ (e : List ℕ × Table). e.0) (finite.entries s.tables))
    (All-map (λ name. is_lt (text_order [] name) ≡ true) (λ (e : List ℕ × Table). e.0)
    (finite.entries s.tables)
    (each_found (λ e. is_lt (text_order [] e.0) ≡ true) (finite.entries s.tables)
    (finite.entries_sorted s.tables) (λ name t at.
    let is : IsTable s name t = valid.tables name t (finite.get-entries s.tables name ∙ at) in
    empty_before_name name (ap is_name (sym is.named) ∙ is.made.spelled)))))
    ∙ take_all MOST_TABLES (map (λ (e : List ℕ × Table). e.0) (finite.entries s.tables)) (omega (
      arith,
      valid.few,
      finite.len-entries s.tables,
      length-map (finite.entries s.tables) (λ (e : List ℕ × Table). e.0),
    ))

-- so what there is to find under them is what has expired
pub found_all : (s : State) (moment : ℕ) → IsValid s → (names : List (List ℕ))
    → names ≡ take MOST_TABLES (names_after [] (descriptions s.tables))
    → take MOST_EXPIRED (expired_of s moment names) ≡ expiring s moment
found_all s moment valid names is =
    ap (λ ns. take MOST_EXPIRED (expired_of s moment ns)) (is ∙ all_names s valid)
    ∙ ap (take MOST_EXPIRED) (expired_all s moment)

-- ---- tables that are there

-- what holds of all holds of every one
every_of : {A : Type 0} (P : A → Type 0) (xs : List A) → All P xs → Every P xs
every_of P [] all = tt
every_of P (x ∷ xs) all = (All-head P x xs all, every_of P xs (All-tail P x xs all))

-- and of those that are kept
every_kept : {A : Type 0} (P : A → Type 0) (p : A → Bool) (xs : List A) → Every P xs
    → Every P (filter p xs)
every_kept P p [] h = tt
every_kept P p (x ∷ xs) h = by (p x) (every_kept P p xs h.1)
  where
    by : (b : Bool) → Every P (filter p xs) → Every P (cond b (x ∷ filter p xs) (filter p xs))
    by true rest = (h.0, rest)
    by false rest = rest

-- the names that are looked through are those of tables
pub names_there : (catalog : Texts TableSchema)
    → Every (λ name. finite.contains_key catalog name ≡ true)
    (take MOST_TABLES (names_after [] catalog))
names_there catalog = every_take (λ name. finite.contains_key catalog name ≡ true) MOST_TABLES
    (names_after [] catalog)
    (every_kept (λ name. finite.contains_key catalog name ≡ true)
    (λ name. is_lt (text_order [] name)) (finite.keys catalog)
    (every_of (λ name. finite.contains_key catalog name ≡ true) (finite.keys catalog)
    (All-map (λ name. finite.contains_key catalog name ≡ true)
    (λ (e : List ℕ × TableSchema). e.0) (finite.entries catalog)
    (each_found (λ e. finite.contains_key catalog e.0 ≡ true) (finite.entries catalog)
    (finite.entries_sorted catalog)
    (λ name d at. ap is_some (finite.get-entries catalog name ∙ at))))))

-- the table of a name, and what has expired in it
pub record IsThere (s : State) (moment : ℕ) (name : List ℕ) : Type 0 where
  pub table : Table
  pub there : finite.get s.tables name ≡ Some table
  pub is : expired_at s moment name ≡ expired_in moment name table

pub is_there : (s : State) (moment : ℕ) (name : List ℕ) (catalog : Texts TableSchema)
    → catalog ≡ descriptions s.tables → finite.contains_key catalog name ≡ true
    → IsThere s moment name
is_there s moment name catalog same there = by (finite.get s.tables name) refl
    (sym (there-descriptions s.tables name)
    ∙ ap (λ (k : Texts TableSchema). finite.contains_key k name) (sym same) ∙ there)
  where
    by : (o : Option Table) → finite.get s.tables name ≡ o
        → finite.contains_key s.tables name ≡ true → IsThere s moment name
    by None at has = absurd (let f : false ≡ true = sym (ap is_some at) ∙ has in
        let g : ⊥ = cc in g)
    by (Some t) at has = record {
      table = t;
      there = at;
      is = ap (λ o. option_map_or (λ u. expired_in moment name u) o []) at;
    }
