-- A key of a table, which needn't be that of an item, is read back from its place.
use Rattle.std.proofs.Common.{◌≡◌, ◌<◌, refl, sym, ap, subst, ◌∙◌, ℕ, Bool, true, false, not, cond, T, List, [], ◌∷◌, ◌++◌, drop, length, is_eq, Option, Some, None, option_map, append-nil, Result, Err, arith}
use Rattle.std.proofs.lemmas.Bool.{false≢true}
use Rattle.std.proofs.lemmas.Option.{none-some, same_Some}
use Rattle.std.specs.Prelude.{◌&&◌, if◌then◌else◌, option_and_then}
use Rattle.std.specs.FinMap.Entries.{below_all, where_key}
use Rattle.std.specs.List.{flat_map, list_all}
use Rattle.std.specs.Ordering.{is_lt}
use Rattle.std.specs.Str.{bytes_eq}
use Rattle.std.specs.Result.{IsErr, IsErrAnd}
use Rattle.std.specs.declared.cmp.Ordering.{Ordering}
use Rattle.std.specs.declared.cmp.Ordering.TheVariants.{Less, Equal, Greater}
use Rattle.alt_base.proofs.Bools.{first_holds, second_holds}
use Rattle.alt_base.proofs.Lists.{bytes_eq-itself}
use Rattle.alt_keyorder.specs.KeyBytes.{IsKeyOf, key_bytes}
use Rattle.alt_keyorder.specs.Place.{key_values, place_bytes, place_in_table}
use Rattle.alt_keyorder.specs.Token.{token_of}
use Rattle.alt_machine.specs.Building.{built_place}
use Rattle.alt_machine.specs.Indexed.{KeyValues}
use Rattle.alt_machine.specs.Lists.{has_keys_alone, is_of_kind, place_there, start_beside, start_value}
use Rattle.alt_schema.specs.Indexes.{is_key}
use Rattle.alt_schema.specs.declared.schema.KeyAttr.{KeyAttr}
use Rattle.alt_schema.specs.declared.schema.TableSchema.{TableSchema}
use Rattle.alt_value.specs.Item.{at_name}
use Rattle.alt_value.specs.Members.{text_order}
use Rattle.alt_value.specs.Tree.{Tree, Pair, S_tree, N_tree, B_tree}
use Rattle.alt_value.specs.Values.{IsItemOfValues, IsValue}
use Rattle.alt_value.specs.declared.kind.KeyKind.{KeyKind}
use Rattle.alt_value.specs.declared.kind.KeyKind.TheVariants.{S, N, B}
use Rattle.alt_value.proofs.NamedPairs.{value_at}
use Rattle.alt_views.specs.Read.{IsValueOf, TakesKeyPart, with_values}
use Rattle.alt_views.specs.declared.item_row.Unread.{Unread}
use Rattle.alt_views.specs.declared.item_row.Unread.TheVariants.{Bad, NoMemory}
use Rattle.alt_views.proofs.Back.{AgreesBut, agrees-beside, agrees-values, agrees_all, agrees_itself, names_of, values_item}
use Rattle.alt_views.proofs.Reading.{behind_token}
use Rattle.alt_views.proofs.Values.{HasValues}

-- ---- the values of a key

-- the name of an attribute of an item has bytes
named : (name : List ℕ) (item : List Pair) (t : Tree) → T (below_all text_order [] item)
    → at_name name item ≡ Some t → 0 < length name
named (b ∷ name) item t below at = omega arith
named [] [] t below at = absurd (none-some t at)
named [] (q ∷ qs) t below at =
    by (text_order [] q.0) (first_holds _ _ below) (named [] qs t (second_holds _ _ below)) at
  where
    by : (o : Ordering) → T (is_lt o) → (at_name [] qs ≡ Some t → 0 < length {A = ℕ} [])
        → cond (is_eq o) (Some q.1) (at_name [] qs) ≡ Some t → 0 < length {A = ℕ} []
    by Less lt rest e = rest e
    by Equal lt rest e = absurd lt
    by Greater lt rest e = absurd lt

-- a value of a kind can be a key of that kind
key_of : (kind : KeyKind) (t : Tree) → IsValue t → is_of_kind kind t ≡ true → IsKeyOf kind t
key_of S (S_tree s) v e = v.0
key_of N (N_tree z) v e = v
key_of B (B_tree b) v e = tt
key_of kind t v e = absurd (false≢true e)

-- A key has values, and behind the token of a place stand their parts.
pub record HasKey (key : List Pair) (hash : KeyAttr) (range : Option KeyAttr) (place : List ℕ)
    : Type 0 where
  pub values : KeyValues
  pub has : HasValues key hash range values
  pub bytes : drop 8 place ≡ flat_map key_bytes (key_values values.hash values.range) ++ []

module _ (key : List Pair) (is : IsItemOfValues key) where
  -- the value of a key attribute stands at its name, and is one of its kind
  at_start : (a : KeyAttr) (t : Tree) → start_value key a ≡ Some t
      → (at_name a.name key ≡ Some t) × IsValueOf a t
  at_start a t e = by (at_name a.name key) refl e
    where
      by : (o : Option Tree) → at_name a.name key ≡ o
          → option_and_then (λ u. if is_of_kind a.kind u then Some u else None) o ≡ Some t
          → (at_name a.name key ≡ Some t) × IsValueOf a t
      by None at f = absurd (none-some t f)
      by (Some u) at f = by_kind (is_of_kind a.kind u) refl f
        where
          by_kind : (b : Bool) → is_of_kind a.kind u ≡ b → (if b then Some u else None) ≡ Some t
              → (at_name a.name key ≡ Some t) × IsValueOf a t
          by_kind true c g = (
            at ∙ g,
            subst (IsValueOf a) (same_Some u t g) (
              key_of a.kind u (value_at a.name key u is.fields at) c,
              named a.name key u is.names.1 at,
            ),
          )
          by_kind false c g = absurd (none-some t g)

  module _ (place : List ℕ) where
    -- behind the token of a place stand the parts of its values
    parts_behind : (h : Tree) (r : Option Tree) → Some (place_bytes (place_in_table h r)) ≡ Some place
        → drop 8 place ≡ flat_map key_bytes (key_values h r) ++ []
    parts_behind h r e = ap (drop 8) (sym (same_Some (place_bytes (place_in_table h r)) place e))
        ∙ behind_token (token_of h) (flat_map key_bytes (key_values h r))
        ∙ sym (append-nil (flat_map key_bytes (key_values h r)))

    has_beside : (hash : KeyAttr) (range : Option KeyAttr) (h : Tree)
        → (at_name hash.name key ≡ Some h) × IsValueOf hash h
        → option_map place_bytes (start_beside key range h) ≡ Some place
        → HasKey key hash range place
    has_beside hash None h at e = record {
      values = record { hash = h; range = None };
      has = record { hash_at = at.0; range_at = tt; are = (at.1, tt) };
      bytes = parts_behind h None e;
    }
    has_beside hash (Some r) h at e = by (start_value key r) refl e
      where
        by : (o : Option Tree) → start_value key r ≡ o
            → option_map place_bytes (option_map (λ t. place_in_table h (Some t)) o) ≡ Some place
            → HasKey key hash (Some r) place
        by None none_at f = absurd (none-some place f)
        by (Some t) there f =
            let stands = at_start r t there in
            record {
              values = record { hash = h; range = Some t };
              has = record { hash_at = at.0; range_at = stands.0; are = (at.1, stands.1) };
              bytes = parts_behind h (Some t) f;
            }

    has_key : (hash : KeyAttr) (range : Option KeyAttr)
        → option_map place_bytes (option_and_then (start_beside key range) (start_value key hash))
        ≡ Some place → HasKey key hash range place
    has_key hash range e = by (start_value key hash) refl e
      where
        by : (o : Option Tree) → start_value key hash ≡ o
            → option_map place_bytes (option_and_then (start_beside key range) o) ≡ Some place
            → HasKey key hash range place
        by None at f = absurd (none-some place f)
        by (Some h) at f = has_beside hash range h (at_start hash h at) f

-- ---- the key

-- where all names pass a test none is left that doesn't
none_beside : (test : List ℕ → Bool) (qs : List Pair) → list_all (λ q. test q.0) qs ≡ true
    → where_key text_order (λ n. not (test n)) qs ≡ []
none_beside test [] all = refl
none_beside test (q ∷ qs) all = by (test q.0) all (none_beside test qs)
  where
    by : (b : Bool) → (b && list_all (λ q. test q.0) qs) ≡ true
        → (list_all (λ q. test q.0) qs ≡ true → where_key text_order (λ n. not (test n)) qs ≡ [])
        → cond (not b) (q ∷ where_key text_order (λ n. not (test n)) qs)
        (where_key text_order (λ n. not (test n)) qs) ≡ []
    by true h rest = rest h
    by false h rest = absurd (false≢true h)

-- a place of a key of a table is that of its keys alone
alone_and_there : (d : TableSchema) (key : List Pair) (place : List ℕ)
    → built_place d key ≡ Some place
    → (has_keys_alone d None key ≡ true)
    × (option_map place_bytes (place_there d None key) ≡ Some place)
alone_and_there d key place e = by (has_keys_alone d None key) e
  where
    by : (b : Bool)
        → (if b then option_map place_bytes (place_there d None key) else None) ≡ Some place
        → (b ≡ true) × (option_map place_bytes (place_there d None key) ≡ Some place)
    by true f = (refl, f)
    by false f = absurd (none-some place f)

module _ (d : TableSchema) (key : List Pair) (place : List ℕ) (is : IsItemOfValues key)
    (there : built_place d key ≡ Some place) where
  -- the values that its place has
  pub key_there : HasKey key d.hash d.range place
  key_there = has_key key is place d.hash d.range (alone_and_there d key place there).1

  -- with them nothing is the key
  pub key_back : with_values d.hash d.range key_there.values [] ≡ key
  key_back = agrees_all key (with_values d.hash d.range key_there.values []) is.names
      (values_item d.hash d.range key_there.values [] key_there.has.are (tt, tt))
      (agrees-values key [] [] d.hash d.range key_there.values key_there.has
      (subst (AgreesBut key (names_of d.hash d.range ++ []))
      (none_beside (is_key d.hash d.range) key (alone_and_there d key place there).0)
      (agrees-beside key key [] d.hash d.range (agrees_itself key))))

  -- where it is taken, it is the key of the place
  pub taken_there : (item : List Pair) → item ≡ with_values d.hash d.range key_there.values []
      → built_place d item ≡ Some place
  taken_there item taken = ap (built_place d) (taken ∙ key_back) ∙ there

-- ---- what isn't read

-- nothing that is wanted is bad
pub takes_bad : (wanted : List Pair) (key behind : List ℕ) (item : List Pair) (e : Unread)
    → TakesKeyPart wanted key behind item (Err e) → e ≡ Bad → ⊥
takes_bad wanted key behind item Bad takes bad = takes
takes_bad wanted key behind item NoMemory takes bad = let no : NoMemory ≡ Bad = bad in cc no

-- what was passed on is as what was told
pub passed_bad : {A : Type 0} (r : Result A Unread) (e : Unread)
    → IsErr r × IsErrAnd r (λ x. x ≡ e) → r ≡ Err Bad → e ≡ Bad
passed_bad r e passed bad = sym (subst (λ x. IsErrAnd x (λ y. y ≡ e)) bad passed.1)

-- bytes that are equal don't differ
pub same_bytes : (a b : List ℕ) → a ≡ b → false ≡ bytes_eq a b → ⊥
same_bytes a b same differ =
    false≢true (differ ∙ ap (bytes_eq a) (sym same) ∙ bytes_eq-itself a)
