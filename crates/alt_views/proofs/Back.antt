-- An item whose keys were taken out is the item again where their values are put back.
use Rattle.std.proofs.Common.{◌≡◌, refl, sym, ap, ◌∙◌, ℕ, Bool, true, false, not, cond, List, [], ◌∷◌, ◌++◌, Option, Some, None, arith}
use Rattle.std.proofs.lemmas.Bool.{or_parts}
use Rattle.std.proofs.lemmas.Slice.Eq.{bytes_eq-Decides}
use Rattle.std.specs.Prelude.{◌||◌}
use Rattle.std.specs.List.{list_any}
use Rattle.std.specs.Ordering.{eq_by_cmp}
use Rattle.std.specs.Str.{bytes_eq}
use Rattle.std.specs.FinMap.Entries.{find-put, same_entries}
use Rattle.alt_machine.specs.Indexed.{KeyValues}
use Rattle.alt_schema.specs.Indexes.{is_key}
use Rattle.alt_schema.specs.declared.schema.KeyAttr.{KeyAttr}
use Rattle.alt_value.specs.Item.{IsItem, at_name, with_pair}
use Rattle.alt_value.specs.Members.{text_order}
use Rattle.alt_value.specs.Tree.{Tree, Pair}
use Rattle.alt_value.proofs.Entries.{IsItem-with_pair}
use Rattle.alt_value.proofs.TextTies.{text_ties}
use Rattle.alt_value.proofs.Texts.{text_total, text_apart}
use Rattle.alt_views.specs.IndexRows.{beside}
use Rattle.alt_views.specs.Read.{AreValuesOf, IsRangeValueOf, with_range, with_values}
use Rattle.alt_views.proofs.Parts.{at_name-where}
use Rattle.alt_views.proofs.Values.{HasValues, StandsAt}

-- a name is one of those
is_among : List (List ℕ) → List ℕ → Bool
is_among names q = list_any (λ n. bytes_eq n q) names

-- an item has what another one has, but at some names
pub AgreesBut : List Pair → List (List ℕ) → List Pair → Type 0
AgreesBut whole names item = (q : List ℕ) → is_among names q ≡ false
    → at_name q item ≡ at_name q whole

-- the names of a key
abbrev pub names_of : KeyAttr → Option KeyAttr → List (List ℕ)
names_of hash None = hash.name ∷ []
names_of hash (Some r) = hash.name ∷ r.name ∷ []

-- where a key is taken out, the item still agrees but at the key's names
pub agrees-beside : (whole item : List Pair) (names : List (List ℕ)) (hash : KeyAttr)
    (range : Option KeyAttr) → AgreesBut whole names item
    → AgreesBut whole (names_of hash range ++ names) (beside hash range item)
unfolding AgreesBut is_among
agrees-beside whole item names hash None agrees q other =
    let tests = or_parts (bytes_eq hash.name q) (is_among names q) other in
    at_name-where (λ n. not (is_key hash None n)) q item
    ∙ ap (λ b. cond (not (b || false)) (at_name q item) None) tests.0
    ∙ agrees q tests.1
agrees-beside whole item names hash (Some r) agrees q other =
    let front = or_parts (bytes_eq hash.name q) (bytes_eq r.name q || is_among names q) other in
    let tests = or_parts (bytes_eq r.name q) (is_among names q) front.1 in
    at_name-where (λ n. not (is_key hash (Some r) n)) q item
    ∙ (λ j. cond (not (front.0 j || tests.0 j)) (at_name q item) None)
    ∙ agrees q tests.1

-- where a value of the whole is put, it agrees there too
agrees-put : (whole item : List Pair) (name : List ℕ) (names : List (List ℕ)) (t : Tree)
    → at_name name whole ≡ Some t → AgreesBut whole (name ∷ names) item
    → AgreesBut whole names (with_pair name t item)
unfolding AgreesBut is_among
agrees-put whole item name names t at agrees q other =
    find-put text_order text_total q name t item ∙ by_name (eq_by_cmp text_order q name) refl
  where
    by_name : (b : Bool) → eq_by_cmp text_order q name ≡ b
        → cond b (Some t) (at_name q item) ≡ at_name q whole
    by_name true e = sym at ∙ ap (λ n. at_name n whole) (sym (equal e))
      where
        equal : eq_by_cmp text_order q name ≡ true → q ≡ name
        equal e = let same : bytes_eq q name ≡ true = sym (text_ties q name) ∙ e in
            grind (arith, bytes_eq-Decides)
    by_name false e =
        let differs : bytes_eq q name ≡ false = sym (text_ties q name) ∙ e in
        let turned : bytes_eq name q ≡ false = turn name q differs in
        agrees q (ap (λ b. b || is_among names q) turned ∙ other)
      where
        turn : (a b : List ℕ) → bytes_eq b a ≡ false → bytes_eq a b ≡ false
        turn a b h = grind (arith, bytes_eq-Decides)

-- and where the values of a key are put, at its names
pub agrees-values : (whole item : List Pair) (names : List (List ℕ)) (hash : KeyAttr)
    (range : Option KeyAttr) (values : KeyValues) → HasValues whole hash range values
    → AgreesBut whole (names_of hash range ++ names) item
    → AgreesBut whole names (with_values hash range values item)
agrees-values whole item names hash range values has agrees =
    by_range range values.range refl has.range_at has.are.1 agrees
  where
    by_range : (r : Option KeyAttr) (o : Option Tree) → values.range ≡ o → StandsAt whole r o
        → IsRangeValueOf r o
        → AgreesBut whole (names_of hash r ++ names) item
        → AgreesBut whole names
        (with_range r o (with_pair hash.name values.hash item))
    by_range None None is stands of agrees =
        agrees-put whole item hash.name names values.hash has.hash_at agrees
    by_range None (Some t) is stands of agrees = absurd of
    by_range (Some r) None is stands of agrees = absurd of
    by_range (Some r) (Some t) is stands of agrees =
        agrees-put whole (with_pair hash.name values.hash item) r.name names t stands
        (agrees-put whole item hash.name (r.name ∷ names) values.hash has.hash_at agrees)

-- an item with the values of a key is an item
pub values_item : (hash : KeyAttr) (range : Option KeyAttr) (values : KeyValues) (item : List Pair)
    → AreValuesOf hash range values → IsItem item → IsItem (with_values hash range values item)
values_item hash range values item are item_is = by range values.range are.1
  where
    put : IsItem (with_pair hash.name values.hash item)
    put = IsItem-with_pair hash.name values.hash item are.0.1 item_is

    by : (r : Option KeyAttr) (o : Option Tree) → IsRangeValueOf r o
        → IsItem (with_range r o (with_pair hash.name values.hash item))
    by None None of = put
    by None (Some t) of = absurd of
    by (Some r) None of = absurd of
    by (Some r) (Some t) of = IsItem-with_pair r.name t (with_pair hash.name values.hash item)
        of.1 put

-- an item that agrees everywhere is the whole
pub agrees_all : (whole item : List Pair) → IsItem whole → IsItem item → AgreesBut whole [] item
    → item ≡ whole
unfolding AgreesBut is_among
agrees_all whole item is is_item agrees =
    same_entries text_order text_total text_apart item whole is_item.0 is.0 (λ q. agrees q refl)

-- an item agrees with itself at all names
pub agrees_itself : (whole : List Pair) → AgreesBut whole [] whole
unfolding AgreesBut
agrees_itself whole q other = refl
