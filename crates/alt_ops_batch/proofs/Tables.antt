-- Tables with their items, put one after another: where their names rise, they stand in that order.
use Rattle.std.proofs.Common.{◌≡◌, ◌<◌, refl, sym, ap, ◌∙◌, ℕ, zero, suc, ◌+◌, ◌&&◌, Bool, true, false, List, [], ◌∷◌, length, drop, get_or, Ordering, Less, Equal, Greater, nat_cmp, add-one, arith}
use Rattle.std.specs.Prelude.{String}
use Rattle.std.specs.declared.alloc.Global.{Global}
use Rattle.std.specs.Cmp.Lexicographic.{slice_cmp}
use Rattle.std.specs.Ordering.{is_lt}
use Rattle.serde_json.specs.Data.{Data, array, item, Members, no_members, put}
use Rattle.serde_json.specs.View.{members_view}
use Rattle.serde_json.specs.declared.value.Value.{Value}
use Rattle.serde_json.specs.Written.{members_have_float}
use Rattle.alt_codec.specs.Writing.{json_of_pairs}
use Rattle.alt_ops_batch.specs.private.Readings.{responses_of, rises}
use Rattle.alt_ops_batch.proofs.Behind.{IsBehind, behind_more, less_then, put_behind, strung, strung-no_members, strung-one}
use Rattle.alt_schema.specs.Json.{items_by}
use Rattle.alt_shape.proofs.Plain.{items_plain, members_have_float-put}
use Rattle.alt_shape.specs.Body.{items_json, tables_json}
use Rattle.alt_shape.specs.declared.body.TableItems.{TableItems}
use Rattle.alt_value.specs.Tree.{Pair}

-- ---- items

-- items as JSON, one by one
pub items_each : (is : List (List Pair)) → items_json is ≡ items_by json_of_pairs is
items_each [] = refl
items_each (i ∷ is) = ap (λ ds. item (json_of_pairs i) ds) (items_each is)

-- the items of a table, as JSON
abbrev pub shown_of : TableItems → Data
shown_of t = array (items_json t.items.items)

-- ---- tables put one after another

-- no float comes among them
pub responses_plain : (ms : Members) (ts : List TableItems) → members_have_float ms ≡ false
    → members_have_float (responses_of ms ts) ≡ false
responses_plain ms [] h = h
responses_plain ms (t ∷ ts) h = responses_plain (put t.table (shown_of t) ms) ts
    (members_have_float-put t.table (shown_of t) ms (items_plain t.items.items) h)

-- nor where nothing stands before them
pub all_plain : (ms : Members) (ts : List TableItems) → ms ≡ responses_of no_members ts
    → members_have_float ms ≡ false
all_plain ms ts e = ap members_have_float e ∙ responses_plain no_members ts refl

-- from a place on
responses_from_suc : (ms : Members) (ts : List TableItems) (i : ℕ) (t : TableItems) → i < length ts
    → responses_of ms (drop i ts)
    ≡ responses_of (put (get_or ts i t).table (shown_of (get_or ts i t)) ms) (drop (suc i) ts)
responses_from_suc ms [] i t h = absurd (omega arith)
responses_from_suc ms (u ∷ ts) zero t h = refl
responses_from_suc ms (u ∷ ts) (suc i) t h = responses_from_suc ms ts i t (omega arith)

-- the same, with the next place counted by + 1
pub responses_from : (ms : Members) (ts : List TableItems) (i : ℕ) (t : TableItems) → i < length ts
    → responses_of ms (drop i ts)
    ≡ responses_of (put (get_or ts i t).table (shown_of (get_or ts i t)) ms) (drop (i + 1) ts)
responses_from ms ts i t h = rw add-one (responses_from_suc ms ts i t h)

-- ---- names that rise

-- from a place on
rises_from_suc : (name : List ℕ) (ts : List TableItems) (i : ℕ) (t : TableItems) → i < length ts
    → rises name (drop i ts)
    ≡ (is_lt (slice_cmp nat_cmp name (get_or ts i t).table)
    && rises (get_or ts i t).table (drop (suc i) ts))
rises_from_suc name [] i t h = absurd (omega arith)
rises_from_suc name (u ∷ ts) zero t h = refl
rises_from_suc name (u ∷ ts) (suc i) t h = rises_from_suc name ts i t (omega arith)

-- the same, with the next place counted by + 1
pub rises_from : (name : List ℕ) (ts : List TableItems) (i : ℕ) (t : TableItems) → i < length ts
    → rises name (drop i ts)
    ≡ (is_lt (slice_cmp nat_cmp name (get_or ts i t).table)
    && rises (get_or ts i t).table (drop (i + 1) ts))
rises_from name ts i t h = rw add-one (rises_from_suc name ts i t h)

-- what a test of two names says
both_true : (o : Ordering) (b : Bool) → (is_lt o && b) ≡ true → (o ≡ Less) × (b ≡ true)
both_true Less b e = (refl, e)
both_true Equal b e = absurd (cc)
both_true Greater b e = absurd (cc)

-- tables whose names rise stand behind those before in their order
rising : (name : List ℕ) (ms : Members) (ts : List TableItems)
    → ((k : List ℕ) → slice_cmp nat_cmp name k ≡ Less → IsBehind k ms) → rises name ts ≡ true
    → responses_of ms ts ≡ strung ms (tables_json ts)
rising name ms [] behind e = sym (strung-no_members ms)
rising name ms (t ∷ ts) behind e =
    let tested = both_true (slice_cmp nat_cmp name t.table) (rises t.table ts) e in
    let at = behind t.table tested.0 in
    rising t.table (put t.table (shown_of t) ms) ts
    (λ k less. behind_more t.table (shown_of t) ms k
    (behind k (less_then name t.table k tested.0 less)) less at) tested.1
    ∙ ap (λ ns. strung ns (tables_json ts)) (put_behind t.table (shown_of t) ms at)
    ∙ strung-one t.table (shown_of t) ms (tables_json ts)

-- so they are as they stand
pub all_rising : (ts : List TableItems) → rises [] ts ≡ true
    → responses_of no_members ts ≡ tables_json ts
all_rising ts e = rising [] no_members ts (λ k less. tt) e

-- nothing in a map is no member
pub empty_members : (es : List (String Global × Value)) → length es ≡ 0
    → members_view es ≡ no_members
empty_members [] e = refl
empty_members (x ∷ es) e = absurd (omega (arith, e))
