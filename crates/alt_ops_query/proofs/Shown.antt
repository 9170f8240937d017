-- A page as JSON.
use Rattle.std.proofs.Common.{◌≡◌, refl, sym, ap, ◌∙◌, ℕ, Bool, true, false, List, [], ◌∷◌, ◌++◌, Option, Some, None, option_map}
use Rattle.std.proofs.lemmas.Bool.{or_from}
use Rattle.std.specs.Prelude.{if◌then◌else◌, codes}
use Rattle.serde_json.specs.Data.{Data, number, unsigned, array, Members, no_members, member}
use Rattle.serde_json.specs.Written.{has_float, members_have_float}
use Rattle.alt_codec.specs.Writing.{json_of_pairs}
use Rattle.alt_codec.proofs.Plain.{pairs_plain}
use Rattle.alt_expr.specs.Pages.{Page}
use Rattle.alt_machine.specs.Lists.{shown_items, key_attributes, page_answer}
use Rattle.alt_machine.specs.Sources.{selects}
use Rattle.alt_ops_query.specs.private.Replied.{behind}
use Rattle.alt_schema.specs.Json.{member_if}
use Rattle.alt_schema.specs.declared.schema.IndexSchema.{IndexSchema}
use Rattle.alt_schema.specs.declared.schema.TableSchema.{TableSchema}
use Rattle.alt_shape.specs.Body.{items_json, members_json, part_json}
use Rattle.alt_shape.specs.declared.body.Member.{Member}
use Rattle.alt_shape.specs.Refusals.{answered}
use Rattle.alt_shape.proofs.Plain.{items_plain}
use Rattle.alt_value.specs.Tree.{Pair}

-- ---- the members stand in the order of their names

-- members behind others are those of the lists joined
pub members_behind : (xs ys : List Member)
    → members_json (xs ++ ys) ≡ behind (members_json xs) (members_json ys)
members_behind [] ys = refl
members_behind (m ∷ xs) ys =
    ap (λ ms. member m.name.now (part_json m.value) ms) (members_behind xs ys)

-- nothing behind others changes nothing
pub nothing_behind : (ms : Members) → ms ≡ behind ms no_members
nothing_behind no_members = refl
nothing_behind (member name d ms) = ap (λ more. member name d more) (nothing_behind ms)

-- where counts alone are wanted no items stand behind what is there
pub none_behind : (ms there : Members) (items : List (List Pair))
    → selects (codes "COUNT") ms ≡ true
    → there ≡ behind there (member_if (codes "Items") (shown_items ms items) no_members)
none_behind ms there items is = nothing_behind there
    ∙ sym (ap (λ c. behind there (member_if (codes "Items")
    (if c then None else Some (array (items_json items))) no_members)) is)

-- Count, Items, LastEvaluatedKey and ScannedCount, as far as they are there, one behind another
pub members_in_order : (count scanned : Data) (items last : Option Data)
    → behind (behind (behind (member (codes "Count") count no_members)
    (member_if (codes "Items") items no_members))
    (member_if (codes "LastEvaluatedKey") last no_members))
    (member (codes "ScannedCount") scanned no_members)
    ≡ member (codes "Count") count (member_if (codes "Items") items
    (member_if (codes "LastEvaluatedKey") last (member (codes "ScannedCount") scanned no_members)))
members_in_order count scanned None None = refl
members_in_order count scanned (Some i) None = refl
members_in_order count scanned None (Some l) = refl
members_in_order count scanned (Some i) (Some l) = refl

-- so a page is answered by its members
pub page_members : (d : TableSchema) (i : Option IndexSchema) (ms : Members) (page : Page)
    (last : Option (List Pair)) (count scanned : ℕ) (items : List (List Pair))
    (one two three four : Members)
    → count ≡ page.count → scanned ≡ page.scanned → items ≡ page.items
    → one ≡ member (codes "Count") (number (unsigned count)) no_members
    → two ≡ behind one (member_if (codes "Items") (shown_items ms items) no_members)
    → three ≡ behind two (member_if (codes "LastEvaluatedKey")
    (option_map (λ row. json_of_pairs (key_attributes d i row)) last) no_members)
    → four ≡ behind three (member (codes "ScannedCount") (number (unsigned scanned)) no_members)
    → answered four ≡ page_answer d i ms page last
page_members d i ms page last count scanned items one two three four
    count_is scanned_is items_is first second third fourth =
    ap answered (fourth ∙ (λ j. behind (third_is j)
    (member (codes "ScannedCount") (number (unsigned (scanned_is j))) no_members))
    ∙ members_in_order (number (unsigned page.count)) (number (unsigned page.scanned))
    (shown_items ms page.items) key)
  where
    key : Option Data
    key = option_map (λ row. json_of_pairs (key_attributes d i row)) last

    first_is : one ≡ member (codes "Count") (number (unsigned page.count)) no_members
    first_is = first
        ∙ (λ j. member (codes "Count") (number (unsigned (count_is j))) no_members)

    second_is : two ≡ behind (member (codes "Count") (number (unsigned page.count)) no_members)
        (member_if (codes "Items") (shown_items ms page.items) no_members)
    second_is = second ∙ (λ j. behind (first_is j)
        (member_if (codes "Items") (shown_items ms (items_is j)) no_members))

    third_is : three ≡ behind (behind
        (member (codes "Count") (number (unsigned page.count)) no_members)
        (member_if (codes "Items") (shown_items ms page.items) no_members))
        (member_if (codes "LastEvaluatedKey") key no_members)
    third_is = third
        ∙ ap (λ x. behind x (member_if (codes "LastEvaluatedKey") key no_members)) second_is

-- ---- no float stands in it

-- the members have none, where the items and the key have none
members_plain : (items last : Option Data) (count scanned : ℕ)
    → ((d : Data) → items ≡ Some d → has_float d ≡ false)
    → ((d : Data) → last ≡ Some d → has_float d ≡ false)
    → members_have_float (member (codes "Count") (number (unsigned count))
    (member_if (codes "Items") items (member_if (codes "LastEvaluatedKey") last
    (member (codes "ScannedCount") (number (unsigned scanned)) no_members)))) ≡ false
members_plain None None count scanned h k = refl
members_plain (Some i) None count scanned h k = or_from (has_float i) false (h i refl) refl
members_plain None (Some l) count scanned h k = or_from (has_float l) false (k l refl) refl
members_plain (Some i) (Some l) count scanned h k = or_from (has_float i)
    (members_have_float (member (codes "LastEvaluatedKey") l
    (member (codes "ScannedCount") (number (unsigned scanned)) no_members)))
    (h i refl) (or_from (has_float l) false (k l refl) refl)

-- nor have the items that are shown
shown_plain : (ms : Members) (items : List (List Pair)) (d : Data)
    → shown_items ms items ≡ Some d → has_float d ≡ false
shown_plain ms items d = by (selects (codes "COUNT") ms)
  where
    by : (c : Bool) → (if c then None else Some (array (items_json items))) ≡ Some d
        → has_float d ≡ false
    by true e = absurd (let f : ⊥ = cc in f)
    by false e = let is : array (items_json items) ≡ d = cc in
        ap has_float (sym is) ∙ items_plain items

-- nor has the key to go on after
last_plain : (d : TableSchema) (i : Option IndexSchema) (last : Option (List Pair)) (x : Data)
    → option_map (λ row. json_of_pairs (key_attributes d i row)) last ≡ Some x
    → has_float x ≡ false
last_plain d i None x e = absurd (let f : ⊥ = cc in f)
last_plain d i (Some row) x e =
    let is : json_of_pairs (key_attributes d i row) ≡ x = cc in
    ap has_float (sym is) ∙ pairs_plain (key_attributes d i row)

-- nor has the answer
pub answer_plain : (d : TableSchema) (i : Option IndexSchema) (ms : Members) (page : Page)
    (last : Option (List Pair)) → has_float (page_answer d i ms page last).body ≡ false
answer_plain d i ms page last = members_plain (shown_items ms page.items)
    (option_map (λ row. json_of_pairs (key_attributes d i row)) last) page.count page.scanned
    (shown_plain ms page.items) (last_plain d i last)
