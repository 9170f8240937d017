-- What a ListTables comes to.
use Rattle.std.proofs.Common.{◌≡◌, sym, ap, ◌∙◌, ℕ, Bool, false, nat_lt, take, length, List, Option, Some, None, Result, Ok, Err, IfOk}
use Rattle.std.specs.Prelude.{if◌then◌else◌}
use Rattle.std.specs.List.{last_or}
use Rattle.serde_json.specs.Data.{Members}
use Rattle.serde_json.specs.Written.{has_float}
use Rattle.alt_machine.specs.Ops.ListTables.{of_body, start_name, page_length, names_after, listed, table_names_page, list_tables}
use Rattle.alt_machine.specs.Outcomes.{says, refuses}
use Rattle.alt_machine.specs.Refusals.{first_answer}
use Rattle.alt_machine.specs.State.{State, Texts, descriptions}
use Rattle.alt_machine.proofs.Descriptions.{keys-descriptions}
use Rattle.alt_machine.proofs.Tests.{passed, stopped}
use Rattle.alt_schema.specs.declared.schema.TableSchema.{TableSchema}
use Rattle.alt_shape.specs.Body.{body_json}
use Rattle.alt_shape.specs.Refusals.{Answer, answer_of, refused}
use Rattle.alt_shape.specs.declared.refusal.Refusal.{Refusal}
use Rattle.alt_shape.specs.declared.refusal.Reply.{Reply}
use Rattle.std.specs.FinMap as map
use Rattle.std.specs.List.{filter}
use Rattle.std.specs.Ordering.{is_lt}
use Rattle.alt_base.proofs.Bools.{or_nothing}
use Rattle.alt_codec.proofs.Plain.{strings_plain}
use Rattle.alt_value.specs.Members.{text_order}

-- a body that is unfit is refused as its first test says
pub list-refused : (s : State) (ms : Members) (r : Refusal)
    → first_answer (of_body ms) ≡ Some (refused r) → list_tables s ms ≡ refuses r
unfolding list_tables
list-refused s ms r e = stopped (of_body ms) _ (refused r) e

-- the page of the names in the catalog
pub list-page : (s : State) (ms : Members) (catalog : Texts TableSchema)
    → catalog ≡ descriptions s.tables → first_answer (of_body ms) ≡ None
    → list_tables s ms ≡ says (table_names_page (page_length ms) (names_after (start_name ms) catalog))
unfolding list_tables
list-page s ms catalog same free = passed (of_body ms) _ free
    ∙ ap (λ names. says (table_names_page (page_length ms)
    (filter (λ name. is_lt (text_order (start_name ms) name)) names)))
    (sym (keys-descriptions s.tables) ∙ ap (λ m. map.keys m) (sym same))

-- the names of a page, told with its last one where there are more, are the page of all names
pub page-listed : (more : Bool) (names all : List (List ℕ)) (most : ℕ) → names ≡ take most all
    → more ≡ nat_lt most (length all)
    → listed (if more then last_or None names else None) names ≡ table_names_page most all
page-listed more names all most e f = λ i. listed (if f i then last_or None (e i) else None) (e i)

-- ---- no float stands in it

listed_plain : (last : Option (List ℕ)) (names : List (List ℕ))
    → has_float (listed last names).body ≡ false
listed_plain None names = or_nothing _ (strings_plain names)
listed_plain (Some l) names = or_nothing _ (strings_plain names)

-- a reply that lists names has no float in it
pub reply_plain : (reply : Reply) (last : Option (List ℕ)) (names : List (List ℕ))
    → answer_of reply ≡ listed last names → has_float (body_json reply.body) ≡ false
reply_plain reply last names e = ap (λ (a : Answer). has_float a.body) e ∙ listed_plain last names

-- nor has any that a call gives back, if it does
pub page_plain : {E : Type 0} (r : Result Reply E) (last : Option (List ℕ)) (names : List (List ℕ))
    → IfOk r (λ reply. answer_of reply ≡ listed last names)
    → IfOk r (λ reply. has_float (body_json reply.body) ≡ false)
page_plain (Ok reply) last names h = reply_plain reply last names h
page_plain (Err e) last names h = tt
