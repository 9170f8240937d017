-- The one member that isn't null.
use Rattle.std.proofs.Common.{◌≡◌, refl, sym, ap, ◌∙◌, ℕ, Bool, true, false, List, [], ◌∷◌, Option, Some, None, Ok, Err, cond}
use Rattle.serde_json.specs.Data.{Data, null, boolean, number, string, array, object, Members, no_members, member}
use Rattle.serde_json.specs.Find.{as_object, as_array, as_null}
use Rattle.std.specs.Prelude.{length, ◌==◌, is_some}
use Rattle.serde_json.specs.View.{items_view}
use Rattle.serde_json.specs.declared.value.Value.{Value}
use Rattle.alt_codec.specs.Sets.{set_items}
use Rattle.alt_codec.specs.declared.fault.ValueFault.TheVariants as fault
use Rattle.alt_codec.specs.Reading.{ValueOrFault, value_in, only_member, only_present, all_null, payload_in}

-- the answer of the one member that is there
unfoldable pub of_present : ℕ → Option (List ℕ × Data) → ValueOrFault
of_present room None = Err fault.NotOneMember
of_present room (Some p) = payload_in room p.0 p.1

-- with others beside it, and alone
alone_or_not : (room : ℕ) (name : List ℕ) (d : Data) (alone : Bool)
    → cond alone (payload_in room name d) (Err fault.NotOneMember)
    ≡ of_present room (cond alone (Some (name, d)) None)
unfolding of_present
alone_or_not room name d true = refl
alone_or_not room name d false = refl

-- the walk over an object's members answers by the one that isn't null
pub only_member-only_present : (room : ℕ) (ms : Members)
    → only_member room ms ≡ of_present room (only_present ms)
unfolding of_present
only_member-only_present room no_members = refl
only_member-only_present room (member name null ms) = only_member-only_present room ms
only_member-only_present room (member name (boolean b) ms) =
    alone_or_not room name (boolean b) (all_null ms)
only_member-only_present room (member name (number n) ms) =
    alone_or_not room name (number n) (all_null ms)
only_member-only_present room (member name (string s) ms) =
    alone_or_not room name (string s) (all_null ms)
only_member-only_present room (member name (array ds) ms) =
    alone_or_not room name (array ds) (all_null ms)
only_member-only_present room (member name (object os) ms) =
    alone_or_not room name (object os) (all_null ms)

-- what gives members is an object
pub object_from : (d : Data) (ms : Members) → Some ms ≡ as_object d → d ≡ object ms
object_from null ms e = cc
object_from (boolean b) ms e = cc
object_from (number n) ms e = cc
object_from (string s) ms e = cc
object_from (array ds) ms e = cc
object_from (object os) ms e = cc

-- an object with one member that isn't null
pub value_in-some : (room : ℕ) (d : Data) (ms : Members) (name : List ℕ) (payload : Data)
    → Some ms ≡ as_object d
    → Some (name, payload) ≡ only_present ms → value_in room d ≡ payload_in room name payload
unfolding of_present
value_in-some room d ms name payload e f =
    rw (object_from d ms e) (only_member-only_present room ms ∙ ap (of_present room) (sym f))

-- an object without one, or with several
pub value_in-none : (room : ℕ) (d : Data) (ms : Members) → Some ms ≡ as_object d
    → None ≡ only_present ms
    → value_in room d ≡ Err fault.NotOneMember
unfolding of_present
value_in-none room d ms e f =
    rw (object_from d ms e) (only_member-only_present room ms ∙ ap (of_present room) (sym f))

-- an array that isn't empty gives its items
pub items_from : (d : Data) (vs : List Value) → Some (items_view vs) ≡ as_array d
    → false ≡ (length vs == 0) → set_items d ≡ Ok (items_view vs)
items_from null vs e some = cc
items_from (boolean b) vs e some = cc
items_from (number n) vs e some = cc
items_from (string s) vs e some = cc
items_from (object ms) vs e some = cc
items_from (array ds) [] e some = cc
items_from (array ds) (v ∷ vs) e some =
    let same : items_view (v ∷ vs) ≡ ds = cc in
    rw (← same) refl

-- the one member that isn't null, where one was found so far, or none
pub found_with : Option (List ℕ × Data) → Members → Option (List ℕ × Data)
found_with None ms = only_present ms
found_with (Some p) ms = cond (all_null ms) (Some p) None

-- a null member changes nothing of what was found
pub found_null : (found : Option (List ℕ × Data)) (name : List ℕ) (d : Data) (ms : Members)
    → true ≡ is_some (as_null d)
    → found_with found (member name d ms) ≡ found_with found ms
unfolding found_with
found_null None name null ms e = refl
found_null (Some p) name null ms e = refl
found_null found name (boolean b) ms e = cc
found_null found name (number n) ms e = cc
found_null found name (string s) ms e = cc
found_null found name (array ds) ms e = cc
found_null found name (object os) ms e = cc

-- the first that isn't null is found
pub found_first : (name : List ℕ) (d : Data) (ms : Members) → false ≡ is_some (as_null d)
    → found_with None (member name d ms) ≡ found_with (Some (name, d)) ms
unfolding found_with
found_first name null ms e = cc
found_first name (boolean b) ms e = refl
found_first name (number n) ms e = refl
found_first name (string s) ms e = refl
found_first name (array ds) ms e = refl
found_first name (object os) ms e = refl

-- a second leaves none
pub found_second : (p : List ℕ × Data) (name : List ℕ) (d : Data) (ms : Members)
    → false ≡ is_some (as_null d)
    → found_with (Some p) (member name d ms) ≡ None
unfolding found_with
found_second p name null ms e = cc
found_second p name (boolean b) ms e = refl
found_second p name (number n) ms e = refl
found_second p name (string s) ms e = refl
found_second p name (array ds) ms e = refl
found_second p name (object os) ms e = refl

-- behind the last member stands what was found
pub found_end : (found : Option (List ℕ × Data)) → found_with found no_members ≡ found
unfolding found_with
found_end None = refl
found_end (Some p) = refl

-- where nothing was found yet, the rest decides
pub found_none : (ms : Members) → found_with None ms ≡ only_present ms
unfolding found_with
found_none ms = refl
