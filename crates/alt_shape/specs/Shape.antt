-- The rules of an object's members, how a rule is broken, and which broken rule of a table comes first.
use Rattle.std.specs.Prelude.{◌≡◌, ℕ, ℤ, pos, negsuc, ◌&&◌, ◌<◌, nat_le, List, [], ◌∷◌, map, Bool, true, false, if◌then◌else◌, Option, Some, None, is_some, option_and_then, slice_get}
use Rattle.std.specs.List.{list_any}
use Rattle.std.specs.Option.{option_map_or}
use Rattle.std.specs.Str.{bytes_eq}
use Rattle.serde_json.specs.Data.{Data, null, boolean, number, string, array, object, Members}
use Rattle.serde_json.specs.Find.{get_member, as_bool, as_number, as_integer, as_u64, as_str, as_array, as_object}
use Rattle.alt_shape.specs.declared.rule.Broken.{Broken}
use Rattle.alt_shape.specs.declared.rule.Broken.TheVariants.{WrongKind, Missing, OutOfRange}
use Rattle.alt_shape.specs.declared.rule.Kind.{Kind}
use Rattle.alt_shape.specs.declared.rule.Kind.TheVariants.{Text, Whole, Truth, Object, Array, Word}
use Rattle.alt_shape.specs.declared.rule.Rule.{Rule}
use Rattle.alt_shape.specs.declared.rule.ShapeFault.{ShapeFault}

-- what a value is to be
pub data Form : Type 0 where
  a_text : Form
  a_whole : ℕ → ℕ → Form
  a_truth : Form
  an_object : Form
  an_array : Form
  a_word : List (List ℕ) → Form

-- what is asked of the member of a name: its form, and whether it has to be there
pub record Demand : Type 0 where
  pub name : List ℕ
  pub form : Form
  pub must : Bool

-- ---- the rules of the program, as demands

-- the form of a rule's kind
abbrev pub form_of_kind : Kind → Form
form_of_kind Text = a_text
form_of_kind (Whole least most) = a_whole least most
form_of_kind Truth = a_truth
form_of_kind Object = an_object
form_of_kind Array = an_array
form_of_kind (Word words) = a_word (map (λ w. w.now) words.now)

-- what a rule asks
abbrev pub demand_of : Rule → Demand
demand_of rule = record { name = rule.name.now; form = form_of_kind rule.kind; must = rule.must }

-- ---- what a member holds

-- a value that is there; `null` counts as absent
abbrev pub unless_null : Option Data → Option Data
unless_null None = None
unless_null (Some null) = None
unless_null (Some (boolean b)) = Some (boolean b)
unless_null (Some (number n)) = Some (number n)
unless_null (Some (string s)) = Some (string s)
unless_null (Some (array ds)) = Some (array ds)
unless_null (Some (object ms)) = Some (object ms)

-- the value of the member of that name
abbrev pub given : List ℕ → Members → Option Data
given name ms = unless_null (get_member name ms)

-- the integer that a value is, where it is one of 64 bits
abbrev pub integer_of : Data → Option ℤ
integer_of d = option_and_then as_integer (as_number d)

-- the whole number that a value is, where it is one from 0 on
abbrev pub natural_of : Data → Option ℕ
natural_of d = option_and_then as_u64 (as_number d)

-- ---- forms

-- the value has the JSON kind of the form
abbrev pub has_json_kind : Form → Data → Bool
has_json_kind a_text d = is_some (as_str d)
has_json_kind (a_whole least most) d = is_some (integer_of d)
has_json_kind a_truth d = is_some (as_bool d)
has_json_kind an_object d = is_some (as_object d)
has_json_kind an_array d = is_some (as_array d)
has_json_kind (a_word words) d = is_some (as_str d)

-- an integer lies from `least` to `most`
abbrev pub lies_within : ℕ → ℕ → ℤ → Bool
lies_within least most (pos n) = nat_le least n && nat_le n most
lies_within least most (negsuc n) = false

-- a text is one of the words
abbrev pub is_among : List (List ℕ) → List ℕ → Bool
is_among words s = list_any (λ w. bytes_eq w s) words

-- the integer or the text of a value of the form's kind is in the form's range
abbrev pub in_form_range : Form → Data → Bool
in_form_range a_text d = true
in_form_range (a_whole least most) d = option_map_or (lies_within least most) (integer_of d) false
in_form_range a_truth d = true
in_form_range an_object d = true
in_form_range an_array d = true
in_form_range (a_word words) d = option_map_or (is_among words) (as_str d) false

-- ---- broken rules

-- how a value breaks a form, if it does
abbrev pub misfit_of : Form → Data → Option Broken
misfit_of form d =
    if has_json_kind form d then (if in_form_range form d then None else Some OutOfRange) else Some WrongKind

-- how a member that has to be there, or may be, breaks its form, if it does
abbrev pub fault_of : Form → Bool → Option Data → Option Broken
fault_of form must None = if must then Some Missing else None
fault_of form must (Some d) = misfit_of form d

-- how an object breaks a demand, if it does
abbrev pub unmet_by : Members → Demand → Option Broken
unmet_by ms d = fault_of d.form d.must (given d.name ms)

-- how an object breaks a rule, if it does
abbrev pub broken_by : Members → Rule → Option Broken
broken_by ms rule = unmet_by ms (demand_of rule)

-- how an object breaks the rule at a place of a table; None where it keeps it
abbrev pub broken_at : List Rule → Members → ℕ → Option Broken
broken_at rules ms place = option_and_then (broken_by ms) (slice_get rules place)

-- an object keeps every rule of a table
abbrev pub KeepsAll : List Rule → Members → Type 0
KeepsAll rules ms = (place : ℕ) → broken_at rules ms place ≡ None

-- a fault names the least place at which a rule is broken, and how it is broken there
pub record IsFirstBrokenRule (rules : List Rule) (ms : Members) (fault : ShapeFault) : Type 0 where
  pub broken : broken_at rules ms fault.rule ≡ Some fault.broken
  pub least : (place : ℕ) → place < fault.rule → broken_at rules ms place ≡ None

-- the first fault, and where there is none the second
abbrev pub or_next_fault : Option Broken → Option Broken → Option Broken
or_next_fault None second = second
or_next_fault (Some broken) second = Some broken

-- how an object breaks the first demand that it breaks, in the order of the list
abbrev pub first_unmet : List Demand → Members → Option Broken
first_unmet [] ms = None
first_unmet (d ∷ demands) ms = or_next_fault (unmet_by ms d) (first_unmet demands ms)
