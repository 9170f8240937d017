-- Refusals in their order. A request is refused by the first test that applies, and a refusal leaves the state itself. Each
-- operation makes the same steps: the shape of the body; members that don't go together; names; values; the table; keys; the item.
use Rattle.std.specs.Prelude.{Bool, true, false, List, [], ◌∷◌, Option, Some, None, option_map, Result, Ok, Err}
use Rattle.alt_codec.specs.declared.fault.ValueFault.{ValueFault}
use Rattle.alt_codec.specs.declared.fault.ValueFault.TheVariants.{NotOneMember, UnknownKind, WrongJson, BadNumber, BadBase64, EmptySet, RepeatInSet, NullNotTrue, TooDeep, EmptyName, NoMemory}
use Rattle.alt_decimal.specs.declared.fault.NumberFault.{NumberFault}
use Rattle.alt_decimal.specs.declared.fault.NumberFault.TheVariants.{NotANumber, TooManyDigits, TooLarge, TooSmall}
use Rattle.alt_shape.specs.declared.refusal.Refusal.{Refusal}
use Rattle.alt_shape.specs.Refusals as refusal
use Rattle.alt_shape.specs.Refusals.{Answer, refused}

-- the first that applies of a list of tests, each of which answers its refusal where it applies
abbrev pub first_answer : List (Option Answer) → Option Answer
first_answer [] = None
first_answer (None ∷ tests) = first_answer tests
first_answer (Some answer ∷ tests) = Some answer

-- a test that refuses where that holds
abbrev pub refuse_if : Bool → Refusal → Option Answer
refuse_if true r = Some (refused r)
refuse_if false r = None

-- a test that refuses where that doesn't hold
abbrev pub refuse_unless : Bool → Refusal → Option Answer
refuse_unless true r = None
refuse_unless false r = Some (refused r)

-- a test that names its own refusal
abbrev pub refuse_by : Option Refusal → Option Answer
refuse_by = option_map refused

-- what comes next, behind what was found
infixl 10 ◌>>=◌
-- an answer on the way stays the answer
abbrev pub ◌>>=◌ : {A B : Type 0} → Result A Answer → (A → Result B Answer) → Result B Answer
Ok x >>= next = next x
Err answer >>= next = Err answer

-- what is found, unless a test applies
abbrev pub unless_answer : {A : Type 0} → Option Answer → A → Result A Answer
unless_answer None x = Ok x
unless_answer (Some answer) x = Err answer

-- what was found, or the refusal of a request that needs it
abbrev pub or_refused : {A : Type 0} → Refusal → Option A → Result A Answer
or_refused r None = Err (refused r)
or_refused r (Some x) = Ok x

-- ---- values

-- the refusal of a text that is no number that can be kept
abbrev pub number_refusal : NumberFault → Refusal
number_refusal NotANumber = refusal.not_a_number
number_refusal TooManyDigits = refusal.too_many_digits
number_refusal TooLarge = refusal.number_too_large
number_refusal TooSmall = refusal.number_too_small

-- the refusal of a value for its fault (docs/formats/value-json.md)
abbrev pub value_refusal : ValueFault → Refusal
value_refusal NotOneMember = refusal.not_one_kind
value_refusal UnknownKind = refusal.not_one_kind
value_refusal WrongJson = refusal.unreadable
value_refusal (BadNumber f) = number_refusal f
value_refusal BadBase64 = refusal.bad_base64
value_refusal EmptySet = refusal.empty_set
value_refusal RepeatInSet = refusal.repeat_in_set
value_refusal NullNotTrue = refusal.null_not_true
value_refusal TooDeep = refusal.nested_too_deep
value_refusal EmptyName = refusal.not_one_kind
value_refusal NoMemory = refusal.unreadable
