-- Texts, numbers and binaries in JSON, and the kinds without elements.
use Rattle.std.specs.Prelude.{ℕ, ℤ, true, false, List, Result, Ok, Err}
use Rattle.base64.specs.Engines.{standard}
use Rattle.base64.specs.GeneralPurpose.{decode_of}
use Rattle.base64.specs.declared.decode.DecodeError.{DecodeError}
use Rattle.alt_decimal.specs.declared.fault.NumberFault.{NumberFault}
use Rattle.serde_json.specs.Data.{Data, null, boolean, number, string, array, object}
use Rattle.alt_value.specs.Tree.{Tree, BOOL_tree, NULL_tree}
use Rattle.alt_codec.specs.declared.fault.ValueFault.{ValueFault}
use Rattle.alt_codec.specs.declared.fault.ValueFault.TheVariants as fault
use Rattle.alt_codec.specs.Numbers.{number_of}
use Rattle.alt_codec.specs.Steps.{and_then}

-- a JSON text
abbrev pub text_in : Data → Result (List ℕ) ValueFault
text_in (string s) = Ok s
text_in null = Err fault.WrongJson
text_in (boolean b) = Err fault.WrongJson
text_in (number n) = Err fault.WrongJson
text_in (array ds) = Err fault.WrongJson
text_in (object ms) = Err fault.WrongJson

-- a number, or why it is none, as a fault of the value
abbrev pub or_bad_number : Result ℤ NumberFault → Result ℤ ValueFault
or_bad_number (Ok z) = Ok z
or_bad_number (Err f) = Err (fault.BadNumber f)

-- a number is sent as a text
abbrev pub number_in : Data → Result ℤ ValueFault
number_in d = and_then (λ s. or_bad_number (number_of s)) (text_in d)

-- bytes, or that they are no base64
abbrev pub or_bad_base64 : Result (List ℕ) DecodeError → Result (List ℕ) ValueFault
or_bad_base64 (Ok b) = Ok b
or_bad_base64 (Err e) = Err fault.BadBase64

-- a binary is sent in base64, with padding (RFC 4648, section 4)
abbrev pub binary_in : Data → Result (List ℕ) ValueFault
binary_in d = and_then (λ s. or_bad_base64 (decode_of standard s)) (text_in d)

-- a truth value is sent as one
abbrev pub truth_in : Data → Result Tree ValueFault
truth_in (boolean b) = Ok (BOOL_tree b)
truth_in null = Err fault.WrongJson
truth_in (number n) = Err fault.WrongJson
truth_in (string s) = Err fault.WrongJson
truth_in (array ds) = Err fault.WrongJson
truth_in (object ms) = Err fault.WrongJson

-- NULL is sent as true
abbrev pub null_in : Data → Result Tree ValueFault
null_in (boolean true) = Ok NULL_tree
null_in (boolean false) = Err fault.NullNotTrue
null_in null = Err fault.WrongJson
null_in (number n) = Err fault.WrongJson
null_in (string s) = Err fault.WrongJson
null_in (array ds) = Err fault.WrongJson
null_in (object ms) = Err fault.WrongJson
