-- What is read back of what is written, for private contracts.
use Rattle.std.specs.Prelude.{◌≡◌, ℕ, ℤ, List, [], ◌∷◌, Ok, ⊤}
use Rattle.base64.specs.Engines.{standard}
use Rattle.base64.specs.GeneralPurpose.{encode_of, decode_of}
use Rattle.alt_decimal.specs.Printed.{printed}
use Rattle.alt_value.specs.Tree.{Tree, Pair}
use Rattle.alt_codec.specs.Numbers.{number_of}
use Rattle.alt_codec.specs.ReadBack.{ReadsAsValue, ReadsAsItem}
use Rattle.alt_codec.specs.Writing.{json_of, json_of_pairs}

-- a number is read back from its text, and bytes from theirs
abbrev pub NumberReturns : ℤ → Type 0
NumberReturns z = number_of (printed z) ≡ Ok z

-- bytes are read back from their base64
abbrev pub BytesReturn : List ℕ → Type 0
BytesReturn b = decode_of standard (encode_of standard b) ≡ Ok b

-- a value, and an item, is read back from its JSON, however much room there is
abbrev pub Returns : Tree → Type 0
Returns t = (room : ℕ) → ReadsAsValue room (json_of t) t

-- and so is an item
abbrev pub ItemReturns : List Pair → Type 0
ItemReturns item = (room : ℕ) → ReadsAsItem room (json_of_pairs item) item

-- each does
abbrev pub Each : {A : Type 0} → (A → Type 0) → List A → Type 0
Each P [] = ⊤
Each P (x ∷ xs) = P x × Each P xs
