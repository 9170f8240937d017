-- Reading a `Value` reads its data.
use Rattle.std.proofs.Common.{◌≡◌, ℕ, List, Some, None, ap, ◌∙◌, cond}
use Rattle.std.specs.Prelude.{option_and_then}
use Rattle.std.specs.Str.{IsUtf8}
use Rattle.std.proofs.lemmas.Str.{is_utf8-from_IsUtf8}
use Rattle.serde_json.specs.Data.{Data}
use Rattle.serde_json.specs.Find.{as_object}
use Rattle.serde_json.specs.Read.{read}
use Rattle.alt_machine.specs.Members.{body_of}

-- text that reads as this
pub body_of_read : (bytes : List ℕ) (d : Data) → IsUtf8 bytes → read bytes ≡ Some d
    → body_of bytes ≡ as_object d
body_of_read bytes d valid reads =
    ap (λ b. cond b (option_and_then as_object (read bytes)) None) (is_utf8-from_IsUtf8 bytes valid)
    ∙ ap (option_and_then as_object) reads
