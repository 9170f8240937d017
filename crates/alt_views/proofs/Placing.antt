-- The bytes of a place in an index, as they are put one after another.
use Rattle.std.proofs.Common.{◌≡◌, ap, ◌++◌}
use Rattle.std.proofs.lemmas.Grind.{flat_map-append}
use Rattle.std.specs.Int.{w64, to_be_bytes}
use Rattle.std.specs.List.{flat_map}
use Rattle.alt_keyorder.specs.KeyBytes.{key_bytes}
use Rattle.alt_keyorder.specs.Place.{key_values, place_bytes}
use Rattle.alt_keyorder.specs.Token.{token_of}
use Rattle.alt_machine.specs.Indexed.{KeyValues, place_of_both}

-- behind the token stand the parts of the index's key and then those of the table's
pub place_both : (own key : KeyValues) → place_bytes (place_of_both own key)
    ≡ to_be_bytes w64 (token_of own.hash) ++ (flat_map key_bytes (key_values own.hash own.range)
    ++ flat_map key_bytes (key_values key.hash key.range))
place_both own key = ap (λ bytes. to_be_bytes w64 (token_of own.hash) ++ bytes)
    (flat_map-append key_bytes (key_values own.hash own.range) (key_values key.hash key.range))
