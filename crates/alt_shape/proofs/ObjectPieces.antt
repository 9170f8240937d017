-- The tokens of objects, of entries and of fields, one by one, are those of the list and of the objects.
use Rattle.std.proofs.Common.{◌≡◌, refl, ap, ◌∙◌, List, [], ◌∷◌, ◌++◌}
use Rattle.std.specs.List.{flat_map}
use Rattle.std.proofs.lemmas.List.{append_assoc}
use Rattle.std.proofs.lemmas.List.Concat.{flat_map-cons}
use Rattle.serde_json.specs.Data.{object, array}
use Rattle.serde_json.specs.Written.{outline, items_outline, members_outline}
use Rattle.json.specs.Token as token
use Rattle.json.specs.Token.{Token}
use Rattle.json.specs.Tree.{json_tokens, items_tokens, members_tokens}
use Rattle.alt_shape.specs.Objects.{entries_json, fields_json, objects_json}
use Rattle.alt_shape.specs.ObjectPieces.{entry_tokens, field_tokens, object_tokens}
use Rattle.alt_shape.specs.declared.object.Entry.{Entry}
use Rattle.alt_shape.specs.declared.object.Field.{Field}
use Rattle.alt_shape.specs.declared.object.Object.{Object}
use Rattle.alt_shape.proofs.Pieces.{in_brackets}

-- the fields, and the bracket behind them
fields_closed : (fs : List Field) → flat_map field_tokens fs ++ token.end_object ∷ []
    ≡ members_tokens (members_outline (fields_json fs))
fields_closed [] = refl
fields_closed (f ∷ fs) =
    ap (λ ts. ts ++ token.end_object ∷ []) (flat_map-cons field_tokens f fs)
    ∙ append_assoc (field_tokens f) (flat_map field_tokens fs) (token.end_object ∷ [])
    ∙ ap (λ ts. field_tokens f ++ ts) (fields_closed fs)

-- the entries, and the bracket behind them
entries_closed : (es : List Entry) → flat_map entry_tokens es ++ token.end_object ∷ []
    ≡ members_tokens (members_outline (entries_json es))
entries_closed [] = refl
entries_closed (e ∷ es) =
    ap (λ ts. ts ++ token.end_object ∷ []) (flat_map-cons entry_tokens e es)
    ∙ append_assoc (entry_tokens e) (flat_map entry_tokens es) (token.end_object ∷ [])
    ∙ ap (λ ts. entry_tokens e ++ ts) (entries_closed es)

-- the objects, and the bracket behind them
objects_closed : (os : List Object) → flat_map object_tokens os ++ token.end_array ∷ []
    ≡ items_tokens (items_outline (objects_json os))
objects_closed [] = refl
objects_closed (o ∷ os) =
    ap (λ ts. ts ++ token.end_array ∷ []) (flat_map-cons object_tokens o os)
    ∙ append_assoc (object_tokens o) (flat_map object_tokens os) (token.end_array ∷ [])
    ∙ ap (λ ts. object_tokens o ++ ts) (objects_closed os)

-- the tokens of an object of fields
pub fields_written : (old : List Token) (fs : List Field)
    → ((old ++ token.begin_object ∷ []) ++ flat_map field_tokens fs) ++ token.end_object ∷ []
    ≡ old ++ json_tokens (outline (object (fields_json fs)))
fields_written old fs = in_brackets old (flat_map field_tokens fs) token.begin_object token.end_object
    ∙ ap (λ ts. old ++ token.begin_object ∷ ts) (fields_closed fs)

-- the tokens of an object of entries
pub entries_written : (old : List Token) (es : List Entry)
    → ((old ++ token.begin_object ∷ []) ++ flat_map entry_tokens es) ++ token.end_object ∷ []
    ≡ old ++ json_tokens (outline (object (entries_json es)))
entries_written old es = in_brackets old (flat_map entry_tokens es) token.begin_object token.end_object
    ∙ ap (λ ts. old ++ token.begin_object ∷ ts) (entries_closed es)

-- the tokens of a list of objects
pub objects_written : (old : List Token) (os : List Object)
    → ((old ++ token.begin_array ∷ []) ++ flat_map object_tokens os) ++ token.end_array ∷ []
    ≡ old ++ json_tokens (outline (array (objects_json os)))
objects_written old os = in_brackets old (flat_map object_tokens os) token.begin_array token.end_array
    ∙ ap (λ ts. old ++ token.begin_array ∷ ts) (objects_closed os)
