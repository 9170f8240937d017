-- Which CreateTables are refused, and why (DynamoDB API Reference, "CreateTable"; Developer Guide, "Naming rules" and "Service,
-- account, and table quotas"; docs/API.md).
use Rattle.std.specs.Prelude.{ℕ, Bool, true, false, not, ◌&&◌, ◌||◌, ◌==◌, nat_lt, nat_le, if◌then◌else◌, List, [], ◌∷◌, ◌++◌, length, Option, Some, None, codes}
use Rattle.std.specs.List.{list_any, list_all}
use Rattle.std.specs.Str.{bytes_eq}
use Rattle.serde_json.specs.Data.{Members}
use Rattle.alt_shape.specs.declared.refusal.Refusal.{Refusal}
use Rattle.alt_shape.specs.Refusals.{bad_name, bad_key_schema, bad_index}
use Rattle.alt_schema.specs.Stated.{stated}
use Rattle.alt_description.specs.declared.schema.KeyAttr.{KeyAttr}
use Rattle.alt_schema.specs.declared.stated.Element.{Element}
use Rattle.alt_schema.specs.declared.stated.StatedIndex.{StatedIndex}
use Rattle.alt_schema.specs.declared.stated.Stated.{Stated}

-- ---- names of tables and indexes

-- a letter, a digit, `_`, `-` or `.`
abbrev pub is_name_byte : ℕ → Bool
is_name_byte b = (nat_le 97 b && nat_le b 122)
    || ((nat_le 65 b && nat_le b 90)
    || ((nat_le 48 b && nat_le b 57) || (b == 95 || (b == 45 || b == 46))))

-- 3 to 255 such bytes
abbrev pub is_name : List ℕ → Bool
is_name name = nat_le 3 (length name) && (nat_le (length name) 255 && list_all is_name_byte name)

-- the indexes, local ones first
abbrev pub stated_indexes : Stated → List StatedIndex
stated_indexes b = b.locals ++ b.globals

-- the names of the table and of its indexes are good
abbrev pub names_fit : Stated → Bool
names_fit b = is_name b.name && list_all (λ i. is_name i.name) (stated_indexes b)

-- ---- key schemas and definitions

-- an element of that role whose name isn't empty
abbrev pub plays : List ℕ → Element → Bool
plays role e = bytes_eq e.role role && nat_lt 0 (length e.name)

-- HASH, and perhaps RANGE behind it, of two different names
abbrev pub is_key_schema : List Element → Bool
is_key_schema [] = false
is_key_schema (h ∷ []) = plays (codes "HASH") h
is_key_schema (h ∷ r ∷ []) = plays (codes "HASH") h
    && (plays (codes "RANGE") r && not (bytes_eq h.name r.name))
is_key_schema (h ∷ r ∷ e ∷ es) = false

-- a test of the key schemas of the table and of each index
abbrev pub in_each_schema : (List Element → Bool) → Stated → Bool
in_each_schema test b = test b.keys && list_all (λ i. test i.keys) (stated_indexes b)

-- an attribute of that name is in a key schema
abbrev pub is_used_in : List ℕ → List Element → Bool
is_used_in name keys = list_any (λ e. bytes_eq e.name name) keys

-- it is in that of the table or of an index
abbrev pub is_used_in_any_schema : Stated → List ℕ → Bool
is_used_in_any_schema b name = is_used_in name b.keys || list_any (λ i. is_used_in name i.keys) (stated_indexes b)

-- an attribute of that name is defined
abbrev pub is_defined : List KeyAttr → List ℕ → Bool
is_defined definitions name = list_any (λ d. bytes_eq d.name name) definitions

-- no two of a list have the same name
abbrev pub all_differ : {A : Type 0} → (A → List ℕ) → List A → Bool
all_differ name [] = true
all_differ name (x ∷ xs) = not (list_any (λ y. bytes_eq (name y) (name x)) xs) && all_differ name xs

-- exactly the attributes used are defined, each once
abbrev pub defines_exactly : Stated → Bool
defines_exactly b =
    all_differ (λ d. d.name) b.definitions
    && (list_all (λ d. is_used_in_any_schema b d.name) b.definitions
    && in_each_schema (list_all (λ e. is_defined b.definitions e.name)) b)

-- the key schemas are good, and the definitions fit them
abbrev pub keys_fit_together : Stated → Bool
keys_fit_together b = in_each_schema is_key_schema b && defines_exactly b

-- ---- indexes

-- the most local indexes of a table
abbrev pub most_locals : ℕ
most_locals = 5

-- the most global indexes of a table
abbrev pub most_globals : ℕ
most_globals = 20

-- the most names that an index keeps
abbrev pub most_included : ℕ
most_included = 20

-- ALL or KEYS_ONLY without names, or INCLUDE with 1 to 20 names that aren't empty
abbrev pub is_projection : List ℕ → Option (List (List ℕ)) → Bool
is_projection word None = bytes_eq word (codes "ALL") || bytes_eq word (codes "KEYS_ONLY")
is_projection word (Some names) =
    bytes_eq word (codes "INCLUDE")
    && (nat_lt 0 (length names) &&
    (nat_le (length names) most_included && list_all (λ n. nat_lt 0 (length n)) names))

-- the keys of a local index beside those of its table: both have a RANGE key, of one HASH key and different RANGE keys
abbrev pub is_local_to : List Element → List Element → Bool
is_local_to (h ∷ r ∷ []) (i ∷ j ∷ []) = bytes_eq i.name h.name && not (bytes_eq j.name r.name)
is_local_to table index = false

-- the indexes are not too many, differ in name, and are good ones
abbrev pub indexes_fit : Stated → Bool
indexes_fit b =
    nat_le (length b.locals) most_locals && (nat_le (length b.globals) most_globals
    && (all_differ (λ i. i.name) (stated_indexes b)
    && (list_all (λ i. is_local_to b.keys i.keys) b.locals
    && list_all (λ i. is_projection i.projects i.includes) (stated_indexes b))))

-- ---- the first that is broken

-- "bad table or index name", then "bad key schema or attribute definitions", then "bad index"
unfoldable pub refused_for : Stated → Option Refusal
refused_for b =
    if not (names_fit b) then Some bad_name
    else (if not (keys_fit_together b) then Some bad_key_schema
    else (if not (indexes_fit b) then Some bad_index else None))

-- why the body of a CreateTable is refused for its names, keys or indexes, if it is
unfoldable pub create_table_refusal : Members → Option Refusal
create_table_refusal body = refused_for (stated body)
