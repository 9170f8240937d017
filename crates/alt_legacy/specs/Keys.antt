-- The entries that are a condition on the keys of a table or an index (API Reference, "Query", KeyConditions).
use Rattle.std.specs.Prelude.{◌≡◌, true, false, ◌&&◌, List, [], ◌∷◌, Option, Some, None, is_some, if◌then◌else◌}
use Rattle.std.specs.Str.{bytes_eq}
use Rattle.alt_schema.specs.declared.schema.KeyAttr.{KeyAttr}
use Rattle.alt_value.specs.declared.attr.Attr.{Attr}
use Rattle.alt_value.specs.declared.kind.KeyKind.{KeyKind}
use Rattle.alt_value.specs.declared.kind.KeyKind.TheVariants as kind
use Rattle.alt_expr.specs.KeyForm.{Key, Ask, RangeTest, anything, compared, between, fronted, has_kind, ask_of_parts, or_else, ask_of}
use Rattle.alt_expr.specs.Holds.{holds}
use Rattle.alt_expr.specs.Located.{View}
use Rattle.alt_expr.specs.declared.cond.Comparison.{Comparison}
use Rattle.alt_expr.specs.declared.cond.Comparison.TheVariants as c
use Rattle.alt_expr.specs.declared.cond.Cond.{Cond}
use Rattle.alt_legacy.specs.Meets.{meets_entries}
use Rattle.alt_legacy.specs.declared.entry.Entry.{Entry}
use Rattle.alt_legacy.specs.declared.entry.Test.{Test}
use Rattle.alt_legacy.specs.declared.entry.Test.TheVariants as t
use Rattle.alt_legacy.specs.declared.fault.LegacyFault.{LegacyFault}
use Rattle.alt_legacy.specs.declared.fault.LegacyFault.TheVariants as fault

-- the key of a description
abbrev pub key_of : KeyAttr → Key
key_of k = record { name = k.name; kind = k.kind }

-- ---- the HASH attribute

-- the value of that kind that a test asks for by EQ
abbrev pub equal_value_of_kind : KeyKind → Test → Option Attr
equal_value_of_kind k (t.Compares c.Equal v) = if has_kind k v then Some v else None
equal_value_of_kind k _ = None

-- the value that an entry asks of the HASH attribute
abbrev pub entry_hash_value : Key → Entry → Option Attr
entry_hash_value key e = if bytes_eq e.name key.name then equal_value_of_kind key.kind e.test else None

-- ---- the RANGE attribute

-- a comparison with a value of that kind, but for NE
abbrev pub range_comparison_of_kind : KeyKind → Comparison → Attr → Option RangeTest
range_comparison_of_kind k c.NotEqual v = None
range_comparison_of_kind k by v = if has_kind k v then Some (compared by v) else None

-- texts and binaries may begin with a value
abbrev pub range_front_of_kind : KeyKind → Attr → Option RangeTest
range_front_of_kind kind.N v = None
range_front_of_kind k v = if has_kind k v then Some (fronted v) else None

-- what a test asks of a RANGE attribute of that kind
abbrev pub range_test_of_kind : KeyKind → Test → Option RangeTest
range_test_of_kind k (t.Compares by v) = range_comparison_of_kind k by v
range_test_of_kind k (t.Between low high) =
    if has_kind k low && has_kind k high then Some (between low high) else None
range_test_of_kind k (t.Begins v) = range_front_of_kind k v
range_test_of_kind k _ = None

-- what an entry asks of the RANGE attribute
abbrev pub entry_range_test : Key → Entry → Option RangeTest
entry_range_test key e = if bytes_eq e.name key.name then range_test_of_kind key.kind e.test else None

-- ---- the whole

-- the first on the HASH attribute and the second on the RANGE attribute, which has to be there
abbrev pub both_entries_asked : Key → Option Key → Entry → Entry → Option Ask
both_entries_asked hash (Some range) d e = ask_of_parts (entry_hash_value hash d) (entry_range_test range e)
both_entries_asked hash None d e = None

-- what entries ask of the keys: EQ of the HASH attribute, alone or with one entry on the RANGE attribute; nothing of other entries
abbrev pub asked_by_entries : Key → Option Key → List Entry → Option Ask
asked_by_entries hash range (e ∷ []) = ask_of_parts (entry_hash_value hash e) (Some anything)
asked_by_entries hash range (d ∷ e ∷ []) = or_else (both_entries_asked hash range d e) (both_entries_asked hash range e d)
asked_by_entries hash range _ = None

-- a condition asks that of the keys, and holds of the items that meet the entries
pub record Asks (hash : Key) (range : Option Key) (entries : List Entry) (condition : Cond)
    : Type 0 where
  pub is_key : is_some (asked_by_entries hash range entries) ≡ true
  pub same_ask : ask_of hash range condition ≡ asked_by_entries hash range entries
  pub same_items : (item : View) → holds item condition ≡ meets_entries false entries item

-- the entries have a meaning, and this is their condition on the keys
abbrev pub IsKeyCondition : Option (List Entry) → Key → Option Key → Cond → Type 0
IsKeyCondition meaning hash range condition = (entries : List Entry) × (meaning ≡ Some entries)
    × Asks hash range entries condition

-- Why entries are no condition on the keys: they have no meaning, or they don't ask that.
abbrev pub IsNoKey : Option (List Entry) → Key → Option Key → LegacyFault → Type 0
IsNoKey meaning hash range fault.Bad = meaning ≡ None
IsNoKey meaning hash range fault.NotKey =
    (entries : List Entry) × (meaning ≡ Some entries) × (asked_by_entries hash range entries ≡ None)
IsNoKey meaning hash range fault.NoMemory = Unit {0}
