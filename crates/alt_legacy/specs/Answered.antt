-- What the calls answer.
use Rattle.std.specs.Prelude.{◌≡◌, ◌≢◌, Bool, List, Option, Some, None, is_none}
use Rattle.alt_expr.specs.Located.{View}
use Rattle.alt_expr.specs.declared.cond.Cond.{Cond}
use Rattle.alt_legacy.specs.Meets.{is_nothing, meets_entries, holds_of}
use Rattle.alt_legacy.specs.declared.entry.Entry.{Entry}
use Rattle.alt_legacy.specs.declared.fault.LegacyFault.{LegacyFault}
use Rattle.alt_legacy.specs.declared.fault.LegacyFault.TheVariants as fault

-- a member without a meaning is bad; the other fault is want of memory
abbrev pub IsBad : {A : Type 0} → Option A → LegacyFault → Type 0
IsBad meaning f = f ≢ fault.NoMemory → (f ≡ fault.Bad) × (meaning ≡ None)

-- the condition of entries that are there: it holds of exactly the items that meet them, and there is none where there are no entries
abbrev pub IsConditionOf : List Entry → Bool → Option Cond → Type 0
IsConditionOf entries any condition = (is_none condition ≡ is_nothing entries)
    × ((item : View) → holds_of condition item ≡ meets_entries any entries item)

-- the entries have a meaning, and this is their condition
abbrev pub IsCondition : Option (List Entry) → Bool → Option Cond → Type 0
IsCondition meaning any condition = (entries : List Entry) × (meaning ≡ Some entries)
    × IsConditionOf entries any condition
