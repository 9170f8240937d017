-- Conditions that hold of the same items, for private contracts but `HoldsAs`.
use Rattle.std.specs.Prelude.{◌≡◌, Bool, List, map, Some}
use Rattle.alt_value.specs.Tree.{Tree}
use Rattle.alt_expr.specs.declared.cond.Cond.{Cond}
use Rattle.alt_expr.specs.declared.cond.Operand.{Operand}
use Rattle.alt_expr.specs.Holds.{holds, denoted}
use Rattle.alt_expr.specs.Located.{View}

-- The second condition holds of exactly those items of which the first does.
abbrev pub HoldsAs : Cond → Cond → Type 0
HoldsAs old new = (item : View) → holds item new ≡ holds item old

-- each of the conditions holds of the same items as that at its place among the first
abbrev pub EachAs : List Cond → List Cond → Type 0
EachAs old new = (item : View) → map (holds item) new ≡ map (holds item) old

-- the condition holds where a question about the item is answered with yes
abbrev pub HoldsAsTold : (View → Bool) → Cond → Type 0
HoldsAsTold told c = (item : View) → holds item c ≡ told item

-- whatever the item, the operand denotes that value
abbrev pub IsGiven : Operand → Tree → Type 0
IsGiven x t = (item : View) → denoted item x ≡ Some t
