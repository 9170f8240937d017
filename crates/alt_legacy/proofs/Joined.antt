-- The condition of several entries holds of the items that meet them, and of no others.
use Rattle.std.proofs.Common.{◌≡◌, refl, sym, ap, ◌∙◌, Bool, true, false, ◌||◌, ◌&&◌, List, [], ◌∷◌, map, Option, Some}
use Rattle.std.proofs.Math.Bool.{and-true}
use Rattle.std.specs.Prelude.{is_none}
use Rattle.std.specs.List.{list_any, list_all}
use Rattle.alt_expr.specs.declared.cond.Cond.{Cond}
use Rattle.alt_expr.specs.Holds.{holds}
use Rattle.alt_expr.specs.Located.{View}
use Rattle.alt_expr.proofs.HoldsLaws.{holds-Any, holds-All}
use Rattle.alt_legacy.specs.Answered.{IsCondition}
use Rattle.alt_legacy.specs.declared.entry.Entry.{Entry}
use Rattle.alt_legacy.specs.Meets.{holds_for, is_nothing, meets_entries, holds_of}
use Rattle.alt_legacy.specs.Trees.{condition_of_entry, joined_condition}
use Rattle.alt_legacy.proofs.Meaning.{entry_holds}

-- some tree holds where some entry does
any_hold : (item : View) (es : List Entry)
    → list_any (holds item) (map condition_of_entry es) ≡ list_any (holds_for item) es
any_hold item [] = refl
any_hold item (e ∷ es) = λ i. entry_holds item e i || any_hold item es i

-- each tree holds where each entry does
all_hold : (item : View) (es : List Entry)
    → list_all (holds item) (map condition_of_entry es) ≡ list_all (holds_for item) es
all_hold item [] = refl
all_hold item (e ∷ es) = λ i. entry_holds item e i && all_hold item es i

or_false : (b : Bool) → b ≡ (b || false)
or_false true = refl
or_false false = refl

-- the condition that entries make together
pub joined_holds : (any : Bool) (es : List Entry) (item : View)
    → holds_of (joined_condition any (map condition_of_entry es)) item ≡ meets_entries any es item
joined_holds true [] item = refl
joined_holds false [] item = refl
joined_holds true (e ∷ []) item = entry_holds item e ∙ or_false (holds_for item e)
joined_holds false (e ∷ []) item = entry_holds item e ∙ sym (and-true (holds_for item e))
joined_holds true (d ∷ e ∷ es) item = holds-Any item (map condition_of_entry (d ∷ e ∷ es))
    ∙ any_hold item (d ∷ e ∷ es)
joined_holds false (d ∷ e ∷ es) item = holds-All item (map condition_of_entry (d ∷ e ∷ es))
    ∙ all_hold item (d ∷ e ∷ es)

-- there is none where there are no entries
joined_none : (any : Bool) (es : List Entry)
    → is_none (joined_condition any (map condition_of_entry es)) ≡ is_nothing es
joined_none any [] = refl
joined_none any (e ∷ []) = refl
joined_none any (d ∷ e ∷ es) = refl

-- the condition of a member that has a meaning
pub is_condition : (meaning : Option (List Entry)) (any : Bool) (es : List Entry)
    (condition : Option Cond) → meaning ≡ Some es → condition ≡ joined_condition any (map condition_of_entry es)
    → IsCondition meaning any condition
is_condition meaning any es condition means made = (
  es,
  means,
  (
    ap (λ (o : Option Cond). is_none o) made ∙ joined_none any es,
    λ item. ap (λ (o : Option Cond). holds_of o item) made ∙ joined_holds any es item,
  ),
)
