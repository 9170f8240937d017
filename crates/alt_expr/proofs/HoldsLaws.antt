-- What `holds` is at each kind of condition.
use Rattle.std.proofs.Common.{◌≡◌, sym, ap, ◌∙◌, Bool, ◌&&◌, not, List, rules}
use Rattle.std.specs.Prelude.{is_some}
use Rattle.std.specs.List.{list_any, list_all}
use Rattle.alt_base.proofs.Lists.{all-map, any-map}
use Rattle.alt_expr.specs.declared.path.PathPart.{PathPart}
use Rattle.alt_expr.specs.declared.cond.Comparison.{Comparison}
use Rattle.alt_expr.specs.declared.cond.Comparison.TheVariants.{LessEqual, GreaterEqual}
use Rattle.alt_expr.specs.declared.cond.Operand.{Operand}
use Rattle.alt_expr.specs.declared.cond.Cond.{Cond, fold-Cond, fold-roll-Cond, the_lemmas}
use Rattle.alt_expr.specs.declared.cond.Cond.TheOpen.{Cond-F}
use Rattle.alt_expr.specs.declared.cond.Cond.TheVariants as cond
use Rattle.alt_expr.specs.declared.cond.Cond.TheVariants.{rolls-Any, rolls-All}
use Rattle.alt_expr.specs.Located.{View, located}
use Rattle.alt_expr.specs.Holds.{denoted, equal, compares, has_kind, begins, contains, judged, holds}

-- OR holds where one of its members does, and AND where each does
pub holds-Any : (item : View) (cs : List Cond) → holds item (cond.Any cs) ≡ list_any (holds item) cs
unfolding holds
holds-Any item cs = ap (fold-Cond Bool (judged item)) (sym (rolls-Any cs))
    ∙ fold-roll-Cond Bool (judged item) (Cond-F.Any cs) ∙ any-map (holds item) cs

-- an AND holds where all its conditions do
pub holds-All : (item : View) (cs : List Cond) → holds item (cond.All cs) ≡ list_all (holds item) cs
unfolding holds
holds-All item cs = ap (fold-Cond Bool (judged item)) (sym (rolls-All cs))
    ∙ fold-roll-Cond Bool (judged item) (Cond-F.All cs) ∙ all-map (holds item) cs

-- the others, each by the definition
pub holds-Not : (item : View) (c : Cond) → holds item (cond.Not c) ≡ not (holds item c)
unfolding holds
holds-Not item c = search (rules, the_lemmas)

-- a comparison holds where its operands compare so
pub holds-Compare : (item : View) (by : Comparison) (x y : Operand)
    → holds item (cond.Compare by x y) ≡ compares by (denoted item x) (denoted item y)
unfolding holds
holds-Compare item by x y = search (rules, the_lemmas)

-- a BETWEEN holds from the low operand to the high one
pub holds-Between : (item : View) (x low high : Operand) → holds item (cond.Between x low high)
    ≡ (compares GreaterEqual (denoted item x) (denoted item low)
    && compares LessEqual (denoted item x) (denoted item high))
unfolding holds
holds-Between item x low high = search (rules, the_lemmas)

-- an IN holds where one of those that are listed is equal
pub holds-Among : (item : View) (x : Operand) (ys : List Operand)
    → holds item (cond.Among x ys) ≡ list_any (λ y. equal (denoted item x) (denoted item y)) ys
unfolding holds
holds-Among item x ys = search (rules, the_lemmas)

-- `attribute_exists` holds where something stands at the path
pub holds-Exists : (item : View) (path : List PathPart)
    → holds item (cond.Exists path) ≡ is_some (located item path)
unfolding holds
holds-Exists item path = search (rules, the_lemmas)

-- `attribute_not_exists` holds where nothing stands there
pub holds-NotExists : (item : View) (path : List PathPart)
    → holds item (cond.NotExists path) ≡ not (is_some (located item path))
unfolding holds
holds-NotExists item path = search (rules, the_lemmas)

-- `attribute_type` holds where what stands there is of the kind
pub holds-HasKind : (item : View) (path : List PathPart) (x : Operand)
    → holds item (cond.HasKind path x) ≡ has_kind (located item path) (denoted item x)
unfolding holds
holds-HasKind item path x = search (rules, the_lemmas)

-- `begins_with` holds where the first operand begins with the second
pub holds-BeginsWith : (item : View) (x y : Operand)
    → holds item (cond.BeginsWith x y) ≡ begins (denoted item x) (denoted item y)
unfolding holds
holds-BeginsWith item x y = search (rules, the_lemmas)

-- `contains` holds where the first operand contains the second
pub holds-Contains : (item : View) (x y : Operand)
    → holds item (cond.Contains x y) ≡ contains (denoted item x) (denoted item y)
unfolding holds
holds-Contains item x y = search (rules, the_lemmas)

pub ruleset laws = (holds-Any, holds-All, holds-Not, holds-Compare, holds-Between, holds-Among, holds-Exists, holds-NotExists, holds-HasKind, holds-BeginsWith, holds-Contains)
