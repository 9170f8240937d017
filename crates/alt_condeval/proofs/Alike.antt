-- Conditions with answers in the place of their parts hold of the same items.
use Rattle.std.proofs.Common.{◌≡◌, sym, ap, ◌∙◌, Bool, ◌&&◌, not, List, [], ◌∷◌, ◌++◌, map, Option, Some}
use Rattle.std.proofs.lemmas.List.{map-append}
use Rattle.std.proofs.Math.Bool.{and-true}
use Rattle.std.specs.List.{list_any, list_all}
use Rattle.alt_base.proofs.Lists.{all-map, any-map}
use Rattle.alt_value.specs.Tree.{Tree}
use Rattle.alt_expr.specs.declared.cond.Comparison.{Comparison}
use Rattle.alt_expr.specs.declared.cond.Comparison.TheVariants.{LessEqual, GreaterEqual}
use Rattle.alt_expr.specs.declared.cond.Operand.{Operand}
use Rattle.alt_expr.specs.declared.cond.Cond.{Cond}
use Rattle.alt_expr.specs.declared.cond.Cond.TheVariants as cond
use Rattle.alt_expr.specs.Located.{View}
use Rattle.alt_expr.specs.Holds.{holds, denoted, compares, equal, begins, contains}
use Rattle.alt_expr.proofs.HoldsLaws.{holds-Any, holds-All, holds-Not, holds-Compare, holds-Between, holds-Among, holds-BeginsWith, holds-Contains}
use Rattle.alt_condeval.specs.Settled.{HoldsAs, EachAs, HoldsAsTold, IsGiven}

-- one of them holds where one did
pub any-as : (xs ys : List Cond) → EachAs xs ys → HoldsAs (cond.Any xs) (cond.Any ys)
any-as xs ys each item =
    holds-Any item ys ∙ sym (any-map (holds item) ys) ∙ ap (list_any (λ b. b)) (each item)
    ∙ any-map (holds item) xs ∙ sym (holds-Any item xs)

-- and all where all did
pub all-as : (xs ys : List Cond) → EachAs xs ys → HoldsAs (cond.All xs) (cond.All ys)
all-as xs ys each item =
    holds-All item ys ∙ sym (all-map (holds item) ys) ∙ ap (list_all (λ b. b)) (each item)
    ∙ all-map (holds item) xs ∙ sym (holds-All item xs)

pub not-as : (c d : Cond) → HoldsAs c d → HoldsAs (cond.Not c) (cond.Not d)
not-as c d same item = holds-Not item d ∙ ap not (same item) ∙ sym (holds-Not item c)

-- what tells the same as a condition holds of the same items
pub compare-as : (by : Comparison) (x y : Operand) (d : Cond)
    → HoldsAsTold (λ item. compares by (denoted item x) (denoted item y)) d
    → HoldsAs (cond.Compare by x y) d
compare-as by x y d tells item = tells item ∙ sym (holds-Compare item by x y)

pub between-as : (x low high : Operand) (d : Cond)
    → HoldsAsTold (λ item. compares GreaterEqual (denoted item x) (denoted item low)
    && compares LessEqual (denoted item x) (denoted item high)) d
    → HoldsAs (cond.Between x low high) d
between-as x low high d tells item = tells item ∙ sym (holds-Between item x low high)

pub among-as : (x : Operand) (ys : List Operand) (d : Cond)
    → HoldsAsTold (λ item. list_any (λ y. equal (denoted item x) (denoted item y)) ys) d
    → HoldsAs (cond.Among x ys) d
among-as x ys d tells item = tells item ∙ sym (holds-Among item x ys)

pub begins-as : (x y : Operand) (d : Cond)
    → HoldsAsTold (λ item. begins (denoted item x) (denoted item y)) d
    → HoldsAs (cond.BeginsWith x y) d
begins-as x y d tells item = tells item ∙ sym (holds-BeginsWith item x y)

pub contains-as : (x y : Operand) (d : Cond)
    → HoldsAsTold (λ item. contains (denoted item x) (denoted item y)) d
    → HoldsAs (cond.Contains x y) d
contains-as x y d tells item = tells item ∙ sym (holds-Contains item x y)

pub ruleset laws = (any-as, all-as, not-as, compare-as, between-as, among-as, begins-as, contains-as)

-- both of two conditions
pub both-tell : (f g : View → Bool) (c d : Cond) → HoldsAsTold f c → HoldsAsTold g d
    → HoldsAsTold (λ item. f item && g item) (cond.All (c ∷ d ∷ []))
both-tell f g c d one other item =
    holds-All item (c ∷ d ∷ [])
    ∙ ap (λ b. holds item c && b) (and-true (holds item d))
    ∙ ap (λ b. b && holds item d) (one item)
    ∙ ap (λ b. f item && b) (other item)

-- one of conditions that each tell of an operand
pub any-tells : (f : View → Operand → Bool) (ys : List Operand) (cs : List Cond)
    → ((item : View) → map (holds item) cs ≡ map (f item) ys)
    → HoldsAsTold (λ item. list_any (f item) ys) (cond.Any cs)
any-tells f ys cs each item =
    holds-Any item cs ∙ sym (any-map (holds item) cs) ∙ ap (list_any (λ b. b)) (each item)
    ∙ any-map (f item) ys

-- a question about two given values has one answer for every item
pub two-told : (f : Option Tree → Option Tree → Bool) (x y : Operand) (s t : Tree) (truth : Bool)
    (c : Cond) → IsGiven x s → IsGiven y t → truth ≡ f (Some s) (Some t) → HoldsAsTold (λ _. truth) c
    → HoldsAsTold (λ item. f (denoted item x) (denoted item y)) c
two-told f x y s t truth c at_x at_y is tells item =
    tells item ∙ is ∙ sym (λ i. f (at_x item i) (at_y item i))

-- one more was made, which tells the same
pub each_more : {A : Type 0} (f : View → A → Bool) (g : View → Cond → Bool) (old : List A)
    (new : List Cond) (c : A) (d : Cond) → ((item : View) → map (g item) new ≡ map (f item) old)
    → ((item : View) → g item d ≡ f item c)
    → (item : View) → map (g item) (new ++ d ∷ []) ≡ map (f item) (old ++ c ∷ [])
each_more f g old new c d same one item =
    map-append (g item) new (d ∷ [])
    ∙ (λ i. same item i ++ one item i ∷ [])
    ∙ sym (map-append (f item) old (c ∷ []))
