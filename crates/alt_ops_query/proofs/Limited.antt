-- A body that breaks no demand has a limit of 1 to 2^31 - 1, or none.
use Rattle.std.proofs.Common.{◌≡◌, refl, sym, ap, ◌∙◌, ℕ, zero, suc, ◌&&◌, ◌^◌, nat_lt, nat_le, Bool, true, false, List, [], ◌∷◌, Option, Some, None, option_and_then, arith}
use Rattle.std.specs.Prelude.{if◌then◌else◌, codes, slice_get}
use Rattle.serde_json.specs.Data.{Data, Members, null, boolean, number, unsigned, negative, float, string, array, object}
use Rattle.alt_machine.specs.Body.{MemberRules, paired_refusals}
use Rattle.alt_machine.specs.Refusals.{first_answer}
use Rattle.alt_ops_query.specs.private.Paged.{HasLimit, limit_in}
use Rattle.alt_shape.specs.Bodies as bodies
use Rattle.alt_shape.specs.Bodies.{selections, key_condition_demand, own_of_query}
use Rattle.alt_shape.specs.BodyParts.{required, optional, first_shape_fault, condition_entry, in_entries, in_names, operator_demand}
use Rattle.alt_shape.specs.Shape.{Demand, a_text, a_whole, a_truth, an_object, an_array, a_word, fault_of, given, natural_of, first_unmet, unmet_by}
use Rattle.alt_shape.specs.declared.rule.Broken.{Broken}
use Rattle.alt_shape.specs.declared.rule.Broken.TheVariants.{OutOfRange}
use Rattle.alt_shape.proofs.Places.{or_next_first, or_next_second}

-- ---- demands that are met

-- each demand of a list is met
met_at : (n : ℕ) (demands : List Demand) (ms : Members) → first_unmet demands ms ≡ None
    → (d : Demand) → slice_get demands n ≡ Some d → unmet_by ms d ≡ None
met_at n [] ms e d at = absurd (let no : None ≡ Some d = at in cc no)
met_at zero (x ∷ demands) ms e d at =
    let same : x ≡ d = cc in
    ap (unmet_by ms) (sym same) ∙ or_next_first (unmet_by ms x) (first_unmet demands ms) e
met_at (suc n) (x ∷ demands) ms e d at =
    met_at n demands ms (or_next_second (unmet_by ms x) (first_unmet demands ms) e) d at

-- ---- the limit

-- a number that the demand of a limit takes is one that a page takes
in_limit : (n : ℕ) (b : Bool) → (nat_le 1 n && nat_le n 2147483647) ≡ b
    → (if b then None else Some OutOfRange) ≡ None → limit_in (Some n) ≡ Some n
in_limit n true is e =
    let fits : (nat_lt 0 n && nat_lt n (2 ^ 32)) ≡ true = grind (arith, is) in
    ap (λ b. if b then Some n else None) fits
in_limit n false is e = absurd (let f : ⊥ = cc in f)

-- what that demand takes at a member is such a limit, or none
limited_at : (o : Option Data) → fault_of (a_whole 1 2147483647) false o ≡ None
    → limit_in (option_and_then natural_of o) ≡ option_and_then natural_of o
limited_at None e = refl
limited_at (Some null) e = refl
limited_at (Some (boolean b)) e = refl
limited_at (Some (number (unsigned n))) e =
    in_limit n (nat_le 1 n && nat_le n 2147483647) refl e
limited_at (Some (number (negative z))) e = refl
limited_at (Some (number (float x))) e = refl
limited_at (Some (string s)) e = refl
limited_at (Some (array ds)) e = refl
limited_at (Some (object ms)) e = refl

-- what a Query and a Scan demand of their own members
abbrev query_demands : Members → List Demand
query_demands ms =
    required (codes "TableName") a_text ∷ optional (codes "IndexName") a_text ∷
    key_condition_demand ms ∷ optional (codes "FilterExpression") a_text ∷
    optional (codes "ProjectionExpression") a_text ∷
    optional (codes "ExpressionAttributeNames") an_object ∷
    optional (codes "ExpressionAttributeValues") an_object ∷
    optional (codes "Limit") (a_whole 1 2147483647) ∷
    optional (codes "ScanIndexForward") a_truth ∷ optional (codes "ExclusiveStartKey") an_object ∷
    optional (codes "ConsistentRead") a_truth ∷ optional (codes "Select") (a_word selections) ∷
    optional (codes "KeyConditions") an_object ∷ optional (codes "QueryFilter") an_object ∷
    operator_demand ∷ optional (codes "AttributesToGet") an_array ∷ []

-- a Scan has no key condition and no direction, but it may have a segment
abbrev scan_demands : List Demand
scan_demands =
    required (codes "TableName") a_text ∷ optional (codes "IndexName") a_text ∷
    optional (codes "FilterExpression") a_text ∷ optional (codes "ProjectionExpression") a_text ∷
    optional (codes "ExpressionAttributeNames") an_object ∷
    optional (codes "ExpressionAttributeValues") an_object ∷
    optional (codes "Limit") (a_whole 1 2147483647) ∷
    optional (codes "ExclusiveStartKey") an_object ∷ optional (codes "ConsistentRead") a_truth ∷
    optional (codes "Select") (a_word selections) ∷ optional (codes "Segment") (a_whole 0 999999) ∷
    optional (codes "TotalSegments") (a_whole 1 1000000) ∷
    optional (codes "ScanFilter") an_object ∷ operator_demand ∷
    optional (codes "AttributesToGet") an_array ∷ []

-- what they demand of the objects inside them
abbrev query_inside : Members → Option Broken
query_inside ms = first_shape_fault (
    in_entries (codes "KeyConditions") condition_entry ms ∷
    in_entries (codes "QueryFilter") condition_entry ms ∷ in_names ms ∷ [])

abbrev scan_inside : Members → Option Broken
scan_inside ms =
    first_shape_fault (in_entries (codes "ScanFilter") condition_entry ms ∷ in_names ms ∷ [])

-- a Query whose body breaks no demand has a limit that a page takes, or none
pub query_limit : (ms : Members) → bodies.query ms ≡ None → HasLimit ms
unfolding bodies.query
query_limit ms e = limited_at (given (codes "Limit") ms)
    (met_at 7 (query_demands ms) ms (or_next_first (own_of_query ms) (query_inside ms) e)
    (optional (codes "Limit") (a_whole 1 2147483647)) refl)

-- and so has a Scan
pub scan_limit : (ms : Members) → bodies.scan ms ≡ None → HasLimit ms
unfolding bodies.scan
scan_limit ms e = limited_at (given (codes "Limit") ms)
    (met_at 6 scan_demands ms (or_next_first (first_unmet scan_demands ms) (scan_inside ms) e)
    (optional (codes "Limit") (a_whole 1 2147483647)) refl)

-- ---- behind the tests of a body

module _ (broken : Option Broken) (mismatched : Bool) (rules : MemberRules) (ms : Members)
    (free : first_answer (paired_refusals broken mismatched rules ms) ≡ None) where
  -- it breaks no demand
  pub none_broken : broken ≡ None
  none_broken = by broken free
    where
      by : (b : Option Broken) → first_answer (paired_refusals b mismatched rules ms) ≡ None
          → b ≡ None
      by None e = refl
      by (Some b) e = absurd (let f : ⊥ = cc in f)

  -- and its members go together
  pub none_mismatched : mismatched ≡ false
  none_mismatched = by broken mismatched free
    where
      by : (b : Option Broken) (m : Bool) → first_answer (paired_refusals b m rules ms) ≡ None
          → m ≡ false
      by None false e = refl
      by None true e = absurd (let f : ⊥ = cc in f)
      by (Some b) m e = absurd (let f : ⊥ = cc in f)
