-- A text has one tree or one first fault.
use Rattle.std.proofs.Common.{◌≡◌, refl, sym, ap, ◌∙◌, ℕ, inl, inr, true, List, [], ◌∷◌, Ok, Err}
use Rattle.std.specs.Prelude.{Result}
use Rattle.alt_expr.specs.Faults.{Language, IsFirst, NoneApplies, AnswersTreeOrFault, fault_order, HasFault, IsTreeOf, Parsed}
use Rattle.alt_expr.specs.Given.{Given}
use Rattle.alt_expr.specs.Told.{IsTold, IsOnly}
use Rattle.alt_expr.specs.declared.fault.ExprFault.{ExprFault}
use Rattle.alt_expr.specs.declared.fault.ExprFault.TheVariants as fault
use Rattle.alt_expr.proofs.Once.{tokens_once}

module _ (P : ExprFault → Type 0) where
  -- the first of a list that applies is one
  first_once : (es : List ExprFault) (f h : ExprFault) → IsFirst P es f → IsFirst P es h → f ≡ h
  first_once [] f h a b = absurd a
  first_once (e ∷ es) f h (inl a) (inl b) = a.0 ∙ sym b.0
  first_once (e ∷ es) f h (inl a) (inr b) = absurd (b.0 a.1)
  first_once (e ∷ es) f h (inr a) (inl b) = absurd (a.0 b.1)
  first_once (e ∷ es) f h (inr a) (inr b) = first_once es f h a.1 b.1

  none_first : (es : List ExprFault) (f : ExprFault) → NoneApplies P es → IsFirst P es f → ⊥
  none_first [] f none a = a
  none_first (e ∷ es) f none (inl a) = none.0 a.1
  none_first (e ∷ es) f none (inr a) = none_first es f none.1 a.1

  -- a fault that is told is the first
  first_of : {A : Type 0} (T : A → Type 0) (f : ExprFault) → AnswersTreeOrFault P T (Err f)
      → IsTold {A = A} (Err f) → IsFirst P fault_order f
  first_of T fault.TooLong h told = h
  first_of T fault.TooDeep h told = h
  first_of T fault.Syntax h told = h
  first_of T fault.Undefined h told = h
  first_of T fault.TooMany h told = h
  first_of T fault.RepeatedClause h told = h
  first_of T fault.Overlap h told = h
  first_of T fault.NoMemory h told = absurd (told refl)

  one_of : {A : Type 0} (T : A → Type 0) → ((a b : A) → T a → T b → a ≡ b)
      → (r q : Result A ExprFault) → AnswersTreeOrFault P T r → AnswersTreeOrFault P T q → IsTold r → IsTold q → r ≡ q
  one_of T same (Ok a) (Ok b) h i t u = ap Ok (same a b h.1 i.1)
  one_of T same (Ok a) (Err f) h i t u =
      absurd (none_first fault_order f h.0 (first_of T f i u))
  one_of T same (Err f) (Ok b) h i t u =
      absurd (none_first fault_order f i.0 (first_of T f h t))
  one_of T same (Err f) (Err e) h i t u =
      ap Err (first_once fault_order f e (first_of T f h t) (first_of T e i u))

-- where phrases of the same tokens have one tree
pub one_answer : {D A : Type 0} (L : Language D A) (g : Given)
    → ((d e : D) → L.toks d ≡ L.toks e → L.tree g d ≡ L.tree g e) → (text : List ℕ)
    → (r q : Result A ExprFault) → Parsed L g text r → Parsed L g text q → IsTold r → IsTold q
    → r ≡ q
unfolding Parsed
one_answer L g one_tree text r q h i t u = one_of (HasFault L g text) (IsTreeOf L g text)
    (λ a b x y. x.2 ∙ one_tree x.0 y.0
    (tokens_once text (L.toks x.0) (L.toks y.0) true true x.1 y.1).0 ∙ sym y.2) r q h i t u

-- so what is answered is the only answer
pub only_answer : {D A : Type 0} (L : Language D A) (g : Given)
    → ((d e : D) → L.toks d ≡ L.toks e → L.tree g d ≡ L.tree g e) → (text : List ℕ)
    → (r : Result A ExprFault) → Parsed L g text r → IsOnly L g text r
unfolding IsOnly
only_answer L g one_tree text r h told q i other = one_answer L g one_tree text r q h i told other
