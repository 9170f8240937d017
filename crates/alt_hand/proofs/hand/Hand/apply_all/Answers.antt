-- A number is wanting, or the batches are written.
use Rattle.std.proofs.Common.{◌≡◌, ◌<◌, ◌≤◌, ◌+◌, ◌-◌, ◌^◌, ⊎_elim, ℕ, Result, Ok, Err, IfErr, Option, Some, IfSome, length, max, ap, subst, arith}
use Rattle.std.specs.Prelude.{◌⊎◌, IsErrOf}
use Rattle.alt_faults.proofs.Telling.{outside-tells}
use Rattle.alt_gatelog.specs.declared.form.Form.{Form}
use Rattle.alt_gatelog.specs.declared.form.Form.TheVariants.{One, Two}
use Rattle.alt_hand.specs.Drafting.{EngineFaultIsOutside}
use Rattle.alt_hand.specs.Faults.{told_by_engine}
use Rattle.alt_hand.specs.InHand.{IsSpentBy, WantsFile, WantsNumber, last_form_of, next_file_of, next_of}
use Rattle.alt_drafts.specs.declared.fault.EngineFault.{EngineFault}
use Rattle.alt_drafts.specs.declared.fault.EngineFault.TheVariants.{Spent}
use Rattle.alt_hand.specs.declared.hand.Hand.{Hand}
use Rattle.alt_hand.proofs.ApplyLaws.{at_rest}
use Rattle.alt_hand.proofs.hand.Hand.apply_all.Goals as goal

-- what wants a number of a write or a file
Wants : Hand → ℕ → ℕ → Type 0
Wants e count n = WantsNumber (next_of e) count n
    ⊎ ((next_of e + count ≤ 2 ^ 62 - 1) × WantsFile (last_form_of e) (next_file_of e) n)

-- what an option that is some has
of_some : {X : Type 0} (o : Option X) (x : X) (P : X → Type 0) → o ≡ Some x → IfSome o P → P x
of_some o x P is p = subst (λ q. IfSome q P) is p

-- a number of a write that is wanting is this one
number_is : (e : Hand) (count n : ℕ) → 2 ^ 62 - 1 < next_of e + count → Wants e count n
    → n ≡ max (next_of e) (2 ^ 62 - 1)
unfolding Wants
number_is e count n more wants = ⊎_elim (λ (is : WantsNumber (next_of e) count n). is.1)
    (λ (file : (next_of e + count ≤ 2 ^ 62 - 1) × WantsFile (last_form_of e) (next_file_of e) n).
    let few = file.0 in absurd (omega (arith, few, more))) wants

-- and so is a file
file_of_one : (form : Form) (file n : ℕ) → form ≡ One → WantsFile form file n → n ≡ file
file_of_one One file n is wants = wants.1
file_of_one Two file n is wants = absurd wants

file_is : (e : Hand) (count n : ℕ) → next_of e + count ≤ 2 ^ 62 - 1 → last_form_of e ≡ One
    → Wants e count n → n ≡ next_file_of e
unfolding Wants
file_is e count n few one wants = ⊎_elim
    (λ (is : WantsNumber (next_of e) count n). let more = is.0 in absurd (omega (arith, few, more)))
    (λ (file : (next_of e + count ≤ 2 ^ 62 - 1) × WantsFile (last_form_of e) (next_file_of e) n).
    file_of_one (last_form_of e) (next_file_of e) n one file.1) wants

-- a fault that is unspent tells no number
never : (r : Result ℕ EngineFault) (n : ℕ) → IfErr r EngineFaultIsOutside → IsErrOf r (Spent n) → ⊥
never r n unspent is = subst (λ (x : Result ℕ EngineFault). IfErr x EngineFaultIsOutside) is unspent

-- so it tells none that is wanting
none_told : (r : Result ℕ EngineFault) (e : Hand) (count : ℕ) → IfErr r EngineFaultIsOutside
    → IfErr r (IsSpentBy e count)
none_told (Ok x) e count unspent = tt
none_told (Err f) e count unspent = outside-tells (λ number. WantsNumber (next_of e) count number
    ⊎ ((next_of e + count ≤ 2 ^ 62 - 1) × WantsFile (last_form_of e) (next_file_of e) number))
    (λ damage. ⊥) (told_by_engine f) unspent

pub returns-in-Some-clause-any_moment : goal.returns-in-Some-clause-any_moment
returns-in-Some-clause-any_moment g c trusted l stands =
    at_rest (g.D.Disk.state c.args.disk.now) c.args.self.now l c.args.batches.now stands

pub returns-in-Some-clause-cause_spent : goal.returns-in-Some-clause-cause_spent
returns-in-Some-clause-cause_spent g c = of_some c.wanting.result c.in-Some.number
    (λ n. WantsNumber (next_of c.args.self.now) (length c.args.batches.now) n
    ⊎ ((next_of c.args.self.now + length c.args.batches.now ≤ 2 ^ 62 - 1)
    × WantsFile (last_form_of c.args.self.now) (next_file_of c.args.self.now) n))
    c.in-Some.is c.wanting.ensures.number

pub returns-in-Some-clause-spent_number : goal.returns-in-Some-clause-spent_number
unfolding Wants
returns-in-Some-clause-spent_number g c more = ap (λ n. Err (Spent n))
    (number_is c.args.self.now (length c.args.batches.now) c.in-Some.number more
    (of_some c.wanting.result c.in-Some.number
    (Wants c.args.self.now (length c.args.batches.now)) c.in-Some.is c.wanting.ensures.number))

pub returns-in-Some-clause-spent_file : goal.returns-in-Some-clause-spent_file
unfolding Wants
returns-in-Some-clause-spent_file g c few one last = ap (λ n. Err (Spent n))
    (file_is c.args.self.now (length c.args.batches.now) c.in-Some.number few one
    (of_some c.wanting.result c.in-Some.number
    (Wants c.args.self.now (length c.args.batches.now)) c.in-Some.is c.wanting.ensures.number))

pub returns-in-None-clause-spent_number : goal.returns-in-None-clause-spent_number
returns-in-None-clause-spent_number g c more =
    let few = c.wanting.ensures.numbers c.in-None.is in absurd (omega (arith, few, more))

pub returns-in-None-clause-spent_file : goal.returns-in-None-clause-spent_file
returns-in-None-clause-spent_file g c few one last =
    let free = c.wanting.ensures.file c.in-None.is one in absurd (omega (arith, free, last))

pub returns-in-None-clause-cause_spent : goal.returns-in-None-clause-cause_spent
returns-in-None-clause-cause_spent g c = none_told c.write.result c.args.self.now
    (length c.args.batches.now) c.write.ensures.unspent

pub returns-in-None-clause-unchanged : goal.returns-in-None-clause-unchanged
returns-in-None-clause-unchanged g c n is = absurd (never c.write.result n c.write.ensures.unspent is)

pub returns-in-None-clause-same : goal.returns-in-None-clause-same
returns-in-None-clause-same g c n is = absurd (never c.write.result n c.write.ensures.unspent is)
