-- What room there is where a number or a family is not lacked.
use Rattle.std.proofs.Common.{◌≡◌, refl, ap, ◌∙◌, ℕ, ◌+◌, ◌<◌, ◌≤◌, Bool, true, false, cond, nat_le, nat_lt, List, [], ◌∷◌, Option, Some, None, arith}
use Rattle.std.specs.Prelude.{if◌then◌else◌}
use Rattle.std.proofs.lemmas.Bool.{le-leb, leb-true, lt-ltb, ltb-false, leb-false}
use Rattle.alt_machine.specs.declared.TheConstants.{NUMBERS_END, FAMILIES_END, MOST_FAMILIES}
use Rattle.alt_machine.specs.Outcomes.{Wants}
use Rattle.alt_machine.specs.State.{State}
use Rattle.alt_machine.specs.Wanted.{number_lack, numbers_lack, family_lack, table_lack, index_lack, lack_of, lack_among, or_later, Lack}

-- what isn't lacked passed its test
not_lacked : {A : Type 0} (b : Bool) (n : A) (o : Option A) → cond b (Some n) o ≡ None
    → (b ≡ false) × (o ≡ None)
not_lacked true n o e = absurd (let f : ⊥ = cc in f)
not_lacked false n o e = (refl, e)

-- where no number is lacked the next one is below the end
pub number_room : (s : State) → number_lack s.next_number ≡ None → s.next_number < NUMBERS_END
number_room s e = leb-false NUMBERS_END s.next_number
    (not_lacked (nat_le NUMBERS_END s.next_number) s.next_number None e).0

-- where a new table lacks nothing there is a number for it, and as many families as a table may take
pub table_room : (s : State) → table_lack s.next_number s.next_family ≡ None
    → (s.next_number < NUMBERS_END) × (s.next_family + MOST_FAMILIES ≤ FAMILIES_END)
table_room s e =
    let tests = not_lacked (nat_le NUMBERS_END s.next_number) s.next_number
    (family_lack s.next_family) e in (
      leb-false NUMBERS_END s.next_number tests.0,
      ltb-false FAMILIES_END (s.next_family + MOST_FAMILIES)
          (not_lacked (nat_lt FAMILIES_END (s.next_family + MOST_FAMILIES)) s.next_family None
          tests.1).0,
    )

-- where a new index lacks nothing there is a number for it, and a family
pub index_room : (s : State) → index_lack s.next_number s.next_family ≡ None
    → (s.next_number < NUMBERS_END) × (s.next_family < FAMILIES_END)
index_room s e =
    let tests = not_lacked (nat_le NUMBERS_END s.next_number) s.next_number
    (if nat_le FAMILIES_END s.next_family then Some s.next_family else None) e in (
      leb-false NUMBERS_END s.next_number tests.0,
      leb-false FAMILIES_END s.next_family
          (not_lacked (nat_le FAMILIES_END s.next_family) s.next_family None tests.1).0,
    )

-- where nothing is lacked among some writes, the first lacks nothing, and neither do the others
pub first_has : (wants : Wants) (s t : State) (ts : List State) → lack_among wants s (t ∷ ts) ≡ None
    → (lack_of wants s ≡ None) × (lack_among wants t ts ≡ None)
first_has wants s t ts e = by (lack_of wants s) (lack_among wants t ts) e
  where
    by : (o : Option ℕ) (rest : Option Lack) → or_later o rest ≡ None → (o ≡ None) × (rest ≡ None)
    by (Some n) rest e = absurd (let f : ⊥ = cc in f)
    by None None e = (refl, refl)
    by None (Some l) e = absurd (let f : ⊥ = cc in f)

-- ---- what is lacked and what isn't, of one write

-- a number below the end isn't lacked
pub has_number : (n : ℕ) → n < NUMBERS_END → number_lack n ≡ None
has_number n h = by (nat_le NUMBERS_END n) refl
  where
    by : (b : Bool) → nat_le NUMBERS_END n ≡ b → cond b (Some n) None ≡ None
    by true e = absurd (omega (arith, leb-true NUMBERS_END n e))
    by false e = refl

-- any other is
pub lacks_number : (n : ℕ) → NUMBERS_END ≤ n → number_lack n ≡ Some n
lacks_number n h = ap (λ b. cond b (Some n) None) (le-leb NUMBERS_END n h)

-- so many numbers are not lacked, where they end before the bound or there
pub has_numbers : (count n : ℕ) → n + count ≤ NUMBERS_END → numbers_lack count n ≡ None
has_numbers count n h = by (nat_lt NUMBERS_END (n + count)) refl
  where
    above : (a b : ℕ) → nat_lt a b ≡ true → a < b
    above a b e = grind arith

    by : (b : Bool) → nat_lt NUMBERS_END (n + count) ≡ b → cond b (Some NUMBERS_END) None ≡ None
    by true e = absurd (omega (arith, h, above NUMBERS_END (n + count) e))
    by false e = refl

-- any more are
pub lacks_numbers : (count n : ℕ) → NUMBERS_END < n + count
    → numbers_lack count n ≡ Some NUMBERS_END
lacks_numbers count n h =
    ap (λ b. cond b (Some NUMBERS_END) None) (lt-ltb NUMBERS_END (n + count) h)

-- families are not lacked, where as many as a table may take are there before the end
pub has_family : (f : ℕ) → f + MOST_FAMILIES ≤ FAMILIES_END → family_lack f ≡ None
has_family f h = by (nat_lt FAMILIES_END (f + MOST_FAMILIES)) refl
  where
    above : (m n : ℕ) → nat_lt m n ≡ true → m < n
    above m n e = grind arith

    by : (b : Bool) → nat_lt FAMILIES_END (f + MOST_FAMILIES) ≡ b → cond b (Some f) None ≡ None
    by true e = absurd (omega (arith, above FAMILIES_END (f + MOST_FAMILIES) e))
    by false e = refl

-- a new table lacks nothing, where there is a number for it and so many families
pub has_table : (n f : ℕ) → n < NUMBERS_END → f + MOST_FAMILIES ≤ FAMILIES_END
    → table_lack n f ≡ None
has_table n f h g = by (nat_le NUMBERS_END n) refl
  where
    by : (b : Bool) → nat_le NUMBERS_END n ≡ b → cond b (Some n) (family_lack f) ≡ None
    by true e = absurd (omega (arith, leb-true NUMBERS_END n e))
    by false e = has_family f g

-- without a number for it that is what it lacks
pub lacks_table_number : (n f : ℕ) → NUMBERS_END ≤ n → table_lack n f ≡ Some n
lacks_table_number n f h = ap (λ b. cond b (Some n) (family_lack f)) (le-leb NUMBERS_END n h)

-- with one, but without so many families, it lacks these
pub lacks_table_family : (n f : ℕ) → n < NUMBERS_END → FAMILIES_END < f + MOST_FAMILIES
    → table_lack n f ≡ Some f
lacks_table_family n f h g = by (nat_le NUMBERS_END n) refl
    ∙ ap (λ b. cond b (Some f) None) (lt-ltb FAMILIES_END (f + MOST_FAMILIES) g)
  where
    by : (b : Bool) → nat_le NUMBERS_END n ≡ b → cond b (Some n) (family_lack f) ≡ family_lack f
    by true e = absurd (omega (arith, leb-true NUMBERS_END n e))
    by false e = refl

-- one write lacks what it lacks, with no write before it
pub one_has : (wants : Wants) (s t : State) → lack_of wants s ≡ None
    → lack_among wants s (t ∷ []) ≡ None
one_has wants s t e = ap (λ o. or_later o None) e

-- what it lacks is lacked before any write
pub one_lacks : (wants : Wants) (s t : State) (n : ℕ) → lack_of wants s ≡ Some n
    → lack_among wants s (t ∷ []) ≡ Some (record { number = n; before = 0 })
one_lacks wants s t n e = ap (λ o. or_later o None) e
