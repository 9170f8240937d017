-- Numbers that rise, as those of a range that pass a test: the lowest two of them, and the others.
use Rattle.std.proofs.Common.{◌≡◌, ◌<◌, ◌≤◌, ◌+◌, ◌-◌, refl, sym, ap, ◌∙◌, ℕ, zero, suc, Bool, true, false, cond, List, [], ◌∷◌, take, drop, All, arith}
use Rattle.std.proofs.lemmas.List.Elements.{All-cons, All-head, All-nil, All-tail, All-weaker}
use Rattle.std.specs.List.{range_with_len}
use Rattle.std.specs.Prelude.{◌≢◌, AllPairs, filter}
use Rattle.alt_changes.specs.TrimRows.{AreLeft}
use Rattle.alt_rowchanges.specs.Trims.{AreTwo, number_behind_second}

-- they rise from one on and stay below another
abbrev pub AreRising : ℕ → ℕ → List ℕ → Type 0
AreRising least end [] = Unit {0}
AreRising least end (n ∷ ns) = (least ≤ n) × (n < end) × AreRising (n + 1) end ns

-- so they do from a lesser one on
pub rising_later : (a b end : ℕ) (ns : List ℕ) → a ≤ b → AreRising b end ns → AreRising a end ns
rising_later a b end [] low rise = tt
rising_later a b end (n ∷ ns) low rise =
    let least = rise.0 in (omega (arith, low, least), rise.1, rise.2)

-- those of a range that pass do
pub filter_rising : (p : ℕ → Bool) (a k end : ℕ) → a + k ≤ end
    → AreRising a end (filter p (range_with_len a k))
filter_rising p a zero end within = tt
filter_rising p a (suc k) end within =
    by (p a) (filter_rising p (a + 1) k end (omega (arith, within)))
  where
    by : (b : Bool) → AreRising (a + 1) end (filter p (range_with_len (a + 1) k))
        → AreRising a end (cond b (a ∷ filter p (range_with_len (a + 1) k))
        (filter p (range_with_len (a + 1) k)))
    by true rest = (omega arith, omega (arith, within), rest)
    by false rest = rising_later a (a + 1) end (filter p (range_with_len (a + 1) k)) (omega arith) rest

-- each is at least the first
pub rising_least : (a end : ℕ) (ns : List ℕ) → AreRising a end ns → All (λ n. a ≤ n) ns
rising_least a end [] rise = All-nil (λ n. a ≤ n)
rising_least a end (n ∷ ns) rise =
    let least = rise.0 in
    All-cons (λ n. a ≤ n) n ns rise.0
    (All-weaker (λ m. n + 1 ≤ m) (λ m. a ≤ m) (λ m le. omega (arith, le, least)) ns
    (rising_least (n + 1) end ns rise.2))

-- ---- the lowest two

-- they are two at most
pub take_two : (most : ℕ) (ns : List ℕ) → AreRising 1 (most + 1) ns → AreTwo most (take 2 ns)
take_two most [] rise = tt
take_two most (m ∷ []) rise = let high = rise.1 in (rise.0, omega (arith, high))
take_two most (m ∷ n ∷ ns) rise =
    let least = rise.2.0 in
    let high = rise.2.1 in
    (rise.0, omega (arith, least), omega (arith, high))

-- the others aren't below what is behind them
pub drop_behind : (most : ℕ) (ns : List ℕ) → AreRising 1 (most + 1) ns
    → All (λ n. number_behind_second most (take 2 ns) ≤ n) (drop 2 ns)
drop_behind most [] rise = All-nil (λ n. most + 1 ≤ n)
drop_behind most (m ∷ []) rise = All-nil (λ n. most + 1 ≤ n)
drop_behind most (m ∷ n ∷ ns) rise = rising_least (n + 1) (most + 1) ns rise.2.2

-- which is one of a few numbers
pub behind_low : (most : ℕ) (ns : List ℕ) → AreTwo most ns
    → (1 ≤ number_behind_second most ns) × (number_behind_second most ns ≤ most + 1)
behind_low most [] two = (omega arith, omega arith)
behind_low most (m ∷ []) two = (omega arith, omega arith)
behind_low most (m ∷ n ∷ []) two = let high = two.2 in (omega arith, omega (arith, high))
behind_low most (m ∷ n ∷ k ∷ ks) two = absurd two

-- two numbers at most may be left over
pub two_left : (most : ℕ) (ns : List ℕ) → AreTwo most ns → AreLeft most ns
two_left most [] two = All-nil (λ n. (1 ≤ n) × (n ≤ most))
two_left most (m ∷ []) two =
    All-cons (λ n. (1 ≤ n) × (n ≤ most)) m [] two (All-nil (λ n. (1 ≤ n) × (n ≤ most)))
two_left most (m ∷ n ∷ []) two =
    let low = two.0 in
    let less = two.1 in
    let high = two.2 in
    All-cons (λ n. (1 ≤ n) × (n ≤ most)) m (n ∷ []) (low, omega (arith, less, high))
    (All-cons (λ n. (1 ≤ n) × (n ≤ most)) n [] (omega (arith, low, less), high)
    (All-nil (λ n. (1 ≤ n) × (n ≤ most))))
two_left most (m ∷ n ∷ k ∷ ks) two = absurd two

-- and are different
pub two_differ : (most : ℕ) (ns : List ℕ) → AreTwo most ns → AllPairs (λ m n. m ≢ n) ns
two_differ most [] two i j x below within same = absurd (omega (arith, within))
two_differ most (m ∷ []) two i j x below within same = absurd (omega (arith, below, within))
two_differ most (m ∷ n ∷ []) two zero zero x below within same = absurd (omega (arith, below))
two_differ most (m ∷ n ∷ []) two zero (suc zero) x below within same =
    let less = two.1 in
    let e : m ≡ n = same in
    omega (arith, e, less)
two_differ most (m ∷ n ∷ []) two i (suc (suc j)) x below within same =
    absurd (omega (arith, within))
two_differ most (m ∷ n ∷ []) two (suc i) j x below within same =
    absurd (omega (arith, below, within))
two_differ most (m ∷ n ∷ k ∷ ks) two i j x below within same = absurd two

-- ---- numbers from one on

-- Where none that passes is below a number, those from there on are all of them.
pub range_skip : (p : ℕ → Bool) (k a n m b : ℕ) → m ≡ k + n → b ≡ a + k
    → All (λ x. b ≤ x) (filter p (range_with_len a m))
    → filter p (range_with_len a m) ≡ filter p (range_with_len b n)
range_skip p zero a n m b all_of from above =
    let same : m ≡ n = omega (arith, all_of) in
    let first : a ≡ b = omega (arith, from) in
    λ i. filter p (range_with_len (first i) (same i))
range_skip p (suc k) a n zero b all_of from above = absurd (omega (arith, all_of))
range_skip p (suc k) a n (suc m) b all_of from above =
    by (range_skip p k (a + 1) n m b (omega (arith, all_of)) (omega (arith, from))) (p a) refl above
  where
    by : (All (λ x. b ≤ x) (filter p (range_with_len (a + 1) m))
        → filter p (range_with_len (a + 1) m) ≡ filter p (range_with_len b n))
        → (c : Bool) → p a ≡ c
        → All (λ x. b ≤ x) (cond c (a ∷ filter p (range_with_len (a + 1) m))
        (filter p (range_with_len (a + 1) m)))
        → cond (p a) (a ∷ filter p (range_with_len (a + 1) m))
        (filter p (range_with_len (a + 1) m)) ≡ filter p (range_with_len b n)
    by rest true e above = absurd (let low = All-head (λ x. b ≤ x) a
        (filter p (range_with_len (a + 1) m)) above in omega (arith, low, from))
    by rest false e above = ap (λ c. cond c (a ∷ filter p (range_with_len (a + 1) m))
        (filter p (range_with_len (a + 1) m))) e ∙ rest above

-- Where none of those up to a number is below another one, none of those further up is.
pub all_further : (p : ℕ → Bool) (a start b from : ℕ) → from ≤ start + a → a ≤ b
    → All (λ n. from ≤ n) (filter p (range_with_len start a))
    → All (λ n. from ≤ n) (filter p (range_with_len start b))
all_further p zero start b from low less all =
    All-weaker (λ n. start ≤ n) (λ n. from ≤ n) (λ n le. omega (arith, le, low))
    (filter p (range_with_len start b))
    (rising_least start (start + b) (filter p (range_with_len start b))
    (filter_rising p start b (start + b) (omega arith)))
all_further p (suc a) start zero from low less all = absurd (omega (arith, less))
all_further p (suc a) start (suc b) from low less all = by
    (all_further p a (start + 1) b from (omega (arith, low)) (omega (arith, less))) (p start) all
  where
    by : (All (λ n. from ≤ n) (filter p (range_with_len (start + 1) a))
        → All (λ n. from ≤ n) (filter p (range_with_len (start + 1) b))) → (c : Bool)
        → All (λ n. from ≤ n) (cond c (start ∷ filter p (range_with_len (start + 1) a))
        (filter p (range_with_len (start + 1) a)))
        → All (λ n. from ≤ n) (cond c (start ∷ filter p (range_with_len (start + 1) b))
        (filter p (range_with_len (start + 1) b)))
    by rest true all = All-cons (λ n. from ≤ n) start (filter p (range_with_len (start + 1) b))
        (All-head (λ n. from ≤ n) start (filter p (range_with_len (start + 1) a)) all)
        (rest (All-tail (λ n. from ≤ n) start (filter p (range_with_len (start + 1) a)) all))
    by rest false all = rest all

-- Where each is at least a number that is past the end, there are none.
pub none_past : (a end from : ℕ) (ns : List ℕ) → end ≤ from → AreRising a end ns
    → All (λ n. from ≤ n) ns → ns ≡ []
none_past a end from [] past rise all = refl
none_past a end from (n ∷ ns) past rise all =
    let high = rise.1 in
    let low = All-head (λ n. from ≤ n) n ns all in
    absurd (omega (arith, past, high, low))

-- Behind the first of those that pass are those from the next number on.
next_rising : (p : ℕ → Bool) (a k x : ℕ) (xs : List ℕ) → filter p (range_with_len a k) ≡ x ∷ xs
    → xs ≡ filter p (range_with_len (x + 1) (a + k - (x + 1)))
next_rising p a zero x xs is = absurd (let none : [] ≡ x ∷ xs = is in let f : ⊥ = cc none in f)
next_rising p a (suc k) x xs is = by (p a) is (next_rising p (a + 1) k x xs)
  where
    by : (b : Bool) → cond b (a ∷ filter p (range_with_len (a + 1) k))
        (filter p (range_with_len (a + 1) k)) ≡ x ∷ xs
        → (filter p (range_with_len (a + 1) k) ≡ x ∷ xs
        → xs ≡ filter p (range_with_len (x + 1) (a + 1 + k - (x + 1))))
        → xs ≡ filter p (range_with_len (x + 1) (a + suc k - (x + 1)))
    by true e later =
        let first : a ≡ x = cc e in
        let others : xs ≡ filter p (range_with_len (a + 1) k) = cc e in
        let count : k ≡ a + suc k - (x + 1) = omega (arith, first) in
        others ∙ (λ i. filter p (range_with_len (first i + 1) (count i)))
    by false e later =
        let count : a + 1 + k - (x + 1) ≡ a + suc k - (x + 1) = omega arith in
        later e ∙ ap (λ n. filter p (range_with_len (x + 1) n)) count

-- Behind the first two are those from the number behind these on.
pub drop_two : (p : ℕ → Bool) (a k most : ℕ) → a + k ≡ most + 1
    → drop 2 (filter p (range_with_len a k))
    ≡ filter p (range_with_len (number_behind_second most (take 2 (filter p (range_with_len a k))))
    (most + 1 - number_behind_second most (take 2 (filter p (range_with_len a k)))))
drop_two p a k most whole =
    by (filter p (range_with_len a k)) refl (filter_rising p a k (a + k) (omega arith))
  where
    none : filter p (range_with_len (most + 1) (most + 1 - (most + 1))) ≡ []
    none = let zero_left : most + 1 - (most + 1) ≡ 0 = omega arith in
        ap (λ n. filter p (range_with_len (most + 1) n)) zero_left

    by : (xs : List ℕ) → filter p (range_with_len a k) ≡ xs → AreRising a (a + k) xs
        → drop 2 xs ≡ filter p (range_with_len (number_behind_second most (take 2 xs))
        (most + 1 - number_behind_second most (take 2 xs)))
    by [] e rise = sym none
    by (x ∷ []) e rise = sym none
    by (x ∷ y ∷ ys) e rise =
        let high = rise.1 in
        let rest = next_rising p a k x (y ∷ ys) e in
        let count : x + 1 + (a + k - (x + 1)) - (y + 1) ≡ most + 1 - (y + 1) =
        omega (arith, high, whole) in
        next_rising p (x + 1) (a + k - (x + 1)) y ys (sym rest)
        ∙ ap (λ n. filter p (range_with_len (y + 1) n)) count
