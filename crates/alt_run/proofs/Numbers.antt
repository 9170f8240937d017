-- Numbers that stop at the end of 64 bits.
use Rattle.std.proofs.Common.{◌≡◌, ◌≤◌, ◌+◌, ◌-◌, ◌*◌, ◌^◌, min, ℕ, List, inl, inr, [], ◌∷◌, true, false, cond, Option, Some, None, option_map, refl, sym, ap, ◌∙◌, arith, ◌<◌, suc, length, drop, get_or, drop-cons, add-one}
use Rattle.std.proofs.lemmas.List.{drop_all}
use Rattle.std.specs.Char.{is_ascii_digit}
use Rattle.std.specs.Prelude.{option_and_then, nat_le, ◌&&◌, Bool}
use Rattle.std.proofs.lemmas.Bool.{cases_lt, lt-leb}
use Rattle.std.proofs.Math.Bool.{and-false}
use Rattle.alt_run.specs.Words.{digits_from, small_port, number_between, small_seed, serve_of, trial_of}

abbrev pub capped : Option ℕ → Option ℕ
capped o = option_map (λ n. min n (2 ^ 64 - 1)) o

step : (n d : ℕ) → min (10 * min n (2 ^ 64 - 1) + d) (2 ^ 64 - 1) ≡ min (10 * n + d) (2 ^ 64 - 1)
step n d = omega arith

-- the digits that follow see no more than the capped number
pub capped_digits : (ds : List ℕ) (m n : ℕ) → min m (2 ^ 64 - 1) ≡ min n (2 ^ 64 - 1)
    → capped (digits_from m ds) ≡ capped (digits_from n ds)
capped_digits [] m n e = ap Some e
capped_digits (d ∷ ds) m n e =
    let next : min (10 * m + (d - 48)) (2 ^ 64 - 1) ≡ min (10 * n + (d - 48)) (2 ^ 64 - 1) =
    omega arith in
    elim (is_ascii_digit d) as (λ b. capped (cond b (digits_from (10 * m + (d - 48)) ds) None)
    ≡ capped (cond b (digits_from (10 * n + (d - 48)) ds) None)) [
      | true ↦ capped_digits ds (10 * m + (d - 48)) (10 * n + (d - 48)) next
      | false ↦ refl
    ]

-- one digit more
pub digit_more : (word : List ℕ) (i n x r : ℕ) → i < length word → x ≡ get_or word i 0
    → is_ascii_digit x ≡ true → min r (2 ^ 64 - 1) ≡ min (10 * n + (x - 48)) (2 ^ 64 - 1)
    → capped (digits_from r (drop (i + 1) word)) ≡ capped (digits_from n (drop i word))
digit_more word i n x r number_between is digit e =
    let parts : drop i word ≡ x ∷ drop (i + 1) word =
    drop-cons word i 0 number_between ∙ ap (λ y. y ∷ drop (suc i) word) (sym is)
    ∙ ap (λ j. x ∷ drop j word) (sym (add-one i)) in
    capped_digits (drop (i + 1) word) r (10 * n + (x - 48)) e
    ∙ ap (λ b. capped (cond b (digits_from (10 * n + (x - 48)) (drop (i + 1) word)) None))
    (sym digit)
    ∙ ap (λ ds. capped (digits_from n ds)) (sym parts)

-- no digit more
pub digits_over : (word : List ℕ) (i n : ℕ) → length word ≤ i → n ≤ 2 ^ 64 - 1
    → capped (digits_from n (drop i word)) ≡ Some n
digits_over word i n over fits =
    let none : drop i word ≡ [] = drop_all i word over in
    let small : min n (2 ^ 64 - 1) ≡ n = omega arith in
    ap (λ ds. capped (digits_from n ds)) none ∙ ap Some small

small_capped : (n : ℕ) → small_port (min n (2 ^ 64 - 1)) ≡ small_port n
small_capped n = elim (cases_lt 65535 n) [
  | inr small ↦ ap small_port (let e : min n (2 ^ 64 - 1) ≡ n = omega arith in e)
  | inl large ↦ ap (λ b. cond b (Some (min n (2 ^ 64 - 1))) None)
      (lt-leb (min n (2 ^ 64 - 1)) 65535 (omega arith))
      ∙ sym (ap (λ b. cond b (Some n) None) (lt-leb n 65535 large))
]

-- a number that stops at the end of 64 bits is a port exactly where the number is
pub port_capped : (o p : Option ℕ) → p ≡ capped o
    → option_and_then small_port p ≡ option_and_then small_port o
port_capped None p e = ap (option_and_then small_port) e
port_capped (Some n) p e = ap (option_and_then small_port) e ∙ small_capped n

-- words that are fewer than five ask for no serving
pub serve_few : (ws : List (List ℕ)) → length ws < 5 → None ≡ serve_of ws
serve_few [] few = refl
serve_few (a ∷ []) few = refl
serve_few (a ∷ b ∷ []) few = refl
serve_few (a ∷ b ∷ c ∷ []) few = refl
serve_few (a ∷ b ∷ c ∷ d ∷ []) few = refl
serve_few (a ∷ b ∷ c ∷ d ∷ e ∷ ws) few = absurd (omega arith)

-- nor do more than five
pub serve_many : (ws : List (List ℕ)) → 6 ≤ length ws → None ≡ serve_of ws
serve_many [] many = absurd (omega arith)
serve_many (a ∷ []) many = absurd (omega arith)
serve_many (a ∷ b ∷ []) many = absurd (omega arith)
serve_many (a ∷ b ∷ c ∷ []) many = absurd (omega arith)
serve_many (a ∷ b ∷ c ∷ d ∷ []) many = absurd (omega arith)
serve_many (a ∷ b ∷ c ∷ d ∷ e ∷ []) many = absurd (omega arith)
serve_many (a ∷ b ∷ c ∷ d ∷ e ∷ f ∷ ws) many = refl

-- nor do they for a trial
pub trial_few : (ws : List (List ℕ)) → length ws < 5 → None ≡ trial_of ws
trial_few [] few = refl
trial_few (a ∷ []) few = refl
trial_few (a ∷ b ∷ []) few = refl
trial_few (a ∷ b ∷ c ∷ []) few = refl
trial_few (a ∷ b ∷ c ∷ d ∷ []) few = refl
trial_few (a ∷ b ∷ c ∷ d ∷ e ∷ ws) few = absurd (omega arith)

pub trial_many : (ws : List (List ℕ)) → 6 ≤ length ws → None ≡ trial_of ws
trial_many [] many = absurd (omega arith)
trial_many (a ∷ []) many = absurd (omega arith)
trial_many (a ∷ b ∷ []) many = absurd (omega arith)
trial_many (a ∷ b ∷ c ∷ []) many = absurd (omega arith)
trial_many (a ∷ b ∷ c ∷ d ∷ []) many = absurd (omega arith)
trial_many (a ∷ b ∷ c ∷ d ∷ e ∷ []) many = absurd (omega arith)
trial_many (a ∷ b ∷ c ∷ d ∷ e ∷ f ∷ ws) many = refl

-- a number past the most is none of those up to it
none_within : (least most n : ℕ) → most < n → number_between least most n ≡ None
none_within least most n large =
    ap (λ (b : Bool). cond (nat_le least n && b) (Some n) None) (lt-leb n most large)
    ∙ ap (λ (b : Bool). cond b (Some n) None) (and-false (nat_le least n))

within_stopped : (least most n : ℕ) → most < 2 ^ 64 - 1
    → number_between least most (min n (2 ^ 64 - 1)) ≡ number_between least most n
within_stopped least most n fits = elim (cases_lt most n) [
  | inr small ↦ ap (number_between least most) (let e : min n (2 ^ 64 - 1) ≡ n = omega (arith, fits, small) in e)
  | inl large ↦ none_within least most (min n (2 ^ 64 - 1)) (omega (arith, fits, large))
      ∙ sym (none_within least most n large)
]

-- a number that stops at the end of 64 bits is in a range below that exactly where the number is
pub within_capped : (least most : ℕ) (o p : Option ℕ) → most < 2 ^ 64 - 1 → p ≡ capped o
    → option_and_then (number_between least most) p ≡ option_and_then (number_between least most) o
within_capped least most None p fits e = ap (option_and_then (number_between least most)) e
within_capped least most (Some n) p fits e =
    ap (option_and_then (number_between least most)) e ∙ within_stopped least most n fits

-- ---- numbers below 2^64

none_seed : (n : ℕ) → 2 ^ 64 ≤ n → small_seed n ≡ None
none_seed n large =
    ap (λ (b : Bool). cond b (Some n) None) (lt-leb n (2 ^ 64 - 1) (omega (arith, large)))

-- a number that is too great stays so, whatever digits follow
pub seed_large : (ds : List ℕ) (n : ℕ) → 2 ^ 64 ≤ n
    → option_and_then small_seed (digits_from n ds) ≡ None
seed_large [] n large = none_seed n large
seed_large (d ∷ ds) n large =
    let next : 2 ^ 64 ≤ 10 * n + (d - 48) = omega (arith, large) in
    elim (is_ascii_digit d) as (λ b. option_and_then small_seed
    (cond b (digits_from (10 * n + (d - 48)) ds) None) ≡ None) [
      | true ↦ seed_large ds (10 * n + (d - 48)) next
      | false ↦ refl
    ]

-- one digit more
pub seed_more : (word : List ℕ) (i n x : ℕ) → i < length word → x ≡ get_or word i 0
    → is_ascii_digit x ≡ true
    → digits_from n (drop i word) ≡ digits_from (10 * n + (x - 48)) (drop (i + 1) word)
seed_more word i n x number_between is digit =
    let parts : drop i word ≡ x ∷ drop (i + 1) word =
    drop-cons word i 0 number_between ∙ ap (λ y. y ∷ drop (suc i) word) (sym is)
    ∙ ap (λ j. x ∷ drop j word) (sym (add-one i)) in
    ap (digits_from n) parts
    ∙ ap (λ b. cond b (digits_from (10 * n + (x - 48)) (drop (i + 1) word)) None) digit
