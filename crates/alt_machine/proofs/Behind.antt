-- Writes behind other writes: the state after them, and what they lack.
use Rattle.std.proofs.Common.{◌≡◌, refl, ap, ◌∙◌, ℕ, zero, suc, ◌+◌, ◌≤◌, List, [], ◌∷◌, ◌++◌, length, take, Option, Some, None, option_map, arith}
use Rattle.alt_machine.specs.Outcomes.{Wants, last_state, state_after}
use Rattle.alt_machine.specs.State.{State}
use Rattle.alt_machine.specs.Wanted.{Lack, lack_of, later, or_later, lack_among}
use Rattle.alt_machine.proofs.Lacks.{first_has}

-- the last state is that behind all of them
pub last_behind : (s : State) (a b : List State)
    → last_state s (a ++ b) ≡ last_state (last_state s a) b
last_behind s [] b = refl
last_behind s (t ∷ ts) b = last_behind t ts b

-- so is the state after so many that all of the first are among them
pub after_behind : (a : List State) (n k : ℕ) (s : State) (b : List State) → n ≡ length a + k
    → state_after n s (a ++ b) ≡ state_after k (last_state s a) b
after_behind [] n k s b e = ap (λ m. state_after m s b) (omega (arith, e))
after_behind (t ∷ ts) zero k s b e = absurd (omega (arith, e))
after_behind (t ∷ ts) (suc n) k s b e = after_behind ts n k t b (omega (arith, e))

-- the state after some of the first is one after some of all
pub front_of : (k : ℕ) (s : State) (a b : List State)
    → (n : ℕ) × (state_after n s (a ++ b) ≡ state_after k s a)
front_of zero s a b = (0, refl)
front_of (suc k) s [] b = (0, refl)
front_of (suc k) s (t ∷ ts) b = let more = front_of k t ts b in (suc more.0, more.1)

-- ---- what is lacked

-- nothing is lacked among writes and others behind them, where nothing is among either
pub lack_behind : (wants : Wants) (a : List State) (s : State) (b : List State)
    → lack_among wants s a ≡ None → lack_among wants (last_state s a) b ≡ None
    → lack_among wants s (a ++ b) ≡ None
lack_behind wants [] s b e f = f
lack_behind wants (t ∷ ts) s b e f =
    let has = first_has wants s t ts e in
    ap (λ o. or_later o (lack_among wants t (ts ++ b))) has.0
    ∙ ap (option_map later) (lack_behind wants ts t b has.1 f)

-- among the first so many
pub taken_behind : (wants : Wants) (a : List State) (n k : ℕ) (s : State) (b : List State)
    → n ≡ length a + k → lack_among wants s a ≡ None
    → lack_among wants (last_state s a) (take k b) ≡ None
    → lack_among wants s (take n (a ++ b)) ≡ None
taken_behind wants [] n k s b e none f =
    ap (λ m. lack_among wants s (take m b)) (omega (arith, e)) ∙ f
taken_behind wants (t ∷ ts) zero k s b e none f = absurd (omega (arith, e))
taken_behind wants (t ∷ ts) (suc n) k s b e none f =
    let has = first_has wants s t ts none in
    ap (λ o. or_later o (lack_among wants t (take n (ts ++ b)))) has.0
    ∙ ap (option_map later) (taken_behind wants ts n k t b (omega (arith, e)) has.1 f)

-- the first that one of them lacks
pub lacks_behind : (wants : Wants) (a : List State) (number before n : ℕ) (s : State)
    (b : List State)
    → n ≡ length a + before → lack_among wants s a ≡ None
    → lack_among wants (last_state s a) b ≡ Some (record { number = number; before = before })
    → lack_among wants s (a ++ b) ≡ Some (record { number = number; before = n })
lacks_behind wants [] number before n s b e none f =
    f ∙ ap (λ m. Some (record { number = number; before = m })) (omega (arith, e))
lacks_behind wants (t ∷ ts) number before n s b e none f =
    let has = first_has wants s t ts none in
    ap (λ o. or_later o (lack_among wants t (ts ++ b))) has.0
    ∙ ap (option_map later)
    (lacks_behind wants ts number before (length ts + before) t b refl has.1 f)
    ∙ ap (λ m. Some (record { number = number; before = m })) (omega (arith, e))

-- what is lacked among the first is lacked among all
pub lacks_front : (wants : Wants) (a b : List State) (lack : Lack) (s : State)
    → lack_among wants s a ≡ Some lack → lack_among wants s (a ++ b) ≡ Some lack
lacks_front wants [] b lack s e = absurd (let f : ⊥ = cc in f)
lacks_front wants (t ∷ ts) b lack s e =
    by (λ l is. lacks_front wants ts b l t is) (lack_of wants s) (lack_among wants t ts) refl e
  where
    by : ((l : Lack) → lack_among wants t ts ≡ Some l → lack_among wants t (ts ++ b) ≡ Some l)
        → (o : Option ℕ) (rest : Option Lack) → lack_among wants t ts ≡ rest
        → or_later o rest ≡ Some lack → or_later o (lack_among wants t (ts ++ b)) ≡ Some lack
    by more (Some n) rest is f = f
    by more None None is f = absurd (let g : ⊥ = cc in g)
    by more None (Some l) is f = ap (option_map later) (more l is) ∙ f

-- it is lacked before the last of them
pub lacks_within : (wants : Wants) (a : List State) (lack : Lack) (s : State)
    → lack_among wants s a ≡ Some lack → lack.before ≤ length a
lacks_within wants [] lack s e = absurd (let f : ⊥ = cc in f)
lacks_within wants (t ∷ ts) lack s e =
    by (λ l is. lacks_within wants ts l t is) (lack_of wants s) (lack_among wants t ts) refl e
  where
    same : (x y : Lack) → Some x ≡ Some y → x.before ≡ y.before
    same x y f = ap (λ (l : Lack). l.before) (let g : x ≡ y = cc in g)

    by : ((l : Lack) → lack_among wants t ts ≡ Some l → l.before ≤ length ts)
        → (o : Option ℕ) (rest : Option Lack) → lack_among wants t ts ≡ rest
        → or_later o rest ≡ Some lack → lack.before ≤ suc (length ts)
    by more (Some n) rest is f = omega (arith, same (record { number = n; before = 0 }) lack f)
    by more None None is f = absurd (let g : ⊥ = cc in g)
    by more None (Some l) is f = omega (arith, same (later l) lack f, more l is)

-- of the first so many the others make no difference
pub take_front : (k : ℕ) (a b : List State) → k ≤ length a → take k (a ++ b) ≡ take k a
take_front zero a b h = refl
take_front (suc k) [] b h = absurd (omega (arith, h))
take_front (suc k) (t ∷ ts) b h = ap (λ l. t ∷ l) (take_front k ts b (omega (arith, h)))
