-- Numbers, one part behind another, and so many parts: what is read is right, and where reading stops no next one stands.
use Rattle.std.proofs.Common.{◌≡◌, refl, sym, ap, subst, ◌∙◌, ℕ, zero, suc, ◌+◌, ◌<◌, ◌^◌, true, false, cond, nat_le, if◌then◌else◌, List, [], ◌∷◌, ◌++◌, length, take, drop, arith, append_assoc, length-append}
use Rattle.std.specs.Int.{w32, w64, to_be_bytes, from_be_bytes}
use Rattle.std.proofs.lemmas.List.{append-nil}
use Rattle.std.proofs.lemmas.Bool.{leb-false}
use Rattle.alt_schemabytes.specs.Format.{each, counted_list}
use Rattle.alt_schemabytes.specs.Parts.{ReadOutcome, got, stops, followed_by, read_u64, read_u32, read_more, read_counted}
use Rattle.alt_schemabytes.specs.Places.{NoNumberOfWidth, Unfinished, no_first, no_next, AllNext, Fewer, NoCounted}
use Rattle.alt_schemabytes.proofs.Wholes.{Small, small_at, small_back, small_take, got_value, both_got, within, u64_got, u32_got}
use Rattle.alt_schemabytes.proofs.WholeLists.{counted_got}
use Rattle.alt_schemabytes.proofs.Steady.{no_got, stop_count}

-- ---- numbers

-- a number that is read fits
pub u64_below : (bytes : List ℕ) (n : ℕ) (rest : List ℕ) → Small bytes → read_u64 bytes ≡ got n rest
    → n < 2 ^ 64
unfolding read_u64
u64_below bytes n rest small e =
    let w = within 8 (length bytes)
    (got (from_be_bytes w64 (take 8 bytes)) (drop 8 bytes)) 0 n rest e in
    let v : from_be_bytes w64 (take 8 bytes) ≡ n = got_value _ _ _ _ w.1 in
    let s = small_at (take 8 bytes) (small_take 8 bytes small) in
    omega (arith, v, s 0, s 1, s 2, s 3, s 4, s 5, s 6, s 7)

-- the same of 4 bytes
pub u32_below : (bytes : List ℕ) (n : ℕ) (rest : List ℕ) → Small bytes → read_u32 bytes ≡ got n rest
    → n < 2 ^ 32
unfolding read_u32
u32_below bytes n rest small e =
    let w = within 4 (length bytes)
    (got (from_be_bytes w32 (take 4 bytes)) (drop 4 bytes)) 0 n rest e in
    let v : from_be_bytes w32 (take 4 bytes) ≡ n = got_value _ _ _ _ w.1 in
    let s = small_at (take 4 bytes) (small_take 4 bytes small) in
    omega (arith, v, s 0, s 1, s 2, s 3)

module _ {A : Type 0} where
  -- a part that is read stands there, and is a right one
  abbrev pub Sound : (A → List ℕ) → (A → Type 0) → (List ℕ → ReadOutcome A) → Type 0
  Sound bytes_of Is R = (b : List ℕ) (x : A) (r : List ℕ) → Small b → R b ≡ got x r
      → (b ≡ bytes_of x ++ r) × Is x

  -- where reading stops, the part doesn't stand there
  abbrev pub Complete : (List ℕ → ℕ → Type 0) → (List ℕ → ReadOutcome A) → Type 0
  Complete No R = (b : List ℕ) (n : ℕ) → Small b → R b ≡ stops n → No b n

-- numbers
pub u64_sound : Sound (to_be_bytes w64) (λ n. n < 2 ^ 64) read_u64
u64_sound = λ b n r small e. (u64_got b n r small e, u64_below b n r small e)

-- the same of 4 bytes
pub u32_sound : Sound (to_be_bytes w32) (λ n. n < 2 ^ 32) read_u32
u32_sound = λ b n r small e. (u32_got b n r small e, u32_below b n r small e)

-- where reading stopped, there weren't bytes enough
pub too_short : {A : Type 0} (k m : ℕ) (x : A) (r : List ℕ) (n : ℕ)
    → (if nat_le k m then got x r else stops 0) ≡ stops n → (m < k) × (n ≡ 0)
too_short k m x r n e =
    (elim (nat_le k m) as (λ b. nat_le k m ≡ b → cond b (got x r) (stops 0) ≡ stops n
    → (m < k) × (n ≡ 0)) [
      | true ↦ λ t f. absurd (no_got x r n f)
      | false ↦ λ t f. (leb-false k m t, sym (stop_count 0 n f))
    ]) refl e

-- where no number is read, it is cut off
pub u64_none : Complete (NoNumberOfWidth 8) read_u64
unfolding read_u64
u64_none = λ b n small e. too_short 8 (length b) (from_be_bytes w64 (take 8 b)) (drop 8 b) n e

-- the same of 4 bytes
pub u32_none : Complete (NoNumberOfWidth 4) read_u32
unfolding read_u32
u32_none = λ b n small e. too_short 4 (length b) (from_be_bytes w32 (take 4 b)) (drop 4 b) n e

-- ---- one part behind another

module _ {A B : Type 0} (bytes_of : A → List ℕ) (Is : A → Type 0) (NoFirst : List ℕ → ℕ → Type 0)
    (NoNext : A → List ℕ → ℕ → Type 0) (R : List ℕ → ReadOutcome A) (next : A → List ℕ → ReadOutcome B)
    (sound : Sound bytes_of Is R) (none : Complete NoFirst R)
    (after : (x : A) → Is x → Complete (NoNext x) (next x)) where
  -- whichever of the two stops
  one_by_one : (bytes : List ℕ) (r : ReadOutcome A) (n : ℕ) → Small bytes → R bytes ≡ r
      → followed_by next r ≡ stops n → Unfinished bytes_of Is NoFirst NoNext bytes n
  one_by_one bytes (got x mid) n small e f =
      let s = sound bytes x mid small e in
      no_next x mid s.1 s.0
      (after x s.1 mid n (small_back (bytes_of x) mid (subst Small s.0 small)) f)
  one_by_one bytes (stops m) n small e f =
      no_first (none bytes n small (e ∙ ap stops (stop_count m n f)))

  -- where reading two parts stops, the first doesn't stand there, or the next not behind it
  pub unfinished : (bytes : List ℕ) (n : ℕ) → Small bytes → followed_by next (R bytes) ≡ stops n
      → Unfinished bytes_of Is NoFirst NoNext bytes n
  unfinished bytes n small e = one_by_one bytes (R bytes) n small refl e

-- the last part, of which something is made
pub last_stops : {A B : Type 0} (f : A → B) (r : ReadOutcome A) (n : ℕ)
    → followed_by (λ x q. got (f x) q) r ≡ stops n → r ≡ stops n
last_stops f (got x q) n e = absurd (no_got (f x) q n e)
last_stops f (stops m) n e = ap stops (stop_count m n e)

-- parts of a part
followed_by-followed_by : {A B C : Type 0} (k : B → List ℕ → ReadOutcome C) (f : A → List ℕ → ReadOutcome B)
    (r : ReadOutcome A) → followed_by k (followed_by f r) ≡ followed_by (λ x q. followed_by k (f x q)) r
followed_by-followed_by k f (got x q) = refl
followed_by-followed_by k f (stops n) = refl

-- one part behind another, in a part that something follows
module _ {A B C : Type 0} (bytes_of : A → List ℕ) (Is : A → Type 0)
    (NoFirst : List ℕ → ℕ → Type 0) (NoNext : A → List ℕ → ℕ → Type 0) (R : List ℕ → ReadOutcome A)
    (next : A → List ℕ → ReadOutcome B) (k : B → List ℕ → ReadOutcome C)
    (sound : Sound bytes_of Is R) (none : Complete NoFirst R)
    (after : (x : A) → Is x → Complete (NoNext x) (λ q. followed_by k (next x q))) where
  -- where reading stops, the same holds
  pub unfinished_in : Complete (Unfinished bytes_of Is NoFirst NoNext)
      (λ b. followed_by k (followed_by next (R b)))
  unfinished_in = λ b n small e.
      unfinished bytes_of Is NoFirst NoNext R (λ x q. followed_by k (next x q)) sound none after
      b n small (sym (followed_by-followed_by k next (R b)) ∙ e)

-- ---- so many parts

module _ {A : Type 0} (bytes_of : A → List ℕ) (P : List A → A → Type 0)
    (NoNext : List A → List ℕ → ℕ → Type 0) (R : List A → List ℕ → ReadOutcome A)
    (sound : (before : List A) → Sound bytes_of (P before) (R before))
    (none : (before : List A) → Complete (NoNext before) (R before)) where
  -- fewer stand there behind those before
  record FewerFrom (k : ℕ) (before : List A) (bytes : List ℕ) (n : ℕ) : Type 0 where
    new : List A
    behind : List ℕ
    few : length new < k
    are : AllNext P before new
    is : bytes ≡ each bytes_of new ++ behind
    stops_there : NoNext (before ++ new) behind n

  fewer_step : (k : ℕ)
      → ((before : List A) (bytes : List ℕ) (n : ℕ) → Small bytes
      → read_more R k before bytes ≡ stops n → FewerFrom k before bytes n)
      → (before : List A) (bytes : List ℕ) (r : ReadOutcome A) (n : ℕ) → Small bytes → R before bytes ≡ r
      → followed_by (λ x rest. read_more R k (before ++ x ∷ []) rest) r ≡ stops n
      → FewerFrom (suc k) before bytes n
  fewer_step k walk before bytes (got x mid) n small e f =
      let s = sound before bytes x mid small e in
      let m = walk (before ++ x ∷ []) mid n
      (small_back (bytes_of x) mid (subst Small s.0 small)) f in
      record {
        new = x ∷ m.new;
        behind = m.behind;
        few = omega (arith, m.few);
        are = (s.1, m.are);
        is =
            s.0 ∙ ap (λ z. bytes_of x ++ z) m.is
            ∙ sym (append_assoc (bytes_of x) (each bytes_of m.new) m.behind);
        stops_there =
            subst (λ xs. NoNext xs m.behind n) (append_assoc before (x ∷ []) m.new) m.stops_there;
      }
  fewer_step k walk before bytes (stops m) n small e f = record {
    new = [];
    behind = bytes;
    few = omega arith;
    are = tt;
    is = refl;
    stops_there =
        subst (λ xs. NoNext xs bytes n) (sym (append-nil before))
        (none before bytes n small (e ∙ ap stops (stop_count m n f)));
  }

  fewer_from : (k : ℕ) (before : List A) (bytes : List ℕ) (n : ℕ) → Small bytes
      → read_more R k before bytes ≡ stops n → FewerFrom k before bytes n
  unfolding read_more
  fewer_from zero before bytes n small e = absurd (no_got before bytes n e)
  fewer_from (suc k) before bytes n small e =
      fewer_step k (fewer_from k) before bytes (R before bytes) n small refl e

  -- a count and so many parts
  pub counted_none : Complete (NoCounted bytes_of P NoNext) (read_counted R)
  unfolding read_counted
  counted_none = λ b n small e.
      unfinished (to_be_bytes w64) (λ count. count < 2 ^ 64) (NoNumberOfWidth 8) (Fewer bytes_of P NoNext)
      read_u64 (λ count rest. read_more R count [] rest) u64_sound u64_none
      (λ count is c m behind f.
      let g = fewer_from count [] c m behind f in
      record {
        done = g.new;
        behind = g.behind;
        few = g.few;
        are = g.are;
        is = g.is;
        stops =
            g.stops_there;
      })
      b n small e

  -- a count and parts that are read stand there, and are right ones
  pub counted_sound : Sound (counted_list bytes_of) (AllNext P []) (read_counted R)
  counted_sound = λ b xs r small e. counted_got bytes_of P R sound b xs r small e

-- so many are read as were told
more_length : {A : Type 0} (R : List A → List ℕ → ReadOutcome A) (k : ℕ) (before : List A) (bytes : List ℕ)
    (xs : List A) (rest : List ℕ) → read_more R k before bytes ≡ got xs rest
    → length xs ≡ length before + k
unfolding read_more
more_length R zero before bytes xs rest e =
    let same : before ≡ xs = got_value before xs bytes rest e in
    omega (arith, ap length same)
more_length R (suc k) before bytes xs rest e =
    let b = both_got (λ x r. read_more R k (before ++ x ∷ []) r) (R before bytes) xs rest e in
    omega (
      arith,
      more_length R k (before ++ b.x ∷ []) b.mid xs rest b.second,
      length-append before
          (b.x ∷ []),
    )

-- so their number fits
pub counted_short : {A : Type 0} (R : List A → List ℕ → ReadOutcome A) (bytes : List ℕ)
    (xs : List A)
    (rest : List ℕ) → Small bytes → read_counted R bytes ≡ got xs rest → length xs < 2 ^ 64
unfolding read_counted
counted_short R bytes xs rest small e =
    let b = both_got (λ n r. read_more R n [] r) (read_u64 bytes) xs rest e in
    omega (
      arith,
      more_length R b.x
          [] b.mid xs rest b.second,
      u64_below bytes b.x b.mid small b.first,
    )
