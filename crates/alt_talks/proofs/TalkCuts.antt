-- Turns of bytes that come in two pieces.
use Rattle.std.proofs.Common.{◌≡◌, ◌≤◌, ◌<◌, ℕ, zero, suc, List, [], ◌∷◌, ◌++◌, length, take, drop, Bool, true, false, cond, refl, sym, ap, ◌∙◌, append_assoc, append-nil, arith, length-append, length-drop}
use Rattle.std.specs.Prelude.{◌||◌, ◌==◌}
use Rattle.std.proofs.lemmas.Bool.{leb-true, le-leb}
use Rattle.std.proofs.lemmas.List.{drop-append-le, take-append-le}
use Rattle.std.proofs.Math.Bool.{or-true}
use Rattle.alt_talks.specs.Talks.{Head, Scanned, unread, bad, good, by_scan, Turn, onward, asked, refused, Rules, ConnectionPlace, at, turns, final, turns_at, final_at, greets, is_request_whole, request_size, request_of, closes}
use Rattle.alt_talks.specs.private.Lawful.{Lawful}

-- one step of both
abbrev step_turns : Rules → ℕ → Bool → List ℕ → Scanned → List Turn
step_turns r n g bytes x =
    by_scan [] (λ k. refused k ∷ [])
    (λ h. greets g h.expect ++ cond (is_request_whole h bytes) (asked (request_of h bytes n) ∷ cond h.close [] (turns r n false (drop (request_size h) bytes))) []) x

abbrev step_final : Rules → ℕ → Bool → List ℕ → Scanned → ConnectionPlace
step_final r n g bytes x =
    by_scan (at (suc n) g bytes) (λ k. at 0 g bytes)
    (λ h. cond (is_request_whole h bytes) (cond h.close (at 0 false (drop (request_size h) bytes)) (final r n false (drop (request_size h) bytes))) (at (suc n) (g || h.expect) bytes)) x

greeted : (g : Bool) (h : Head) → greets (g || h.expect) h.expect ≡ []
greeted g h =
    elim h.expect as (λ e. cond e (cond (g || e) [] (onward ∷ [])) [] ≡ []) [
      | true ↦ elim g as (λ b. cond (b || true) [] (onward ∷ []) ≡ []) [ true ↦ refl | false ↦ refl ]
      | false ↦ refl
    ]

or-same : (g e : Bool) → ((g || e) || e) ≡ (g || e)
or-same true e = refl
or-same false true = refl
or-same false false = refl

module _ (r : Rules) (w : Lawful r) (n : ℕ) (g : Bool) (a b : List ℕ) (h : Head)
    (more : (f : Bool) (c : List ℕ) → turns r n f (c ++ b) ≡ turns r n f c ++ turns_at r (final r n f c) b)
    (on : (f : Bool) (c : List ℕ) → final r n f (c ++ b) ≡ final_at r (final r n f c) b)
    (e : r.scan a ≡ good h) where
  long : is_request_whole h a ≡ true → request_size h ≤ length a
  long t = leb-true (request_size h) (length a) t

  whole_on : is_request_whole h a ≡ true → is_request_whole h (a ++ b) ≡ true
  whole_on t = let k = length-append a b in let l = long t in le-leb (request_size h) (length (a ++ b)) (omega (arith, k, l))

  rest_on : is_request_whole h a ≡ true → drop (request_size h) (a ++ b) ≡ drop (request_size h) a ++ b
  rest_on t = drop-append-le (request_size h) a b (long t)

  body_on : is_request_whole h a ≡ true → take h.length (drop h.taken (a ++ b)) ≡ take h.length (drop h.taken a)
  body_on t =
      let l = long t in
      let k = length-drop h.taken a in
      ap (take h.length) (drop-append-le h.taken a b (omega (arith, l))) ∙ take-append-le h.length (drop h.taken a) b (omega (arith, l, k))

  request_on : is_request_whole h a ≡ true → request_of h (a ++ b) n ≡ request_of h a n
  request_on t = ap (λ (bs : List ℕ). record { target = h.target; body = bs; close = h.close || (n == 0) }) (body_on t)

  by_close : (c : Bool) → cond c [] (turns r n false (drop (request_size h) a ++ b))
      ≡ cond c [] (turns r n false (drop (request_size h) a)) ++ turns_at r (cond c (at 0 false (drop (request_size h) a)) (final r n false (drop (request_size h) a))) b
  by_close true = refl
  by_close false = more false (drop (request_size h) a)

  by_close_final : (c : Bool) → cond c (at 0 false (drop (request_size h) a ++ b)) (final r n false (drop (request_size h) a ++ b))
      ≡ final_at r (cond c (at 0 false (drop (request_size h) a)) (final r n false (drop (request_size h) a))) b
  by_close_final true = refl
  by_close_final false = on false (drop (request_size h) a)

  good_turns : (v : Bool) → is_request_whole h a ≡ v → turns r (suc n) g (a ++ b)
      ≡ (greets g h.expect ++ cond v (asked (request_of h a n) ∷ cond h.close [] (turns r n false (drop (request_size h) a))) [])
      ++ turns_at r (cond v (cond h.close (at 0 false (drop (request_size h) a)) (final r n false (drop (request_size h) a))) (at (suc n) (g || h.expect) a)) b
  good_turns true t =
      ap (step_turns r n g (a ++ b)) (w.stays_good a b h e)
      ∙ ap (λ v. greets g h.expect ++ cond v (asked (request_of h (a ++ b) n) ∷ cond h.close [] (turns r n false (drop (request_size h) (a ++ b)))) []) (whole_on t)
      ∙ ap (λ q. greets g h.expect ++ (asked q ∷ cond h.close [] (turns r n false (drop (request_size h) (a ++ b))))) (request_on t)
      ∙ ap (λ bs. greets g h.expect ++ (asked (request_of h a n) ∷ cond h.close [] (turns r n false bs))) (rest_on t)
      ∙ ap (λ ts. greets g h.expect ++ (asked (request_of h a n) ∷ ts)) (by_close h.close)
      ∙ sym (append_assoc (greets g h.expect) _ _)
  good_turns false t =
      ap (step_turns r n g (a ++ b)) (w.stays_good a b h e)
      ∙ ap (λ ts. greets g h.expect ++ (ts ++ cond (is_request_whole h (a ++ b)) (asked (request_of h (a ++ b) n) ∷ cond h.close [] (turns r n false (drop (request_size h) (a ++ b)))) [])) (sym (greeted g h))
      ∙ ap (λ ts. greets g h.expect ++ ts) (sym (ap (step_turns r n (g || h.expect) (a ++ b)) (w.stays_good a b h e)))
      ∙ ap (λ ts. ts ++ turns r (suc n) (g || h.expect) (a ++ b)) (sym (append-nil (greets g h.expect)))

  good_final : (v : Bool) → is_request_whole h a ≡ v → final r (suc n) g (a ++ b)
      ≡ final_at r (cond v (cond h.close (at 0 false (drop (request_size h) a)) (final r n false (drop (request_size h) a))) (at (suc n) (g || h.expect) a)) b
  good_final true t =
      ap (step_final r n g (a ++ b)) (w.stays_good a b h e)
      ∙ ap (λ v. cond v (cond h.close (at 0 false (drop (request_size h) (a ++ b))) (final r n false (drop (request_size h) (a ++ b)))) (at (suc n) (g || h.expect) (a ++ b))) (whole_on t)
      ∙ ap (λ bs. cond h.close (at 0 false bs) (final r n false bs)) (rest_on t)
      ∙ by_close_final h.close
  good_final false t =
      ap (step_final r n g (a ++ b)) (w.stays_good a b h e)
      ∙ ap (λ f. cond (is_request_whole h (a ++ b)) (cond h.close (at 0 false (drop (request_size h) (a ++ b))) (final r n false (drop (request_size h) (a ++ b)))) (at (suc n) f (a ++ b))) (sym (or-same g h.expect))
      ∙ sym (ap (step_final r n (g || h.expect) (a ++ b)) (w.stays_good a b h e))

module _ (r : Rules) (w : Lawful r) (n : ℕ) (b : List ℕ)
    (more : (f : Bool) (c : List ℕ) → turns r n f (c ++ b) ≡ turns r n f c ++ turns_at r (final r n f c) b)
    (on : (f : Bool) (c : List ℕ) → final r n f (c ++ b) ≡ final_at r (final r n f c) b) where
  next_turns : (g : Bool) (a : List ℕ) (x : Scanned) → r.scan a ≡ x → turns r (suc n) g (a ++ b) ≡ step_turns r n g a x ++ turns_at r (step_final r n g a x) b
  next_turns g a unread e = refl
  next_turns g a (bad k) e = ap (step_turns r n g (a ++ b)) (w.stays_bad a b k e)
  next_turns g a (good h) e = good_turns r w n g a b h more on e (is_request_whole h a) refl

  next_final : (g : Bool) (a : List ℕ) (x : Scanned) → r.scan a ≡ x → final r (suc n) g (a ++ b) ≡ final_at r (step_final r n g a x) b
  next_final g a unread e = refl
  next_final g a (bad k) e = ap (step_final r n g (a ++ b)) (w.stays_bad a b k e)
  next_final g a (good h) e = good_final r w n g a b h more on e (is_request_whole h a) refl

both : (r : Rules) (w : Lawful r) (n : ℕ) (b : List ℕ) (g : Bool) (a : List ℕ)
    → (turns r n g (a ++ b) ≡ turns r n g a ++ turns_at r (final r n g a) b) × (final r n g (a ++ b) ≡ final_at r (final r n g a) b)
both r w zero b g a = (refl, refl)
both r w (suc n) b g a = (
  next_turns r w n b (λ f c. (both r w n b f c).0) (λ f c. (both r w n b f c).1) g a (r.scan a) refl,
  next_final r w n b (λ f c. (both r w n b f c).0) (λ f c. (both r w n b f c).1) g a (r.scan a) refl,
)

-- The turns of two pieces are those of the first and then those of what it left with the second.
pub turns_cut : (r : Rules) (w : Lawful r) (n : ℕ) (g : Bool) (a b : List ℕ) → turns r n g (a ++ b) ≡ turns r n g a ++ turns_at r (final r n g a) b
turns_cut r w n g a b = (both r w n b g a).0

pub final_cut : (r : Rules) (w : Lawful r) (n : ℕ) (g : Bool) (a b : List ℕ) → final r n g (a ++ b) ≡ final_at r (final r n g a) b
final_cut r w n g a b = (both r w n b g a).1

-- what stands at a place, by what the scan of its bytes gives
pub at_unread : (r : Rules) (left : ℕ) (g : Bool) (bytes : List ℕ) → r.scan bytes ≡ unread → (turns r left g bytes ≡ []) × (final r left g bytes ≡ at left g bytes)
at_unread r zero g bytes e = (refl, refl)
at_unread r (suc n) g bytes e = (ap (step_turns r n g bytes) e, ap (step_final r n g bytes) e)

pub at_bad : (r : Rules) (left : ℕ) (g : Bool) (bytes : List ℕ) (k : ℕ) → 0 < left → r.scan bytes ≡ bad k
    → (turns r left g bytes ≡ refused k ∷ []) × (final r left g bytes ≡ at 0 g bytes)
at_bad r zero g bytes k h e = absurd (omega arith)
at_bad r (suc n) g bytes k h e = (ap (step_turns r n g bytes) e, ap (step_final r n g bytes) e)

pub at_part : (r : Rules) (left : ℕ) (g : Bool) (bytes : List ℕ) (h : Head) → 0 < left → r.scan bytes ≡ good h → is_request_whole h bytes ≡ false
    → (turns r left g bytes ≡ greets g h.expect ++ []) × (final r left g bytes ≡ at left (g || h.expect) bytes)
at_part r zero g bytes h l e w = absurd (omega arith)
at_part r (suc n) g bytes h l e w = (
  ap (step_turns r n g bytes) e ∙ ap (λ v. greets g h.expect ++ cond v (asked (request_of h bytes n) ∷ cond h.close [] (turns r n false (drop (request_size h) bytes))) []) w,
  ap (step_final r n g bytes) e ∙ ap (λ v. cond v (cond h.close (at 0 false (drop (request_size h) bytes)) (final r n false (drop (request_size h) bytes))) (at (suc n) (g || h.expect) bytes)) w,
)

-- letting the client go on changes nothing else
pub at_hello : (r : Rules) (left : ℕ) (g : Bool) (bytes : List ℕ) (h : Head) → r.scan bytes ≡ good h → 0 < left
    → (turns r left g bytes ≡ greets g h.expect ++ turns r left (g || h.expect) bytes) × (final r left g bytes ≡ final r left (g || h.expect) bytes)
at_hello r zero g bytes h e l = absurd (omega arith)
at_hello r (suc n) g bytes h e l =
    let rest = cond (is_request_whole h bytes) (asked (request_of h bytes n) ∷ cond h.close [] (turns r n false (drop (request_size h) bytes))) [] in (
      ap (step_turns r n g bytes) e ∙ ap (λ ts. greets g h.expect ++ (ts ++ rest)) (sym (greeted g h)) ∙ ap (λ ts. greets g h.expect ++ ts) (sym (ap (step_turns r n (g || h.expect) bytes) e)),
      ap (step_final r n g bytes) e
          ∙ ap (λ f. cond (is_request_whole h bytes) (cond h.close (at 0 false (drop (request_size h) bytes)) (final r n false (drop (request_size h) bytes))) (at (suc n) f bytes)) (sym (or-same g h.expect))
          ∙ sym (ap (step_final r n (g || h.expect) bytes) e),
    )

by_left : (r : Rules) (n : ℕ) (d : List ℕ) (c : Bool) → cond c [] (turns r n false d) ≡ turns r (cond c 0 n) false d
by_left r n d true = refl
by_left r n d false = refl

by_left_final : (r : Rules) (n : ℕ) (d : List ℕ) (c : Bool) → cond c (at 0 false d) (final r n false d) ≡ final r (cond c 0 n) false d
by_left_final r n d true = refl
by_left_final r n d false = refl

-- a whole request at the front, of which the client was let go on
pub at_whole : (r : Rules) (n : ℕ) (g : Bool) (bytes : List ℕ) (h : Head) → r.scan bytes ≡ good h → is_request_whole h bytes ≡ true
    → (turns r (suc n) (g || h.expect) bytes ≡ asked (request_of h bytes n) ∷ turns r (cond h.close 0 n) false (drop (request_size h) bytes))
    × (final r (suc n) (g || h.expect) bytes ≡ final r (cond h.close 0 n) false (drop (request_size h) bytes))
at_whole r n g bytes h e w = (
  ap (step_turns r n (g || h.expect) bytes) e
      ∙ ap (λ v. greets (g || h.expect) h.expect ++ cond v (asked (request_of h bytes n) ∷ cond h.close [] (turns r n false (drop (request_size h) bytes))) []) w
      ∙ ap (λ ts. ts ++ (asked (request_of h bytes n) ∷ cond h.close [] (turns r n false (drop (request_size h) bytes)))) (greeted g h)
      ∙ ap (λ ts. asked (request_of h bytes n) ∷ ts) (by_left r n (drop (request_size h) bytes) h.close),
  ap (step_final r n (g || h.expect) bytes) e
      ∙ ap (λ v. cond v (cond h.close (at 0 false (drop (request_size h) bytes)) (final r n false (drop (request_size h) bytes))) (at (suc n) ((g || h.expect) || h.expect) bytes)) w
      ∙ by_left_final r n (drop (request_size h) bytes) h.close,
)

-- a part of a request at the front, of which the client was let go on
pub at_short : (r : Rules) (left : ℕ) (g : Bool) (bytes : List ℕ) (h : Head) → r.scan bytes ≡ good h → is_request_whole h bytes ≡ false → 0 < left
    → (turns r left (g || h.expect) bytes ≡ []) × (final r left (g || h.expect) bytes ≡ at left (g || h.expect) bytes)
at_short r left g bytes h e w l =
    let f = at_part r left (g || h.expect) bytes h l e w in (f.0 ∙ append-nil _ ∙ greeted g h, f.1 ∙ ap (λ v. at left v bytes) (or-same g h.expect))

-- ---- where no request may come any more, a turn ended the connection

closes_greets : (g e : Bool) (ts : List Turn) → closes (greets g e ++ ts) ≡ closes ts
closes_greets true true ts = refl
closes_greets false true ts = refl
closes_greets true false ts = refl
closes_greets false false ts = refl

module _ (r : Rules) (n : ℕ) (a : List ℕ) (h : Head) (ih : (f : Bool) (c : List ℕ) → 0 < n → (final r n f c).left ≡ 0 → closes (turns r n f c) ≡ true) where
  rest_turns : Bool → List Turn
  rest_turns c = cond c [] (turns r n false (drop (request_size h) a))

  by_rest : (m : ℕ) → m ≡ n → (c : Bool) → h.close ≡ c → (cond c (at 0 false (drop (request_size h) a)) (final r n false (drop (request_size h) a))).left ≡ 0
      → ((h.close || (n == 0)) || closes (rest_turns h.close)) ≡ true
  unfolding rest_turns
  by_rest m s true e z = ap (λ b. (b || (n == 0)) || closes (cond h.close [] (turns r n false (drop (request_size h) a)))) e
  by_rest zero s false e z = ap (λ k. (h.close || (k == 0)) || closes (cond h.close [] (turns r n false (drop (request_size h) a)))) (sym s)
      ∙ ap (λ b. b || closes (cond h.close [] (turns r n false (drop (request_size h) a))))
      (or-true h.close)
  by_rest (suc m) s false e z = ap (λ b. (h.close || (n == 0)) || closes (cond b [] (turns r n false (drop (request_size h) a)))) e
      ∙ ap (λ b. (h.close || (n == 0)) || b) (ih false (drop (request_size h) a) (omega (arith, s)) z)
      ∙ or-true (h.close || (n == 0))

  by_whole : (g v : Bool) → (cond v (cond h.close (at 0 false (drop (request_size h) a)) (final r n false (drop (request_size h) a))) (at (suc n) (g || h.expect) a)).left ≡ 0
      → closes (cond v (asked (request_of h a n) ∷ cond h.close [] (turns r n false (drop (request_size h) a))) []) ≡ true
  unfolding rest_turns
  by_whole g true z = by_rest n refl h.close refl z
  by_whole g false z = absurd (omega (arith, z))

ends_by : (r : Rules) (n : ℕ) (ih : (f : Bool) (c : List ℕ) → 0 < n → (final r n f c).left ≡ 0 → closes (turns r n f c) ≡ true) (g : Bool) (a : List ℕ) (x : Scanned)
    → (step_final r n g a x).left ≡ 0 → closes (step_turns r n g a x) ≡ true
ends_by r n ih g a unread z = absurd (omega (arith, z))
ends_by r n ih g a (bad k) z = refl
ends_by r n ih g a (good h) z = closes_greets g h.expect _ ∙ by_whole r n a h ih g (is_request_whole h a) z

pub closes_end : (r : Rules) (n : ℕ) (g : Bool) (a : List ℕ) → 0 < n → (final r n g a).left ≡ 0 → closes (turns r n g a) ≡ true
closes_end r zero g a l z = absurd (omega arith)
closes_end r (suc n) g a l z = ends_by r n (λ f c. closes_end r n f c) g a (r.scan a) z
