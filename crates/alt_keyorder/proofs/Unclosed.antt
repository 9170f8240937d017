-- Where closed bytes stand, and where they don't.
use Rattle.std.proofs.Common.{◌≡◌, ℕ, zero, suc, ◌-◌, ◌<◌, ◌≤◌, ◌==◌, ◌⊎◌, inl, inr, Bool, List, [], ◌∷◌, ◌++◌, length, take, drop, get_or, subst, if◌then◌else◌, true, false, Option, Some, None, sym, ap, ◌∙◌, append_assoc, length-append, arith}
use Rattle.alt_keyorder.specs.KeyBytes.{escaped, closed, IsClean, IsClosedAt, IsCutAtZero, IsUnclosed, IsPart, NoPart}
use Rattle.alt_keyorder.proofs.Escaping.{escaped-append, escaped-clean}
use Rattle.alt_keyorder.proofs.Parts.{closed-apart}
use Rattle.std.specs.Prelude.{ℤ, nat_abs}
use Rattle.std.specs.Int.{is_negative}
use Rattle.std.specs.Str.{IsUtf8}
use Rattle.std.proofs.lemmas.List.{take-append-drop}
use Rattle.alt_base.proofs.Lists.{cons_rest, cons_first}
use Rattle.alt_decimal.specs.Number.{FitsDecimal}
use Rattle.alt_decimal.specs.Spelled.{spelled, complement, magnitude_bytes}
use Rattle.alt_value.specs.declared.kind.KeyKind.{KeyKind}
use Rattle.alt_value.specs.declared.kind.KeyKind.TheVariants.{S, N, B}
use Rattle.alt_value.specs.Tree.{S_tree, N_tree, B_tree}

nothing : (x : ℕ) (xs : List ℕ) → [] ≡ x ∷ xs → ⊥
nothing x xs e = absurd (cc)

-- behind escaped bytes closed bytes go on
strip : (c t tail r : List ℕ) → escaped c ++ tail ≡ closed t ++ r
    → (u : List ℕ) × (tail ≡ closed u ++ r)
strip [] t tail r e = (t, e)
strip (zero ∷ c) [] tail r e = absurd (let f : 255 ≡ 0 = cons_first _ _ _ _ (cons_rest _ _ _ _ e) in
    omega arith)
strip (zero ∷ c) (zero ∷ t) tail r e = strip c t tail r (cons_rest _ _ _ _ (cons_rest _ _ _ _ e))
strip (zero ∷ c) (suc b ∷ t) tail r e =
    absurd (let f : 0 ≡ suc b = cons_first _ _ _ _ e in omega arith)
strip (suc a ∷ c) [] tail r e = absurd (let f : suc a ≡ 0 = cons_first _ _ _ _ e in omega arith)
strip (suc a ∷ c) (zero ∷ t) tail r e =
    absurd (let f : suc a ≡ 0 = cons_first _ _ _ _ e in omega arith)
strip (suc a ∷ c) (suc b ∷ t) tail r e = strip c t tail r (cons_rest _ _ _ _ e)

-- behind escaped bytes nothing is closed where nothing was
pub unclosed_behind : (bytes c rest : List ℕ) → bytes ≡ escaped c ++ rest → IsUnclosed rest
    → IsUnclosed bytes
unclosed_behind bytes c rest is none = λ s behind e. let u = strip c s rest behind (sym is ∙ e) in
    none u.0 behind u.1

-- closed bytes are some
nothing_closed : (t r : List ℕ) → [] ≡ closed t ++ r → ⊥
nothing_closed [] r e = nothing _ _ e
nothing_closed (zero ∷ t) r e = nothing _ _ e
nothing_closed (suc b ∷ t) r e = nothing _ _ e

-- one byte that is no 0
clean_step : (s : List ℕ) (b : ℕ) (t r : List ℕ) → IsUnclosed s → suc b ∷ s ≡ closed t ++ r → ⊥
clean_step s b [] r none e = let f : suc b ≡ 0 = cons_first _ _ _ _ e in omega arith
clean_step s b (zero ∷ t) r none e = let f : suc b ≡ 0 = cons_first _ _ _ _ e in omega arith
clean_step s b (suc a ∷ t) r none e = none t r (cons_rest _ _ _ _ e)

-- without a 0 nothing is closed
pub clean-unclosed : (s : List ℕ) → IsClean s → IsUnclosed s
clean-unclosed [] clean = λ t r e. nothing_closed t r e
clean-unclosed (zero ∷ s) clean = absurd clean
clean-unclosed (suc b ∷ s) clean = λ t r e. clean_step s b t r (clean-unclosed s clean) e

-- behind the first 0 of closed bytes stands 0 or 255
marked : (front behind t r : List ℕ) → IsClean front → front ++ 0 ∷ behind ≡ closed t ++ r
    → (u : List ℕ) × ((behind ≡ 0 ∷ u) ⊎ (behind ≡ 255 ∷ u))
marked [] behind [] r clean e = (r, inl (cons_rest _ _ _ _ e))
marked [] behind (zero ∷ t) r clean e = (closed t ++ r, inr (cons_rest _ _ _ _ e))
marked [] behind (suc b ∷ t) r clean e =
    absurd (let f : 0 ≡ suc b = cons_first _ _ _ _ e in omega arith)
marked (zero ∷ front) behind t r clean e = absurd clean
marked (suc a ∷ front) behind [] r clean e = absurd
    (let f : suc a ≡ 0 = cons_first _ _ _ _ e in omega arith)
marked (suc a ∷ front) behind (zero ∷ t) r clean e =
    absurd (let f : suc a ≡ 0 = cons_first _ _ _ _ e in omega arith)
marked (suc a ∷ front) behind (suc b ∷ t) r clean e =
    marked front behind t r clean (cons_rest _ _ _ _ e)

-- behind the first 0 another byte stands, or none
pub unmarked : (s front : List ℕ) (mark : ℕ) (after : List ℕ) → s ≡ front ++ 0 ∷ mark ∷ after
    → IsClean front → (mark ≡ 0 → ⊥) → (mark ≡ 255 → ⊥) → IsUnclosed s
unmarked s front mark after is clean no_end no_escape = λ t r e.
    let m = marked front (mark ∷ after) t r clean (sym is ∙ e) in
    elim m.1 [ inl f ↦ no_end (cons_first _ _ _ _ f) | inr f ↦ no_escape (cons_first _ _ _ _ f) ]

-- bytes aren't closed where nothing stands behind the first 0
pub unfinished : (s front : List ℕ) → s ≡ front ++ 0 ∷ [] → IsClean front → IsUnclosed s
unfinished s front is clean = λ t r e.
    let m = marked front [] t r clean (sym is ∙ e) in
    elim m.1 [ inl f ↦ nothing _ _ f | inr f ↦ nothing _ _ f ]

-- one step of reading
pub read_step : (bytes c rest front after : List ℕ) → bytes ≡ escaped c ++ rest
    → rest ≡ front ++ 0 ∷ 255 ∷ after → IsClean front
    → bytes ≡ escaped ((c ++ front) ++ 0 ∷ []) ++ after
read_step bytes c rest front after is cut clean =
    let e : escaped ((c ++ front) ++ 0 ∷ []) ≡ (escaped c ++ front) ++ 0 ∷ 255 ∷ [] =
    escaped-append (c ++ front) (0 ∷ []) ∙ ap (λ s. s ++ 0 ∷ 255 ∷ [])
    (escaped-append c front ∙ ap (λ s. escaped c ++ s) (escaped-clean front clean)) in
    let f : ((escaped c ++ front) ++ 0 ∷ 255 ∷ []) ++ after
    ≡ escaped c ++ (front ++ 0 ∷ 255 ∷ after) = simp append_assoc in
    is ∙ ap (λ s. escaped c ++ s) cut ∙ sym f ∙ ap (λ s. s ++ after) (sym e)

-- the last step
pub read_end : (bytes c rest front after : List ℕ) (len : ℕ) → bytes ≡ escaped c ++ rest
    → rest ≡ front ++ 0 ∷ 0 ∷ after → IsClean front
    → len ≡ length bytes - length after → IsClosedAt bytes (c ++ front) len
read_end bytes c rest front after len is cut clean count =
    let e : escaped (c ++ front) ≡ escaped c ++ front =
    escaped-append c front ∙ ap (λ s. escaped c ++ s) (escaped-clean front clean) in
    let f : ((escaped c ++ front) ++ 0 ∷ 0 ∷ []) ++ after ≡ escaped c ++ (front ++ 0 ∷ 0 ∷ after) =
    simp append_assoc in
    let whole : bytes ≡ closed (c ++ front) ++ after =
    is ∙ ap (λ s. escaped c ++ s) cut ∙ sym f ∙ ap (λ s. (s ++ 0 ∷ 0 ∷ []) ++ after) (sym e) in
    record {
      behind = after;
      is = whole;
      count =
          omega (arith, count, ap length whole, length-append (closed (c ++ front)) after);
    }

-- the same of what stands behind the first 0
pub unfinished_at : (s front behind : List ℕ) → s ≡ front ++ 0 ∷ behind → IsClean front
    → length behind < 1 → IsUnclosed s
unfinished_at s front [] is clean none = unfinished s front is clean
unfinished_at s front (x ∷ behind) is clean none = absurd (omega arith)

-- nor where another byte than a mark stands there
pub unmarked_at : (s front behind : List ℕ) → s ≡ front ++ 0 ∷ behind → IsClean front
    → 1 ≤ length behind
    → (get_or behind 0 0 ≡ 255 → ⊥) → (get_or behind 0 0 ≡ 0 → ⊥) → IsUnclosed s
unmarked_at s front [] is clean some no_escape no_end = absurd (omega arith)
unmarked_at s front (x ∷ behind) is clean some no_escape no_end =
    unmarked s front x behind is clean no_end no_escape

-- a step of reading, by the mark behind the 0
pub read_on : (bytes c rest front after : List ℕ) (g : Bool) → bytes ≡ escaped c ++ rest
    → IsCutAtZero rest front g after → g ≡ true
    → bytes ≡ escaped ((c ++ front) ++ 0 ∷ []) ++ after
read_on bytes c rest front after g is cut e =
    read_step bytes c rest front after is (cut.is
    ∙ ap (λ (b : Bool). front ++ 0 ∷ (if b then 255 else 0) ∷ after) e) cut.clean

-- a step of reading whose mark is 0 is the end of closed bytes
pub read_whole : (bytes c rest front after : List ℕ) (g : Bool) (len : ℕ)
    → bytes ≡ escaped c ++ rest → IsCutAtZero rest front g after → g ≡ false
    → len ≡ length bytes - length after → IsClosedAt bytes (c ++ front) len
read_whole bytes c rest front after g len is cut e count =
    read_end bytes c rest front after len is (cut.is
    ∙ ap (λ (b : Bool). front ++ 0 ∷ (if b then 255 else 0) ∷ after) e) cut.clean count

-- ---- parts

-- a number with the length of its spelling
abbrev found : ℤ → ℕ → Option (ℤ × ℕ)
found z n = Some (z, n)

count_found : Option (ℤ × ℕ) → ℕ
count_found None = 0
count_found (Some p) = p.1

second : (z y : ℤ) (m n : ℕ) → found z m ≡ found y n → m ≡ n
unfolding count_found
second z y m n e = ap count_found e

-- a number that was read is the part at the front
pub number_part : (bytes : List ℕ) (z : ℤ) (len : ℕ) → take len bytes ≡ spelled z → FitsDecimal z
    → ((y : ℤ) (rest : List ℕ) → FitsDecimal y → bytes ≡ spelled y ++ rest
    → found z len ≡ found y (length (spelled y))) → IsPart N bytes (N_tree z) len
number_part bytes z len e fits every =
    let whole : bytes ≡ spelled z ++ drop len bytes =
    sym (take-append-drop len bytes) ∙ ap (λ s. s ++ drop len bytes) e in
    record {
      key = fits;
      behind = drop len bytes;
      is = whole;
      count =
          second z z len (length (spelled z)) (every z (drop len bytes) fits whole);
    }

-- closed bytes that are no UTF-8 are no part of a text
pub no_text : (bytes s : List ℕ) (len : ℕ) → IsClosedAt bytes s len → (IsUtf8 s → ⊥)
    → NoPart S bytes
no_text bytes s len at bad (S_tree t) behind key e =
    let P : List ℕ → Type 0 = λ u. IsUtf8 u in
    bad (subst P (sym (closed-apart s t at.behind behind (sym at.is ∙ e))) key)
no_text bytes s len at bad t behind key e = absurd key

-- no part stands where there are no bytes
nothing_spelled : (z : ℤ) (r : List ℕ) → [] ≡ spelled z ++ r → ⊥
unfolding spelled
nothing_spelled z r =
    elim (nat_abs z == 0) as (λ b. [] ≡ (if b then 2 ∷ [] else if is_negative z then 1 ∷ complement
    (magnitude_bytes (nat_abs z)) else 3 ∷ magnitude_bytes (nat_abs z)) ++ r → ⊥) [
      | true ↦ (λ e. nothing _ _ e)
      | false ↦ elim (is_negative z) as (λ n. []
          ≡ (if n then 1 ∷ complement (magnitude_bytes (nat_abs z)) else 3 ∷ magnitude_bytes
          (nat_abs z)) ++ r → ⊥) [
            | true ↦ (λ e. nothing _ _ e)
            | false ↦ (λ e. nothing _ _ e)
          ]
    ]

no_part_of_nothing : (kind : KeyKind) → NoPart kind []
no_part_of_nothing S (S_tree t) behind key e = nothing_closed t behind e
no_part_of_nothing N (N_tree z) behind key e = nothing_spelled z behind e
no_part_of_nothing B (B_tree t) behind key e = nothing_closed t behind e
no_part_of_nothing kind t behind key e = absurd key

-- past the end of the bytes stands no part
pub no_part_past : (kind : KeyKind) (bytes : List ℕ) (at : ℕ) → length bytes < at
    → NoPart kind (drop at bytes)
no_part_past kind [] zero past = absurd (omega arith)
no_part_past kind [] (suc n) past = no_part_of_nothing kind
no_part_past kind (x ∷ bytes) zero past = absurd (omega arith)
no_part_past kind (x ∷ bytes) (suc n) past = no_part_past kind bytes n (omega arith)
