-- Numbers that stand at a place of a byte string.
use Rattle.std.proofs.Common.{◌≡◌, refl, sym, ap, ◌∙◌, ℕ, ◌+◌, ◌<◌, ◌≤◌, ◌^◌, inl, inr, List, length, take, drop, get_or, ◌++◌, arith}
use Rattle.std.specs.Int.{w32, w64, to_be_bytes, from_be_bytes}
use Rattle.std.proofs.lemmas.List.{get_or-take, get_or-drop, get_or_past, length-take, length-take-le, length-drop, length-append, drop-drop, take_at, drop_at}
use Rattle.std.proofs.lemmas.Nat.{be_bytes_4, be_bytes_8, from_be_bytes-to_be_bytes_4, from_be_bytes-to_be_bytes_8}
use Rattle.std.proofs.Math.Seq.{take-add}
use Rattle.std.proofs.lemmas.Bool.{cases_lt}
use Rattle.alt_fields.specs.Field.{StandsAt, field}

-- a number is below a bound if it is another one that is
below : (m n k : ℕ) → m ≡ n → n < k → m < k
below m n k e h = omega arith

-- the first bytes from a place on are bytes
taken_bytes : (bytes : List ℕ) (at n : ℕ) → ((i : ℕ) → get_or bytes i 0 < 256) → (i : ℕ)
    → get_or (take n (drop at bytes)) i 0 < 256
taken_bytes bytes at n small i = elim (cases_lt i n) [
  | inl inside ↦ below _ _ 256 (get_or-take n (drop at bytes) i 0 inside ∙ get_or-drop at bytes i 0)
      (small (at + i))
  | inr past ↦ below _ 0 256 (get_or_past (take n (drop at bytes)) i 0
      (omega (arith, length-take n (drop at bytes)))) (omega arith)
]

-- where so many bytes stand, so many are taken
length_taken : (bytes : List ℕ) (at n : ℕ) → at + n ≤ length bytes
    → length (take n (drop at bytes)) ≡ n
length_taken bytes at n room = length-take-le n (drop at bytes)
    (omega (arith, length-drop at bytes))

-- a piece that stands at a place ends within the bytes
pub stands_within : (bytes piece : List ℕ) (at n : ℕ) → take n (drop at bytes) ≡ piece
    → length piece ≡ n → 0 < n → at + n ≤ length bytes
stands_within bytes piece at n e l some = omega
    (arith, length-take n (drop at bytes), length-drop at bytes, ap length e)

-- a number of 4 bytes stands where it is what they spell
pub stands_4 : (bytes : List ℕ) (at n : ℕ) → ((i : ℕ) → get_or bytes i 0 < 256)
    → at + 4 ≤ length bytes
    → n ≡ from_be_bytes w32 (take 4 (drop at bytes)) → take 4 (drop at bytes) ≡ to_be_bytes w32 n
stands_4 bytes at n small room e =
    sym (be_bytes_4 (take 4 (drop at bytes)) n (length_taken bytes at 4 room)
    (taken_bytes bytes at 4 small) e)

-- a number of 8 bytes stands where it is what they spell
pub stands_8 : (bytes : List ℕ) (at n : ℕ) → ((i : ℕ) → get_or bytes i 0 < 256)
    → at + 8 ≤ length bytes
    → n ≡ from_be_bytes w64 (take 8 (drop at bytes)) → take 8 (drop at bytes) ≡ to_be_bytes w64 n
stands_8 bytes at n small room e =
    sym (be_bytes_8 (take 8 (drop at bytes)) n (length_taken bytes at 8 room)
    (taken_bytes bytes at 8 small) e)

-- what 4 bytes spell is the number that was put there
pub spelled_4 : (bytes : List ℕ) (at n v : ℕ) → n ≡ from_be_bytes w32 (take 4 (drop at bytes))
    → v < 2 ^ 32
    → take 4 (drop at bytes) ≡ to_be_bytes w32 v → n ≡ v
spelled_4 bytes at n v e fits stands = e ∙ ap (from_be_bytes w32) stands
    ∙ from_be_bytes-to_be_bytes_4 v fits

-- what 8 bytes spell is the number that was put there
pub spelled_8 : (bytes : List ℕ) (at n v : ℕ) → n ≡ from_be_bytes w64 (take 8 (drop at bytes))
    → v < 2 ^ 64
    → take 8 (drop at bytes) ≡ to_be_bytes w64 v → n ≡ v
spelled_8 bytes at n v e fits stands = e ∙ ap (from_be_bytes w64) stands
    ∙ from_be_bytes-to_be_bytes_8 v fits

-- a front of 8 that stands with what follows it stands by itself, and what follows stands behind it
parts_of_eight : (xs front back : List ℕ) → length front ≡ 8
    → take (length (front ++ back)) xs ≡ front ++ back
    → (take 8 xs ≡ front) × (take (length back) (drop 8 xs) ≡ back)
parts_of_eight xs front back eight stands =
    let n : length (front ++ back) ≡ 8 + length back = omega (arith, length-append front back) in
    let within : 8 ≤ length xs = omega (
      arith,
      length-take (length (front ++ back)) xs,
      ap length stands,
    ) in
    let cut : take 8 xs ++ take (length back) (drop 8 xs) ≡ front ++ back =
    sym (take-add 8 (length back) xs) ∙ ap (λ k. take k xs) (sym n) ∙ stands in
    let eight' : length (take 8 xs) ≡ 8 = length-take-le 8 xs within in (
      sym (take_at (take 8 xs) (take (length back) (drop 8 xs)) 8 eight') ∙ ap (take 8) cut
          ∙ take_at front back 8 eight,
      sym (drop_at (take 8 xs) (take (length back) (drop 8 xs)) 8 eight') ∙ ap (drop 8) cut
          ∙ drop_at front back 8 eight,
    )

-- a front of 8 and what stands behind it stand together
whole_from_parts : (xs front back : List ℕ) → length front ≡ 8 → take 8 xs ≡ front
    → take (length back) (drop 8 xs) ≡ back
    → take (length (front ++ back)) xs ≡ front ++ back
whole_from_parts xs front back eight first rest =
    let n : length (front ++ back) ≡ 8 + length back = omega (arith, length-append front back) in
    ap (λ k. take k xs) n ∙ take-add 8 (length back) xs
    ∙ ap (λ ys. ys ++ take (length back) (drop 8 xs)) first ∙ ap (λ ys. front ++ ys) rest

-- where a length and then so many bytes stand, a field stands
pub field_from_parts : (bytes : List ℕ) (at n : ℕ) (content : List ℕ)
    → take 8 (drop at bytes) ≡ to_be_bytes w64 n → n ≡ length content
    → content ≡ take n (drop (at + 8) bytes) → StandsAt bytes at (field content)
field_from_parts bytes at n content counted e follows =
    whole_from_parts (drop at bytes) (to_be_bytes w64 (length content)) content refl
    (counted ∙ ap (to_be_bytes w64) e)
    (rw (drop-drop) (ap (λ k. take k (drop (at + 8) bytes)) (sym e) ∙ sym follows))

-- the length of a field that stands at a place
pub counted-field : (bytes : List ℕ) (at : ℕ) (content : List ℕ) → StandsAt bytes at (field content)
    → take 8 (drop at bytes) ≡ to_be_bytes w64 (length content)
counted-field bytes at content stands = (parts_of_eight (drop at bytes)
    (to_be_bytes w64 (length content)) content refl stands).0

-- the content of a field that stands at a place
pub content-field : (bytes : List ℕ) (at : ℕ) (content : List ℕ) → StandsAt bytes at (field content)
    → take (length content) (drop (at + 8) bytes) ≡ content
content-field bytes at content stands =
    rw (← drop-drop 8 at bytes) (parts_of_eight (drop at bytes)
    (to_be_bytes w64 (length content)) content refl stands).1
