-- What `alt_fields` takes at the front of bytes is what is read there.
use Rattle.std.proofs.Common.{◌≡◌, refl, sym, ap, ◌∙◌, ℕ, ◌+◌, ◌<◌, ◌≤◌, ◌^◌, true, false, cond, nat_le, List, ◌++◌, length, take, drop, arith, length-append}
use Rattle.std.specs.Int.{w32, w64, to_be_bytes, from_be_bytes}
use Rattle.std.proofs.lemmas.Bool.Decides.{nat_tests}
use Rattle.std.proofs.lemmas.List.{take-append-drop, length-drop}
use Rattle.std.proofs.lemmas.Bool.{lt-leb}
use Rattle.alt_fields.specs.Field.{field, StandsAt, told_length}
use Rattle.alt_fields.proofs.Numbers.{stands_within}
use Rattle.alt_schemabytes.specs.Parts.{got, stops, followed_by, read_bytes, read_u64, read_u32, read_field}
use Rattle.alt_schemabytes.proofs.Wholes.{u64_read, u32_read, field_read}

-- a front, and what is behind it
front : (bytes piece : List ℕ) → StandsAt bytes 0 piece
    → bytes ≡ piece ++ drop (length piece) bytes
front bytes piece stands =
    sym (take-append-drop (length piece) bytes)
    ∙ ap (λ xs. xs ++ drop (length piece) bytes) stands

-- a number that stands at the front is read
pub u64_taken : (bytes : List ℕ) (n : ℕ) → n < 2 ^ 64 → StandsAt bytes 0 (to_be_bytes w64 n)
    → read_u64 bytes ≡ got n (drop 8 bytes)
u64_taken bytes n h stands =
    ap read_u64 (front bytes (to_be_bytes w64 n) stands) ∙ u64_read n (drop 8 bytes) h

-- the same of 4 bytes
pub u32_taken : (bytes : List ℕ) (n : ℕ) → n < 2 ^ 32 → StandsAt bytes 0 (to_be_bytes w32 n)
    → read_u32 bytes ≡ got n (drop 4 bytes)
u32_taken bytes n h stands =
    ap read_u32 (front bytes (to_be_bytes w32 n) stands) ∙ u32_read n (drop 4 bytes) h

-- a field that stands at the front is read
pub field_taken : (bytes content : List ℕ) → length content < 2 ^ 64
    → StandsAt bytes 0 (field content)
    → read_field bytes ≡ got content (drop (8 + length content) bytes)
field_taken bytes content h stands =
    let end : length (field content) ≡ 8 + length content
    = length-append (to_be_bytes w64 (length content)) content in
    ap read_field (front bytes (field content) stands)
    ∙ field_read content (drop (length (field content)) bytes) h
    ∙ ap (λ n. got content (drop n bytes)) end

-- fewer than 8 bytes give no number
pub u64_short : (bytes : List ℕ) → length bytes < 8 → read_u64 bytes ≡ stops 0
unfolding read_u64
u64_short bytes h =
    ap (λ b. cond b (got (from_be_bytes w64 (take 8 bytes)) (drop 8 bytes)) (stops 0))
    (lt-leb 8 (length bytes) h)

-- the same of 4 bytes
pub u32_short : (bytes : List ℕ) → length bytes < 4 → read_u32 bytes ≡ stops 0
unfolding read_u32
u32_short bytes h =
    ap (λ b. cond b (got (from_be_bytes w32 (take 4 bytes)) (drop 4 bytes)) (stops 0))
    (lt-leb 4 (length bytes) h)

-- fewer bytes than a field tells
content_short : (n : ℕ) (bytes : List ℕ) → length bytes < n → read_bytes n bytes ≡ stops 0
unfolding read_bytes
content_short n bytes h =
    ap (λ b. cond b (got (take n bytes) (drop n bytes)) (stops 0)) (lt-leb n (length bytes) h)

-- fewer bytes than a field has give none
pub field_short : (bytes : List ℕ) → length bytes < 8 + told_length bytes 0
    → read_field bytes ≡ stops 0
unfolding read_field read_u64
field_short bytes h =
    elim (nat_le 8 (length bytes)) as (λ b. nat_le 8 (length bytes) ≡ b
    → followed_by read_bytes (cond b (got (told_length bytes 0) (drop 8 bytes)) (stops 0))
    ≡ stops 0) [
      | true ↦ λ t.
          let long : 8 ≤ length bytes = grind (arith, nat_tests) in
          content_short (told_length bytes 0) (drop 8 bytes) (omega (arith, length-drop 8 bytes))
      | false ↦ λ t. refl
    ] refl

-- ---- as the calls answer

-- a number that was taken ends within the bytes
pub u64_within : (bytes : List ℕ) (n end : ℕ) → StandsAt bytes 0 (to_be_bytes w64 n) → end ≡ 0 + 8
    → end ≤ length bytes
u64_within bytes n end stands e =
    omega (arith, e, stands_within bytes (to_be_bytes w64 n) 0 8 stands refl (omega arith))

-- a number that was taken is read, with what is behind it
pub u64_part : (bytes : List ℕ) (n end : ℕ) (rest : List ℕ) → n < 2 ^ 64
    → StandsAt bytes 0 (to_be_bytes w64 n) → end ≡ 0 + 8 → rest ≡ drop end bytes
    → read_u64 bytes ≡ got n rest
u64_part bytes n end rest h stands e back =
    u64_taken bytes n h stands ∙ (λ j. got n (drop (sym e j) bytes)) ∙ ap (got n) (sym back)

-- the same of 4 bytes: it ends within them
pub u32_within : (bytes : List ℕ) (n end : ℕ) → StandsAt bytes 0 (to_be_bytes w32 n) → end ≡ 0 + 4
    → end ≤ length bytes
u32_within bytes n end stands e =
    omega (arith, e, stands_within bytes (to_be_bytes w32 n) 0 4 stands refl (omega arith))

-- and is read
pub u32_part : (bytes : List ℕ) (n end : ℕ) (rest : List ℕ) → n < 2 ^ 32
    → StandsAt bytes 0 (to_be_bytes w32 n) → end ≡ 0 + 4 → rest ≡ drop end bytes
    → read_u32 bytes ≡ got n rest
u32_part bytes n end rest h stands e back =
    u32_taken bytes n h stands ∙ (λ j. got n (drop (sym e j) bytes)) ∙ ap (got n) (sym back)

-- a field that was taken is read, with what is behind it
pub field_part : (bytes content : List ℕ) (end : ℕ) (rest : List ℕ) → length content < 2 ^ 64
    → StandsAt bytes 0 (field content) → end ≡ 0 + 8 + length content → rest ≡ drop end bytes
    → read_field bytes ≡ got content rest
field_part bytes content end rest h stands e back =
    field_taken bytes content h stands ∙ (λ j. got content (drop (sym e j) bytes))
    ∙ ap (got content) (sym back)
