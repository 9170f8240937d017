-- Bytes up to a place, read in pieces.
use Rattle.std.proofs.Common.{◌≡◌, refl, sym, ap, ◌∙◌, ℕ, zero, suc, ◌+◌, ◌-◌, ◌==◌, ◌<◌, ◌≤◌, ◌^◌, List, ◌++◌, length, take, drop, false, arith, append_assoc, length-append}
use Rattle.std.specs.Int.{w64, to_be_bytes}
use Rattle.std.proofs.lemmas.List.{drop-take, take-take, drop-drop, take-append-drop, length-take-le, length-drop}
use Rattle.std.proofs.Math.Seq.{take-add}
use Rattle.alt_base.proofs.Numbers.{equal_is_told, above_zero_is_told}
use Rattle.alt_fields.specs.Field.{field}
use Rattle.alt_fields.proofs.Apart.{number-apart, length-field}
use Rattle.alt_disk.specs.Disk.{DiskState, contents, bytes_or_none}
use Rattle.alt_disk.specs.Runs.{Quiet}

-- what calls that change nothing leave of a file
pub same_bytes : (a b : DiskState) (f : ℕ) → Quiet a b → contents b f ≡ contents a f
same_bytes a b f quiet = ap bytes_or_none (quiet.file f)

less_test : (m n : ℕ) → m < n → (m == n) ≡ false
less_test m n e = grind arith

-- a place is the end exactly where nothing is left behind it
pub at_end : (m end k : ℕ) → m ≤ end → k ≡ end - m → (m == end) ≡ (k == 0)
at_end m end k within is = at_end_of m end k within is (end - m) refl
  where
    at_end_of : (m end k : ℕ) → m ≤ end → k ≡ end - m → (d : ℕ) → d ≡ end - m
        → (m == end) ≡ (k == 0)
    at_end_of m end k within is zero e = equal_is_told m end (omega (arith, e, within))
        ∙ sym (equal_is_told k 0 (omega (arith, is, e)))
    at_end_of m end k within is (suc d) e = less_test m end (omega (arith, e, within))
        ∙ sym (above_zero_is_told k (omega (arith, is, e)))

module _ (bytes : List ℕ) where
  -- all that stands from a place on, up to another
  pub up_to : (at n end : ℕ) → at + n ≡ end → take n (drop at bytes) ≡ drop at (take end bytes)
  up_to at n end is = sym (drop-take at n bytes) ∙ ap (λ k. drop at (take k bytes)) is

  -- and its front
  pub front_of : (at n end : ℕ) → at + n ≤ end
      → take n (drop at bytes) ≡ take n (drop at (take end bytes))
  front_of at n end within =
      sym (take-take n (end - at) (drop at bytes) (omega (arith, within)))
      ∙ ap (take n) (up_to at (end - at) end (omega (arith, within)))

  -- the bytes from one place up to another are as many as lie between them
  pub length_up_to : (at end : ℕ) → end ≤ length bytes
      → length (drop at (take end bytes)) ≡ end - at
  length_up_to at end within =
      omega (arith, length-drop at (take end bytes), length-take-le end bytes within)

  -- one piece more in front of the rest
  pub one_piece : (at n : ℕ) → take at bytes ++ take n (drop at bytes) ≡ take (at + n) bytes
  one_piece at n = sym (take-add at n bytes)

  -- no field stands where too few bytes do
  pub no_length : (at end : ℕ) → end ≤ length bytes → end - at < 8 → (s behind : List ℕ)
      → drop at (take end bytes) ≡ field s ++ behind → ⊥
  no_length at end within few s behind is =
      omega (
        arith,
        few,
        length_up_to at end within,
        ap length is,
        length-append (field s) behind,
        length-field s,
      )

  -- a field's length stands before it
  told_front : (at n end : ℕ) → at + 8 ≤ end → n < 2 ^ 64
      → take 8 (drop at bytes) ≡ to_be_bytes w64 n → (s behind : List ℕ) → length s < 2 ^ 64
      → drop at (take end bytes) ≡ field s ++ behind → (n ≡ length s)
      × (drop 8 (drop at (take end bytes)) ≡ s ++ behind)
  told_front at n end within fits there s behind short is =
      let rest = drop at (take end bytes) in
      number-apart n (length s) (drop 8 rest) (s ++ behind) fits short
      (ap (λ l. l ++ drop 8 rest) (sym (sym (front_of at 8 end within) ∙ there))
      ∙ take-append-drop 8 rest ∙ is
      ∙ append_assoc (to_be_bytes w64 (length s)) s behind)

  -- so none stands where its length goes past the end
  pub no_room : (at n end : ℕ) → end ≤ length bytes → at + 8 ≤ end → end - at - 8 < n → n < 2 ^ 64
      → take 8 (drop at bytes) ≡ to_be_bytes w64 n
      → (s behind : List ℕ) → length s < 2 ^ 64 → drop at (take end bytes) ≡ field s ++ behind → ⊥
  no_room at n end room within far fits there s behind short is =
      omega (
        arith,
        far,
        (told_front at n end within fits there s behind short is).0,
        length_up_to at end room,
        ap length is,
        length-append (field s) behind,
        length-field s,
      )

  -- a length and so many bytes behind it are a field
  pub field_up_to : (at n end : ℕ) (content : List ℕ) → at + 8 + n ≤ end → end ≤ length bytes
      → take 8 (drop at bytes) ≡ to_be_bytes w64 n → content ≡ take n (drop (at + 8) bytes)
      → drop at (take end bytes) ≡ field content ++ drop (at + 8 + n) (take end bytes)
  field_up_to at n end content within room there is =
      let rest = drop at (take end bytes) in
      let behind : drop 8 rest ≡ drop (at + 8) (take end bytes) = drop-drop 8 at (take end bytes) in
      let body : content ≡ take n (drop (at + 8) (take end bytes)) = is
      ∙ front_of (at + 8) n end (omega (arith, within)) in
      let size : length content ≡ n = ap length is
      ∙ length-take-le n (drop (at + 8) bytes)
      (omega (arith, length-drop (at + 8) bytes, within, room)) in
      sym (take-append-drop 8 rest)
      ∙ (λ i. (sym (front_of at 8 end (omega (arith, within))) ∙ there
      ∙ ap (to_be_bytes w64) (sym size)) i ++ behind i)
      ∙ ap (λ l. to_be_bytes w64 (length content) ++ l)
      (sym (take-append-drop n (drop (at + 8) (take end bytes)))
      ∙ (λ i. sym body i ++ drop-drop n (at + 8) (take end bytes) i))
      ∙ sym (append_assoc (to_be_bytes w64 (length content)) content
      (drop (at + 8 + n) (take end bytes)))
