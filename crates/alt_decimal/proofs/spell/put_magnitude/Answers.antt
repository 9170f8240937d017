use Rattle.std.proofs.Common.{◌≡◌, ◌<◌, ◌≤◌, ◌+◌, ◌-◌, ◌*◌, ◌/◌, ◌^◌, ◌++◌, ◌%◌, ℕ, List, [], ◌∷◌, length, take, refl, ap, sym, ◌∙◌, arith, length-take}
use Rattle.alt_decimal.specs.Digits.{width, padded, glyphs}
use Rattle.alt_decimal.specs.Spelled.{digit_pairs, magnitude_bytes}
use Rattle.alt_decimal.proofs.Spelling.{spelled_bytes, small_front}
use Rattle.alt_decimal.proofs.Padded.{length-glyphs, length-padded}
use Rattle.alt_decimal.proofs.Widths.{width-le, mul-lt, mul-width_gt, mul-width_le}
use Rattle.alt_decimal.proofs.spell.put_magnitude.Goals as goal

-- as many bytes as were written
written_length : (r : ℕ) (buf bytes : List ℕ) → take r buf ≡ bytes → r ≤ length buf
    → r ≡ length bytes
written_length r buf bytes e h = omega (arith, ap length e, length-take r buf, h)

spread_length : (ds : List ℕ) (f : ℕ) → ds ≡ glyphs 0 (padded 38 f) → length ds ≡ 38
spread_length ds f e = ap length e ∙ length-glyphs 0 (padded 38 f) ∙ length-padded 38 f

pub overflow_sub-width : goal.overflow_sub-width
overflow_sub-width c = omega (
  arith,
  width-le 38 c.args.c c.requires.few,
  c.width-width.ensures.digits,
)

pub filled-requires : goal.filled-requires
filled-requires c = omega (arith, width-le 38 c.args.c c.requires.few, c.width-width.ensures.digits)

pub spread-digits-requires-clause-few : goal.spread-digits-requires-clause-few
spread-digits-requires-clause-few c =
    let k = 38 - c.width-width.result in
    let few : width c.args.c + k ≤ 38 = omega
    (arith, width-le 38 c.args.c c.requires.few, c.width-width.ensures.digits) in
    rw c.filled.ensures (mul-lt c.args.c k 38 few)

pub overflow_sub-first : goal.overflow_sub-first
overflow_sub-first c = omega (
  arith,
  mul-width_gt c.args.c c.args.zeros 37 c.requires.least,
  c.width-width.ensures.digits,
)

pub overflow_cast-first : goal.overflow_cast-first
overflow_cast-first c =
    omega (
      arith,
      mul-width_le c.args.c c.args.zeros 293
          (omega (arith, c.requires.last)) c.requires.below,
      c.width-width.ensures.digits,
    )

pub slice_bounds-digits-end : goal.slice_bounds-digits-end
slice_bounds-digits-end c =
    omega (
      arith,
      spread_length c.spread-digits.result _ c.spread-digits.ensures,
      width-le 38 c.args.c c.requires.few,
      c.width-width.ensures.digits,
    )

front_length : (w f : ℕ) (ds : List ℕ) → w ≤ 38 → ds ≡ glyphs 0 (padded 38 f)
    → length (take (2 * ((w + 1) / 2)) ds) ≡ 2 * ((w + 1) / 2)
front_length w f ds few e = omega (arith, length-take (2 * ((w + 1) / 2)) ds, spread_length ds f e)

pub slice_bounds-put_spelling-end : goal.slice_bounds-put_spelling-end
slice_bounds-put_spelling-end c =
    sym (front_length c.width-width.result _ c.spread-digits.result
    (omega (arith, width-le 38 c.args.c c.requires.few, c.width-width.ensures.digits))
    c.spread-digits.ensures)

pub put_spelling-requires-clause-even : goal.put_spelling-requires-clause-even
put_spelling-requires-clause-even c =
    front_length c.width-width.result _ c.spread-digits.result
    (omega (arith, width-le 38 c.args.c c.requires.few, c.width-width.ensures.digits))
    c.spread-digits.ensures

pub put_spelling-requires-clause-below : goal.put_spelling-requires-clause-below
put_spelling-requires-clause-below c = small_front
    (2 * ((c.width-width.result + 1) / 2)) c.filled.result c.spread-digits.result
    c.spread-digits.ensures

pub put_spelling-requires-clause-room : goal.put_spelling-requires-clause-room
put_spelling-requires-clause-room c = omega (
  arith,
  width-le 38 c.args.c c.requires.few,
  c.width-width.ensures.digits,
  c.requires.room,
)

bytes_are : (sign c z w r f count first : ℕ) (ds buf : List ℕ) → 0 < c % 10 → c < 10 ^ 38
    → w ≡ width c → f ≡ c * 10 ^ (38 - w)
    → ds ≡ glyphs 0 (padded 38 f) → count ≡ (w + 1) / 2 → first ≡ w + z - 38
    → take r buf ≡ sign ∷ first ∷ (digit_pairs (take (2 * count) ds) ++ 0 ∷ [])
    → take r buf ≡ sign ∷ magnitude_bytes (c * 10 ^ z)
bytes_are sign c z w r f count first ds buf last few e filled spread half place is =
    spelled_bytes sign c z last few w count first (take (2 * count) ds) (take r buf) e half place
    (ap (take (2 * count)) (spread ∙ ap (λ n. glyphs 0 (padded 38 n)) filled)) is

pub returns-clause-bytes : goal.returns-clause-bytes
returns-clause-bytes c =
    bytes_are c.args.sign c.args.c c.args.zeros c.width-width.result c.put_spelling.result
    c.filled.result _ _ c.spread-digits.result c.put_spelling.new.buf
    c.requires.last c.requires.few c.width-width.ensures.digits c.filled.ensures
    c.spread-digits.ensures refl refl c.put_spelling.ensures.bytes

pub returns-clause-end : goal.returns-clause-end
returns-clause-end c =
    let m : List ℕ = magnitude_bytes (c.args.c * 10 ^ c.args.zeros) in
    let bytes : take c.put_spelling.result c.put_spelling.new.buf ≡ c.args.sign ∷ m =
    bytes_are c.args.sign c.args.c c.args.zeros c.width-width.result c.put_spelling.result
    c.filled.result _ _ c.spread-digits.result c.put_spelling.new.buf
    c.requires.last c.requires.few c.width-width.ensures.digits c.filled.ensures
    c.spread-digits.ensures refl refl c.put_spelling.ensures.bytes in
    let within : c.put_spelling.result ≤ length c.put_spelling.new.buf =
    omega (
      arith,
      c.put_spelling.ensures.end,
      width-le 38 c.args.c c.requires.few,
      c.width-width.ensures.digits,
      c.requires.room,
    ) in
    omega (
      arith,
      written_length c.put_spelling.result c.put_spelling.new.buf
          (c.args.sign ∷ m) bytes within,
    )

pub returns-clause-within : goal.returns-clause-within
returns-clause-within c = omega (
  arith,
  c.put_spelling.ensures.end,
  width-le 38 c.args.c c.requires.few,
  c.width-width.ensures.digits,
)
