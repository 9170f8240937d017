use Rattle.std.proofs.Common.{◌+◌, ◌-◌, ◌++◌, ℕ, List, [], ◌∷◌, length, take, drop, ap, sym, ◌∙◌, arith}
use Rattle.alt_decimal.proofs.Layouts.{text_whole, text_split, text_fraction, length-text_whole, length-text_split, length-text_fraction, put_two, put_three}
use Rattle.alt_decimal.proofs.print.put_magnitude.Goals as goal

pub returns-then-zeros-ge-PLACES-clause-text : goal.returns-then-zeros-ge-PLACES-clause-text
returns-then-zeros-ge-PLACES-clause-text c =
    put_two _ _ (take c.args.at c.args.buf.now) _ _ c.put_zeros.ensures.text c.put-end.ensures.text
    ∙ ap (λ (ts : List ℕ). take c.args.at c.args.buf.now ++ ts)
    (sym (text_whole c.args.digits.now c.args.zeros c.if-zeros-ge-PLACES.true))

pub returns-then-zeros-ge-PLACES-clause-end : goal.returns-then-zeros-ge-PLACES-clause-end
returns-then-zeros-ge-PLACES-clause-end c =
    omega (
      arith,
      length-text_whole c.args.digits.now c.args.zeros c.if-zeros-ge-PLACES.true,
      c.put_zeros.ensures.end,
      c.put-end.ensures.end,
    )

pub returns-then-count-gt-PLACES-clause-text : goal.returns-then-count-gt-PLACES-clause-text
returns-then-count-gt-PLACES-clause-text c =
    let ds = c.args.digits.now in
    let n = length ds + c.args.zeros - 167 in
    let end = c.put.ensures.text ∙ ap (λ (ts : List ℕ).
    take c.put-end-then-count-gt-PLACES-2.result c.put-end-then-count-gt-PLACES-2.new.buf ++ ts)
    c.split_at.ensures.back in
    let front = c.put-end-then-count-gt-PLACES.ensures.text
    ∙ ap (λ (ts : List ℕ). take c.args.at c.args.buf.now ++ ts) c.split_at.ensures.front in
    put_three _ _ _ (take c.args.at c.args.buf.now) (take n ds) (46 ∷ [])
    (drop n ds) end c.put-end-then-count-gt-PLACES-2.ensures.text front
    ∙ ap (λ (ts : List ℕ). take c.args.at c.args.buf.now ++ ts)
    (sym (text_split ds c.args.zeros c.if-zeros-ge-PLACES.false c.if-count-gt-PLACES.true))

pub returns-then-count-gt-PLACES-clause-end : goal.returns-then-count-gt-PLACES-clause-end
returns-then-count-gt-PLACES-clause-end c =
    omega (
      arith,
      length-text_split c.args.digits.now c.args.zeros c.if-zeros-ge-PLACES.false
          c.if-count-gt-PLACES.true,
      c.put.ensures.end,
      c.put-end-then-count-gt-PLACES-2.ensures.end,
      c.put-end-then-count-gt-PLACES.ensures.end,
      c.split_at.ensures.front_len,
      c.split_at.ensures.back_len,
    )

pub returns-else-count-gt-PLACES-clause-text : goal.returns-else-count-gt-PLACES-clause-text
returns-else-count-gt-PLACES-clause-text c =
    put_three _ _ _ (take c.args.at c.args.buf.now) (48 ∷ 46 ∷ []) _ c.args.digits.now
    c.put-else-count-gt-PLACES.ensures.text c.put_zeros-end.ensures.text
    c.put-end-else-count-gt-PLACES.ensures.text
    ∙ ap (λ (ts : List ℕ). take c.args.at c.args.buf.now ++ ts)
    (sym (text_fraction c.args.digits.now c.args.zeros c.if-zeros-ge-PLACES.false
    c.if-count-gt-PLACES.false))

pub returns-else-count-gt-PLACES-clause-end : goal.returns-else-count-gt-PLACES-clause-end
returns-else-count-gt-PLACES-clause-end c =
    omega (
      arith,
      length-text_fraction c.args.digits.now c.args.zeros c.if-zeros-ge-PLACES.false
          c.if-count-gt-PLACES.false,
      c.put-else-count-gt-PLACES.ensures.end,
      c.put_zeros-end.ensures.end,
      c.put-end-else-count-gt-PLACES.ensures.end,
    )
