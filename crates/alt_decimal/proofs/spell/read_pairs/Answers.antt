use Rattle.std.proofs.Common.{◌≡◌, ◌<◌, ℕ, List, get_or, ◌∙◌, sym, arith, below_more}
use Rattle.std.proofs.lemmas.List.{length-map}
use Rattle.alt_decimal.specs.Unspelled.{raw, raws, IsPair}
use Rattle.alt_decimal.proofs.Unspelling.{raws-at, no_end, pairs_more, below_more_pairs, room_more}
use Rattle.alt_decimal.proofs.spell.read_pairs.Goals as goal

pub returns-then-pair-gt100 : goal.returns-then-pair-gt100
returns-then-pair-gt100 c =
    let at = raws-at c.args.negative c.args.bytes.now c.loop-i.i (omega arith) in
    no_end (raws c.args.negative c.args.bytes.now) c.loop-i.i c.loop-i.invariant.pairs
    (omega (arith, at, c.raw-pair.ensures))

pub overflow_mul-c : goal.overflow_mul-c
overflow_mul-c c = omega (
  arith,
  room_more c.loop-i.i c.loop-i.c c.loop-i.invariant.below
      (omega arith),
)

pub overflow_add-c : goal.overflow_add-c
overflow_add-c c = omega (
  arith,
  room_more c.loop-i.i c.loop-i.c c.loop-i.invariant.below
      (omega arith),
)

pub loop-i-preserved : goal.loop-i-preserved
loop-i-preserved c =
    let i = c.loop-i.i in
    let bs : List ℕ = raws c.args.negative c.args.bytes.now in
    let at = raws-at c.args.negative c.args.bytes.now i (omega arith) in
    let is : c.raw-pair.result ≡ get_or bs i 0 = c.raw-pair.ensures ∙ sym at in
    let some : 0 < c.raw-pair.result = omega arith in
    let pair : IsPair (get_or bs i 0) = (omega (arith, is), omega (arith, is)) in
    record {
      value = pairs_more bs i c.loop-i.c c.raw-pair.result
          (omega (arith, length-map c.args.bytes.now (raw c.args.negative))) is
          c.loop-i.invariant.value;
      below = below_more_pairs i c.loop-i.c c.raw-pair.result c.loop-i.invariant.below
          (omega arith) some;
      few = omega arith;
      pairs = below_more (λ (k : ℕ). IsPair (get_or bs k 0)) i c.loop-i.invariant.pairs pair;
    }
