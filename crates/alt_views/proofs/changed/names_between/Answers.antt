-- A name more is told, or what is at it is the same.
use Rattle.std.proofs.Common.{◌≡◌, ◌+◌, ℕ, refl, List, [], ◌∷◌, ◌++◌, map, length, take, Vec, Global, Bor, sym, ap, subst, ◌∙◌, arith}
use Rattle.std.proofs.lemmas.List.{map-append}
use Rattle.alt_views.proofs.Cuts.{pair_within}
use Rattle.alt_value.specs.Stands.{tree_of}
use Rattle.alt_value.specs.Tree.{Pair}
use Rattle.alt_views.proofs.Beside.{HoldsBeside, IsNamed, IsOld, alike_beside, beside-more, holds-more, told, told-more}
use Rattle.alt_views.proofs.changed.names_between.Goals as goal
use Rattle.alt_views.proofs.changed.names_between.Goals.{then-not-has_value+in_ok-push, else-not-has_value, then-not-has_name+in_ok-push-2, else-not-has_name}

pub loop-at-preserved : goal.loop-at-preserved
loop-at-preserved c =
    let old = c.args.old.now in
    let new = c.args.new.now in
    let was = c.loop-at.names.items in
    let k = c.loop-at.at in
    let e : Pair = (c.in-Some.name.now, tree_of c.in-Some.value.now) in
    elim c.if-not-has_value.branch [
      | then-not-has_value+in_ok-push w ↦
          let all : told c.if-not-has_value.names.items ≡ told was ++ e.0 ∷ [] =
          ap (λ (v : Vec (Bor (List ℕ)) Global). told v.items) w.names-is
          ∙ ap told w.in_ok-push.ensures.items
          ∙ map-append (λ (n : Bor (List ℕ)). n.now) was (c.in-Some.name ∷ []) in
          subst (λ names. HoldsBeside names (IsOld old) (take (k + 1) new)) (sym all)
          (told-more (told was) (IsOld old) new k e c.in-Some.ensures.pair c.loop-at.invariant)
      | else-not-has_value w ↦
          subst (λ (v : Vec (Bor (List ℕ)) Global).
          HoldsBeside (told v.items) (IsOld old) (take (k + 1) new)) (sym w.names-is)
          (holds-more (told was) (IsOld old) new k e c.in-Some.ensures.pair c.loop-at.invariant
          (w.if-not-has_value.ensures.0 refl))
    ]

pub unreachable-requires-in_default-at : goal.unreachable-requires-in_default-at
unreachable-requires-in_default-at c = pair_within c.args.old.now c.loop-at-2.at
    (omega (arith, c.loop-at-2-test.true, c.len-at-end-2.ensures.count))
    c.in_default-at.ensures.pair

pub loop-at-2-preserved : goal.loop-at-2-preserved
loop-at-2-preserved c =
    let old = c.args.old.now in
    let new = c.args.new.now in
    let was = c.loop-at-2.names.items in
    let k = c.loop-at-2.at in
    let e : Pair = (c.in-Some-at.name.now, tree_of c.in-Some-at.field-0-1.now) in
    elim c.if-not-has_name.branch [
      | then-not-has_name+in_ok-push-2 w ↦
          let all : told c.if-not-has_name.names.items ≡ told was ++ e.0 ∷ [] =
          ap (λ (v : Vec (Bor (List ℕ)) Global). told v.items) w.names-is
          ∙ ap told w.in_ok-push-2.ensures.items
          ∙ map-append (λ (n : Bor (List ℕ)). n.now) was (c.in-Some-at.name ∷ []) in
          subst (λ names. HoldsBeside names (IsOld old) (take (length new) new)
          × HoldsBeside names (IsNamed new) (take (k + 1) old)) (sym all) (
            beside-more (told was) (IsOld old) (take (length new) new) e.0 c.loop-at-2.invariant.0,
            told-more (told was) (IsNamed new) old k e c.in-Some-at.ensures.pair
                c.loop-at-2.invariant.1,
          )
      | else-not-has_name w ↦
          subst (λ (v : Vec (Bor (List ℕ)) Global).
          HoldsBeside (told v.items) (IsOld old) (take (length new) new)
          × HoldsBeside (told v.items) (IsNamed new) (take (k + 1) old)) (sym w.names-is) (
            c.loop-at-2.invariant.0,
            holds-more (told was) (IsNamed new) old k e c.in-Some-at.ensures.pair
                c.loop-at-2.invariant.1 (sym c.has_name.ensures ∙ w.if-not-has_name.false),
          )
    ]

pub returns : goal.returns
returns c = record {
  names = alike_beside (map (λ n. n.now) c.loop-at-2.names.items) c.args.old.now c.args.new.now
      c.loop-at-2.at (length c.args.new.now) c.len-at-end-2.ensures.item
      c.len-at-end.ensures.item refl (omega (
        arith,
        c.loop-at-2-test.false,
        c.loop-at-2.auto.at-end,
        c.len-at-end-2.ensures.count,
      )) c.loop-at-2.invariant.0 c.loop-at-2.invariant.1;
}
