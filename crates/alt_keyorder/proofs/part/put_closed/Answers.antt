use Rattle.std.proofs.Common.{◌≡◌, [], ◌∷◌, ◌++◌, ap, ◌∙◌, append_assoc}
use Rattle.alt_keyorder.specs.KeyBytes.{closed}
use Rattle.alt_keyorder.proofs.Escaping.{step, last_step, prefix-more}
use Rattle.alt_keyorder.proofs.part.put_closed.Goals as goal

pub loop-front-preserved : goal.loop-front-preserved
loop-front-preserved c =
    let put : c.extend_from_slice-in-Some.new.self.items
    ≡ (c.loop-front.out.items ++ c.in-Some.front.now) ++ 0 ∷ 255 ∷ [] =
    c.in_ok-extend_from_slice-2.ensures.items
    ∙ ap (λ s. s ++ 0 ∷ 255 ∷ []) c.in_ok-extend_from_slice.ensures.items in
    record {
      same =
          ap (λ s. s ++ closed c.in-Some.behind.now) put
          ∙ step c.loop-front.out.items c.loop-front.rest.now c.in-Some.front.now
          c.in-Some.behind.now c.in-Some.ensures.0 c.in-Some.ensures.1
          ∙ c.loop-front.invariant.same;
      begins =
          prefix-more c.args.out.now.items c.loop-front.out.items
          c.extend_from_slice-in-Some.new.self.items
          (c.in-Some.front.now ++ 0 ∷ 255 ∷ []) c.loop-front.invariant.begins
          (put ∙ append_assoc c.loop-front.out.items c.in-Some.front.now (0 ∷ 255 ∷ []));
    }

pub returns-clause-ok : goal.returns-clause-ok
returns-clause-ok c =
    c.in_ok-extend_from_slice-4.ensures.items
    ∙ ap (λ s. s ++ 0 ∷ 0 ∷ []) c.in_ok-extend_from_slice-3.ensures.items
    ∙ last_step c.loop-front.out.items c.loop-front.rest.now c.in_default.ensures
    ∙ c.loop-front.invariant.same
