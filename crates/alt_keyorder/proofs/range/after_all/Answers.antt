use Rattle.std.proofs.Common.{◌≡◌, ◌+◌, [], ◌∷◌, ◌++◌, ap, ◌∙◌}
use Rattle.alt_keyorder.proofs.Bounds.{bound-not_full, under_from_range, range_from_under, full_range, above_full, bound_least}
use Rattle.alt_keyorder.proofs.range.after_all.Goals as goal

pub returns-in_ok-push-in-Some-clause-none : goal.returns-in_ok-push-in-Some-clause-none
returns-in_ok-push-in-Some-clause-none c = (
  λ is. absurd (cc),
  λ full. absurd (bound-not_full c.in-Some.front.now c.in-Some.last c.args.prefix.now
      c.in-Some.ensures full),
)

pub returns-in_ok-push-in-Some-clause-keys : goal.returns-in_ok-push-in-Some-clause-keys
returns-in_ok-push-in-Some-clause-keys c = λ k bytes.
    let bound : c.from_vec.result ≡ c.in-Some.front.now ++ (c.in-Some.last + 1) ∷ [] =
    c.from_vec.ensures.same ∙ c.in_ok-push-in-Some.ensures.items
    ∙ ap (λ s. s ++ (c.in-Some.last + 1) ∷ []) c.in_ok-bound-in-Some.ensures.items in (
      λ under. range_from_under c.in-Some.front.now c.in-Some.last c.args.prefix.now
          c.from_vec.result k c.in-Some.ensures bound under,
      λ within. under_from_range c.in-Some.front.now c.in-Some.last c.args.prefix.now
          c.from_vec.result k c.in-Some.ensures bound bytes within.0 within.1,
    )

pub returns-in_ok-push-in-Some-clause-least : goal.returns-in_ok-push-in-Some-clause-least
returns-in_ok-push-in-Some-clause-least c = λ d bytes above.
    let bound : c.from_vec.result ≡ c.in-Some.front.now ++ (c.in-Some.last + 1) ∷ [] =
    c.from_vec.ensures.same ∙ c.in_ok-push-in-Some.ensures.items
    ∙ ap (λ s. s ++ (c.in-Some.last + 1) ∷ []) c.in_ok-bound-in-Some.ensures.items in
    bound_least c.in-Some.front.now c.in-Some.last c.args.prefix.now c.from_vec.result d
    c.in-Some.ensures bound bytes above

pub returns-in-None-clause-keys : goal.returns-in-None-clause-keys
returns-in-None-clause-keys c = λ k bytes. (
  λ under. (full_range c.args.prefix.now k under, tt),
  λ within. above_full c.args.prefix.now k c.in-None.ensures bytes within.0,
)
