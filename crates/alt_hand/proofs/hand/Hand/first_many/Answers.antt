-- The first that has.
use Rattle.std.proofs.Common.{◌++◌, ◌∷◌, [], ◌+◌, take, drop, get_or, sym, ap, subst, ◌∙◌}
use Rattle.std.proofs.lemmas.List.{drop_more, take-append-drop, take_more}
use Rattle.std.specs.List.{AllByRecursion}
use Rattle.alt_fields.proofs.Apart.{all_append}
use Rattle.alt_manifest.specs.Rules.{Reflects}
use Rattle.alt_hand.specs.Merging.{HasMany}
use Rattle.alt_hand.proofs.hand.Hand.first_many.Goals as goal

pub returns-then-has_many : goal.returns-then-has_many
returns-then-has_many c =
    let i = c.loop-family.family-index in
    let live = c.args.live.now in
    record {
      before = take i live;
      behind = drop (i + 1) live;
      is = sym (take-append-drop i live)
          ∙ ap (λ xs. take i live ++ xs) (drop_more live i 0 c.loop-family-test.true);
      many = subst (λ b. Reflects b (HasMany c.args.self.now (get_or live i 0))) c.if-has_many.true
          c.has_many.ensures;
      first = c.loop-family.invariant;
    }

pub loop-family-preserved : goal.loop-family-preserved
loop-family-preserved c =
    let i = c.loop-family.family-index in
    let live = c.args.live.now in
    let not_many : HasMany c.args.self.now (get_or live i 0) → ⊥ =
    subst (λ b. Reflects b (HasMany c.args.self.now (get_or live i 0))) c.if-has_many.false
    c.has_many.ensures in
    subst (AllByRecursion (λ family. HasMany c.args.self.now family → ⊥))
    (sym (take_more live i 0 c.loop-family-test.true))
    (all_append (λ family. HasMany c.args.self.now family → ⊥) (take i live) (get_or live i 0 ∷ [])
    c.loop-family.invariant (not_many, tt))
