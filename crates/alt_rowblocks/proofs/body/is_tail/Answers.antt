-- The tail that was made, or another.
use Rattle.std.proofs.Common.{◌≡◌, ◌∙◌, sym, ap}
use Rattle.std.proofs.lemmas.Result.{IfOk-weaker}
use Rattle.alt_rowblocks.specs.Format.{tail_bytes}
use Rattle.alt_rowblocks.proofs.body.is_tail.Goals as goal

pub returns-in-Ok-clause-yes : goal.returns-in-Ok-clause-yes
returns-in-Ok-clause-yes g c = λ told room.
    let found = c.args.found.now in
    let made : c.deref-in-Ok.result.now ≡ tail_bytes found.marks.items found.rows c.args.at =
    c.deref-in-Ok.ensures.value ∙ c.in-Ok.ensures
    ∙ ap (λ m. tail_bytes m found.rows c.args.at) c.deref.ensures.value in
    IfOk-weaker c.stands_at.result _ _ (λ b yes is. sym made ∙ yes is)
    (c.stands_at.ensures.yes told room)

pub returns-in-Ok-clause-no : goal.returns-in-Ok-clause-no
returns-in-Ok-clause-no g c = λ told room.
    let found = c.args.found.now in
    let made : c.deref-in-Ok.result.now ≡ tail_bytes found.marks.items found.rows c.args.at =
    c.deref-in-Ok.ensures.value ∙ c.in-Ok.ensures
    ∙ ap (λ m. tail_bytes m found.rows c.args.at) c.deref.ensures.value in
    IfOk-weaker c.stands_at.result _ _ (λ b no is same. no is (made ∙ same))
    (c.stands_at.ensures.no told room)
