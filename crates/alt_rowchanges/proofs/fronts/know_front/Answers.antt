-- The new front stands in front of those of other names.
use Rattle.std.proofs.Common.{◌∷◌, ◌∙◌, sym, subst, List}
use Rattle.alt_rowchanges.specs.Fronts.{KnowsFront}
use Rattle.alt_rowchanges.specs.declared.fronts.Front.{Front}
use Rattle.alt_rowchanges.proofs.FrontLaws.{front-known}
use Rattle.alt_rowchanges.proofs.fronts.know_front.Goals as goal

pub returns : goal.returns
returns c =
    let front : Front = record {
      table = c.args.table.now;
      oldest = c.args.oldest;
      from = c.args.from;
    } in
    subst (λ (known : List Front). KnowsFront c.args.table.now c.args.oldest c.args.from
    c.args.known.now.items known)
    (sym (c.in_ok-insert.ensures.items
    ∙ (λ i. record {
      table = c.in_ok-table.ensures.copied i;
      oldest = c.args.oldest;
      from = c.args.from;
    } ∷ c.forget_front.ensures i)))
    (front-known front c.args.known.now.items)
