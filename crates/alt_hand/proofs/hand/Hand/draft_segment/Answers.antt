-- The draft is that over the version in hand.
use Rattle.std.proofs.Common.{sym, ap, ◌∙◌, arith}
use Rattle.alt_flush.specs.Drafts.{renumbered, with_segment}
use Rattle.alt_manifest.specs.declared.version.Version.{Version}
use Rattle.alt_hand.proofs.hand.Hand.draft_segment.Goals as goal

pub with_segment-requires : goal.with_segment-requires
with_segment-requires c =
    let file = ap (λ (v : Version). v.next_file) c.in_ok-first.ensures in
    omega (arith, file, c.requires.file)

pub returns-clause-ok : goal.returns-clause-ok
returns-clause-ok c = (
  c.requires.form,
  c.requires.file,
  c.in_ok-block.ensures.room,
  c.in_ok-draft.ensures ∙ ap with_segment (c.in_ok-first.ensures
      ∙ ap (λ (v : Version). renumbered v c.args.self.now.next_file c.args.self.now.next)
      (c.current.ensures ∙ sym c.prepare.ensures.same.version)),
  c.in_ok-block.ensures.framed,
)
