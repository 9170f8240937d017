-- Each path that an update changes begins with a name.
use Rattle.alt_machine.specs.Expressions as machine
use Rattle.alt_ops_item.proofs.Left.{said_begins}
use Rattle.alt_ops_item.proofs.update.ChangeItemWrite.left.Goals as goal

pub left_in-requires : goal.left_in-requires
left_in-requires c =
    let (d, ms, words, says) = c.requires.said in
    record { begins = said_begins machine.updating d ms words c.args.said.now says }
