use Rattle.std.proofs.Common.{◌∙◌, sym, ap, length, refl, rules}
use Rattle.alt_shell.specs.States.{kept_entries}
use Rattle.alt_shell.proofs.Missing.{failed_silent}
use Rattle.alt_shell.proofs.memory.MemoryShell.miss.Goals as goal

pub invariant_of-self-clause-heard : goal.invariant_of-self-clause-heard
invariant_of-self-clause-heard c =
    let d = c.args.self.now in
    let stays = failed_silent (kept_entries d.kept)
    (kept_entries c.miss.new.self) c.counts-moment.result.0 d.clock.count c.args.stream _
    c.miss.ensures in
    d.heard ∙ sym stays.streams_stay

pub invariant_of-self-clause-counted : goal.invariant_of-self-clause-counted
invariant_of-self-clause-counted c =
    let d = c.args.self.now in
    let stays = failed_silent (kept_entries d.kept)
    (kept_entries c.miss.new.self) c.counts-moment.result.0 d.clock.count c.args.stream _
    c.miss.ensures in
    d.counted ∙ ap length (sym stays.taken_stays)

pub returns-clause-stays : goal.returns-clause-stays
returns-clause-stays c =
    let d = c.args.self.now in
    let stays = failed_silent (kept_entries d.kept)
    (kept_entries c.miss.new.self) c.counts-moment.result.0 d.clock.count c.args.stream _
    c.miss.ensures in
    record {
      disk_stays = refl;
      streams_stay = stays.streams_stay;
      taken_stays = stays.taken_stays;
      pieces_stay = refl;
      talk_stays = refl;
      calls_stay = refl;
      rest = search rules;
    }
