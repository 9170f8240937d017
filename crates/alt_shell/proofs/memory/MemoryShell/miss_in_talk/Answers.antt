use Rattle.std.proofs.Common.{◌∙◌, sym, ap, length, refl}
use Rattle.alt_shell.specs.States.{kept_entries, streams_by, coming_of, added_to, is_to_fail}
use Rattle.alt_shell.specs.Waiting.{pieces_of}
use Rattle.alt_shell.specs.declared.talks.Talks.{Talks}
use Rattle.alt_shell.proofs.Missing.{with_failed}
use Rattle.alt_shell.proofs.Leaving.{room_left}
use Rattle.alt_shell.proofs.memory.MemoryShell.miss_in_talk.Goals as goal

pub invariant_of-self-2-clause-heard : goal.invariant_of-self-2-clause-heard
invariant_of-self-2-clause-heard c =
    let d = c.args.self.now in
    let stays = with_failed (kept_entries d.kept) (kept_entries c.push_spare.new.self)
    c.counts-moment.result.0 d.clock.count c.args.stream c.push_spare.ensures.entries in
    ap streams_by c.miss-2.ensures.stays ∙ d.heard ∙ sym stays.streams_stay

pub invariant_of-self-2-clause-counted : goal.invariant_of-self-2-clause-counted
invariant_of-self-2-clause-counted c =
    let d = c.args.self.now in
    let stays = with_failed (kept_entries d.kept) (kept_entries c.push_spare.new.self)
    c.counts-moment.result.0 d.clock.count c.args.stream c.push_spare.ensures.entries in
    d.counted ∙ ap length (sym stays.taken_stays)

pub invariant_of-self-2-clause-room : goal.invariant_of-self-2-clause-room
invariant_of-self-2-clause-room c =
    let d = c.args.self.now in
    let more = c.miss-2.ensures in
    room_left c.args.stream d.talks c.miss-2.new.self d.kept.spare c.push_spare.new.self.spare
    c.requires (ap (λ (t : Talks). t.talking) more.stays) (sym c.missed.ensures ∙ c.if-missed.false)
    more.missed more.other d.room c.push_spare.ensures.spare

pub returns-clause-stays : goal.returns-clause-stays
returns-clause-stays c =
    let d = c.args.self.now in
    let same = c.miss-2.ensures.stays in
    let stays = with_failed (kept_entries d.kept) (kept_entries c.push_spare.new.self)
    c.counts-moment.result.0 d.clock.count c.args.stream c.push_spare.ensures.entries in
    record {
      disk_stays = refl;
      streams_stay = stays.streams_stay;
      taken_stays = stays.taken_stays;
      pieces_stay = ap (λ (t : Talks). pieces_of t.standard.pieces) same;
      talk_stays = ap (λ (t : Talks). pieces_of t.talk.pieces) same;
      calls_stay = ap (λ (t : Talks). t.calls) same;
      rest = record {
        clock_stays = refl;
        notes_stay = record { noted_stays = refl; tells_stay = refl };
        others = record {
          coming_stays = ap coming_of same;
          added_stays = ap added_to same;
          fails_stay = λ n. ap (λ (t : Talks). is_to_fail t n) same;
        };
      };
    }
