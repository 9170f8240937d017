use Rattle.std.proofs.Common.{◌≡◌, ◌==◌, false, ℕ, List, sym, ◌∙◌, ap, subst, arith}
use Rattle.std.proofs.lemmas.List.Elements.{All-nil}
use Rattle.std.specs.List.{All, list_any}
use Rattle.alt_disk.specs.Files.{option_items}
use Rattle.alt_disk.specs.Memory.{Track, Timed, at_moment}
use Rattle.alt_disk.specs.Stopped.{picked, behind_picked}
use Rattle.alt_disk.specs.declared.made.Made.{Made}
use Rattle.alt_disk.proofs.Walk.{Walked, unmade, walk_start, walk_on, walk_end, untouched_here}
use Rattle.alt_disk.proofs.stopped.settle_files.Goals as goal

pub loop-f-init : goal.loop-f-init
loop-f-init c =
    let ns = c.args.numbers.now in
    let calls = c.args.calls.now in
    let choice = c.args.choice.now in
    let files : ℕ → Track = λ g. at_moment c.args.moment g calls in
    let outside = λ (g : ℕ) (none : list_any (λ h. g == h) ns ≡ false).
    unmade g c.args.moment ns calls none c.requires.all in
    record {
      walked = subst (λ (l : List Made). Walked files choice ns 0 choice l)
          (sym c.new-history.ensures) (walk_start files choice ns c.requires.rising outside);
      timed = subst (All (Timed 0)) (sym c.new-history.ensures) (All-nil (Timed 0));
    }

pub settle_file-requires-clause-none : goal.settle_file-requires-clause-none
settle_file-requires-clause-none c =
    let ns = c.args.numbers.now in
    let calls = c.args.calls.now in
    let files : ℕ → Track = λ g. at_moment c.args.moment g calls in
    let outside = λ (g : ℕ) (none : list_any (λ h. g == h) ns ≡ false).
    unmade g c.args.moment ns calls none c.requires.all in
    untouched_here files c.args.choice.now ns c.requires.rising outside c.loop-f.f-index
    c.loop-f.choice.rest.now c.loop-f.history.calls.items c.loop-f-test.true
    c.loop-f.invariant.walked

pub loop-f-preserved : goal.loop-f-preserved
loop-f-preserved c =
    let ns = c.args.numbers.now in
    let calls = c.args.calls.now in
    let files : ℕ → Track = λ g. at_moment c.args.moment g calls in
    let outside = λ (g : ℕ) (none : list_any (λ h. g == h) ns ≡ false).
    unmade g c.args.moment ns calls none c.requires.all in
    let rest = c.loop-f.choice.rest.now in
    record {
      walked = walk_on files c.args.choice.now ns c.requires.rising outside c.loop-f.f-index rest
          c.pick.new.choice.rest.now c.loop-f.history.calls.items
          c.settle_file.new.history.calls.items
          (option_items c.in_ok-file.file) c.loop-f-test.true c.loop-f.invariant.walked
          (c.in_ok-file.ensures.file ∙ ap (λ (s : Track). picked s rest) c.in_ok-trace.ensures)
          (c.in_ok-file.ensures.rest ∙ ap (λ (s : Track). behind_picked s rest)
          c.in_ok-trace.ensures)
          c.in_ok-settle_file.ensures.file;
      timed = c.settle_file.ensures.timed;
    }

pub returns-clause-image : goal.returns-clause-image
returns-clause-image c =
    let ns = c.args.numbers.now in
    let calls = c.args.calls.now in
    let files : ℕ → Track = λ g. at_moment c.args.moment g calls in
    let outside = λ (g : ℕ) (none : list_any (λ h. g == h) ns ≡ false).
    unmade g c.args.moment ns calls none c.requires.all in
    walk_end files c.args.choice.now ns c.requires.rising outside c.loop-f.f-index
    c.loop-f.choice.rest.now c.loop-f.history.calls.items
    (omega (arith, c.loop-f-test.false, c.loop-f.auto.f-index-end)) c.loop-f.invariant.walked
