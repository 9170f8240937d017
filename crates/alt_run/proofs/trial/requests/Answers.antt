use Rattle.std.proofs.Common.{◌≡◌, ◌≤◌, ◌+◌, ◌-◌, ◌∙◌, ℕ, List, map, refl, sym, ap, subst, arith}
use Rattle.alt_disk.proofs.Calls.{goes_refl, goes_on}
use Rattle.alt_disk.proofs.Runs.{trusted_back}
use Rattle.alt_lines.specs.Trial.{Generator, generator, generator_from, next_line, next_lines, after_line, trial_lines}
use Rattle.alt_tables.specs.HandDeclaredLimits.{Limits}
use Rattle.alt_talks.specs.Works.{HasFewEntries}
use Rattle.alt_run.specs.Trials.{trial_turns}
use Rattle.alt_run.specs.Turns.{asked_by}
use Rattle.alt_talks.specs.Turns.{after}
use Rattle.alt_run.proofs.Trying.{Trying, trying_none, next_left, trying_line, trying_break, trying_all}
use Rattle.alt_run.proofs.trial.requests.Goals as goal

pub requests-init : goal.requests-init
requests-init g c =
    let a = g.D.Disk.state c.args.disk.now in
    let n = c.args.count in
    let all = trial_lines c.args.seed n in
    let same : n ≡ n - 0 = omega arith in (
      subst (λ (rest : List (List ℕ)).
          Trying a c.args.tables.now a c.args.tables.now c.new-tally.result all rest)
          (ap (λ (k : ℕ). next_lines k (generator_from c.args.seed)) same
          ∙ ap (λ (h : Generator). next_lines (n - 0) h) (sym c.new-trial.ensures))
          (trying_none a c.args.tables.now c.new-tally.result all c.new-tally.ensures.none),
      omega (arith, c.new-tally.ensures.good),
      omega (arith, c.new-tally.ensures.bad),
      goes_refl a,
      refl,
      λ some. absurd (omega (arith, some)),
    )

pub requests-preserved : goal.requests-preserved
requests-preserved g c =
    let state = g.D.Disk.state in
    let a = state c.args.disk.now in
    let b = state c.requests.disk in
    let d = state c.step.new.disk in
    let i = c.requests.counter in
    let n = c.args.count in
    let h = generator c.requests.trial in
    let all = trial_lines c.args.seed n in (
      subst (λ (r : Generator). Trying a c.args.tables.now d c.step.new.tables c.step.new.tally all
          (next_lines (n - (i + 1)) r))
          (sym c.in-Ok.ensures.next)
          (trying_line a c.args.tables.now b c.requests.tables c.requests.tally all
          (next_lines (n - i) h) (next_lines (n - (i + 1)) (after_line h)) (next_line h)
          c.requests.invariant.0 (next_left n i h c.requests-test.true) d c.step.new.tables
          c.step.new.tally c.step.ensures.goes c.in-Ok.ensures.counted c.in-Ok.ensures.files),
      omega (arith, c.in-Ok.ensures.good, c.requests.invariant.1),
      omega (arith, c.in-Ok.ensures.bad, c.requests.invariant.2),
      goes_on a b d c.requests.invariant.3 c.step.ensures.goes,
      c.in-Ok.ensures.limits ∙ c.requests.invariant.4,
      λ some. subst (λ (limits : Limits). HasFewEntries limits.flush d) c.requests.invariant.4
          c.in-Ok.ensures.few,
    )

pub returns-clause-counted : goal.returns-clause-counted
returns-clause-counted g c = λ s stands.
    let state = g.D.Disk.state in
    let i = c.requests.counter in
    let n = c.args.count in
    let h = generator c.requests.trial in
    let none : n - i ≡ 0 = omega arith in
    trying_all (state c.args.disk.now) c.args.tables.now (state c.requests.disk) c.requests.tables
    c.requests.tally (trial_lines c.args.seed n) (next_lines (n - i) h) c.requests.invariant.0
    (ap (λ (k : ℕ). next_lines k h) none) s stands

pub returns-in-Err-clause-counted : goal.returns-in-Err-clause-counted
returns-in-Err-clause-counted g c = λ s stands.
    let state = g.D.Disk.state in
    let i = c.requests.counter in
    let n = c.args.count in
    let h = generator c.requests.trial in
    trying_break (state c.args.disk.now) c.args.tables.now (state c.requests.disk) c.requests.tables
    c.requests.tally (trial_lines c.args.seed n) (next_lines (n - i) h)
    (next_lines (n - (i + 1)) (after_line h)) (next_line h)
    c.requests.invariant.0 (next_left n i h c.requests-test.true) (state c.step.new.disk)
    c.in-Err.fault c.in-Err.ensures.counted s stands

pub step-requires-clause-ready : goal.step-requires-clause-ready
step-requires-clause-ready g c = λ trusted.
    let state = g.D.Disk.state in
    let p = c.requests.invariant.0 in
    let first = c.requires.ready (trusted_back (state c.args.disk.now) (state c.requests.disk)
    c.requests.invariant.3 trusted) in
    (after first.0 (trial_turns first.0 (map asked_by p.done)), (p.counted first.0 first.1).stands)

pub returns-clause-few : goal.returns-clause-few
returns-clause-few g c = λ some.
    let all : c.args.count ≤ c.requests.counter = omega arith in
    c.requests.invariant.5 (omega (arith, some, all))
