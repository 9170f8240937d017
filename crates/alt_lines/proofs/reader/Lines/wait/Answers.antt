use Rattle.std.proofs.Common.{◌≡◌, ◌<◌, ◌-◌, ℕ, List, length, drop, true, false, sym, subst, ◌∙◌, arith}
use Rattle.std.proofs.lemmas.List.{length-drop}
use Rattle.alt_lines.specs.Reader.{unread}
use Rattle.alt_lines.specs.Unread.{HasNone}
use Rattle.alt_lines.proofs.Feeds.{none-from_AllPlain}
use Rattle.alt_lines.proofs.Reading.{held, held-long, waits, waits_long, below-true, below-false}
use Rattle.alt_lines.proofs.reader.Lines.wait.Goals as goal
use Rattle.alt_lines.proofs.reader.Lines.wait.Goals.{then-self, else-self}

pub returns-then-end-self-clause-none : goal.returns-then-end-self-clause-none
unfolding unread
returns-then-end-self-clause-none c =
    let self = c.args.self.now in
    let line = drop self.start self.held.items in
    let len = length-drop self.start self.held.items in
    let total : c.len-end.result ≡ length self.held.items = c.len-end.ensures ∙ self.held.ok.0 in
    let long : self.past ≡ false → self.most < length line = λ not_past. elim c.if-self.branch [
      | then-self w ↦ cc
      | else-self w ↦ let more =
          below-true c.if-self.value self.most (c.len-end.result - self.start) w.value-is
          c.if-end-self.true in omega (arith, len)
    ] in
    subst (λ (l : List ℕ). HasNone (held self.most self.past line self.ended)
    (held self.most true l self.ended)) (sym c.clear.ensures.items)
    (waits_long self.most self.past self.ended line c.requires.plain
    (λ is. ((c.requires.going is).0, let few = (c.requires.going is).1 in omega (arith, len)))
    long)

pub returns-else-end-self-clause-none : goal.returns-else-end-self-clause-none
unfolding unread
returns-else-end-self-clause-none c =
    let self = c.args.self.now in
    let line = drop self.start self.held.items in
    let len = length-drop self.start self.held.items in
    let total : c.len-end.result ≡ length self.held.items = c.len-end.ensures ∙ self.held.ok.0 in
    elim c.if-self.branch [
      | then-self w ↦ cc
      | else-self w ↦ let few =
          below-false c.if-self.value self.most (c.len-end.result - self.start) w.value-is
          c.if-end-self.false in
          waits self.most self.past self.ended line c.requires.plain
          (λ is. ((c.requires.going is).0, let few = (c.requires.going is).1 in omega (arith, len)))
          w.if-self.false (omega (arith, len))
    ]

pub invariant_of-self-else-end-self-clause-searched :
    goal.invariant_of-self-else-end-self-clause-searched
invariant_of-self-else-end-self-clause-searched c =
    let self = c.args.self.now in
    λ k from below. let total : c.len-end.result ≡ length self.held.items = c.len-end.ensures
    ∙ self.held.ok.0 in
    none-from_AllPlain self.held.items self.start c.requires.plain k from (omega arith)

pub returns-else-end-self-clause-drops : goal.returns-else-end-self-clause-drops
unfolding unread
returns-else-end-self-clause-drops c = λ more.
    let self = c.args.self.now in
    let line = drop self.start self.held.items in
    let len = length-drop self.start self.held.items in
    let total : c.len-end.result ≡ length self.held.items = c.len-end.ensures ∙ self.held.ok.0 in
    elim c.if-self.branch [
      | then-self w ↦ cc
      | else-self w ↦ let few =
          below-false c.if-self.value self.most (c.len-end.result - self.start) w.value-is
          c.if-end-self.false in
          let long = held-long self.most self.past line more w.if-self.false in
          absurd (omega (arith, len, few, long))
    ]
