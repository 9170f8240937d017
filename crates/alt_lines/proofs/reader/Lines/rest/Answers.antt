use Rattle.std.proofs.Common.{◌≡◌, ◌<◌, ◌-◌, [], ℕ, List, length, take, drop, false, cond, sym, ap, subst, ◌∙◌, arith}
use Rattle.std.proofs.lemmas.List.{length-drop, take_rest, drop_all}
use Rattle.alt_lines.specs.Lines.{too_long, read_line}
use Rattle.alt_lines.specs.Reader.{unread}
use Rattle.alt_lines.specs.Unread.{TakesLine}
use Rattle.alt_lines.proofs.Reading.{held, takes_last, line_told, below-true}
use Rattle.alt_lines.proofs.reader.Lines.rest.Goals as goal
use Rattle.alt_lines.proofs.reader.Lines.rest.Goals.{then-self-2, else-self-2}

pub returns-then-self-end-clause-some : goal.returns-then-self-end-clause-some
unfolding unread
returns-then-self-end-clause-some c =
    let self = c.args.self.now in
    let line = drop self.start self.held.items in
    let len = length-drop self.start self.held.items in
    let total : c.len-end.result ≡ length self.held.items = c.len-end.ensures ∙ self.held.ok.0 in
    let some : self.past ≡ false → 0 < length line = λ not_past. elim c.if-self-2.branch [
      | then-self-2 w ↦ cc
      | else-self-2 w ↦ let more =
          below-true c.if-self-2.value self.start c.len-end.result w.value-is c.if-self-end.true in
          omega (arith, len)
    ] in
    let end = c.len-end.result in
    let whole : take (end - self.start) line ≡ line =
    ap (λ (n : ℕ). take (n - self.start) line) total ∙ take_rest self.held.items self.start in
    let none : drop end self.held.items ≡ [] = drop_all end self.held.items (omega arith) in
    let taken : TakesLine
    (cond self.past too_long (read_line self.most (take (end - self.start) line)))
    (held self.most self.past line self.ended)
    (record { most = self.most; bytes = drop end self.held.items; ended = self.ended }) =
    subst (λ (u : List ℕ × List ℕ). TakesLine (cond self.past too_long (read_line self.most u.0))
    (held self.most self.past line self.ended)
    (record { most = self.most; bytes = u.1; ended = self.ended }))
    (λ i. (sym whole i, sym none i))
    (subst (λ (b : _). TakesLine (cond self.past too_long (read_line self.most line))
    (held self.most self.past line b) (record { most = self.most; bytes = []; ended = b }))
    (sym c.if-self.true) (takes_last self.most self.past line c.requires some)) in
    line_told c.take.result _ _ _ _ _ _ c.take.ensures.told c.take.ensures.moved taken
