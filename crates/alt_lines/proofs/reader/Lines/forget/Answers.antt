use Rattle.std.proofs.Common.{◌≡◌, ◌-◌, ℕ, List, length, take, drop, ap, ◌∙◌, arith}
use Rattle.std.proofs.lemmas.List.{length-drop}
use Rattle.std.specs.List.{copy_within}
use Rattle.alt_lines.specs.Reader.{unread}
use Rattle.alt_lines.proofs.Reading.{moved_front, held, held-few}
use Rattle.alt_lines.proofs.reader.Lines.forget.Goals as goal

pub returns-clause-same : goal.returns-clause-same
unfolding unread
returns-clause-same c =
    let self = c.args.self.now in
    let bytes = self.held.items in
    let len : c.len.result ≡ length bytes = c.len.ensures ∙ self.held.ok.0 in
    let kept : c.truncate.new.self.items ≡ drop self.start bytes =
    c.truncate.ensures.items
    ∙ (λ i. take (len i - self.start) (c.copy_within.ensures.items i))
    ∙ ap (λ (n : ℕ). take (length bytes - self.start) (copy_within bytes self.start n 0))
    (self.held.ok.0)
    ∙ moved_front bytes self.start in
    ap (λ (l : List ℕ). held self.most self.past l self.ended) kept

pub returns-clause-keeps : goal.returns-clause-keeps
unfolding unread
returns-clause-keeps c =
    let self = c.args.self.now in
    let bytes = self.held.items in
    let len : c.len.result ≡ length bytes = c.len.ensures ∙ self.held.ok.0 in
    let kept : c.truncate.new.self.items ≡ drop self.start bytes =
    c.truncate.ensures.items
    ∙ (λ i. take (len i - self.start) (c.copy_within.ensures.items i))
    ∙ ap (λ (n : ℕ). take (length bytes - self.start) (copy_within bytes self.start n 0))
    (self.held.ok.0)
    ∙ moved_front bytes self.start in
    let same = ap length kept in
    let few = held-few self.most self.past (drop self.start bytes) in
    omega (arith, same, few)

pub returns-then-self-kept-clause-keeps : goal.returns-then-self-kept-clause-keeps
unfolding unread
returns-then-self-kept-clause-keeps c =
    let self = c.args.self.now in
    let bytes = self.held.items in
    let len : c.len.result ≡ length bytes = c.len.ensures ∙ self.held.ok.0 in
    let size = length-drop self.start bytes in
    let few = held-few self.most self.past (drop self.start bytes) in
    grind (arith, size, few, len)
