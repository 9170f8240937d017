use Rattle.std.proofs.Common.{◌≡◌, ◌≤◌, ◌+◌, ◌-◌, ℕ, suc, List, length, take, drop, cond, sym, ap, subst, ◌∙◌, arith}
use Rattle.std.proofs.lemmas.List.{length-drop, take_rest, drop-drop}
use Rattle.alt_lines.specs.Feeds.{AllPlain, FirstLineFeedStandsAt}
use Rattle.alt_lines.specs.Lines.{too_long, read_line}
use Rattle.alt_lines.specs.Reader.{unread}
use Rattle.alt_lines.specs.Unread.{TakesLine}
use Rattle.alt_lines.proofs.Feeds.{AllPlain-between, AllPlain-both, EndsAt-behind}
use Rattle.alt_lines.proofs.Reading.{held, takes, line_told}
use Rattle.alt_lines.proofs.reader.Lines.line.Goals as goal

-- the bytes behind a place that lies behind another
behind : (bytes : List ℕ) (start seen : ℕ) → start ≤ seen
    → drop seen bytes ≡ drop (seen - start) (drop start bytes)
behind bytes start seen order = let add : start + (seen - start) ≡ seen = omega arith in
    sym (drop-drop (seen - start) start bytes ∙ ap (λ (n : ℕ). drop n bytes) add)

pub rest-requires : goal.rest-requires
rest-requires c =
    let self = c.args.self.now in
    let bytes = self.held.items in
    let back : take (length c.deref.result.now - self.seen) (drop self.seen c.deref.result.now)
    ≡ drop (self.seen - self.start) (drop self.start bytes) =
    take_rest c.deref.result.now self.seen
    ∙ ap (λ (l : List ℕ). drop self.seen l) c.deref.ensures.value
    ∙ behind bytes self.start self.seen self.in_order in
    AllPlain-both (drop self.start bytes) (self.seen - self.start)
    (AllPlain-between bytes self.start self.seen self.within self.searched)
    (subst AllPlain back c.in-None.ensures)

pub returns-in-Some-clause-some : goal.returns-in-Some-clause-some
unfolding unread
returns-in-Some-clause-some c =
    let self = c.args.self.now in
    let bytes = self.held.items in
    let line = drop self.start bytes in
    let n = self.seen - self.start in
    let place = c.in-Some.place in
    let back : take (length c.deref.result.now - self.seen) (drop self.seen c.deref.result.now)
    ≡ drop n line =
    take_rest c.deref.result.now self.seen
    ∙ ap (λ (l : List ℕ). drop self.seen l) c.deref.ensures.value
    ∙ behind bytes self.start self.seen self.in_order in
    let few = length-drop self.start bytes in
    let order = self.in_order in
    let within = self.within in
    let ends : FirstLineFeedStandsAt line (n + place) =
    EndsAt-behind line n place (omega (arith, few))
    (AllPlain-between bytes self.start self.seen within self.searched)
    (subst (λ (l : List ℕ). FirstLineFeedStandsAt l place) back c.in-Some.ensures) in
    let end : n + place ≡ (self.seen + place) - self.start = omega arith in
    let next : self.start + suc (n + place) ≡ (self.seen + place) + 1 = omega arith in
    let rest : drop (suc (n + place)) line ≡ drop ((self.seen + place) + 1) bytes =
    drop-drop (suc (n + place)) self.start bytes ∙ ap (λ (k : ℕ). drop k bytes) next in
    let taken =
    takes self.most self.past self.ended (take (n + place) line) (drop (suc (n + place)) line)
    line ends.plain ends.parts in
    line_told c.take.result _ _ _ _ _ _ c.take.ensures.told c.take.ensures.moved
    (subst (λ (k : ℕ). TakesLine (cond self.past too_long (read_line self.most (take k line)))
    (held self.most self.past line self.ended)
    (record {
      most = self.most;
      bytes = drop ((self.seen + place) + 1) bytes;
      ended = self.ended;
    })) end
    (subst (λ (l : List ℕ).
    TakesLine (cond self.past too_long (read_line self.most (take (n + place) line)))
    (held self.most self.past line self.ended)
    (record { most = self.most; bytes = l; ended = self.ended })) rest taken))
