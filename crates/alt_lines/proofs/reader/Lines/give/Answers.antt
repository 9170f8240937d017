use Rattle.std.proofs.Common.{◌≡◌, ◌≤◌, ◌++◌, ℕ, List, [], length, drop, cond, ap, sym, ◌∙◌, append_assoc, arith}
use Rattle.std.proofs.lemmas.List.{drop-append-le}
use Rattle.alt_lines.specs.Reader.{unread}
use Rattle.alt_lines.specs.Unread.{Unread, too_many}
use Rattle.alt_lines.proofs.Reading.{held}
use Rattle.alt_lines.proofs.reader.Lines.give.Goals as goal

pub returns-in-Ok-clause-ok : goal.returns-in-Ok-clause-ok
unfolding unread
returns-in-Ok-clause-ok c =
    let self = c.forget.new.self in
    let piece = c.args.piece.now in
    let bytes = self.held.items in
    let order = self.in_order in
    let within = self.within in
    let inside : self.start ≤ length bytes = omega arith in
    let more : drop self.start c.extend_from_slice.new.self.items ≡ drop self.start bytes ++ piece =
    ap (λ (l : List ℕ). drop self.start l) c.in-Ok.ensures.items
    ∙ drop-append-le self.start bytes piece inside in
    ap (λ (l : List ℕ). held self.most self.past l self.ended) more
    ∙ ap (λ (l : List ℕ). record { most = self.most; bytes = l; ended = self.ended })
    (sym (append_assoc (cond self.past (too_many self.most) []) (drop self.start bytes) piece))
    ∙ ap (λ (u : Unread). record u { bytes = u.bytes ++ piece }) c.forget.ensures.same

pub returns-in-Err-clause-err : goal.returns-in-Err-clause-err
unfolding unread
returns-in-Err-clause-err c =
    let self = c.forget.new.self in
    ap (λ (l : List ℕ). held self.most self.past (drop self.start l) self.ended)
    c.in-Err.ensures.items ∙ c.forget.ensures.same
