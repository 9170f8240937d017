-- The key of one member more is seen, and wasn't before.
use Rattle.std.proofs.Common.{◌≡◌, ◌∷◌, ◌+◌, ◌&&◌, false, sym, ap, ◌∙◌, drop, arith}
use Rattle.std.specs.List.{list_any}
use Rattle.std.specs.Str.{bytes_eq}
use Rattle.alt_ops_batch.proofs.Repeats.{Key, absent, inserted, is_seen, members_at, repeats, repeats_behind}
use Rattle.alt_ops_batch.proofs.members.has_repeat.Goals as goal

pub loop-member-preserved : goal.loop-member-preserved
loop-member-preserved c =
    let ms = c.args.members.now in
    let i = c.loop-member.member-index in
    let m = c.member-item.result in
    let keys = c.loop-member.seen.keys in
    let table : c.as_str.result.now ≡ m.table = c.as_str.ensures.same in
    let place : c.as_slice.result.now ≡ m.place = c.as_slice.ensures.same in
    let unseen : is_seen keys m ≡ false =
    (λ j. list_any (λ (k : Key). bytes_eq (sym table j) k.0.now && bytes_eq (sym place j) k.1.now) keys)
    ∙ absent c.in_ok-insert.field-0 _ c.in_ok-insert.ensures.added c.if-not-branch.false in
    c.loop-member.invariant
    ∙ ap (repeats keys) (members_at ms i m (omega arith)
    ∙ ap (λ x. x ∷ drop (i + 1) ms) (sym c.member-item.is))
    ∙ repeats_behind m (c.as_str.result, c.as_slice.result) table place keys c.insert.new.self.keys
    (inserted _ _ c.in_ok-insert.field-0 c.if-not-branch.false c.in_ok-insert.ensures.keys)
    (drop (i + 1) ms) unseen
