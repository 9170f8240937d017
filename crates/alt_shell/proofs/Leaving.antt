-- The room that a talk keeps free, and what is left of it after its first failed call of a kind.
use Rattle.std.proofs.Common.{◌≡◌, ◌≤◌, ◌+◌, ℕ, true, false, ap, sym, ◌∙◌, subst, arith}
use Rattle.alt_shell.specs.Log.{is_positive}
use Rattle.alt_shell.specs.Kept.{promised, room_unless, other_of}
use Rattle.alt_shell.specs.States.{missed_by}
use Rattle.alt_shell.specs.declared.talks.Talks.{Talks}
use Rattle.alt_shell.specs.declared.kept.Stream.{Stream}
use Rattle.alt_shell.specs.declared.kept.Stream.TheVariants.{Input, Output}

-- one call of the two kinds that hadn't failed has
left : (a b c d was now : ℕ) → a ≡ 1 → b ≡ 0 → c ≡ d → a + d + 1 ≤ was → now + 1 ≡ was
    → b + c + 1 ≤ now
left a b c d was now one none same room spent = omega (arith, one, none, same, room, spent)

-- so the room that is left is enough
pub room_left : (stream : Stream) (old new : Talks) (was now : ℕ) → old.talking ≡ true
    → new.talking ≡ old.talking → missed_by stream old ≡ false → missed_by stream new ≡ true
    → missed_by (other_of stream) new ≡ missed_by (other_of stream) old
    → promised old.talking old.takes old.says ≤ was → now + 1 ≡ was
    → promised new.talking new.takes new.says ≤ now
room_left Input old new was now talking goes not_yet missed other room spent =
    let before : promised true old.takes old.says ≤ was =
    subst (λ b. promised b old.takes old.says ≤ was) talking room in
    let after : promised true new.takes new.says ≤ now =
    left (room_unless (is_positive old.takes)) (room_unless (is_positive new.takes))
    (room_unless (is_positive new.says)) (room_unless (is_positive old.says)) was now
    (ap room_unless not_yet) (ap room_unless missed) (ap room_unless other) before spent in
    subst (λ b. promised b new.takes new.says ≤ now) (sym (goes ∙ talking)) after
room_left Output old new was now talking goes not_yet missed other room spent =
    let before : promised true old.takes old.says ≤ was =
    subst (λ b. promised b old.takes old.says ≤ was) talking room in
    let e1 : room_unless (is_positive old.says) ≡ 1 = ap room_unless not_yet in
    let e2 : room_unless (is_positive new.says) ≡ 0 = ap room_unless missed in
    let e3 : room_unless (is_positive new.takes) ≡ room_unless (is_positive old.takes) =
    ap room_unless other in
    let after : promised true new.takes new.says ≤ now = omega (arith, before, e1, e2, e3, spent) in
    subst (λ b. promised b new.takes new.says ≤ now) (sym (goes ∙ talking)) after
