use Rattle.std.proofs.Common.{ℕ, List, ◌∙◌, sym, ap, arith}
use Rattle.std.specs.Str.Parse.{AllDigits, digits_value_after}
use Rattle.alt_decimal.proofs.Values.{value_append, AllDigits-front, AllDigits-back, few_digits, HasRoom-front, HasRoom-back}
use Rattle.alt_decimal.proofs.digits.append.Goals as goal

pub append_half-requires-else-digits-le19-clause-room :
    goal.append_half-requires-else-digits-le19-clause-room
append_half-requires-else-digits-le19-clause-room c =
    let parts = c.split_at.ensures.by_index.0 in
    HasRoom-front c.args.c c.split_at.result.0.now c.split_at.result.1.now
    (rw (← parts) c.requires.room)

pub append_half-requires-else-digits-le19-2-clause-digits :
    goal.append_half-requires-else-digits-le19-2-clause-digits
append_half-requires-else-digits-le19-2-clause-digits c =
    let parts = c.split_at.ensures.by_index.0 in
    AllDigits-back c.split_at.result.0.now c.split_at.result.1.now (rw (← parts) c.requires.digits)

pub append_half-requires-else-digits-le19-2-clause-few :
    goal.append_half-requires-else-digits-le19-2-clause-few
append_half-requires-else-digits-le19-2-clause-few c =
    omega (
      arith,
      c.split_at.ensures.back_len,
      few_digits c.args.c c.args.digits.now c.requires.room,
    )

pub append_half-requires-else-digits-le19-2-clause-room :
    goal.append_half-requires-else-digits-le19-2-clause-room
append_half-requires-else-digits-le19-2-clause-room c =
    let parts = c.split_at.ensures.by_index.0 in
    let front : AllDigits 10 c.split_at.result.0.now =
    AllDigits-front _ c.split_at.result.1.now (rw (← parts) c.requires.digits) in
    rw c.append_half-else-digits-le19.ensures
    (HasRoom-back c.args.c c.split_at.result.0.now c.split_at.result.1.now front
    (rw (← parts) c.requires.room))

pub returns-else-digits-le19 : goal.returns-else-digits-le19
returns-else-digits-le19 c =
    let xs = c.split_at.result.0.now in
    let ys = c.split_at.result.1.now in
    c.append_half-else-digits-le19-2.ensures
    ∙ ap (λ (v : ℕ). digits_value_after 10 v ys) c.append_half-else-digits-le19.ensures
    ∙ sym (value_append c.args.c xs ys) ∙ ap (λ (ds : List ℕ). digits_value_after 10 c.args.c ds)
    (sym c.split_at.ensures.by_index.0)
