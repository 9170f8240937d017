-- What is passed is what its first token is, with the items or the members behind that.
use Rattle.std.proofs.Common.{◌≡◌, ◌-◌, ◌<◌, [], ◌∷◌, length, Some, None, refl, ap, ap₂, ◌∙◌, arith}
use Rattle.json.specs.Json.{after_end_array, items, members, parse_map, read_key, value}
use Rattle.json.specs.Reads.{token_of}
use Rattle.json.proofs.Grammar.{read_key-shorter, value-begin_array, value-begin_object, value_is}
use Rattle.serde_json.specs.Data.{array, item, no_items, no_members, object, put}
use Rattle.serde_json.specs.Read.{converted, of_items, of_json}
use Rattle.alt_named.proofs.Converted.{converted-array, converted-object, item_read, item_refused, items_over, key_refused, member_read, member_refused, members_over, none_before, one_more_passed}
use Rattle.alt_named.proofs.Passed.{null_passed, number_passed, number_refused, text_passed, truth_passed}
use Rattle.alt_named.proofs.passing.+passing.Goals as goal

pub pass-returns-in_err-token-clause-refused : goal.pass-returns-in_err-token-clause-refused
pass-returns-in_err-token-clause-refused t c refused =
    let empty : c.args.reader.now ≡ [] = grind arith in
    ap (converted of_json) (ap (value c.args.depth) empty ∙ value_is c.args.depth [])

pub pass-returns-then-depth-eq0-clause-refused : goal.pass-returns-then-depth-eq0-clause-refused
unfolding value
pass-returns-then-depth-eq0-clause-refused t c never =
    let rest = c.next.new.self in
    let first : c.args.reader.now ≡ token_of c.in_ok-token.token ∷ rest = grind arith in
    let none : c.args.depth ≡ 0 = omega arith in
    ap (converted of_json)
    (ap₂ value none (first ∙ ap (λ k. token_of k ∷ rest) c.in-BeginArray.is))

pub pass-returns-then-depth-eq0-2-clause-refused : goal.pass-returns-then-depth-eq0-2-clause-refused
unfolding value
pass-returns-then-depth-eq0-2-clause-refused t c never =
    let rest = c.next.new.self in
    let first : c.args.reader.now ≡ token_of c.in_ok-token.token ∷ rest = grind arith in
    let none : c.args.depth ≡ 0 = omega arith in
    ap (converted of_json)
    (ap₂ value none (first ∙ ap (λ k. token_of k ∷ rest) c.in-BeginObject.is))

pub pass-returns-in_err-pass_items-in-BeginArray-clause-refused :
    goal.pass-returns-in_err-pass_items-in-BeginArray-clause-refused
pass-returns-in_err-pass_items-in-BeginArray-clause-refused t c refused =
    let rest = c.next.new.self in
    let first : c.args.reader.now ≡ token_of c.in_ok-token.token ∷ rest = grind arith in
    let opened = ap (converted of_json) (ap (value c.args.depth)
    (first ∙ ap (λ k. token_of k ∷ rest) c.in-BeginArray.is)
    ∙ value-begin_array c.args.depth rest (omega arith))
    ∙ converted-array (items (value (c.args.depth - 1)) (length rest) rest) in
    opened ∙ ap (parse_map array) (c.pass_items.ensures.refused (grind arith))

pub pass-returns-in_err-pass_members-in-BeginObject-clause-refused :
    goal.pass-returns-in_err-pass_members-in-BeginObject-clause-refused
pass-returns-in_err-pass_members-in-BeginObject-clause-refused t c refused =
    let rest = c.next.new.self in
    let first : c.args.reader.now ≡ token_of c.in_ok-token.token ∷ rest = grind arith in
    let opened = ap (converted of_json) (ap (value c.args.depth)
    (first ∙ ap (λ k. token_of k ∷ rest) c.in-BeginObject.is)
    ∙ value-begin_object c.args.depth rest (omega arith))
    ∙ converted-object (members (value (c.args.depth - 1)) (length rest) rest) in
    opened ∙ ap (parse_map object) (c.pass_members.ensures.refused (grind arith))

pub pass-returns-in_ok-pass_items-in-BeginArray-clause-passed :
    goal.pass-returns-in_ok-pass_items-in-BeginArray-clause-passed
pass-returns-in_ok-pass_items-in-BeginArray-clause-passed t c =
    let rest = c.next.new.self in
    let first : c.args.reader.now ≡ token_of c.in_ok-token.token ∷ rest = grind arith in
    let opened = ap (converted of_json) (ap (value c.args.depth)
    (first ∙ ap (λ k. token_of k ∷ rest) c.in-BeginArray.is)
    ∙ value-begin_array c.args.depth rest (omega arith))
    ∙ converted-array (items (value (c.args.depth - 1)) (length rest) rest) in
    let passed = c.in_ok-pass_items-in-BeginArray.ensures.passed in
    (array passed.0, opened ∙ ap (parse_map array) passed.1)

pub pass-returns-in_ok-pass_members-in-BeginObject-clause-passed :
    goal.pass-returns-in_ok-pass_members-in-BeginObject-clause-passed
pass-returns-in_ok-pass_members-in-BeginObject-clause-passed t c =
    let rest = c.next.new.self in
    let first : c.args.reader.now ≡ token_of c.in_ok-token.token ∷ rest = grind arith in
    let opened = ap (converted of_json) (ap (value c.args.depth)
    (first ∙ ap (λ k. token_of k ∷ rest) c.in-BeginObject.is)
    ∙ value-begin_object c.args.depth rest (omega arith))
    ∙ converted-object (members (value (c.args.depth - 1)) (length rest) rest) in
    let passed = c.in_ok-pass_members-in-BeginObject.ensures.passed in
    (object passed.0, opened ∙ ap (parse_map object) passed.1)

pub pass-returns-in-String-clause-passed : goal.pass-returns-in-String-clause-passed
pass-returns-in-String-clause-passed t c =
    let rest = c.next.new.self in
    let first : c.args.reader.now ≡ token_of c.in_ok-token.token ∷ rest = grind arith in
    text_passed c.args.depth c.args.reader.now rest _
    (first ∙ ap (λ k. token_of k ∷ rest) c.in-String.is)

pub pass-returns-in-Bool-clause-passed : goal.pass-returns-in-Bool-clause-passed
pass-returns-in-Bool-clause-passed t c =
    let rest = c.next.new.self in
    let first : c.args.reader.now ≡ token_of c.in_ok-token.token ∷ rest = grind arith in
    truth_passed c.args.depth c.args.reader.now rest _
    (first ∙ ap (λ k. token_of k ∷ rest) c.in-Bool.is)

pub pass-returns-in-Null-clause-passed : goal.pass-returns-in-Null-clause-passed
pass-returns-in-Null-clause-passed t c =
    let rest = c.next.new.self in
    let first : c.args.reader.now ≡ token_of c.in_ok-token.token ∷ rest = grind arith in
    null_passed c.args.depth c.args.reader.now rest
    (first ∙ ap (λ k. token_of k ∷ rest) c.in-Null.is)

pub pass-returns-in-Some-clause-passed : goal.pass-returns-in-Some-clause-passed
pass-returns-in-Some-clause-passed t c =
    let rest = c.next.new.self in
    let first : c.args.reader.now ≡ token_of c.in_ok-token.token ∷ rest = grind arith in
    number_passed c.args.depth c.args.reader.now rest c.in-Number.text.now
    (first ∙ ap (λ k. token_of k ∷ rest) c.in-Number.is) _ c.in-Some.ensures

pub pass-returns-in-None-clause-refused : goal.pass-returns-in-None-clause-refused
pass-returns-in-None-clause-refused t c refused =
    let rest = c.next.new.self in
    let first : c.args.reader.now ≡ token_of c.in_ok-token.token ∷ rest = grind arith in
    number_refused c.args.depth c.args.reader.now rest c.in-Number.text.now
    (first ∙ ap (λ k. token_of k ∷ rest) c.in-Number.is) c.in-None.ensures

pub pass-returns-in-EndObject-clause-refused : goal.pass-returns-in-EndObject-clause-refused
pass-returns-in-EndObject-clause-refused t c refused =
    let first : c.args.reader.now ≡ token_of c.in_ok-token.token ∷ c.next.new.self = grind arith in
    let none : value c.args.depth c.args.reader.now ≡ None =
    rw (value_is c.args.depth c.args.reader.now, first) (grind arith) in
    ap (converted of_json) none

pub pass_items-items-init : goal.pass_items-items-init
pass_items-items-init t c =
    let ts = c.args.reader.now in (
      length ts,
      λ ds. ds,
      omega arith,
      none_before (converted of_items (items (value c.args.depth) (length ts) ts)),
      omega arith,
    )

pub pass_items-returns-in_err-pass-clause-refused : goal.pass_items-returns-in_err-pass-clause-refused
pass_items-returns-in_err-pass-clause-refused t c refused =
    let p = value c.args.depth in
    let l = c.items in
    let n = l.invariant.0 in
    let going : (after_end_array l.reader ≡ None) × (c.take_end_array.new.self ≡ l.reader) =
    grind arith in
    l.invariant.3 ∙ ap (parse_map l.invariant.1) (item_refused p n l.reader going.0
    (rw (← going.1) (c.pass.ensures.refused (grind arith))))

pub pass_items-items-preserved : goal.pass_items-items-preserved
pass_items-items-preserved t c =
    let p = value c.args.depth in
    let l = c.items in
    let n = l.invariant.0 in
    let going : (after_end_array l.reader ≡ None) × (c.take_end_array.new.self ≡ l.reader) =
    grind arith in
    let done = c.in_ok-pass.ensures in
    let d = done.passed.0 in
    let r = c.pass.new.reader in
    let less : length r < length l.reader = rw (← going.1) done.shorter in
    let turn = item_read p n l.reader r d (omega (arith, l.invariant.2)) going.0
    (rw (← going.1) done.passed.1) in (
      n - 1,
      λ ds. l.invariant.1 (item d ds),
      omega (arith, l.invariant.2),
      l.invariant.3 ∙ ap (parse_map l.invariant.1) turn ∙ one_more_passed l.invariant.1 d _,
      omega (arith, l.invariant.4),
    )

pub pass_items-returns-clause-passed : goal.pass_items-returns-clause-passed
pass_items-returns-clause-passed t c =
    let l = c.items in (
      l.invariant.1 no_items,
      l.invariant.3 ∙ ap (parse_map l.invariant.1) (items_over (value c.args.depth) l.invariant.0
          l.reader c.take_end_array.new.self l.invariant.2 (grind arith)),
    )

pub pass_members-members-init : goal.pass_members-members-init
pass_members-members-init t c =
    let ts = c.args.reader.now in
    (length ts, no_members, omega arith, refl, omega arith)

pub pass_members-returns-in_err-next_key-clause-refused :
    goal.pass_members-returns-in_err-next_key-clause-refused
pass_members-returns-in_err-next_key-clause-refused t c refused =
    let l = c.members in
    l.invariant.3 ∙ key_refused (value c.args.depth) l.invariant.1 l.invariant.0 l.reader
    c.in_err-next_key.ensures.value

pub pass_members-returns-in_err-pass-clause-refused :
    goal.pass_members-returns-in_err-pass-clause-refused
pass_members-returns-in_err-pass-clause-refused t c refused =
    let l = c.members in
    let k = c.in-Some.field-0.now in
    let s = c.next_key.new.self in
    let named : read_key l.reader ≡ Some (Some k, s) = grind arith in
    l.invariant.3 ∙ member_refused (value c.args.depth) l.invariant.1 l.invariant.0 k l.reader s
    named (c.pass.ensures.refused (grind arith))

pub pass_members-members-preserved : goal.pass_members-members-preserved
pass_members-members-preserved t c =
    let p = value c.args.depth in
    let l = c.members in
    let n = l.invariant.0 in
    let k = c.in-Some.field-0.now in
    let s = c.next_key.new.self in
    let named : read_key l.reader ≡ Some (Some k, s) = grind arith in
    let done = c.in_ok-pass.ensures in
    let d = done.passed.0 in
    let r = c.pass.new.reader in
    let less = read_key-shorter l.reader (Some k) s named in
    let lesser = done.shorter in (
      n - 1,
      put k d l.invariant.1,
      omega (arith, l.invariant.2),
      l.invariant.3 ∙ member_read p l.invariant.1 n k l.reader s r d (omega (arith, l.invariant.2))
          named done.passed.1,
      omega (arith, l.invariant.4),
    )

pub pass_members-returns-clause-passed : goal.pass_members-returns-clause-passed
pass_members-returns-clause-passed t c =
    let l = c.members in (
      l.invariant.1,
      l.invariant.3 ∙ members_over (value c.args.depth) l.invariant.1 l.invariant.0 l.reader
          c.next_key.new.self l.invariant.2 (grind arith),
    )
