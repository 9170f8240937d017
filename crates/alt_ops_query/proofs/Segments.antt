-- The range of a segment holds the places whose tokens are in it.
use Rattle.std.proofs.Common.{◌≡◌, refl, sym, ap, ◌∙◌, ℕ, ◌+◌, ◌-◌, ◌*◌, ◌/◌, ◌^◌, ◌<◌, ◌≤◌, Bool, true, false, not, ◌&&◌, nat_le, nat_lt, ◌==◌, List, [], ◌++◌, Option, Some, None, append-nil, arith, append_assoc}
use Rattle.std.proofs.Math.Nat.{le-div_iff_mul-le, div-lt_iff_lt-mul}
use Rattle.std.proofs.Math.Bool.{and_comm}
use Rattle.std.specs.Prelude.{if◌then◌else◌}
use Rattle.std.specs.BTreeMap.Range.{is_past_end, range_contains}
use Rattle.std.specs.Cmp.{both_ways}
use Rattle.std.specs.Int.{w64, to_be_bytes}
use Rattle.std.specs.List.{flat_map}
use Rattle.std.specs.Option.{option_map_or}
use Rattle.std.specs.declared.cmp.Ordering.{Ordering}
use Rattle.std.specs.declared.cmp.Ordering.TheVariants.{Less, Equal, Greater}
use Rattle.std.specs.declared.ops.Bound.TheVariants.{Included}
use Rattle.std.specs.Ordering.{is_le, nat_cmp, ordering_then}
use Rattle.alt_keyorder.specs.KeyBytes.{key_bytes}
use Rattle.alt_keyorder.specs.Place.{Place, key_values}
use Rattle.alt_keyorder.specs.Token.{token_of}
use Rattle.alt_keyorder.proofs.Places.{token-order}
use Rattle.alt_keyorder.proofs.Tokens.{token_fits}
use Rattle.alt_machine.specs.Ops.Scan as machine
use Rattle.alt_machine.specs.Walks.{end_bound, is_beyond}
use Rattle.alt_ops_query.specs.Places.{HoldsListed}
use Rattle.alt_ops_query.specs.private.Ranges.{IsBeyond}
use Rattle.alt_ops_query.specs.private.Tokens.{first_token, token_bytes, end_token}
use Rattle.alt_ops_query.proofs.Rests.{contains_beyond}
use Rattle.alt_ops_query.proofs.Stored.{keyed_there}
use Rattle.alt_machine.specs.Sources.{hash_of}
use Rattle.alt_schema.specs.declared.schema.IndexSchema.{IndexSchema}
use Rattle.alt_schema.specs.declared.schema.TableSchema.{TableSchema}
use Rattle.alt_value.specs.Members.{text_order}
use Rattle.alt_value.proofs.TextTies.{empty_up_to}

-- ---- tokens as bytes

-- a place of a token alone
abbrev at_token : ℕ → Place
at_token token = record { token = token; parts = [] }

-- bytes that begin with a token are up to others where the token is
token_up_to : (m n : ℕ) (y : List ℕ) → m < 2 ^ 64 → n < 2 ^ 64
    → is_le (text_order (to_be_bytes w64 m) (to_be_bytes w64 n ++ y)) ≡ nat_le m n
token_up_to m n y hm hn =
    ap (λ l. is_le (text_order l (to_be_bytes w64 n ++ y))) (sym (append-nil (to_be_bytes w64 m)))
    ∙ ap is_le (token-order m n [] y hm hn) ∙ by (nat_cmp m n) refl
  where
    by : (o : Ordering) → nat_cmp m n ≡ o → is_le (ordering_then o (text_order [] y)) ≡ nat_le m n
    by Less e = grind (arith, e)
    by Equal e = empty_up_to y ∙ grind (arith, e)
    by Greater e = grind (arith, e)

-- ---- numbers

-- a token is at least the first of a segment where it times the count reaches the segment
first_reached : (number total token : ℕ) → 0 < total
    → nat_le (first_token number total) token ≡ nat_le (number * 2 ^ 64) (token * total)
first_reached number total token some = both_ways _ _
    (λ e.
    let le : first_token number total ≤ token = grind (arith, e) in
    let below : (number * 2 ^ 64 + (total - 1)) / total < token + 1 = omega (arith, le) in
    let more = (div-lt_iff_lt-mul {k = total} {x = number * 2 ^ 64 + (total - 1)} {y = token + 1}
    some).0 below in
    let grown : (token + 1) * total ≡ token * total + total = omega arith in
    grind (arith, more, grown, some))
    (λ e.
    let le : number * 2 ^ 64 ≤ token * total = grind (arith, e) in
    let grown : (token + 1) * total ≡ token * total + total = omega arith in
    let below = (div-lt_iff_lt-mul {k = total} {x = number * 2 ^ 64 + (total - 1)}
    {y = token + 1} some).1
    (omega (arith, le, grown, some)) in
    grind (arith, below))

-- a token is in the segment where it is between its first and that of the next
in_segment : (number total token : ℕ)
    → (token * total / 2 ^ 64 == number)
    ≡ (nat_le (number * 2 ^ 64) (token * total)
    && not (nat_le ((number + 1) * 2 ^ 64) (token * total)))
in_segment number total token = both_ways _ _
    (λ e.
    let is : token * total / 2 ^ 64 ≡ number = grind (arith, e) in
    let low = (le-div_iff_mul-le {k = 2 ^ 64} {x = number} {y = token * total} (omega arith)).0
    (omega (arith, is)) in
    let high = (div-lt_iff_lt-mul {k = 2 ^ 64} {x = token * total} {y = number + 1} (omega arith)).0
    (omega (arith, is)) in
    grind (arith, low, high))
    (λ e.
    let both : (number * 2 ^ 64 ≤ token * total) × (token * total < (number + 1) * 2 ^ 64) =
    grind (arith, e) in
    let low = (le-div_iff_mul-le {k = 2 ^ 64} {x = number} {y = token * total} (omega arith)).1
    both.0 in
    let high = (div-lt_iff_lt-mul {k = 2 ^ 64} {x = token * total} {y = number + 1} (omega arith)).1
    both.1 in
    grind (arith, low, high))

-- ---- the range

-- the first token of a segment is one
first_fits : (number total : ℕ) → number < total → total ≤ 2 ^ 64
    → first_token number total < 2 ^ 64
first_fits number total below few =
    (div-lt_iff_lt-mul {k = total} {x = number * 2 ^ 64 + (total - 1)} {y = 2 ^ 64}
    (omega (arith, below))).1
    (omega (arith, below, few))

module _ (number total token : ℕ) (y : List ℕ) (below : number < total) (few : total ≤ 2 ^ 64)
    (fits : token < 2 ^ 64) where
  -- a key begins with its token
  abbrev key : List ℕ
  key = to_be_bytes w64 token ++ y

  end_is : not (is_past_end text_order (end_bound (end_token (first_token (number + 1) total))) key)
      ≡ not (nat_le (first_token (number + 1) total) token)
  end_is = by (nat_lt (first_token (number + 1) total) (2 ^ 64)) refl
    where
      e : ℕ
      e = first_token (number + 1) total

      by : (b : Bool) → nat_lt (first_token (number + 1) total) (2 ^ 64) ≡ b
          → not (is_past_end text_order (end_bound (if b
          then Some (token_bytes (first_token (number + 1) total)) else None)) key)
          ≡ not (nat_le (first_token (number + 1) total) token)
      by true is = ap not (token_up_to (first_token (number + 1) total) token y
          (grind (arith, is)) fits)
      by false is = grind (arith, is, fits)

  -- the range holds it exactly where the token is in the segment
  pub contains_token : range_contains text_order (Included (token_bytes (first_token number total)))
      (end_bound (end_token (first_token (number + 1) total))) key
      ≡ (token * total / 2 ^ 64 == number)
  contains_token =
      (λ i. token_up_to (first_token number total) token y
      (first_fits number total below few) fits i
      && end_is i)
      ∙ (λ i. first_reached number total token (omega (arith, below)) i
      && not (first_reached (number + 1) total token (omega (arith, below)) i))
      ∙ sym (in_segment number total token)

-- The range of a segment's tokens, beyond a place, holds the items of the segment.
pub segment_holds : (d : TableSchema) (i : Option IndexSchema) (number total : ℕ) → number < total
    → total ≤ 2 ^ 64
    → (place : Option (List ℕ)) (first : List ℕ) (last : Option (List ℕ))
    → IsBeyond true place (token_bytes (first_token number total))
    (end_token (first_token (number + 1) total)) first last
    → HoldsListed true place
    (machine.is_in (hash_of d i) (Some (record { number = number; total = total }))) d i first last
segment_holds d i number total below few place first last beyond key item may =
    let keys = keyed_there d i key item may in
    let y = flat_map key_bytes (key_values keys.hash keys.range) ++ keys.behind in
    contains_beyond true place (token_bytes (first_token number total))
    (end_token (first_token (number + 1) total)) first last beyond key
    ∙ ap (λ b. b && is_beyond true place key)
    (ap (range_contains text_order (Included (token_bytes (first_token number total)))
    (end_bound (end_token (first_token (number + 1) total))))
    (keys.is ∙ append_assoc (to_be_bytes w64 (token_of keys.hash))
    (flat_map key_bytes (key_values keys.hash keys.range)) keys.behind)
    ∙ contains_token number total (token_of keys.hash) y below few (token_fits keys.hash)
    ∙ ap (λ o. option_map_or
    (machine.has_token (record { number = number; total = total })) o false)
    (sym keys.has_hash.at))
    ∙ and_comm
    (machine.is_in (hash_of d i) (Some (record { number = number; total = total })) item)
    (is_beyond true place key)

-- all places, beyond one of them, are those of all items
pub whole_holds : (d : TableSchema) (i : Option IndexSchema) (place : Option (List ℕ))
    (first : List ℕ)
    (last : Option (List ℕ)) → IsBeyond true place [] None first last
    → HoldsListed true place (machine.is_in (hash_of d i) None) d i first last
whole_holds d i place first last beyond key item may =
    contains_beyond true place [] None first last beyond key
    ∙ ap (λ b. (b && true) && is_beyond true place key) (empty_up_to key)
    ∙ and_comm true (is_beyond true place key)
