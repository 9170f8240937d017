-- A range of keys under a HASH value holds the keys that are asked for.
use Rattle.std.proofs.Common.{◌≡◌, refl, sym, ap, subst, ◌∙◌, ℕ, Bool, true, ◌&&◌, false, List, [], ◌∷◌, ◌++◌, Option, Some, None, append_assoc}
use Rattle.std.specs.Prelude.{◌↔◌}
use Rattle.std.specs.Int.{w64, to_be_bytes}
use Rattle.std.proofs.lemmas.List.{append-nil}
use Rattle.alt_value.specs.declared.kind.KeyKind.{KeyKind}
use Rattle.alt_value.specs.Stands.{tree_of}
use Rattle.alt_value.specs.Tree.{Tree}
use Rattle.alt_expr.specs.KeyForm.{in_range}
use Rattle.alt_keyorder.specs.KeyBytes.{key_bytes}
use Rattle.alt_keyorder.specs.Kinds.{IsOfKind, IsKeyFor, IsPlaceOf}
use Rattle.alt_keyorder.specs.Place.{place_bytes, place_in_table}
use Rattle.alt_keyorder.specs.Token.{token_of}
use Rattle.alt_keyorder.proofs.PlaceLaws.{one_place}
use Rattle.alt_keyorder.proofs.Tokens.{token_fits}
use Rattle.alt_keycond.specs.Asked.{test_of}
use Rattle.alt_keycond.specs.KeysAsked.{AsksKeys, AsksOfKind, HoldsAsked, Meets, IsRangeUnder}
use Rattle.alt_keycond.specs.declared.ask.KeyAsk.{KeyAsk}
use Rattle.alt_keycond.specs.declared.ask.RangeAsk.{RangeAsk}
use Rattle.alt_keycond.specs.declared.ask.RangeAsk.TheVariants as r
use Rattle.alt_keycond.proofs.Wanted.{meets_eq, meets_lt, meets_le, meets_ge, meets_gt, meets_front}

-- what a place has behind its HASH value
abbrev range_bytes : Option Tree → List ℕ
range_bytes None = []
range_bytes (Some range) = key_bytes range

abbrev hash_bytes : Tree → List ℕ
hash_bytes hash = place_bytes (place_in_table hash None)

-- a key is that of its HASH value, and what goes on behind
behind : (hash : Tree) (range : Option Tree) (more : List ℕ)
    → place_bytes (place_in_table hash range) ++ more
    ≡ hash_bytes hash ++ (range_bytes range ++ more)
behind hash None more = refl
behind hash (Some range) more =
    regroup (to_be_bytes w64 (token_of hash)) (key_bytes hash) (key_bytes range) more
  where
    regroup : (a b c d : List ℕ) → (a ++ (b ++ (c ++ []))) ++ d ≡ (a ++ (b ++ [])) ++ (c ++ d)
    regroup a b c d = simp (append_assoc, append-nil)

hash_place : (h : KeyKind) (hash : Tree) → IsOfKind h hash
    → IsPlaceOf (h ∷ []) (place_in_table hash None)
hash_place h hash k = record { token = token_fits hash; parts = (k, tt) }

-- the only part of a place
only_part : List Tree → Tree → Tree
only_part [] d = d
only_part (t ∷ ts) d = t

-- keys that begin with the bytes of a HASH value have it, and one thing behind it
one_hash : (h : KeyKind) (a b : Tree) (x y : List ℕ) → IsOfKind h a → IsOfKind h b
    → hash_bytes a ++ x ≡ hash_bytes b ++ y → (a ≡ b) × (x ≡ y)
unfolding only_part
one_hash h a b x y k l e =
    let one = one_place (h ∷ []) (place_in_table a None) (place_in_table b None) x y
    (hash_place h a k) (hash_place h b l) e in
    (ap (λ p. only_part p.parts a) one.0, one.1)

hash_of_key : (h : KeyKind) (k : Option KeyKind) (hash : Tree) (range : Option Tree)
    → IsKeyFor h k hash range → IsOfKind h hash
hash_of_key h None hash None f = f
hash_of_key h None hash (Some range) f = absurd f
hash_of_key h (Some k) hash None f = absurd f
hash_of_key h (Some k) hash (Some range) f = f.0

-- what goes on behind the HASH value meets the ask where the RANGE value meets its test
meets_test : (ask : RangeAsk) (h : KeyKind) (k : Option KeyKind) (hash : Tree) (range : Option Tree)
    (more : List ℕ) → AsksKeys ask → AsksOfKind k ask → IsKeyFor h k hash range
    → Meets ask (range_bytes range ++ more) ↔ (in_range (test_of ask) range ≡ true)
meets_test r.All h k hash range more keys of key = ((λ m. refl), λ m. tt)
meets_test (r.Eq v) h (Some k) hash (Some t) more keys of key =
    meets_eq k t (tree_of v) key.1 of more
meets_test (r.Lt v) h (Some k) hash (Some t) more keys of key =
    meets_lt k t (tree_of v) key.1 of more
meets_test (r.Le v) h (Some k) hash (Some t) more keys of key =
    meets_le k t (tree_of v) key.1 of more
meets_test (r.Gt v) h (Some k) hash (Some t) more keys of key =
    meets_gt k t (tree_of v) key.1 of more
meets_test (r.Ge v) h (Some k) hash (Some t) more keys of key =
    meets_ge k t (tree_of v) key.1 of more
meets_test (r.Between low high) h (Some k) hash (Some t) more keys of key =
    let a = meets_ge k t (tree_of low) key.1 of.0 more in
    let b = meets_le k t (tree_of high) key.1 of.1 more in
    ((λ m. and_so _ _ (a.0 m.0) (b.0 m.1)), λ e. let w = and_both _ _ e in (a.1 w.0, b.1 w.1))
  where
    and_so : (x y : Bool) → x ≡ true → y ≡ true → (x && y) ≡ true
    and_so x y p q = ap (λ z. z && y) p ∙ q

    and_both : (x y : Bool) → (x && y) ≡ true → (x ≡ true) × (y ≡ true)
    and_both true y e = (refl, e)
    and_both false y e = cc
meets_test (r.Begins v) h (Some k) hash (Some t) more keys of key =
    meets_front k t (tree_of v) more key.1 of keys
meets_test _ h (Some k) hash None more keys of key = absurd key
meets_test _ h None hash range more keys of key = absurd of

-- a range under the bytes of a HASH value holds what is asked
pub holds_asked : (ask : KeyAsk) (from : List ℕ) (to : Option (List ℕ)) → AsksKeys ask.range
    → IsRangeUnder (hash_bytes (tree_of ask.hash)) ask.range from to → HoldsAsked ask from to
unfolding HoldsAsked IsRangeUnder
holds_asked ask from to keys under h k hash_kind range_kind hash range more key bytes =
    let whole = behind hash range more in
    let u = under (place_bytes (place_in_table hash range) ++ more) bytes in
    let m = meets_test ask.range h k hash range more keys range_kind key in (
      (λ inside.
          let y = u.0 inside in
          let one = one_hash h hash (tree_of ask.hash) (range_bytes range ++ more) y.0
          (hash_of_key h k hash range key) hash_kind (sym whole ∙ y.1) in
          (one.0, m.0 (subst (Meets ask.range) (sym one.1) y.2))),
      λ w. u.1 (range_bytes range ++ more, whole ∙ ap (λ t. hash_bytes t ++ (range_bytes range ++ more)) w.0, m.1 w.1),
    )
