-- Members whose names rise: one whose name is behind all of them is put at their end.
use Rattle.std.proofs.Common.{◌≡◌, refl, sym, ap, subst, ◌∙◌, List, Less, Greater, nat_cmp}
use Rattle.std.specs.Cmp.Lexicographic.{slice_cmp}
use Rattle.std.specs.Ordering.{match_ordering, ordering_reverse}
use Rattle.std.proofs.lemmas.Cmp.{nat_list_cmp_total}
use Rattle.std.specs.Prelude.{ℕ}
use Rattle.serde_json.specs.Data.{Data, Members, no_members, member, put}

-- members, and those behind them
abbrev pub strung : Members → Members → Members
strung no_members rest = rest
strung (member l d ms) rest = member l d (strung ms rest)

-- none behind them
pub strung-no_members : (ms : Members) → strung ms no_members ≡ ms
strung-no_members no_members = refl
strung-no_members (member l d ms) = ap (λ ns. member l d ns) (strung-no_members ms)

-- one behind them, and others behind that
pub strung-one : (k : List ℕ) (d : Data) (ms ns : Members)
    → strung (strung ms (member k d no_members)) ns ≡ strung ms (member k d ns)
strung-one k d no_members ns = refl
strung-one k d (member l e ms) ns = ap (λ xs. member l e xs) (strung-one k d ms ns)

-- A name is behind all of these.
abbrev pub IsBehind : List ℕ → Members → Type 0
IsBehind k no_members = Unit {0}
IsBehind k (member l d ms) = (slice_cmp nat_cmp k l ≡ Greater) × IsBehind k ms

behind_one : (k l : List ℕ) (d : Data) (ms : Members) → IsBehind k ms
    → slice_cmp nat_cmp k l ≡ Greater → IsBehind k (strung ms (member l d no_members))
behind_one k l d no_members h e = (e, tt)
behind_one k l d (member m x ms) h e = (h.0, behind_one k l d ms h.1 e)

-- so it is put at the end
pub put_behind : (k : List ℕ) (d : Data) (ms : Members) → IsBehind k ms
    → put k d ms ≡ strung ms (member k d no_members)
put_behind k d no_members h = refl
put_behind k d (member l e ms) h =
    ap (λ o. match_ordering o (member k d (member l e ms)) (member l d ms)
    (member l e (put k d ms))) h.0
    ∙ ap (λ ns. member l e ns) (put_behind k d ms h.1)

-- the order of names
pub less_then : (x y z : List ℕ) → slice_cmp nat_cmp x y ≡ Less → slice_cmp nat_cmp y z ≡ Less
    → slice_cmp nat_cmp x z ≡ Less
less_then x y z = nat_list_cmp_total.trans x y z

-- whatever is behind a name that is put behind all of these, and behind these, is behind all of them then
pub behind_more : (name : List ℕ) (d : Data) (ms : Members) (k : List ℕ) → IsBehind k ms
    → slice_cmp nat_cmp name k ≡ Less → IsBehind name ms → IsBehind k (put name d ms)
behind_more name d ms k behind less at =
    subst (IsBehind k) (sym (put_behind name d ms at)) (behind_one k name d ms behind
    (nat_list_cmp_total.antisymm k name ∙ ap ordering_reverse less))
