-- Pairs put in turn: the last at a name counts, in whatever order the names come.
use Rattle.std.proofs.Common.{◌≡◌, refl, sym, ap, subst, ◌∙◌, ℕ, zero, suc, Bool, true, false, cond, not, ◌&&◌, T, List, [], ◌∷◌, ◌++◌, map, Some, None, append_assoc, append-nil, arith}
use Rattle.std.specs.Prelude.{Option}
use Rattle.std.proofs.lemmas.List.{map-append}
use Rattle.std.specs.List.{All, filter}
use Rattle.std.specs.List.Sorted.{IsStableBy, ties}
use Rattle.std.specs.declared.cmp.Ordering.TheVariants.{Less, Equal, Greater}
use Rattle.std.specs.Ordering.{is_lt, is_eq, eq_by_cmp}
use Rattle.std.specs.FinMap.Entries.{find, below_all, is_sorted, is_sorted-put, find-put, same_entries}
use Rattle.alt_base.proofs.Bools.{first_holds, second_holds}
use Rattle.alt_base.proofs.Orderings.{is_lt-holds}
use Rattle.alt_value.specs.declared.attr.Attr.TheVariants.{Null}
use Rattle.alt_value.specs.declared.attr.Pair.{Pair as Entry}
use Rattle.alt_value.specs.Named.{IsNamed}
use Rattle.alt_value.specs.Item.{IsItem, with_pair, with_pairs}
use Rattle.alt_value.specs.Members.{text_order}
use Rattle.alt_value.specs.Stands.{tree_of, pair_of}
use Rattle.alt_value.specs.Tree.{Tree, Pair}
use Rattle.alt_value.proofs.Entries.{below_at}
use Rattle.alt_value.proofs.Places.{turned}
use Rattle.alt_value.proofs.TextTies.{above_empty}
use Rattle.alt_value.proofs.Texts.{text_total, text_apart}

-- one entry's name is below another's
abbrev pub below_by_name : Entry → Entry → Bool
below_by_name e f = is_lt (text_order e.name f.name)

-- the value of the last entry of a name, else the one that was there before
abbrev last_of : List ℕ → List Entry → Option Tree → Option Tree
last_of name [] was = was
last_of name (e ∷ es) was = last_of name es
    (cond (eq_by_cmp text_order name e.name) (Some (tree_of e.value)) was)

-- it is what is found where the entries were put in turn
find-with_pairs : (name : List ℕ) (es : List Entry) (ps : List Pair)
    → find text_order name (with_pairs (map pair_of es) ps)
    ≡ last_of name es (find text_order name ps)
find-with_pairs name [] ps = refl
find-with_pairs name (e ∷ es) ps =
    find-with_pairs name es (with_pair e.name (tree_of e.value) ps)
    ∙ ap (last_of name es) (find-put text_order text_total name e.name (tree_of e.value) ps)

-- entries tie where they have one name
ties-name : (x e : Entry) → ties below_by_name x e ≡ eq_by_cmp text_order x.name e.name
ties-name x e =
    elim (text_order x.name e.name) as (λ r. text_order x.name e.name ≡ r
    → (not (is_lt r) && not (is_lt (text_order e.name x.name))) ≡ is_eq r) [
      | Less ↦ λ p. refl
      | Equal ↦ λ p. ap (λ r. not (is_lt r)) (turned text_order text_total x.name e.name Equal p)
      | Greater ↦ λ p. ap (λ r. not (is_lt r))
          (turned text_order text_total x.name e.name Greater p)
    ] refl

-- and no other entries count
last_of-ties : (x : Entry) (es : List Entry) (was : Option Tree)
    → last_of x.name (filter (ties below_by_name x) es) was ≡ last_of x.name es was
last_of-ties x [] was = refl
last_of-ties x (e ∷ es) was =
    elim (ties below_by_name x e) as (λ b. ties below_by_name x e ≡ b → last_of x.name
    (cond b (e ∷ filter (ties below_by_name x) es) (filter (ties below_by_name x) es)) was
    ≡ last_of x.name (e ∷ es) was) [
      | true ↦ λ t. last_of-ties x es
          (cond (eq_by_cmp text_order x.name e.name) (Some (tree_of e.value)) was)
      | false ↦ λ t. last_of-ties x es was
          ∙ ap (λ b. last_of x.name es (cond b (Some (tree_of e.value)) was))
          (sym (sym (ties-name x e) ∙ t))
    ] refl

-- names that rise still do
is_sorted-with_pairs : (ps item : List Pair) → T (is_sorted text_order item)
    → T (is_sorted text_order (with_pairs ps item))
is_sorted-with_pairs [] item h = h
is_sorted-with_pairs (p ∷ ps) item h = is_sorted-with_pairs ps (with_pair p.0 p.1 item)
    (is_sorted-put text_order text_total p.0 p.1 item h)

-- so a stable sort leaves the item
pub with_pairs-stable : (xs ys : List Entry) → IsStableBy below_by_name xs ys
    → with_pairs (map pair_of ys) [] ≡ with_pairs (map pair_of xs) []
with_pairs-stable xs ys stable =
    same_entries text_order text_total text_apart (with_pairs (map pair_of ys) [])
    (with_pairs (map pair_of xs) []) (is_sorted-with_pairs (map pair_of ys) [] tt)
    (is_sorted-with_pairs (map pair_of xs) [] tt)
    (λ name. let x : Entry = record { name = name; value = Null } in
    find-with_pairs name ys [] ∙ sym (last_of-ties x ys None)
    ∙ ap (λ es. last_of name es None) (stable x) ∙ last_of-ties x xs None
    ∙ sym (find-with_pairs name xs []))

-- ---- names that rise

-- a name below each of several is below one in their midst
end_below : (x : List ℕ) (qs : List Pair) (p : Pair) (ps : List Pair)
    → T (below_all text_order x (qs ++ p ∷ ps)) → text_order x p.0 ≡ Less
end_below x [] p ps h = is_lt-holds _ (first_holds _ _ h)
end_below x (q ∷ qs) p ps h = end_below x qs p ps (second_holds _ _ h)

-- a name above all is put in at the end
with_pair-end : (qs : List Pair) (p : Pair) (ps : List Pair)
    → T (is_sorted text_order (qs ++ p ∷ ps)) → with_pair p.0 p.1 qs ≡ qs ++ p ∷ []
with_pair-end [] p ps h = refl
with_pair-end (q ∷ qs) p ps h =
    rw (turned text_order text_total q.0 p.0 Less (end_below q.0 qs p ps (first_holds _ _ h)))
    (ap (λ (l : List Pair). q ∷ l) (with_pair-end qs p ps (second_holds _ _ h)))

-- pairs whose names rise are put in one behind the other
with_pairs-end : (qs ps : List Pair) → T (is_sorted text_order (qs ++ ps))
    → with_pairs ps qs ≡ qs ++ ps
with_pairs-end qs [] h = sym (append-nil qs)
with_pairs-end qs (p ∷ ps) h =
    ap (with_pairs ps) (with_pair-end qs p ps h)
    ∙ with_pairs-end (qs ++ p ∷ []) ps
    (subst (λ l. T (is_sorted text_order l)) (sym (append_assoc qs (p ∷ []) ps)) h)
    ∙ append_assoc qs (p ∷ []) ps

-- some pairs and then others
with_pairs-append : (ps qs item : List Pair)
    → with_pairs (ps ++ qs) item ≡ with_pairs qs (with_pairs ps item)
with_pairs-append [] qs item = refl
with_pairs-append (p ∷ ps) qs item = with_pairs-append ps qs (with_pair p.0 p.1 item)

-- the entries of an item, and then others
pub with_pairs-behind : (es fs : List Entry) → IsItem (map pair_of es)
    → with_pairs (map pair_of (es ++ fs)) [] ≡ with_pairs (map pair_of fs) (map pair_of es)
with_pairs-behind es fs item =
    ap (λ ps. with_pairs ps []) (map-append pair_of es fs)
    ∙ with_pairs-append (map pair_of es) (map pair_of fs) []
    ∙ ap (with_pairs (map pair_of fs)) (with_pairs-end [] (map pair_of es) item.0)

-- one more entry
pub with_pairs-push : (es : List Entry) (e : Entry) (item : List Pair)
    → with_pairs (map pair_of (es ++ e ∷ [])) item
    ≡ with_pair e.name (tree_of e.value) (with_pairs (map pair_of es) item)
with_pairs-push [] e item = refl
with_pairs-push (f ∷ fs) e item = with_pairs-push fs e (with_pair f.name (tree_of f.value) item)

-- ---- names that aren't empty

-- no name of an item is empty
pub named-item : (es : List Entry) → IsItem (map pair_of es) → All IsNamed es
named-item es item = λ k d within. above_empty _ (below_at [] es k d item.1 within)

-- nor one of several and one more
pub named-one : (e : Entry) → IsNamed e → All IsNamed (e ∷ [])
named-one e h zero d within = h
named-one e h (suc k) d within = absurd (omega arith)

-- nor one of those behind the first
pub named-behind : (e : Entry) (es : List Entry) → All IsNamed (e ∷ es) → All IsNamed es
named-behind e es h = λ k d within. h (suc k) d (omega arith)
