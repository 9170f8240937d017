-- Values that are large, and what stands in for them.
use Rattle.std.proofs.Common.{◌≡◌, refl, sym, ap, subst, ◌∙◌, ℕ, zero, suc, ◌+◌, ◌*◌, ◌<◌, ◌≤◌, nat_le, Bool, true, false, List, [], ◌∷◌, ◌++◌, drop, drop-cons, add-one, get_or, length, Some, None, arith}
use Rattle.std.specs.Prelude.{slice_get, max, if◌then◌else◌}
use Rattle.std.proofs.lemmas.Bool.{leb-true, leb-false, le-leb, lt-leb}
use Rattle.std.proofs.lemmas.Option.{slice_get_read, same_Some}
use denote.Ref.{Bor}
use Rattle.alt_value.specs.Size.{depth, elements_depth, size, elements_size, within}
use Rattle.alt_value.specs.Stands.{tree_of}
use Rattle.alt_value.specs.Tree.{Tree, S_tree, N_tree, B_tree, BOOL_tree, NULL_tree, SS_tree, NS_tree, BS_tree, L_tree, M_tree, Trees, trees_of, elements}
use Rattle.alt_value.specs.declared.attr.Attr.{Attr}
use Rattle.alt_value.proofs.Trees.{elements-trees_of, trees_of-elements}
use Rattle.alt_updeval.specs.Shown.{elements_of, joined_pieces, IsLarge, IsLargeList, is_number}
use Rattle.alt_updeval.specs.StandsIn.{longest_key, as_key, StandsIn, nest}

-- ---- nests

nest_depth : (n : ℕ) → depth (nest n) ≡ n
nest_depth zero = refl
nest_depth (suc n) = ap suc (let e = nest_depth n in omega (arith, e))

nest_size : (n : ℕ) → size (nest n) ≡ 1 + 4 * n
nest_size zero = refl
nest_size (suc n) = let e = nest_size n in omega (arith, e)

nest_key : (n : ℕ) → as_key (nest n) ≡ None
nest_key zero = refl
nest_key (suc n) = refl

-- a nest as deep as a large value stands in for it
pub nest_for : (n : ℕ) (t u : Tree) → t ≡ nest n → depth u ≡ n → n ≤ 32 → IsLarge u → StandsIn t u
nest_for n t u is deep few large =
    subst (λ (v : Tree). StandsIn v u) (sym is) (record {
      as_deep = nest_depth n ∙ sym deep;
      no_larger = let a = nest_size n in let b : 2048 < size u = large.large in omega (arith, a, b, few);
      same_key = nest_key n ∙ sym large.no_key;
    })

-- ---- large values

too_large : (n : ℕ) → within longest_key n ≡ None → longest_key < n
too_large n e = (elim (nat_le n longest_key) as (λ (b : Bool). nat_le n longest_key ≡ b
    → (if b then Some n else None) ≡ None → longest_key < n) [
      | true ↦ λ is none. absurd (let f : ⊥ = cc in f)
      | false ↦ λ is none. leb-false n longest_key is
    ]) refl e

key_none : (n : ℕ) (t : Tree) → longest_key < n → (if nat_le n longest_key then Some t else None) ≡ None
key_none n t h = ap (λ (b : Bool). if b then Some t else None) (lt-leb n longest_key h)

-- a value that isn't small, and is no number
pub large_is : (t : Tree) → is_number t ≡ false → within longest_key (size t) ≡ None → IsLarge t
large_is (S_tree s) other e =
    let h = too_large (length s) e in record { large = h; no_key = key_none (length s) (S_tree s) h }
large_is (B_tree b) other e =
    let h = too_large (length b) e in record { large = h; no_key = key_none (length b) (B_tree b) h }
large_is (N_tree z) other e = absurd (let f : ⊥ = cc in f)
large_is (BOOL_tree b) other e = record { large = too_large _ e; no_key = refl }
large_is NULL_tree other e = record { large = too_large _ e; no_key = refl }
large_is (SS_tree ss) other e = record { large = too_large _ e; no_key = refl }
large_is (NS_tree zs) other e = record { large = too_large _ e; no_key = refl }
large_is (BS_tree bs) other e = record { large = too_large _ e; no_key = refl }
large_is (L_tree ts) other e = record { large = too_large _ e; no_key = refl }
large_is (M_tree fs) other e = record { large = too_large _ e; no_key = refl }

-- a list that isn't small
pub large_list : (ts : Trees) → within longest_key (size (L_tree ts)) ≡ None → IsLargeList (L_tree ts)
large_list ts e = too_large (size (L_tree ts)) e

-- ---- lists one behind another

size-append : (xs ys : List Tree)
    → elements_size (trees_of (xs ++ ys)) ≡ elements_size (trees_of xs) + elements_size (trees_of ys)
size-append [] ys = omega arith
size-append (x ∷ xs) ys = let e = size-append xs ys in omega (arith, e)

count-append : (xs ys : List Tree) → length (elements (trees_of (xs ++ ys)))
    ≡ length (elements (trees_of xs)) + length (elements (trees_of ys))
count-append [] ys = omega arith
count-append (x ∷ xs) ys = let e = count-append xs ys in omega (arith, e)

depth-append : (xs ys : List Tree) → elements_depth (trees_of (xs ++ ys))
    ≡ max (elements_depth (trees_of xs)) (elements_depth (trees_of ys))
depth-append [] ys = omega arith
depth-append (x ∷ xs) ys = let e = depth-append xs ys in omega (arith, e)

-- a list among them
abbrev all_of : List (Bor Attr) → Tree
all_of ps = L_tree (trees_of (joined_pieces ps))

no_smaller : (p : Bor Attr) (ps : List (Bor Attr)) → size (all_of ps) ≤ size (all_of (p ∷ ps))
no_smaller p ps =
    let xs : List Tree = elements_of (tree_of p.now) in
    let a = size-append xs (joined_pieces ps) in
    let b = count-append xs (joined_pieces ps) in
    omega (arith, a, b)

large_first : (t : Tree) (ys : List Tree) → IsLargeList t
    → longest_key < size (L_tree (trees_of (elements_of t ++ ys)))
large_first (L_tree ts) ys h =
    let a = size-append (elements ts) ys in
    let b = count-append (elements ts) ys in
    let c : elements_size (trees_of (elements ts)) ≡ elements_size ts = ap elements_size (trees_of-elements ts) in
    let d : length (elements (trees_of (elements ts))) ≡ length (elements ts) =
    ap (λ (us : Trees). length (elements us)) (trees_of-elements ts) in
    let e : 2048 < 3 + length (elements ts) + elements_size ts = h in
    let f : 2048 < size (L_tree (trees_of (elements ts ++ ys))) = omega (arith, a, b, c, d, e) in f
large_first (S_tree s) ys h = absurd h
large_first (N_tree z) ys h = absurd h
large_first (B_tree b) ys h = absurd h
large_first (BOOL_tree b) ys h = absurd h
large_first NULL_tree ys h = absurd h
large_first (SS_tree ss) ys h = absurd h
large_first (NS_tree zs) ys h = absurd h
large_first (BS_tree bs) ys h = absurd h
large_first (M_tree fs) ys h = absurd h

large_among : (ps : List (Bor Attr)) (i : ℕ) (p : Bor Attr) → slice_get ps i ≡ Some p
    → IsLargeList (tree_of p.now) → longest_key < size (all_of ps)
large_among [] i p e h = absurd (let f : ⊥ = cc in f)
large_among (q ∷ ps) zero p e h = large_first (tree_of q.now) (joined_pieces ps)
    (subst (λ (r : Bor Attr). IsLargeList (tree_of r.now)) (sym (same_Some q p e)) h)
large_among (q ∷ ps) (suc i) p e h =
    let a : 2048 < size (all_of ps) = large_among ps i p e h in
    let b = no_smaller q ps in
    let f : 2048 < size (all_of (q ∷ ps)) = omega (arith, a, b) in f

-- one large list makes them large
pub large_piece : (ps : List (Bor Attr)) (i : ℕ) (p : Bor Attr) → slice_get ps i ≡ Some p
    → IsLargeList (tree_of p.now) → IsLarge (L_tree (trees_of (joined_pieces ps)))
large_piece ps i p e h = record { large = large_among ps i p e h; no_key = refl }

-- the same of the one that is looked at
pub large_at : (ps : List (Bor Attr)) (i : ℕ) (p : Bor Attr) → i < length ps → p ≡ get_or ps i p
    → IsLargeList (tree_of p.now) → IsLarge (L_tree (trees_of (joined_pieces ps)))
large_at ps i p lt is h = large_piece ps i p (slice_get_read ps (length ps) i p refl lt is) h

-- ---- depths of lists one behind another

-- the one that is looked at stands before the rest
ahead : (ps : List (Bor Attr)) (i : ℕ) (p : Bor Attr) → i < length ps → p ≡ get_or ps i p
    → drop i ps ≡ p ∷ drop (i + 1) ps
ahead ps i p lt is = drop-cons ps i p lt ∙ ap (λ x. x ∷ drop (suc i) ps) (sym is)
    ∙ ap (λ n. p ∷ drop n ps) (sym (add-one i))

-- the depth of one list, and of the rest
depth_both : (p : Bor Attr) (ps : List (Bor Attr)) → depth (all_of (p ∷ ps))
    ≡ max (depth (L_tree (trees_of (elements_of (tree_of p.now))))) (depth (all_of ps))
depth_both p ps =
    let e = depth-append (elements_of (tree_of p.now)) (joined_pieces ps) in omega (arith, e)

-- one that isn't too deep leaves it to the rest
pub within_on : (ps : List (Bor Attr)) (i : ℕ) (p : Bor Attr) (most : ℕ) → i < length ps
    → p ≡ get_or ps i p
    → nat_le (depth (L_tree (trees_of (elements_of (tree_of p.now))))) most ≡ true
    → nat_le (depth (all_of (drop i ps))) most ≡ nat_le (depth (all_of (drop (i + 1) ps))) most
within_on ps i p most lt is fits =
    let rest : List (Bor Attr) = drop (i + 1) ps in
    let a = leb-true (depth (L_tree (trees_of (elements_of (tree_of p.now))))) most fits in
    let b = depth_both p rest in
    ap (λ (qs : List (Bor Attr)). nat_le (depth (all_of qs)) most) (ahead ps i p lt is)
    ∙ (elim (nat_le (depth (all_of rest)) most) as (λ (c : Bool).
    nat_le (depth (all_of rest)) most ≡ c → nat_le (depth (all_of (p ∷ rest))) most ≡ c) [
      | true ↦ λ e.
          let d = leb-true (depth (all_of rest)) most e in
          le-leb (depth (all_of (p ∷ rest))) most (omega (arith, a, b, d))
      | false ↦ λ e.
          let d = leb-false (depth (all_of rest)) most e in
          lt-leb (depth (all_of (p ∷ rest))) most (omega (arith, a, b, d))
    ]) refl

-- one that is too deep is enough
pub within_not : (ps : List (Bor Attr)) (i : ℕ) (p : Bor Attr) (most : ℕ) → i < length ps
    → p ≡ get_or ps i p
    → nat_le (depth (L_tree (trees_of (elements_of (tree_of p.now))))) most ≡ false
    → nat_le (depth (all_of (drop i ps))) most ≡ false
within_not ps i p most lt is steep =
    let rest : List (Bor Attr) = drop (i + 1) ps in
    let a = leb-false (depth (L_tree (trees_of (elements_of (tree_of p.now))))) most steep in
    let b = depth_both p rest in
    ap (λ (qs : List (Bor Attr)). nat_le (depth (all_of qs)) most) (ahead ps i p lt is)
    ∙ lt-leb (depth (all_of (p ∷ rest))) most (omega (arith, a, b))

-- the depth of a list by itself
pub alone : (t : Tree) (ts : List Tree) → t ≡ L_tree (trees_of ts)
    → L_tree (trees_of (elements_of t)) ≡ t
alone t ts e = ap (λ u. L_tree (trees_of (elements_of u))) e
    ∙ ap (λ us. L_tree (trees_of us)) (elements-trees_of ts) ∙ sym e
