-- One turn of the loops over groups, and their ends.
use Rattle.std.proofs.Common.{◌≡◌, refl, sym, ap, ◌∙◌, ℕ, ◌+◌, ◌<◌, ◌≤◌, Bool, true, false, cond, List, [], ◌∷◌, ◌++◌, map, take, length, get_or, Option, Some, None, Vec, Global, arith}
use Rattle.std.specs.Prelude.{option_copied, option_to_list, slice_get, filter, is_none, nat_le}
use Rattle.std.specs.List.{list_any}
use Rattle.std.specs.List.Sorted.{IsStrictlySortedBy}
use Rattle.std.specs.Map.{lookup, keys_of}
use Rattle.std.specs.Option.{option_map_or, option_or}
use Rattle.std.specs.declared.cmp.Ordering.{Ordering}
use Rattle.std.specs.Ordering.{eq_by_cmp, nat_cmp}
use Rattle.std.specs.Cmp.{nat_cmp_total}
use Rattle.std.proofs.lemmas.List.{take_all, take_more}
use Rattle.std.proofs.lemmas.Option.{slice_get_read}
use denote.Ref.{Bor}
use Rattle.alt_value.specs.Item.{at_name}
use Rattle.alt_value.specs.Members.{text_order}
use Rattle.alt_value.specs.Tree.{Tree, Pair, trees_of, elements}
use Rattle.alt_value.proofs.Texts.{text_total, text_apart}
use Rattle.alt_expr.specs.declared.path.PathPart.{PathPart}
use Rattle.alt_expr.specs.declared.path.PathPart.TheVariants.{Name, Index}
use Rattle.alt_expr.specs.Updated.{Edit, under, changed, changed_elements, put_here, elements_past_end}
use Rattle.alt_updeval.specs.declared.made.Made.{Made}
use Rattle.alt_updeval.specs.Shown.{way_of, way_at_name, way_at_index, ways_in, named_edits, indexed_edits, new_names, edits_past_end, put_at, new_at, put_new_if}
use Rattle.alt_updeval.proofs.Groups.{any_more, commute, group_at, no_group}
use Rattle.alt_updeval.proofs.Lists.{walked, walked-more, walked-elements, puts, puts-more, puts-past, edits_of, past-under}
use Rattle.alt_updeval.proofs.Maps.{Seen, seen_more, put_new}
use Rattle.alt_updeval.proofs.Taking.{take-one_more}
use Rattle.alt_updeval.proofs.Under.{at_key, at_filter, named-under, indexed-under}

-- what goes on behind a first name or index
abbrev pub Way : Type 0
Way = Bor (List PathPart) × Option (Bor Made)

-- the order of names by their texts
abbrev pub str_cmp : Bor (List ℕ) → Bor (List ℕ) → Ordering
str_cmp x y = text_order x.now y.now

-- ---- groups that are looked up

found : (r : Option (Bor (Vec Way Global))) → ways_in r
    ≡ map way_of (option_map_or (λ g. g.items) (option_copied r) [])
found None = refl
found (Some v) = refl

-- the edits at an index
pub at_index : (es : List Edit) (pairs : List (ℕ × Way)) → map way_at_index pairs ≡ indexed_edits es
    → (r : Option (Bor (Vec Way Global))) (o : Option (Vec Way Global)) (i : ℕ)
    → option_copied r ≡ o
    → option_map_or (λ g. g.items) o [] ≡ map (λ (p : ℕ × Way). p.1)
    (filter (λ (p : ℕ × Way). eq_by_cmp nat_cmp p.0 i) pairs)
    → ways_in r ≡ under (Index i) es
at_index es pairs same r o i is held =
    found r ∙ ap (λ (s : Option (Vec Way Global)). map way_of (option_map_or (λ g. g.items) s []))
    is ∙ ap (map way_of) held
    ∙ commute (λ (k : ℕ). k) nat_cmp nat_cmp_total way_of i pairs
    ∙ ap (at_key (λ k. eq_by_cmp nat_cmp k i)) same ∙ indexed-under i es

-- the edits at a name
pub at_text : (es : List Edit) (pairs : List (Bor (List ℕ) × Way))
    → map way_at_name pairs ≡ named_edits es
    → (r : Option (Bor (Vec Way Global))) (o : Option (Vec Way Global)) (q : Bor (List ℕ))
    → option_copied r ≡ o
    → option_map_or (λ g. g.items) o [] ≡ map (λ (p : Bor (List ℕ) × Way). p.1)
    (filter (λ (p : Bor (List ℕ) × Way). eq_by_cmp str_cmp p.0 q) pairs)
    → ways_in r ≡ under (Name q.now) es
at_text es pairs same r o q is held =
    found r ∙ ap (λ (s : Option (Vec Way Global)). map way_of (option_map_or (λ g. g.items) s []))
    is ∙ ap (map way_of) held
    ∙ commute (λ (k : Bor (List ℕ)). k.now) text_order text_total way_of q.now pairs
    ∙ ap (at_key (λ k. eq_by_cmp text_order k q.now)) same ∙ named-under q.now es

-- ---- the elements of a list

-- one element more, with what its edits make of it
pub list_more : (es us : List Edit) (ts : List Tree) (i : ℕ) (t : Tree) (before now : List Tree)
    → us ≡ under (Index i) es → i < length ts → Some t ≡ slice_get ts i
    → before ≡ walked (λ k. under (Index k) es) 0 (take i ts)
    → now ≡ before ++ option_to_list (changed us t)
    → now ≡ walked (λ k. under (Index k) es) 0 (take (i + 1) ts)
list_more es us ts i t before now is lt stands was put =
    put ∙ ap (λ (vs : List Edit). before ++ option_to_list (changed vs t)) is
    ∙ ap (λ (l : List Tree). l ++ option_to_list (changed (under (Index i) es) t)) was
    ∙ sym (walked-more (λ k. under (Index k) es) ts i t (omega arith) (take-one_more ts i t stands))

-- behind the last element stand those that are put past the end
pub list_all : (es : List Edit) (ts : List Tree) (i : ℕ) (out now : List Tree) → length ts ≤ i
    → out ≡ walked (λ k. under (Index k) es) 0 (take i ts)
    → now ≡ out ++ map (λ (p : ℕ × Tree). p.1) (elements_past_end (length ts) es)
    → now ≡ elements (changed_elements es 0 (trees_of ts))
    ++ map (λ (p : ℕ × Tree). p.1) (elements_past_end (length ts) es)
list_all es ts i out now le was put =
    put ∙ ap (λ (l : List Tree). l ++ map (λ (p : ℕ × Tree). p.1) (elements_past_end (length ts) es))
    (was ∙ ap (walked (λ k. under (Index k) es) 0) (take_all i ts le) ∙ walked-elements es 0 ts)

-- ---- what is put past the end

-- the edits of a group
abbrev pub shown_group : Vec Way Global → List Edit
shown_group v = map way_of v.items

module _ (es : List Edit) (n : ℕ) (pairs : List (ℕ × Way))
    (same : map way_at_index pairs ≡ edits_past_end n (indexed_edits es))
    (xs : List (ℕ × Vec Way Global)) (rising : IsStrictlySortedBy nat_cmp (keys_of xs))
    (held : (q : ℕ) → option_map_or (λ g. g.items) (lookup (eq_by_cmp nat_cmp q) xs) []
    ≡ map (λ (p : ℕ × Way). p.1)
    (filter (λ (p : ℕ × Way). eq_by_cmp nat_cmp p.0 q) pairs)) where
  -- a group that may be there has its edits, or there are none
  in_group : (o : Option (Vec Way Global)) → edits_of shown_group o
      ≡ map way_of (option_map_or (λ g. g.items) o [])
  in_group None = refl
  in_group (Some v) = refl

  each : (q : ℕ) → edits_of shown_group (lookup (eq_by_cmp nat_cmp q) xs)
      ≡ cond (nat_le n q) (under (Index q) es) []
  each q =
      in_group (lookup (eq_by_cmp nat_cmp q) xs) ∙ ap (map way_of) (held q)
      ∙ commute (λ (k : ℕ). k) nat_cmp nat_cmp_total way_of q pairs
      ∙ ap (at_key (λ k. eq_by_cmp nat_cmp k q)) same ∙ past-under n q es

  -- behind the last group all that is put past the end stands
  pub past_all : (i : ℕ) (base out : List Tree) → length xs ≤ i
      → out ≡ base ++ map (λ (p : ℕ × Tree). p.1) (puts shown_group (take i xs))
      → out ≡ base ++ map (λ (p : ℕ × Tree). p.1) (elements_past_end n es)
  past_all i base out le was =
      was ∙ ap (λ (gs : List (ℕ × Vec Way Global)). base
      ++ map (λ (p : ℕ × Tree). p.1) (puts shown_group gs)) (take_all i xs le)
      ∙ ap (λ (ps : List (ℕ × Tree)). base ++ map (λ (p : ℕ × Tree). p.1) ps)
      (puts-past shown_group n es xs rising each)

-- one group more of those past the end
pub past_more : (xs : List (ℕ × Vec Way Global)) (i : ℕ) (x : ℕ × Vec Way Global)
    (base before now : List Tree) → i < length xs → x ≡ get_or xs i x
    → before ≡ base ++ map (λ (p : ℕ × Tree). p.1) (puts shown_group (take i xs))
    → now ≡ before ++ option_to_list (put_here (map way_of x.1.items))
    → now ≡ base ++ map (λ (p : ℕ × Tree). p.1) (puts shown_group (take (i + 1) xs))
past_more xs i x base before now lt is was put =
    puts-more shown_group base before now (take i xs) x was put
    ∙ ap (λ (gs : List (ℕ × Vec Way Global)). base
    ++ map (λ (p : ℕ × Tree). p.1) (puts shown_group gs))
    (sym (take_more xs i x lt ∙ ap (λ y. take i xs ++ y ∷ []) (sym is)))

-- ---- what is put at new names

module _ (es : List Edit) (ps : List Pair) (pairs : List (Bor (List ℕ) × Way))
    (same : map way_at_name pairs ≡ new_names ps (named_edits es))
    (xs : List (Bor (List ℕ) × Vec Way Global)) (rising : IsStrictlySortedBy str_cmp (keys_of xs))
    (held : (q : Bor (List ℕ)) → option_map_or (λ g. g.items) (lookup (eq_by_cmp str_cmp q) xs) []
    ≡ map (λ (p : Bor (List ℕ) × Way). p.1)
    (filter (λ (p : Bor (List ℕ) × Way). eq_by_cmp str_cmp p.0 q) pairs))
    (out0 : List Pair) where
  -- the names of the groups before this one
  abbrev pub seen_by : ℕ → List ℕ → Bool
  seen_by i q =
      list_any (λ (p : Bor (List ℕ) × Vec Way Global). eq_by_cmp text_order q p.0.now) (take i xs)

  -- a name that is new has the edits under it, and one that is there has none
  new_under : (name : List ℕ) → at_key (λ k. eq_by_cmp text_order k name)
      (new_names ps (named_edits es)) ≡ cond (is_none (at_name name ps)) (under (Name name) es) []
  new_under name = at_filter text_order text_apart (λ m. is_none (at_name m ps)) name
      (named_edits es) ∙ ap (λ (l : List Edit). cond (is_none (at_name name ps)) l [])
      (named-under name es)

  -- one group more of those with new names
  pub new_more : (i : ℕ) (x : Bor (List ℕ) × Vec Way Global) (before now : List Pair)
      → i < length xs → x ≡ get_or xs i x
      → Seen es ps out0 (seen_by i) before → now
      ≡ put_new_if x.0.now (put_here (map way_of x.1.items)) before
      → Seen es ps out0 (seen_by (i + 1)) now
  new_more i x before now lt is was put =
      let group : map way_of x.1.items ≡ cond (is_none (at_name x.0.now ps))
      (under (Name x.0.now) es) [] =
      group_at (λ (k : Bor (List ℕ)). k.now) text_order text_total way_of pairs
      (new_names ps (named_edits es)) same xs rising held i x.0 x.1
      (slice_get_read xs (length xs) i x refl lt is) ∙ new_under x.0.now in
      seen_more es ps out0 (seen_by i) (seen_by (i + 1)) x.0.now before now was
      (λ q. any_more
      (λ (p : Bor (List ℕ) × Vec Way Global). eq_by_cmp text_order q p.0.now) xs i x lt is)
      (put ∙ ap (λ (us : List Edit). put_new_if x.0.now (put_here us) before) group
      ∙ put_new x.0.now (is_none (at_name x.0.now ps)) es before)

  -- a name that no group has isn't put
  nowhere : (q : List ℕ)
      → list_any (λ (g : Bor (List ℕ) × Vec Way Global). eq_by_cmp text_order q g.0.now) xs ≡ false
      → new_at es ps q ≡ None
  nowhere q none = absent q (is_none (at_name q ps))
      (sym (new_under q) ∙ no_group (λ (k : Bor (List ℕ)). k.now) text_order text_total way_of pairs
      (new_names ps (named_edits es)) same xs rising held
      (record { ref_ptr = (0, 0); now = q }) none)
    where
      absent : (q : List ℕ) (b : Bool) → cond b (under (Name q) es) [] ≡ []
          → cond b (put_at es q) None ≡ None
      absent [] true e = refl
      absent (c ∷ cs) true e = ap put_here e
      absent q false e = refl

  -- behind the last group all new names are put
  pub new_all : (i : ℕ) (out : List Pair) → length xs ≤ i → Seen es ps out0 (seen_by i) out
      → (q : List ℕ) → at_name q out ≡ option_or (new_at es ps q) (at_name q out0)
  new_all i out le was q =
      was q ∙ elim (seen_by i q) as (λ b. seen_by i q ≡ b
      → cond b (option_or (new_at es ps q) (at_name q out0)) (at_name q out0)
      ≡ option_or (new_at es ps q) (at_name q out0)) [
        | true ↦ λ e. refl
        | false ↦ λ e. ap (λ o. option_or o (at_name q out0))
            (sym (nowhere q
            (ap (list_any
            (λ (p : Bor (List ℕ) × Vec Way Global). eq_by_cmp text_order q p.0.now))
            (sym (take_all i xs le)) ∙ e)))
      ] refl
