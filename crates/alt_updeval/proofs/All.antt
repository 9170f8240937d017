-- All edits of an update, and all its changes: one more.
use Rattle.std.proofs.Common.{◌≡◌, refl, sym, ap, subst, ◌∙◌, ℕ, suc, ◌+◌, ◌<◌, Bool, true, false, cond, ◌&&◌, ◌||◌, List, [], ◌∷◌, ◌++◌, map, drop, drop-cons, add-one, length, get_or, Option, Some, None, Vec, Global, Ok, Err}
use Rattle.std.specs.Prelude.{Result, option_map, filter, slice_get, if◌then◌else◌}
use Rattle.std.specs.List.{list_any, AllByRecursion}
use Rattle.std.specs.List.Sorted.{IsStrictlySortedBy}
use Rattle.std.specs.Map.{lookup, keys_of}
use Rattle.std.specs.Option.{option_map_or}
use Rattle.std.specs.Str.{bytes_eq}
use Rattle.std.specs.Ordering.{eq_by_cmp}
use Rattle.std.specs.Cmp.Lexicographic.{texts_ties}
use Rattle.std.specs.declared.cmp.Ordering.TheVariants.{Less}
use Rattle.std.proofs.lemmas.List.{append_assoc, map-append}
use denote.Ref.{Bor}
use Rattle.alt_base.proofs.Orderings.{is_eq-true}
use Rattle.alt_value.specs.Members.{text_order}
use Rattle.alt_value.specs.Stands.{tree_of}
use Rattle.alt_value.specs.Tree.{Tree}
use Rattle.alt_value.proofs.Texts.{text_total, text_apart}
use Rattle.alt_expr.specs.declared.path.PathPart.{PathPart}
use Rattle.alt_expr.specs.declared.path.PathPart.TheVariants.{Name}
use Rattle.alt_expr.specs.declared.update.Action.{Action}
use Rattle.alt_expr.specs.UpdateLanguage.{target, begins_with_name, begin_with_names}
use Rattle.alt_expr.specs.Located.{View}
use Rattle.alt_expr.specs.Updated.{Edit, ActionFault, ◌>>=◌, edit, edits, under, place_after}
use Rattle.alt_updeval.specs.declared.made.Made.{Made}
use Rattle.alt_updeval.specs.declared.update.AttrChange.{AttrChange}
use Rattle.alt_updeval.specs.Changes.{changed_by}
use Rattle.alt_updeval.specs.Shown.{edit_behind_step, attribute_edit, named_edits}
use Rattle.alt_updeval.proofs.Groups.{group_at, no_group}
use Rattle.alt_updeval.proofs.Steps.{str_cmp}
use Rattle.alt_updeval.proofs.Under.{changed-none, named-under}

-- ---- edits

-- the edits that are known, before those to come
abbrev pub known : List Edit → Result (List Edit) ActionFault → Result (List Edit) ActionFault
known es rest = rest >>= (λ more. Ok (es ++ more))

-- with no edit known yet, all are those of the rest
pub known-none : (rest : Result (List Edit) ActionFault) → rest ≡ known [] rest
known-none (Ok es) = refl
known-none (Err f) = refl

-- one edit more is known before the rest
pub known-more : (es : List Edit) (e : Edit) (rest : Result (List Edit) ActionFault)
    → known es (rest >>= (λ more. Ok (e ∷ more))) ≡ known (es ++ e ∷ []) rest
known-more es e (Ok more) = ap Ok (sym (append_assoc es (e ∷ []) more))
known-more es e (Err f) = refl

-- the edit of one action more is known
pub edits_more : (item : View) (actions : List Action) (i : ℕ) (a : Action) (es : List Edit)
    (e : Edit) → i < length actions → a ≡ get_or actions i a
    → edit item a ≡ Ok e → edits item actions ≡ known es (edits item (drop i actions))
    → edits item actions ≡ known (es ++ e ∷ []) (edits item (drop (i + 1) actions))
edits_more item actions i a es e lt is done so_far =
    let rest = drop (i + 1) actions in
    let here : drop i actions ≡ a ∷ rest = drop-cons actions i a lt
    ∙ ap (λ x. x ∷ drop (suc i) actions) (sym is)
    ∙ ap (λ n. a ∷ drop n actions) (sym (add-one i)) in
    so_far ∙ ap (λ (xs : List Action). known es (edits item xs)) here
    ∙ ap (λ (r : Result Edit ActionFault). known es
    (r >>= (λ f. edits item rest >>= (λ more. Ok (f ∷ more))))) done
    ∙ known-more es e (edits item rest)

-- the actions behind one whose path begins with a name
pub begins_more : (actions : List Action) (i : ℕ) (d : Action) → i < length actions
    → begin_with_names (drop i actions) ≡ true → begin_with_names (drop (i + 1) actions) ≡ true
begins_more actions i d lt h =
    ap (λ n. begin_with_names (drop n actions)) (add-one i)
    ∙ second (begins_with_name (target (get_or actions i d)))
    (begin_with_names (drop (suc i) actions))
    (ap begin_with_names (sym (drop-cons actions i d lt)) ∙ h)
  where
    second : (b c : Bool) → (b && c) ≡ true → c ≡ true
    second true c e = e
    second false c e = absurd (cc)

-- ---- changes

-- one change more
changed_by-more : (cs : List AttrChange) (c : AttrChange) (item : View) (q : List ℕ)
    → changed_by (cs ++ c ∷ []) item q
    ≡ (if bytes_eq q c.name then option_map tree_of c.value else changed_by cs item q)
changed_by-more [] c item q = refl
changed_by-more (d ∷ ds) c item q = changed_by-more ds c
    (λ name. if bytes_eq name d.name then option_map tree_of d.value else item name) q

-- what is changed behind the name of an attribute
abbrev pub Rest : Type 0
Rest = Bor (List PathPart) × Option Made

-- a name, and what is changed behind it
abbrev shown_name : Bor (List ℕ) × Rest → List ℕ × Edit
shown_name e = (e.0.now, edit_behind_step e.1)

by_names : (pairs : List (Bor (List ℕ) × Rest))
    → map shown_name pairs ≡ named_edits (map attribute_edit pairs)
by_names [] = refl
by_names (p ∷ ps) = ap (λ es. shown_name p ∷ es) (by_names ps)

-- whether a group has the name
abbrev pub is_seen : List (Bor (List ℕ) × Vec Rest Global) → List ℕ → Bool
is_seen gs q = list_any (λ (p : Bor (List ℕ) × Vec Rest Global). eq_by_cmp text_order q p.0.now) gs

-- what becomes of a name
abbrev pub wanted : View → List Edit → List ℕ → Option Tree
wanted item es q = place_after (under (Name q) es) (item q)

-- each name that was seen is changed as the edits say, and no other is
abbrev pub Changes : View → List Edit → List (Bor (List ℕ) × Vec Rest Global)
    → List AttrChange → Type 0
Changes item es gs cs = (q : List ℕ) → changed_by cs item q
    ≡ cond (is_seen gs q) (wanted item es q) (item q)

-- so they are, and the changes have the names of the groups
pub record ChangesSoFar (item : View) (es : List Edit) (gs : List (Bor (List ℕ) × Vec Rest Global))
    (cs : List AttrChange) : Type 0 where
  pub changes : Changes item es gs cs
  pub names : map (λ c. c.name) cs ≡ map (λ p. p.0.now) gs

-- the name of one change more
pub named_more : (gs : List (Bor (List ℕ) × Vec Rest Global)) (x : Bor (List ℕ) × Vec Rest Global)
    (cs : List AttrChange) (c : AttrChange) → map (λ c. c.name) cs ≡ map (λ p. p.0.now) gs
    → c.name ≡ x.0.now → map (λ c. c.name) (cs ++ c ∷ []) ≡ map (λ p. p.0.now) (gs ++ x ∷ [])
named_more gs x cs c names named =
    map-append (λ (d : AttrChange). d.name) cs (c ∷ [])
    ∙ ap (λ ns. ns ++ c.name ∷ []) names
    ∙ ap (λ n. map (λ (p : Bor (List ℕ) × Vec Rest Global). p.0.now) gs ++ n ∷ []) named
    ∙ sym (map-append (λ (p : Bor (List ℕ) × Vec Rest Global). p.0.now) gs (x ∷ []))

-- names that rise as they are borrowed rise
above_each : (k : Bor (List ℕ)) (gs : List (Bor (List ℕ) × Vec Rest Global))
    → AllByRecursion (λ y. str_cmp k y ≡ Less) (keys_of gs)
    → AllByRecursion (λ y. text_order k.now y ≡ Less) (map (λ p. p.0.now) gs)
above_each k [] h = h
above_each k (g ∷ gs) h = (h.0, above_each k gs h.1)

groups_rise : (gs : List (Bor (List ℕ) × Vec Rest Global)) → IsStrictlySortedBy str_cmp (keys_of gs)
    → IsStrictlySortedBy text_order (map (λ p. p.0.now) gs)
unfolding IsStrictlySortedBy
groups_rise [] h = h
groups_rise (g ∷ gs) h = (above_each g.0 gs h.0, groups_rise gs h.1)

-- changes that have the names of groups rise as these do
pub names_rise : (gs : List (Bor (List ℕ) × Vec Rest Global)) (cs : List AttrChange)
    → map (λ c. c.name) cs ≡ map (λ p. p.0.now) gs → IsStrictlySortedBy str_cmp (keys_of gs)
    → IsStrictlySortedBy text_order (map (λ c. c.name) cs)
names_rise gs cs names rising =
    subst (IsStrictlySortedBy text_order) (sym names) (groups_rise gs rising)

module _ (item : View) (pairs : List (Bor (List ℕ) × Rest))
    (xs : List (Bor (List ℕ) × Vec Rest Global)) (rising : IsStrictlySortedBy str_cmp (keys_of xs))
    (held : (q : Bor (List ℕ)) → option_map_or (λ g. g.items) (lookup (eq_by_cmp str_cmp q) xs) []
    ≡ map (λ (p : Bor (List ℕ) × Rest). p.1)
    (filter (λ (p : Bor (List ℕ) × Rest). eq_by_cmp str_cmp p.0 q) pairs)) where
  -- the edits of the update
  abbrev es : List Edit
  es = map attribute_edit pairs

  -- a group in its place has the edits behind its name
  pub group_is : (i : ℕ) (x : Bor (List ℕ) × Vec Rest Global) → slice_get xs i ≡ Some x
      → map edit_behind_step x.1.items ≡ under (Name x.0.now) es
  group_is i x stands =
      group_at (λ (k : Bor (List ℕ)). k.now) text_order text_total edit_behind_step pairs (named_edits es)
      (by_names pairs) xs rising held i x.0 x.1 stands
      ∙ named-under x.0.now es

  -- one group more is seen by its name
  seen_more : (gs : List (Bor (List ℕ) × Vec Rest Global))
      (x : Bor (List ℕ) × Vec Rest Global) (q : List ℕ)
      → is_seen (gs ++ x ∷ []) q ≡ (is_seen gs q || eq_by_cmp text_order q x.0.now)
  seen_more [] x q = or_false (eq_by_cmp text_order q x.0.now)
    where
      or_false : (b : Bool) → (b || false) ≡ b
      or_false true = refl
      or_false false = refl
  seen_more (g ∷ gs) x q = or_more (eq_by_cmp text_order q g.0.now) (is_seen (gs ++ x ∷ []) q)
      (is_seen gs q) (eq_by_cmp text_order q x.0.now) (seen_more gs x q)
    where
      or_more : (a b c d : Bool) → b ≡ (c || d) → (a || b) ≡ ((a || c) || d)
      or_more true b c d e = refl
      or_more false b c d e = e

  -- the change of one group more is made, as its edits say
  pub change_more : (gs : List (Bor (List ℕ) × Vec Rest Global))
      (x : Bor (List ℕ) × Vec Rest Global) (cs : List AttrChange) (c : AttrChange)
      → map edit_behind_step x.1.items ≡ under (Name x.0.now) es → Changes item es gs cs → c.name ≡ x.0.now
      → option_map tree_of c.value ≡ place_after (map edit_behind_step x.1.items) (item x.0.now)
      → Changes item es (gs ++ x ∷ []) (cs ++ c ∷ [])
  change_more gs x cs c group was named value q =
      let name : List ℕ = x.0.now in
      let new : option_map tree_of c.value ≡ wanted item es name = value
      ∙ ap (λ (us : List Edit). place_after us (item name)) group in
      let told : bytes_eq q c.name ≡ eq_by_cmp text_order q name = ap (bytes_eq q) named
      ∙ texts_ties q name in
      changed_by-more cs c item q
      ∙ ap (λ b. cond b (option_map tree_of c.value) (changed_by cs item q)) told
      ∙ elim (eq_by_cmp text_order q name) as (λ b. eq_by_cmp text_order q name ≡ b
      → cond b (option_map tree_of c.value) (changed_by cs item q)
      ≡ cond (is_seen gs q || b) (wanted item es q) (item q)) [
        | true ↦ λ e.
            let same : q ≡ name = text_apart q name (is_eq-true (text_order q name) e) in
            new ∙ ap (wanted item es) (sym same)
            ∙ sym (any_true (is_seen gs q) (wanted item es q) (item q))
        | false ↦ λ e. was q ∙ any_false (is_seen gs q) (wanted item es q) (item q)
      ] refl
      ∙ ap (λ b. cond b (wanted item es q) (item q)) (sym (seen_more gs x q))
    where
      any_true : (b : Bool) (t u : Option Tree) → cond (b || true) t u ≡ t
      any_true true t u = refl
      any_true false t u = refl

      any_false : (b : Bool) (t u : Option Tree) → cond b t u ≡ cond (b || false) t u
      any_false true t u = refl
      any_false false t u = refl

  -- what no edit is under stays as it is
  untouched : (o : Option Tree) → o ≡ place_after [] o
  untouched None = refl
  untouched (Some t) = sym (changed-none t)

  -- behind the last group the changes are those of all edits
  pub change_all : (cs : List AttrChange) → Changes item es xs cs → (q : List ℕ)
      → changed_by cs item q ≡ place_after (under (Name q) es) (item q)
  change_all cs was q =
      was q ∙ elim (is_seen xs q) as (λ b. is_seen xs q ≡ b
      → cond b (wanted item es q) (item q) ≡ wanted item es q) [
        | true ↦ λ e. refl
        | false ↦ λ e.
            let none : under (Name q) es ≡ [] = sym (named-under q es)
            ∙ no_group (λ (k : Bor (List ℕ)). k.now) text_order text_total edit_behind_step pairs
            (named_edits es) (by_names pairs) xs rising held
            (record { ref_ptr = (0, 0); now = q }) e in
            untouched (item q) ∙ ap (λ (us : List Edit). place_after us (item q)) (sym none)
      ] refl
