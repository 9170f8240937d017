-- The walk over the tables by name: the first behind a name that passes a test.
use Rattle.std.proofs.Common.{◌≡◌, ◌<◌, refl, sym, ap, subst, ◌∙◌, ℕ, Bool, true, false, cond, T, List, [], ◌∷◌, map, length, Option, Some, None, option_map, slice_get, is_some, arith}
use Rattle.std.specs.Bool.{passes as holds}
use Rattle.std.specs.Prelude.{◌&&◌}
use Rattle.std.specs.FinMap as finite
use Rattle.std.specs.FinMap.{get-entries}
use Rattle.std.specs.FinMap.Entries.{below_all, find as at_key, is_sorted}
use Rattle.std.specs.List.{AllByRecursion, filter, find}
use Rattle.std.specs.Option.{option_map_or}
use Rattle.std.specs.Ordering.{eq_by_cmp, is_lt}
use Rattle.std.specs.declared.cmp.Ordering.TheVariants.{Less}
use Rattle.std.specs.Cmp.{tied_itself}
use Rattle.alt_backfill.specs.private.Asked.{builds}
use Rattle.alt_base.proofs.Bools.{first_holds as first, holds_true, second_holds}
use Rattle.alt_base.proofs.Orderings.{less-holds, is_lt-holds, not_lt_either}
use Rattle.alt_machine.specs.Building.{build, building_in, first_building, with_built}
use Rattle.alt_machine.specs.Ops.ListTables.{names_after}
use Rattle.alt_machine.specs.State.{State, Table, Texts, descriptions}
use Rattle.alt_machine.specs.declared.TheConstants.{BUILT_AT_ONCE}
use Rattle.alt_machine.specs.Valid.{IsValid}
use Rattle.alt_machine.proofs.Descriptions.{entries-descriptions, get-descriptions}
use Rattle.alt_machine.proofs.Entries.{each_entry}
use Rattle.alt_ops_table.proofs.Pages.{names-next}
use Rattle.alt_schema.specs.Rules.{is_name}
use Rattle.alt_schema.specs.declared.schema.IndexSchema.{IndexSchema}
use Rattle.alt_schema.specs.declared.schema.TableSchema.{TableSchema}
use Rattle.alt_value.specs.Members.{text_order}
use Rattle.alt_value.proofs.Texts.{text_total}

module _ {X : Type 0} where
  -- its key is behind a name
  abbrev pub is_behind : List ℕ → List ℕ × X → Bool
  is_behind last e = is_lt (text_order last e.0)

  -- the first behind a name that passes a test
  abbrev pub first_of_those : (X → Bool) → List ℕ → List (List ℕ × X) → Option (List ℕ × X)
  first_of_those p last es = find (λ e. is_behind last e && p e.1) es

  module _ (p : X → Bool) where
    -- behind a name that is below all
    all_behind : (last : List ℕ) (es : List (List ℕ × X)) → T (below_all text_order last es)
        → first_of_those p last es ≡ find (λ e. p e.1) es
    all_behind last [] h = refl
    all_behind last (e ∷ es) h =
        let here = holds_true (is_behind last e) (first _ _ h) in
        let rest = all_behind last es (second_holds _ _ h) in
        (λ i. cond (here i && p e.1) (Some e) (rest i))

    below_less : (last k : List ℕ) (es : List (List ℕ × X)) → text_order last k ≡ Less
        → T (below_all text_order k es) → find (λ e. p e.1) es ≡ first_of_those p last es
    below_less last k [] l h = refl
    below_less last k (e ∷ es) l h =
        let here : is_behind last e ≡ true = holds_true _ (less-holds _
        (text_total.trans last k e.0 l (is_lt-holds _ (first _ _ h)))) in
        let rest = below_less last k es l (second_holds _ _ h) in
        (λ i. cond (sym here i && p e.1) (Some e) (rest i))

    -- what is found behind a name is behind it
    behind_so : (last : List ℕ) (e : List ℕ × X) (es : List (List ℕ × X)) → find (is_behind last) es ≡ Some e
        → text_order last e.0 ≡ Less
    behind_so last e [] found = absurd (let f : ⊥ = cc in f)
    behind_so last e (x ∷ xs) found = by (is_behind last x) refl found (behind_so last e xs)
      where
        by : (b : Bool) → is_behind last x ≡ b
            → cond b (Some x) (find (is_behind last) xs) ≡ Some e
            → (find (is_behind last) xs ≡ Some e → text_order last e.0 ≡ Less)
            → text_order last e.0 ≡ Less
        by true so is rest = ap (text_order last) (ap (λ (y : List ℕ × X). y.0)
            (let f : e ≡ x = cc in f)) ∙ is_lt-holds _ (holds _ so)
        by false so is rest = rest is

    -- the next one that passes is the first that does
    pub walk_here : (last : List ℕ) (e : List ℕ × X) (es : List (List ℕ × X)) → find (is_behind last) es ≡ Some e
        → p e.1 ≡ true → first_of_those p last es ≡ Some e
    walk_here last e [] found passes = absurd (let f : ⊥ = cc in f)
    walk_here last e (x ∷ xs) found passes = by (is_behind last x) found (walk_here last e xs)
      where
        by : (b : Bool) → cond b (Some x) (find (is_behind last) xs) ≡ Some e
            → (find (is_behind last) xs ≡ Some e → p e.1 ≡ true → first_of_those p last xs ≡ Some e)
            → cond (b && p x.1) (Some x) (first_of_those p last xs) ≡ Some e
        by true is rest =
            let same : x ≡ e = cc in
            ap (λ b. cond b (Some x) (first_of_those p last xs)) (ap (λ (y : List ℕ × X). p y.1) same ∙ passes)
            ∙ ap (λ y. Some y) same
        by false is rest = rest is passes

    -- where it doesn't, the first is behind it
    pub walk_next : (last : List ℕ) (e : List ℕ × X) (es : List (List ℕ × X)) → T (is_sorted text_order es)
        → find (is_behind last) es ≡ Some e → p e.1 ≡ false
        → first_of_those p last es ≡ first_of_those p e.0 es
    walk_next last e [] sorted found fails = absurd (let f : ⊥ = cc in f)
    walk_next last e (x ∷ xs) sorted found fails = by (is_behind last x) refl found
        (walk_next last e xs (second_holds _ _ sorted))
      where
        l : text_order last e.0 ≡ Less
        l = behind_so last e (x ∷ xs) found

        by : (b : Bool) → is_behind last x ≡ b
            → cond b (Some x) (find (is_behind last) xs) ≡ Some e
            → (find (is_behind last) xs ≡ Some e → p e.1 ≡ false
            → first_of_those p last xs ≡ first_of_those p e.0 xs)
            → cond (b && p x.1) (Some x) (first_of_those p last xs)
            ≡ cond (is_behind e.0 x && p x.1) (Some x) (first_of_those p e.0 xs)
        by true so is rest =
            let same : x ≡ e = cc in
            let itself : is_behind e.0 x ≡ false =
            ap (λ (y : List ℕ × X). is_lt (text_order e.0 y.0)) same
            ∙ ap is_lt (tied_itself text_total e.0) in
            let below : T (below_all text_order e.0 xs) =
            subst (λ (y : List ℕ × X). T (below_all text_order y.0 xs)) same (first _ _ sorted) in
            ap (λ b. cond b (Some x) (first_of_those p last xs))
            (ap (λ (y : List ℕ × X). p y.1) same ∙ fails)
            ∙ sym (below_less last e.0 xs l below)
            ∙ sym (all_behind e.0 xs below)
            ∙ sym (ap (λ b. cond (b && p x.1) (Some x) (first_of_those p e.0 xs)) itself)
        by false so is rest =
            let over : is_behind e.0 x ≡ false = not_lt_either _ _
            (λ m. text_total.trans last e.0 x.0 l m) so in
            rest is fails
            ∙ sym (ap (λ b. cond (b && p x.1) (Some x) (first_of_those p e.0 xs)) over)

    -- behind the last there is none
    pub walk_end : (last : List ℕ) (es : List (List ℕ × X)) → find (is_behind last) es ≡ None
        → first_of_those p last es ≡ None
    walk_end last [] none = refl
    walk_end last (x ∷ xs) none = by (is_behind last x) none (walk_end last xs)
      where
        by : (b : Bool) → cond b (Some x) (find (is_behind last) xs) ≡ None
            → (find (is_behind last) xs ≡ None → first_of_those p last xs ≡ None)
            → cond (b && p x.1) (Some x) (first_of_those p last xs) ≡ None
        by true is rest = absurd (let f : ⊥ = cc in f)
        by false is rest = rest is

    -- where none has the empty name, all are behind that
    pub walk_all : (es : List (List ℕ × X)) → at_key text_order [] es ≡ None
        → first_of_those p [] es ≡ find (λ e. p e.1) es
    walk_all [] none = refl
    walk_all (e ∷ es) none = by e.0 none (walk_all es)
      where
        by : (k : List ℕ) → cond (eq_by_cmp text_order [] k) (Some e.1) (at_key text_order [] es) ≡ None
            → (at_key text_order [] es ≡ None → first_of_those p [] es ≡ find (λ x. p x.1) es)
            → cond (is_lt (text_order [] k) && p e.1) (Some e) (first_of_those p [] es)
            ≡ cond (p e.1) (Some e) (find (λ x. p x.1) es)
        by [] none rest = absurd (let f : ⊥ = cc in f)
        by (b ∷ bs) none rest = ap (λ o. cond (p e.1) (Some e) o) (rest none)

  -- the first behind a name stands under the first name behind it
  name_first : (last : List ℕ) (e : List ℕ × X) (es : List (List ℕ × X)) → find (is_behind last) es ≡ Some e
      → slice_get (filter (λ n. is_lt (text_order last n)) (map (λ x. x.0) es)) 0 ≡ Some e.0
  name_first last e [] found = absurd (let f : ⊥ = cc in f)
  name_first last e (x ∷ xs) found = by (is_behind last x) found (name_first last e xs)
    where
      by : (b : Bool) → cond b (Some x) (find (is_behind last) xs) ≡ Some e
          → (find (is_behind last) xs ≡ Some e
          → slice_get (filter (λ n. is_lt (text_order last n)) (map (λ y. y.0) xs)) 0 ≡ Some e.0)
          → slice_get (cond b (x.0 ∷ filter (λ n. is_lt (text_order last n)) (map (λ y. y.0) xs))
          (filter (λ n. is_lt (text_order last n)) (map (λ y. y.0) xs))) 0 ≡ Some e.0
      by true is rest = ap (λ (y : List ℕ × X). Some y.0) (let f : x ≡ e = cc in f)
      by false is rest = rest is

  -- what holds of each entry holds of one that is found
  found_is : (P : List ℕ × X → Type 0) (q : List ℕ × X → Bool) (e : List ℕ × X) (es : List (List ℕ × X))
      → AllByRecursion P es → find q es ≡ Some e → P e
  found_is P q e [] each found = absurd (let f : ⊥ = cc in f)
  found_is P q e (x ∷ xs) each found = by (q x) found (found_is P q e xs each.1)
    where
      by : (b : Bool) → cond b (Some x) (find q xs) ≡ Some e → (find q xs ≡ Some e → P e) → P e
      by true is rest = subst P (let f : x ≡ e = cc in f) each.0
      by false is rest = rest is

-- ---- tables

module _ (catalog : Texts TableSchema) where
  -- the next table stands under its own name
  pub next_is : (last : List ℕ) (d : TableSchema)
      → Some d ≡ option_map (λ (e : List ℕ × TableSchema). e.1)
      (find (λ e. is_lt (text_order last e.0)) (finite.entries catalog))
      → Some d.name ≡ slice_get (names_after last catalog) 0
      → find (is_behind last) (finite.entries catalog) ≡ Some (d.name, d)
  next_is last d e named = by (find (is_behind last) (finite.entries catalog)) refl e
    where
      by : (o : Option (List ℕ × TableSchema))
          → find (is_behind last) (finite.entries catalog) ≡ o
          → Some d ≡ option_map (λ (x : List ℕ × TableSchema). x.1) o
          → find (is_behind last) (finite.entries catalog) ≡ Some (d.name, d)
      by None found is = absurd (let f : ⊥ = cc in f)
      by (Some x) found is =
          let named_so : d.name ≡ x.0 = some_same d.name x.0
          (named ∙ name_first last x (finite.entries catalog) found) in
          let same : d ≡ x.1 = some_same d x.1 is in
          found ∙ (λ i. Some (sym named_so i, sym same i))
        where
          some_same : {A : Type 0} (a b : A) → Some a ≡ Some b → a ≡ b
          some_same a b h = cc

  -- where there is no next table, nothing is behind the name
  pub next_none : (last : List ℕ) → None ≡ option_map (λ (e : List ℕ × TableSchema). e.1)
      (find (λ e. is_lt (text_order last e.0)) (finite.entries catalog))
      → find (is_behind last) (finite.entries catalog) ≡ None
  next_none last e = by (find (is_behind last) (finite.entries catalog)) e
    where
      by : (o : Option (List ℕ × TableSchema)) → None ≡ option_map (λ (x : List ℕ × TableSchema). x.1) o → o ≡ None
      by None is = refl
      by (Some x) is = absurd (let f : ⊥ = cc in f)

  -- what is found of the tables is there
  pub found_there : (q : List ℕ × TableSchema → Bool) (name : List ℕ) (d : TableSchema)
      → find q (finite.entries catalog) ≡ Some (name, d) → finite.get catalog name ≡ Some d
  found_there q name d found = found_is (λ e. finite.get catalog e.0 ≡ Some e.1) q (name, d)
      (finite.entries catalog)
      (each_entry (λ k x. finite.get catalog k ≡ Some x) catalog (λ k x at. at)) found

  -- behind the next name there are fewer
  pub names_less : (last k : List ℕ) → Some k ≡ slice_get (names_after last catalog) 0
      → length (names_after k catalog) < length (names_after last catalog)
  names_less last k h = omega (arith, ap length (names-next last k catalog h))

  -- where none has the empty name, all are behind it
  pub all_walked : finite.get catalog [] ≡ None
      → first_of_those builds [] (finite.entries catalog)
      ≡ find (λ e. builds e.1) (finite.entries catalog)
  all_walked none = walk_all builds (finite.entries catalog) (sym (get-entries catalog []) ∙ none)

  -- where none is found, none is built
  pub none_built : find (λ e. builds e.1) (finite.entries catalog) ≡ None → (name : List ℕ)
      (d : TableSchema) → finite.get catalog name ≡ Some d → building_in d ≡ None
  none_built none name d at = unbuilt (building_in d)
      (by (finite.entries catalog) none (sym (get-entries catalog name) ∙ at))
    where
      unbuilt : {A : Type 0} (o : Option A) → is_some o ≡ false → o ≡ None
      unbuilt None e = refl
      unbuilt (Some x) e = absurd (let f : ⊥ = cc in f)

      by : (es : List (List ℕ × TableSchema)) → find (λ e. builds e.1) es ≡ None
          → at_key text_order name es ≡ Some d → builds d ≡ false
      by [] none at = absurd (let f : ⊥ = cc in f)
      by (e ∷ es) none at = here (builds e.1) refl none (eq_by_cmp text_order name e.0) at (by es)
        where
          here : (b : Bool) → builds e.1 ≡ b → cond b (Some e) (find (λ x. builds x.1) es) ≡ None
              → (c : Bool) → cond c (Some e.1) (at_key text_order name es) ≡ Some d
              → (find (λ x. builds x.1) es ≡ None → at_key text_order name es ≡ Some d
              → builds d ≡ false) → builds d ≡ false
          here true so none c at rest = absurd (let f : ⊥ = cc in f)
          here false so none true at rest = ap builds (let f : d ≡ e.1 = cc in f) ∙ so
          here false so none false at rest = rest none at

  -- and where none is built, none is found
  pub find_none : ((name : List ℕ) (d : TableSchema) → finite.get catalog name ≡ Some d
      → building_in d ≡ None) → find (λ e. builds e.1) (finite.entries catalog) ≡ None
  find_none none = by (finite.entries catalog)
      (each_entry (λ k x. building_in x ≡ None) catalog none)
    where
      by : (es : List (List ℕ × TableSchema)) → AllByRecursion (λ e. building_in e.1 ≡ None) es
          → find (λ e. builds e.1) es ≡ None
      by [] each = refl
      by (e ∷ es) each = ap (λ o. cond (is_some o) (Some e) (find (λ x. builds x.1) es)) each.0
          ∙ by es each.1

-- ---- a Build

-- the tables of a state, and their descriptions
abbrev described : List (List ℕ × Table) → List (List ℕ × TableSchema)
described ts = map (λ e. (e.0, e.1.description)) ts

-- where no description has an index that is being built, no table has
none_first : (ts : List (List ℕ × Table)) → find (λ e. builds e.1) (described ts) ≡ None
    → first_building ts ≡ None
none_first [] none = refl
none_first (t ∷ ts) none = by (building_in t.1.description) none (none_first ts)
  where
    by : (o : Option IndexSchema)
        → cond (is_some o) (Some (t.0, t.1.description)) (find (λ e. builds e.1) (described ts)) ≡ None
        → (find (λ e. builds e.1) (described ts) ≡ None → first_building ts ≡ None)
        → option_map_or (λ i. Some (t, i)) o (first_building ts) ≡ None
    by None is rest = rest is
    by (Some i) is rest = absurd (let f : ⊥ = cc in f)

-- the first whose description has one is the first
module _ (name : List ℕ) (d : TableSchema) where
  -- a table of that name and description with the index that is being built
  abbrev IsThat : (List ℕ × Table) × IndexSchema → Type 0
  IsThat f = (f.0.0 ≡ name) × (f.0.1.description ≡ d) × (building_in f.0.1.description ≡ Some f.1)

  some_first : (ts : List (List ℕ × Table)) → find (λ e. builds e.1) (described ts) ≡ Some (name, d)
      → (f : (List ℕ × Table) × IndexSchema) × (first_building ts ≡ Some f) × IsThat f
  some_first [] found = absurd (let f : ⊥ = cc in f)
  some_first (t ∷ ts) found = by (building_in t.1.description) refl found (some_first ts)
    where
      pair_first : (p q : List ℕ × TableSchema) → Some p ≡ Some q → (p.0 ≡ q.0) × (p.1 ≡ q.1)
      pair_first p q e = (ap (λ o. (part o).0) e, ap (λ o. (part o).1) e)
        where
          part : Option (List ℕ × TableSchema) → List ℕ × TableSchema
          part None = p
          part (Some r) = r

      by : (o : Option IndexSchema) → building_in t.1.description ≡ o
          → cond (is_some o) (Some (t.0, t.1.description)) (find (λ e. builds e.1) (described ts))
          ≡ Some (name, d)
          → (find (λ e. builds e.1) (described ts) ≡ Some (name, d)
          → (f : (List ℕ × Table) × IndexSchema) × (first_building ts ≡ Some f) × IsThat f)
          → (f : (List ℕ × Table) × IndexSchema)
          × (option_map_or (λ i. Some (t, i)) o (first_building ts) ≡ Some f) × IsThat f
      by None so is rest = rest is
      by (Some i) so is rest =
          let same = pair_first (t.0, t.1.description) (name, d) is in
          ((t, i), refl, (same.0, same.1, so))

module _ (s : State) (catalog : Texts TableSchema) (same : descriptions s.tables ≡ catalog) where
  entries_are : finite.entries catalog ≡ described (finite.entries s.tables)
  entries_are = ap (λ m. finite.entries m) (sym same) ∙ entries-descriptions s.tables

  -- nothing is built
  pub builds_nothing : find (λ e. builds e.1) (finite.entries catalog) ≡ None → build s ≡ []
  builds_nothing none =
      ap (λ o. option_map_or (λ f. with_built s BUILT_AT_ONCE f.0.0 f.0.1 f.1 ∷ []) o [])
      (none_first (finite.entries s.tables)
      (ap (λ es. find (λ e. builds e.1) es) (sym entries_are) ∙ none))

  -- the first table is built further
  pub builds_first : (d : TableSchema)
      → find (λ e. builds e.1) (finite.entries catalog) ≡ Some (d.name, d)
      → (t : Table) × (i : IndexSchema) × (finite.get s.tables d.name ≡ Some t)
      × (building_in t.description ≡ Some i)
      × (build s ≡ with_built s BUILT_AT_ONCE d.name t i ∷ [])
  builds_first d found =
      let first = some_first d.name d (finite.entries s.tables)
      (ap (λ es. find (λ e. builds e.1) es) (sym entries_are) ∙ found) in
      let f = first.0 in (
        f.0.1,
        f.1,
        subst (λ (k : List ℕ). finite.get s.tables k ≡ Some f.0.1) first.2.0
            (first_there (λ e. finite.get s.tables e.0 ≡ Some e.1) (finite.entries s.tables)
            (each_entry (λ k x. finite.get s.tables k ≡ Some x) s.tables (λ k x at. at)) f first.1),
        first.2.2,
        ap (λ o. option_map_or (λ g. with_built s BUILT_AT_ONCE g.0.0 g.0.1 g.1 ∷ []) o []) first.1
            ∙ ap (λ k. with_built s BUILT_AT_ONCE k f.0.1 f.1 ∷ []) first.2.0,
      )
    where
      -- what is found first is one of those
      first_there : (P : List ℕ × Table → Type 0) (es : List (List ℕ × Table)) → AllByRecursion P es
          → (f : (List ℕ × Table) × IndexSchema) → first_building es ≡ Some f → P f.0
      first_there P [] each f e = absurd (let g : ⊥ = cc in g)
      first_there P (x ∷ xs) each f e = by (building_in x.1.description) e
          (λ h. first_there P xs each.1 f h)
        where
          by : (o : Option IndexSchema) → option_map_or (λ i. Some (x, i)) o (first_building xs) ≡ Some f
              → (first_building xs ≡ Some f → P f.0) → P f.0
          by None h rest = rest h
          by (Some i) h rest = subst P (let same : x ≡ f.0 = ap (λ o. front o) h in same) each.0
            where
              front : Option ((List ℕ × Table) × IndexSchema) → List ℕ × Table
              front None = x
              front (Some g) = g.0

  -- no table has the empty name
  pub none_empty : IsValid s → finite.get catalog [] ≡ None
  none_empty valid = ap (λ m. finite.get m []) (sym same) ∙ get-descriptions s.tables []
      ∙ by (finite.get s.tables []) refl
    where
      by : (o : Option Table) → finite.get s.tables [] ≡ o
          → option_map (λ (t : Table). t.description) o ≡ None
      by None at = refl
      by (Some t) at =
          let is = valid.tables [] t at in
          absurd (let no : false ≡ true = ap is_name (sym is.named) ∙ is.made.spelled in cc no)
