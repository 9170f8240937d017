-- The streams of tables behind a name, each from the one before, and that of one table.
use Rattle.std.proofs.Common.{◌≡◌, ◌<◌, refl, sym, ap, subst, ◌∙◌, ℕ, ◌&&◌, Bool, true, false, T, List, [], ◌∷◌, map, length, Option, Some, None, option_map, slice_get, bytes_eq, arith}
use Rattle.std.specs.Prelude.{is_some, if◌then◌else◌}
use Rattle.std.specs.FinMap as finite
use Rattle.std.specs.FinMap.{entries, entries_sorted, get-entries}
use Rattle.std.specs.FinMap.Entries.{find as at_key, is_sorted}
use Rattle.std.specs.List.{find}
use Rattle.std.specs.Ordering.{is_lt}
use Rattle.std.proofs.lemmas.Slice.Eq.{bytes_eq-Decides}
use Rattle.std.proofs.Math.Bool.{and-true, and-false}
use Rattle.std.proofs.lemmas.Option.{same_Some}
use Rattle.alt_base.proofs.Bools.{second_holds}
use Rattle.alt_machine.specs.Ops.ListTables.{names_after}
use Rattle.alt_machine.specs.State.{Texts}
use Rattle.alt_schema.specs.declared.schema.TableSchema.{TableSchema}
use Rattle.alt_streams.specs.private.Listed.{TablesHaveOwnNames, all_in, is_listed, is_table_of_name, streams_after}
use Rattle.alt_streams.proofs.Entries.{found_only, found_none, here, behind}
use Rattle.alt_streams.proofs.Rising.{Rises, keyed, chosen_next, find-filter, find-keyed, sorted-each, walk_found, walk_on, walk_none}
use Rattle.alt_request.specs.TablesOpeningOrder.{first_after}
use Rattle.alt_value.specs.Members.{text_order}

-- ---- fewer names are left behind the first

keys_beside : {X : Type 0} (es : List (List ℕ × X))
    → map (λ e. (e.0, e.0)) es ≡ keyed (λ (k : List ℕ). k) (map (λ e. e.0) es)
keys_beside [] = refl
keys_beside (e ∷ es) = ap (λ ks. (e.0, e.0) ∷ ks) (keys_beside es)

-- behind a name that follows another there are fewer names
pub names_less : {X : Type 0} (last k : List ℕ) (m : Texts X)
    → Some k ≡ slice_get (names_after last m) 0
    → length (names_after k m) < length (names_after last m)
names_less last k m h =
    let rises : Rises (λ (k : List ℕ). k) (map (λ e. e.0) (entries m)) =
    subst (λ es. T (is_sorted text_order es)) (keys_beside (entries m))
    (sorted-each (λ e. e.0) (entries m) (entries_sorted m)) in
    let next : names_after last m ≡ k ∷ names_after k m =
    chosen_next (λ (k : List ℕ). k) (λ b k. b) (λ k. refl) last k (map (λ e. e.0) (entries m)) rises
    (find-filter (λ (n : List ℕ). is_lt (text_order last n)) (map (λ e. e.0) (entries m))
    ∙ sym h) in
    omega (arith, ap length next)

-- ---- the streams

-- what each has that is listed behind a name that is before its own, or isn't
abbrev test : Option (List ℕ) → Bool → TableSchema → Bool
test name b d = is_some d.view && (b && is_table_of_name name d)

off : (name : Option (List ℕ)) (d : TableSchema) → test name false d ≡ false
off name d = and-false (is_some d.view)

all_three : (a b c : Bool) → (a && (b && c)) ≡ true → (a ≡ true) × (b ≡ true) × (c ≡ true)
all_three true true true e = (refl, refl, refl)
all_three true true false e = absurd (let f : ⊥ = cc in f)
all_three true false c e = absurd (let f : ⊥ = cc in f)
all_three false b c e = absurd (let f : ⊥ = cc in f)

keyed_so : (es : List (List ℕ × TableSchema)) → T (is_sorted text_order es)
    → ((k : List ℕ) (d : TableSchema) → at_key text_order k es ≡ Some d → d.name ≡ k)
    → keyed (λ (d : TableSchema). d.name) (map (λ e. e.1) es) ≡ es
keyed_so [] sorted named = refl
keyed_so (e ∷ es) sorted named =
    let rest = keyed_so es (second_holds _ _ sorted)
    (λ k d at. named k d (behind e es sorted k d at)) in
    (λ i. (named e.0 e.1 (here e es) i, e.1) ∷ rest i)

module _ (catalog : Texts TableSchema) (named : TablesHaveOwnNames catalog) where
  abbrev ds : List TableSchema
  ds = all_in catalog

  are_keyed : keyed (λ (d : TableSchema). d.name) ds ≡ entries catalog
  are_keyed = keyed_so (entries catalog) (entries_sorted catalog)
      (λ k d at. named k d (get-entries catalog k ∙ at))

  rises : Rises (λ (d : TableSchema). d.name) ds
  rises = subst (λ es. T (is_sorted text_order es)) (sym are_keyed) (entries_sorted catalog)

  -- the first whose name comes after another
  first-behind : (last : List ℕ) → first_after last catalog
      ≡ find (λ d. is_lt (text_order last d.name)) ds
  first-behind last =
      ap (λ es. option_map (λ (e : List ℕ × TableSchema). e.1)
      (find (λ e. is_lt (text_order last e.0)) es)) (sym are_keyed)
      ∙ find-keyed (λ (d : TableSchema). d.name) (λ k. is_lt (text_order last k)) ds

  -- ---- a page

  -- the stream that is found behind a name is the next one
  pub streams_next : (last : List ℕ) (name : Option (List ℕ)) (d : TableSchema)
      → Some d ≡ find (is_listed last name) ds
      → streams_after last name catalog ≡ d ∷ streams_after d.name name catalog
  streams_next last name d e = chosen_next (λ (d : TableSchema). d.name) (test name) (off name)
      last d ds rises (sym e)

  -- where none is found there are no more
  pub streams_none : (last : List ℕ) (name : Option (List ℕ)) → None ≡ find (is_listed last name) ds
      → streams_after last name catalog ≡ []
  streams_none last name e = by (streams_after last name catalog)
      (e ∙ find-filter (is_listed last name) ds)
    where
      by : (xs : List TableSchema) → None ≡ slice_get xs 0 → xs ≡ []
      by [] at = refl
      by (x ∷ xs) at = absurd (let f : ⊥ = cc in f)

  -- what is found behind a name is the first of those that follow
  pub streams_first : (last : List ℕ) (name : Option (List ℕ)) → find (is_listed last name) ds
      ≡ slice_get (streams_after last name catalog) 0
  streams_first last name = find-filter (is_listed last name) ds

  -- ---- a walk over all

  -- a table behind the name that has a stream is the one that is found
  pub walk_here : (last : List ℕ) (d : TableSchema) → Some d ≡ first_after last catalog
      → is_some d.view ≡ true → Some d ≡ find (is_listed last None) ds
  walk_here last d e is =
      sym (walk_found (λ (d : TableSchema). d.name) (test None) (off None) last d ds
      (sym (first-behind last) ∙ sym e) (and-true (is_some d.view) ∙ is))

  -- one that has none is passed over
  pub walk_next : (last : List ℕ) (d : TableSchema) → Some d ≡ first_after last catalog
      → is_some d.view ≡ false → find (is_listed last None) ds ≡ find (is_listed d.name None) ds
  walk_next last d e is =
      walk_on (λ (d : TableSchema). d.name) (test None) (off None) last d ds rises
      (sym (first-behind last) ∙ sym e) (and-true (is_some d.view) ∙ is)

  -- behind the last table none is found
  pub walk_end : (last : List ℕ) → None ≡ first_after last catalog
      → None ≡ find (is_listed last None) ds
  walk_end last e = sym (walk_none (λ (d : TableSchema). d.name) (test None) (off None) last ds
      (sym (first-behind last) ∙ sym e))

  -- ---- one table

  module _ (last name : List ℕ) where
    -- what is listed has that name, a stream, and stands behind the last
    parts : (d : TableSchema) → is_listed last (Some name) d ≡ true
        → (is_some d.view ≡ true) × (is_lt (text_order last name) ≡ true) × (d.name ≡ name)
    parts d e =
        let is = all_three (is_some d.view) _ _ e in
        let own : d.name ≡ name = (bytes_eq-Decides d.name name).0 is.2 in
        (is.0, sym (ap (λ k. is_lt (text_order last k)) own) ∙ is.1, own)

    -- the one of that name isn't, or there is none
    pub named_none : ((d : TableSchema) → finite.get catalog name ≡ Some d → is_some d.view ≡ true
        → is_lt (text_order last name) ≡ true → ⊥) → None ≡ find (is_listed last (Some name)) ds
    named_none never_so = sym (found_none (is_listed last (Some name)) (entries catalog)
        (entries_sorted catalog) (λ j d at e.
        let is = parts d e in
        let there : finite.get catalog j ≡ Some d = get-entries catalog j ∙ at in
        let one : j ≡ name = sym (named j d there) ∙ is.2 in
        never_so d (ap (finite.get catalog) (sym one) ∙ there) is.0 is.1))

    -- it is
    pub named_one : (d : TableSchema) → Some d ≡ finite.get catalog name → is_some d.view ≡ true
        → is_lt (text_order last name) ≡ true → Some d ≡ find (is_listed last (Some name)) ds
    named_one d there shown less =
        let own : d.name ≡ name = named name d (sym there) in
        let passes : is_listed last (Some name) d ≡ true =
        (λ i. shown i && (is_lt (text_order last (own i)) && bytes_eq (own i) name))
        ∙ (λ i. less i && (bytes_eq-Decides name name).1 refl i) in
        sym (found_only (is_listed last (Some name)) name d (entries catalog)
        (entries_sorted catalog)
        (sym (get-entries catalog name) ∙ sym there) passes
        (λ j e at f. sym (named j e (get-entries catalog j ∙ at)) ∙ (parts e f).2))

    -- where it stands behind the last, it is told by its stream
    pub named_shown : (d : TableSchema) → Some d ≡ finite.get catalog name
        → is_lt (text_order last name) ≡ true
        → (if is_some d.view then Some d else None) ≡ find (is_listed last (Some name)) ds
    named_shown d there less = by (is_some d.view) refl
      where
        by : (b : Bool) → is_some d.view ≡ b
            → (if b then Some d else None) ≡ find (is_listed last (Some name)) ds
        by true e = named_one d there e less
        by false e = named_none (λ x at shown behind_so.
            let one : d ≡ x = same_Some d x (there ∙ at) in
            let no : false ≡ true = sym e ∙ ap (λ (y : TableSchema). is_some y.view) one
            ∙ shown in cc no)
