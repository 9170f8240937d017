-- How many numbers of files work may take: live are the families of the tables and that of the catalog, and these are few.
use Rattle.std.proofs.Common.{◌≡◌, ◌≤◌, ◌<◌, ◌+◌, ◌*◌, ◌++◌, ◌∙◌, ⊎_elim, inl, inr, refl, sym, subst, ℕ, suc, Bool, true, false, cond, List, [], ◌∷◌, length, map, get_or, Option, Some, None, option_map, Contains, is_eq, arith}
use Rattle.std.proofs.lemmas.Cmp.{tied_itself}
use Rattle.std.proofs.lemmas.List.{length-append, length-map}
use Rattle.std.specs.FinMap as finite
use Rattle.std.specs.FinMap.{entries, entries_sorted, get-entries, len-entries}
use Rattle.std.specs.FinMap.Entries.{find}
use Rattle.std.specs.Option.{option_map_or}
use Rattle.std.specs.Prelude.{◌≢◌}
use Rattle.alt_cells.proofs.Searched.{find_at}
use Rattle.alt_rowchanges.specs.OpeningHandWorking.{AreLive}
use Rattle.alt_machine.specs.State.{State, Table, descriptions, families_of}
use Rattle.alt_machine.specs.Valid.{IsMade, IsValid}
use Rattle.alt_machine.specs.declared.TheConstants.{MOST_FAMILIES, MOST_TABLES}
use Rattle.alt_machine.proofs.Descriptions.{get-descriptions}
use Rattle.alt_manifest.specs.Versions.{IsIn, RiseFrom}
use Rattle.alt_manifest.proofs.Among.{in_back, in_front, risen}
use Rattle.alt_rowchanges.proofs.OpeningLiveLists.{contained_in}
use Rattle.alt_rowchanges.specs.OpeningLive.{AreLiveIn, IsOfTable}
use Rattle.alt_rowchanges.specs.OpeningStateRows.{catalog_family}
use Rattle.alt_schema.specs.Indexes.{indexes}
use Rattle.alt_schema.specs.declared.schema.IndexSchema.{IndexSchema}
use Rattle.alt_schema.specs.declared.schema.TableSchema.{TableSchema}
use Rattle.alt_value.proofs.Texts.{text_total}
use Rattle.alt_value.specs.Members.{text_order}

-- ---- numbers among others

-- a list without one of its numbers is shorter by one, and has all others
record Without (ys : List ℕ) (x : ℕ) : Type 0 where
  rest : List ℕ
  shorter : length ys ≡ length rest + 1
  others : (y : ℕ) → IsIn ys y → y ≢ x → IsIn rest y

without_it : (ys : List ℕ) (x : ℕ) → IsIn ys x → Without ys x
without_it [] x there = absurd there
without_it (y ∷ ys) x (inl same) = record {
  rest = ys;
  shorter = omega arith;
  others = λ z there apart. ⊎_elim (λ (e : z ≡ y). absurd (apart (e ∙ sym same)))
      (λ (later : IsIn ys z). later) there;
}
without_it (y ∷ ys) x (inr later) =
    let it = without_it ys x later in
    let shorter = it.shorter in
    record {
      rest = y ∷ it.rest;
      shorter = omega (arith, shorter);
      others = λ z there apart. ⊎_elim (λ (e : z ≡ y). inl e)
          (λ (more : IsIn ys z). inr (it.others z more apart)) there;
    }

-- numbers that rise are no more than those among which they are
rising_few : (least : ℕ) (xs ys : List ℕ) → RiseFrom least xs
    → ((x : ℕ) → IsIn xs x → IsIn ys x) → length xs ≤ length ys
rising_few least [] ys rise among = omega arith
rising_few least (x ∷ xs) ys rise among =
    let it = without_it ys x (among x (inl refl)) in
    let shorter = it.shorter in
    let rest = rising_few (x + 1) xs it.rest rise.1 (λ y there. it.others y (among y (inr there))
    (λ (same : y ≡ x). let above = risen (x + 1) y xs rise.1 there in
    omega (arith, above, same))) in
    omega (arith, rest, shorter)

-- ---- the families of tables

-- a table has 27 at most
stream_few : (o : Option ℕ) → length (option_map_or (λ f. f ∷ []) o []) ≤ 1
stream_few None = omega arith
stream_few (Some f) = omega arith

families_few : (d : TableSchema) → IsMade d → length (families_of d) ≤ MOST_FAMILIES
families_few d made =
    let one = stream_few d.stream_family in
    let locals = made.locals_few in
    let globals = made.globals_few in
    omega (
      arith,
      length-append (map (λ (i : IndexSchema). i.family) (indexes d))
          (option_map_or (λ f. f ∷ []) d.stream_family []),
      length-map (indexes d) (λ (i : IndexSchema). i.family),
      length-append d.locals d.globals,
      one,
      locals,
      globals,
    )

-- those of several, one table's behind another's
abbrev all_families : List (List ℕ × Table) → List ℕ
all_families [] = []
all_families (e ∷ es) = families_of e.1.description ++ all_families es

all_few : (es : List (List ℕ × Table)) → ((i : ℕ) (e : List ℕ × Table) → i < length es
    → length (families_of (get_or es i e).1.description) ≤ MOST_FAMILIES)
    → length (all_families es) ≤ length es * MOST_FAMILIES
all_few [] few = let none : length (all_families []) ≡ 0 = refl in omega (arith, none)
all_few (e ∷ es) few =
    let first : length (families_of e.1.description) ≤ MOST_FAMILIES = few 0 e (omega arith) in
    let rest = all_few es (λ i d within. few (suc i) d (omega (arith, within))) in
    let both : length (all_families (e ∷ es))
    ≡ length (families_of e.1.description) + length (all_families es) =
    length-append (families_of e.1.description) (all_families es) in
    omega (arith, first, rest, both)

-- that of a table that is found is among them
same_table : (a b : Table) → Some a ≡ Some b → a ≡ b
same_table a b e = cc

all_in : (es : List (List ℕ × Table)) (name : List ℕ) (t : Table) (f : ℕ)
    → find text_order name es ≡ Some t → Contains (families_of t.description) f
    → IsIn (all_families es) f
all_in [] name t f found has = absurd (let no : None ≡ Some t = found in let g : ⊥ = cc in g)
all_in (e ∷ es) name t f found has =
    by (λ later. all_in es name t f later has) (is_eq (text_order name e.0)) found
  where
    by : (find text_order name es ≡ Some t → IsIn (all_families es) f) → (b : Bool)
        → cond b (Some e.1) (find text_order name es) ≡ Some t
        → IsIn (families_of e.1.description ++ all_families es) f
    by rest true same = in_front (families_of e.1.description) (all_families es) f
        (contained_in (families_of e.1.description) f
        (subst (λ (u : Table). Contains (families_of u.description) f)
        (sym (same_table e.1 t same)) has))
    by rest false later = in_back (families_of e.1.description) (all_families es) f (rest later)

-- the table of a description
record HasDescription (s : State) (name : List ℕ) (d : TableSchema) : Type 0 where
  table : Table
  there : finite.get s.tables name ≡ Some table
  is : table.description ≡ d

of_description : (s : State) (name : List ℕ) (d : TableSchema)
    → finite.get (descriptions s.tables) name ≡ Some d → HasDescription s name d
of_description s name d at =
    by (finite.get s.tables name) refl (sym (get-descriptions s.tables name) ∙ at)
  where
    same : (a b : TableSchema) → Some a ≡ Some b → a ≡ b
    same a b e = cc

    by : (o : Option Table) → finite.get s.tables name ≡ o
        → option_map (λ (t : Table). t.description) o ≡ Some d → HasDescription s name d
    by None found is = absurd (let no : None ≡ Some d = is in let g : ⊥ = cc in g)
    by (Some t) found is = record { table = t; there = found; is = same t.description d is }

-- ---- the families that are live

module _ (s : State) (valid : IsValid s) where
  -- each entry is a table of the state
  table_few : (i : ℕ) (e : List ℕ × Table) → i < length (entries s.tables)
      → length (families_of (get_or (entries s.tables) i e).1.description) ≤ MOST_FAMILIES
  table_few i e within =
      let es = entries s.tables in
      let it = get_or es i e in
      families_few it.1.description (valid.tables it.0 it.1 (get-entries s.tables it.0
      ∙ find_at text_order text_total it.0 es i e (entries_sorted s.tables) within
      (tied_itself text_total it.0))).made

  -- live are the families of 256 tables at most, and that of the catalog
  pub live_few : (live : List ℕ) → AreLive live → AreLiveIn (descriptions s.tables) live
      → length live ≤ MOST_TABLES * MOST_FAMILIES + 1
  live_few live are of =
      let es = entries s.tables in
      let most = rising_few 0 live (catalog_family ∷ all_families es) are.rising (λ f there. ⊎_elim
      (λ (own : f ≡ catalog_family). inl own)
      (λ (table : IsOfTable (descriptions s.tables) f).
      let found = of_description s table.name table.description table.there in
      inr (all_in es table.name found.table f
      (sym (get-entries s.tables table.name) ∙ found.there)
      (subst (λ (d : TableSchema). Contains (families_of d) f) (sym found.is) table.has)))
      (of.only f there)) in
      let few = all_few es table_few in
      let tables = valid.few in
      omega (arith, most, few, tables, len-entries s.tables)
