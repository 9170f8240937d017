-- The descriptions of tables have the names of the tables.
use Rattle.std.proofs.Common.{◌≡◌, refl, sym, ap, ◌∙◌, ℕ, Bool, true, false, cond, T, List, [], ◌∷◌, map, length, is_some, Option, Some, None, option_map, is_eq}
use Rattle.std.specs.FinMap.{entries, entries_sorted, get, len, keys, contains_key, get-entries, get-from_sorted, len-entries, entries-from_sorted}
use Rattle.std.specs.FinMap.Entries.{find, is_sorted, below_all}
use Rattle.std.specs.Prelude.{◌&&◌}
use Rattle.std.proofs.lemmas.List.{length-map}
use Rattle.alt_machine.specs.State.{Table, Texts, descriptions}
use Rattle.alt_schema.specs.declared.schema.TableSchema.{TableSchema}
use Rattle.alt_value.specs.Members.{text_order}

module _ {X Y : Type 0} (f : X → Y) where
  abbrev each : List (List ℕ × X) → List (List ℕ × Y)
  each es = map (λ e. (e.0, f e.1)) es

  below-each : (k : List ℕ) (es : List (List ℕ × X)) → T (below_all text_order k es)
      → T (below_all text_order k (each es))
  below-each k [] h = h
  below-each k (e ∷ es) h = rest (below_all text_order k es) (below_all text_order k (each es)) _
      (below-each k es) h
    where
      rest : (b c a : Bool) → (T b → T c) → T (a && b) → T (a && c)
      rest b c true g t = g t
      rest b c false g t = t

  sorted-each : (es : List (List ℕ × X)) → T (is_sorted text_order es)
      → T (is_sorted text_order (each es))
  sorted-each [] h = h
  sorted-each (e ∷ es) h = both (below_all text_order e.0 es) (is_sorted text_order es) _ _
      (below-each e.0 es) (sorted-each es) h
    where
      both : (a b c d : Bool) → (T a → T c) → (T b → T d) → T (a && b) → T (c && d)
      both true b true d g h t = h t
      both true b false d g h t = g tt
      both false b c d g h t = absurd t

  find-each : (q : List ℕ) (es : List (List ℕ × X))
      → find text_order q (each es) ≡ option_map f (find text_order q es)
  find-each q [] = refl
  find-each q (e ∷ es) = elim (is_eq (text_order q e.0)) as
      (λ b. cond b (Some (f e.1)) (find text_order q (each es))
      ≡ option_map f (cond b (Some e.1) (find text_order q es))) [
        | true ↦ refl
        | false ↦ find-each q es
      ]

  names-each : (es : List (List ℕ × X)) → map (λ (e : List ℕ × Y). e.0) (each es)
      ≡ map (λ (e : List ℕ × X). e.0) es
  names-each [] = refl
  names-each (e ∷ es) = ap (λ ks. e.0 ∷ ks) (names-each es)

module _ (tables : Texts Table) where
  sorted : T (is_sorted text_order (each (λ (t : Table). t.description) (entries tables)))
  sorted = sorted-each (λ (t : Table). t.description) (entries tables) (entries_sorted tables)

  -- the description at a name is that of the table there
  pub get-descriptions : (name : List ℕ) → get (descriptions tables) name
      ≡ option_map (λ t. t.description) (get tables name)
  get-descriptions name = get-from_sorted text_order
      (each (λ (t : Table). t.description) (entries tables)) name sorted
      ∙ find-each (λ (t : Table). t.description) name (entries tables)
      ∙ sym (ap (option_map (λ (t : Table). t.description)) (get-entries tables name))

  -- descriptions have the names of the tables
  pub keys-descriptions : keys (descriptions tables) ≡ keys tables
  keys-descriptions = ap (map (λ (e : List ℕ × TableSchema). e.0))
      (entries-from_sorted text_order (each (λ (t : Table). t.description) (entries tables)) sorted)
      ∙ names-each (λ (t : Table). t.description) (entries tables)

  -- there are as many descriptions as tables
  pub len-descriptions : len (descriptions tables) ≡ len tables
  len-descriptions = len-entries (descriptions tables)
      ∙ ap length (entries-from_sorted text_order
      (each (λ (t : Table). t.description) (entries tables)) sorted)
      ∙ length-map (entries tables) (λ (e : List ℕ × Table). (e.0, e.1.description))
      ∙ sym (len-entries tables)

  -- a name has a description exactly where it has a table
  pub there-descriptions : (name : List ℕ) → contains_key (descriptions tables) name
      ≡ contains_key tables name
  there-descriptions name = ap is_some (get-descriptions name) ∙ same (get tables name)
    where
      same : (o : Option Table) → is_some (option_map (λ t. t.description) o) ≡ is_some o
      same None = refl
      same (Some t) = refl

  -- where a description is found, the table of it is there
  pub table_of_description : (name : List ℕ) (d : TableSchema)
      → get (descriptions tables) name ≡ Some d
      → (t : Table) × (get tables name ≡ Some t) × (t.description ≡ d)
  table_of_description name d e = by (get tables name) (sym (get-descriptions name) ∙ e)
    where
      by : (o : Option Table) → option_map (λ t. t.description) o ≡ Some d
          → (t : Table) × (o ≡ Some t) × (t.description ≡ d)
      by None e = absurd (let f : ⊥ = cc in f)
      by (Some t) e = (t, refl, cc)

  -- where none is found, no table is there
  pub no_description : (name : List ℕ) → get (descriptions tables) name ≡ None
      → get tables name ≡ None
  no_description name e = by (get tables name) (sym (get-descriptions name) ∙ e)
    where
      by : (o : Option Table) → option_map (λ t. t.description) o ≡ None → o ≡ None
      by None e = refl
      by (Some t) e = absurd (let f : ⊥ = cc in f)

-- the entries of the descriptions are those of the tables
pub entries-descriptions : (tables : Texts Table)
    → entries (descriptions tables) ≡ map (λ e. (e.0, e.1.description)) (entries tables)
entries-descriptions tables = entries-from_sorted text_order
    (each (λ (t : Table). t.description) (entries tables)) (sorted tables)
