-- The write of an UpdateTable: its description may be given to the table, and then the request has come to what it is to.
use Rattle.std.proofs.Common.{◌≡◌, ◌<◌, sym, ap, subst, ◌∙◌, ℕ, true, cond, List, [], ◌∷◌, length, nat_le, Option, Some, None, is_some, arith}
use Rattle.std.proofs.lemmas.Bool.{leb-true}
use Rattle.std.proofs.lemmas.Option.{same_Some}
use Rattle.std.specs.Cmp.{first_so}
use Rattle.std.specs.Prelude.{◌&&◌, codes, option_and_then, unwrap_or}
use Rattle.std.specs.FinMap as map
use Rattle.std.specs.List.{list_all}
use Rattle.std.specs.Option.{option_map_or}
use Rattle.serde_json.specs.Data.{Data, Members}
use Rattle.serde_json.specs.Find.{as_str}
use Rattle.alt_backfill.specs.declared.asked.Later.{Later}
use Rattle.alt_backfill.specs.private.Asked.{MayBeAltered}
use Rattle.alt_backfill.proofs.Altering.{altered_left, altered_made, altered_may, altered_name, altered_wants}
use Rattle.alt_backfill.proofs.Asking.{comes_to, reached}
use Rattle.alt_backfill.proofs.Tests.{shape_kept}
use Rattle.alt_disk.specs.Disk.{DiskState}
use Rattle.alt_machine.specs.Body.{of_shape}
use Rattle.alt_machine.specs.Members.{may_name, table_name}
use Rattle.alt_machine.specs.Ops.UpdateTable.{altered, are_single, coming, described, family_after, changed_index_names_fit, of_body, update_table, wanted_for, with_description}
use Rattle.alt_machine.specs.Refusals.{first_answer}
use Rattle.alt_machine.specs.State.{State, Table}
use Rattle.alt_machine.specs.Valid.{IsMade}
use Rattle.alt_machine.proofs.Tests.{rest_none, unless_holds}
use Rattle.alt_schema.specs.Rules.{is_name, is_name_byte}
use Rattle.alt_schema.specs.declared.schema.TableSchema.{TableSchema}
use Rattle.alt_shape.specs.Bodies as bodies
use Rattle.alt_shape.specs.Refusals.{bad_index_update, bad_name}
use Rattle.alt_shape.specs.Shape.{a_text, fault_of, given}
use Rattle.alt_shape.specs.declared.rule.Broken.TheVariants.{WrongKind}
use Rattle.alt_shape.proofs.Places.{or_next_first}
use Rattle.alt_request.specs.TablesAltering.{MayAlter, alter_wants, family_left}
use Rattle.alt_request.specs.TablesStands.{Stands, catalog_of, next_family_of_tables}
use Rattle.alt_request.specs.TablesDeclaredTables.{Tables}

-- a good name has bytes
name_has : (name : List ℕ) → is_name name ≡ true → 0 < length name
name_has name e = omega (
  arith,
  leb-true 3 (length name) (first_so (nat_le 3 (length name))
      (nat_le (length name) 255 && list_all is_name_byte name) e),
)

-- the text that has to be at a member, where its name is good
text_has : (o : Option Data) → fault_of a_text true o ≡ None
    → option_map_or is_name (option_and_then as_str o) true ≡ true
    → 0 < length (unwrap_or (option_and_then as_str o) [])
text_has None e h = absurd (let f : ⊥ = cc in f)
text_has (Some d) e h = by (as_str d) e h
  where
    by : (o : Option (List ℕ)) → cond (is_some o) None (Some WrongKind) ≡ None
        → option_map_or is_name o true ≡ true → 0 < length (unwrap_or o [])
    by None e h = absurd (let f : ⊥ = cc in f)
    by (Some name) e h = name_has name h

-- the name of the table in a body that isn't refused
table_has : (ms : Members) → first_answer (of_body ms) ≡ None → 0 < length (table_name ms)
unfolding bodies.update_table
table_has ms free =
    let shaped = rest_none (of_shape (bodies.update_table ms)) _ free in
    let single = unless_holds (are_single ms) bad_index_update _ shaped.1 in
    let named = first_so (may_name ms (codes "TableName")) (changed_index_names_fit ms)
    (unless_holds (may_name ms (codes "TableName") && changed_index_names_fit ms) bad_name [] single.1).0 in
    text_has (given (codes "TableName") ms)
    (or_next_first _ _ (or_next_first _ _ (shape_kept ms free))) named

module _ (tables : Tables) (ms : Members) (later : Later) (may : MayBeAltered tables ms later) where
  abbrev d : TableSchema
  d = may.description

  name_is : later.schema.name ≡ table_name ms
  name_is = ap (λ (x : TableSchema). x.name) may.is ∙ altered_name d ms (next_family_of_tables tables) ∙ may.named

  there_is : map.get (catalog_of tables) later.schema.name ≡ Some d
  there_is = ap (map.get (catalog_of tables)) name_is ∙ may.there

  -- the table is there
  pub alter_there : map.contains_key (catalog_of tables) later.schema.name ≡ true
  alter_there = ap is_some there_is

  -- its name has bytes
  pub alter_named : 0 < length later.schema.name
  alter_named = subst (λ (n : List ℕ). 0 < length n) (sym name_is) (table_has ms may.body)

  -- the description is as one has to be
  pub alter_made : (disk : DiskState) (s : State) → Stands disk tables s → IsMade later.schema
  alter_made disk s stands =
      let (t, at, is, e) = reached tables ms later may s (sym stands.catalog) in
      subst IsMade (sym may.is) (altered_made d ms (next_family_of_tables tables) may.body may.free
      (subst IsMade is (stands.valid.tables (table_name ms) t at).made))

  module _ (some : later.alters ≡ true) where
    -- it may take the place of the table's
    pub alter_may : (e : TableSchema) → map.get (catalog_of tables) later.schema.name ≡ Some e
        → MayAlter (next_family_of_tables tables) e later.schema
    alter_may e at =
        let same : d ≡ e = same_Some d e (sym there_is ∙ at) in
        subst (λ (x : TableSchema). MayAlter (next_family_of_tables tables) x later.schema) same
        (subst (MayAlter (next_family_of_tables tables) d) (sym may.is)
        (altered_may d ms (next_family_of_tables tables) may.body (sym may.alters ∙ some)))

    -- and then the request has come to what it is to
    pub written : (disk : DiskState) (s : State) → Stands disk tables s
        → (t : Table) × (map.get s.tables later.schema.name ≡ Some t)
        × (alter_wants t.description later.schema ≡ wanted_for (coming ms))
        × (update_table s ms ≡ record {
          answer = described later.schema (codes "UPDATING");
          atoms = with_description s later.schema.name t later.schema
              (family_left s.next_family t.description later.schema) ∷ [];
          wants = wanted_for (coming ms);
        })
    written disk s stands =
        let (t, at, is, e) = reached tables ms later may s (sym stands.catalog) in
        let acts = sym may.alters ∙ some in
        let schema : altered t.description ms s.next_family ≡ later.schema =
        (λ i. altered (is i) ms (sym stands.family i)) ∙ sym may.is in
        let next : family_after s.next_family (coming ms)
        ≡ family_left s.next_family t.description later.schema =
        sym (altered_left t.description ms s.next_family may.body acts)
        ∙ ap (family_left s.next_family t.description) schema in (
          t,
          ap (map.get s.tables) name_is ∙ at,
          ap (alter_wants t.description) (sym schema)
              ∙ altered_wants t.description ms s.next_family may.body acts,
          comes_to tables ms later may s (sym stands.catalog) some t is e ∙ (λ i. record {
            answer = described (schema i) (codes "UPDATING");
            atoms = with_description s (sym name_is i) t (schema i) (next i) ∷ [];
            wants = wanted_for (coming ms);
          }),
        )
