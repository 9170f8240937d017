-- Where no index of any table is being built none is behind a write that brings none.
use Rattle.std.proofs.Common.{◌≡◌, refl, sym, ap, subst, ◌∙◌, ℕ, Bool, true, false, cond, List, Option, Some, None}
use Rattle.std.proofs.lemmas.Bool.{false≢true}
use Rattle.std.proofs.lemmas.Option.{same_Some}
use Rattle.std.specs.FinMap as map
use Rattle.std.specs.List.{list_all}
use Rattle.std.specs.Ordering.{eq_by_cmp}
use Rattle.std.specs.Prelude.{not}
use Rattle.alt_base.proofs.Lists.{all_at}
use Rattle.alt_machine.specs.Building.{building_in, is_building}
use Rattle.alt_machine.specs.State.{Texts}
use Rattle.alt_rowchanges.proofs.OpeningOneIndex.{behind_any, found_at}
use Rattle.alt_schema.specs.Bare.{is_whole}
use Rattle.alt_schema.specs.Indexes.{indexes}
use Rattle.alt_schema.specs.declared.schema.IndexSchema.{IndexSchema}
use Rattle.alt_schema.specs.declared.schema.TableSchema.{TableSchema}
use Rattle.alt_tables.specs.Built.{NoneBuilds}
use Rattle.alt_tables.specs.declared.tables.Tables.{Tables}
use Rattle.alt_value.specs.Members.{text_order}
use Rattle.alt_value.proofs.Texts.{text_total}

-- where the tables and what is known of them stay, none is then
pub none_on : (t u : Tables) → u.catalog ≡ t.catalog → u.builds ≡ t.builds
    → (t.builds ≡ false → NoneBuilds t.catalog) → u.builds ≡ false → NoneBuilds u.catalog
none_on t u catalog builds none is = subst NoneBuilds (sym catalog) (none (sym builds ∙ is))

module _ (catalog : Texts TableSchema) (none : NoneBuilds catalog) (name : List ℕ) where
  -- with a table of which none is
  pub none_with : (d : TableSchema) → building_in d ≡ None → NoneBuilds (map.insert catalog name d)
  none_with d free other e at = by (eq_by_cmp text_order other name)
      (sym (map.get-insert text_total catalog name d other) ∙ at)
    where
      by : (b : Bool) → cond b (Some d) (map.get catalog other) ≡ Some e → building_in e ≡ None
      by true is = subst (λ (x : TableSchema). building_in x ≡ None) (same_Some d e is) free
      by false is = none other e is

  -- without a table
  pub none_without : NoneBuilds (map.remove catalog name)
  none_without other e at = by (eq_by_cmp text_order other name)
      (sym (map.get-remove text_total catalog name other) ∙ at)
    where
      by : (b : Bool) → cond b None (map.get catalog other) ≡ Some e → building_in e ≡ None
      by true is = absurd (let no : None ≡ Some e = is in let f : ⊥ = cc in f)
      by false is = none other e is

-- of a table of which each index is whole none is
pub none_of_whole : (d : TableSchema) → list_all (λ i. is_whole i.built) (indexes d) ≡ true
    → building_in d ≡ None
none_of_whole d whole = by (building_in d) refl
  where
    by : (o : Option IndexSchema) → building_in d ≡ o → o ≡ None
    by None is = refl
    by (Some i) is =
        let (n, here, building) = found_at is_building d.globals i is in
        let (m, there) = behind_any d.locals d.globals n i here in
        absurd (false≢true
        (sym (ap not (all_at (λ (x : IndexSchema). is_whole x.built) (indexes d) m
        i whole there)) ∙ building))
