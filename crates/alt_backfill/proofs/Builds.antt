-- What a Build comes to: nothing where no index is being built, and else one write.
use Rattle.std.proofs.Common.{◌≡◌, refl, sym, subst, ◌∙◌, true, false, [], ◌∷◌, Some, None, option_map, IsTrue}
use Rattle.std.specs.Prelude.{◌↔◌}
use Rattle.std.specs.FinMap as finite
use Rattle.std.specs.List.{find}
use Rattle.alt_backfill.specs.private.Asked.{builds}
use Rattle.alt_backfill.proofs.Naming.{builds_first, builds_nothing, find_none, none_empty}
use Rattle.alt_disk.specs.Disk.{DiskState}
use Rattle.alt_machine.specs.Building.{build, building_in, with_built}
use Rattle.alt_machine.specs.Outcomes.{a_number}
use Rattle.alt_machine.specs.State.{State, Table}
use Rattle.alt_machine.specs.declared.TheConstants.{BUILT_AT_ONCE}
use Rattle.alt_schema.specs.declared.schema.IndexSchema.{IndexSchema}
use Rattle.alt_schema.specs.declared.schema.TableSchema.{TableSchema}
use Rattle.alt_request.specs.TablesBuilt.{NoneBuilds}
use Rattle.alt_request.specs.TablesFaults.{AreMade}
use Rattle.alt_request.specs.TablesImages.{Leaves}
use Rattle.alt_request.specs.TablesStands.{Stands, catalog_of}
use Rattle.alt_request.specs.TablesDeclaredTables.{Tables}
use Rattle.alt_request.proofs.TablesLeft.{leaves_reads, reads_nothing}

-- nothing is built

module _ (s : State) (none : build s ≡ []) where
  -- the tables stand for what they stood for
  pub idle_made : (now : State → Type 0) → now s → AreMade now a_number s (build s)
  idle_made now stands = subst (AreMade now a_number s) (sym none)
      (record { state = stands; enough = refl })

  -- and that is told
  pub idle_told : IsTrue false ↔ (build s ≡ [] → ⊥)
  idle_told = (λ h. absurd (let f : ⊥ = cc in f), λ h. absurd (h none))

-- one write is made
module _ (s r : State) (one : build s ≡ r ∷ []) where
  pub one_told : IsTrue true ↔ (build s ≡ [] → ⊥)
  one_told = (λ h none. absurd (let f : r ∷ [] ≡ [] = sym one ∙ none in cc f), λ h. refl)

module _ (disk : DiskState) (tables : Tables) (s : State) (stands : Stands disk tables s) where
  -- no call leaves what was there
  pub idle_leaves : Leaves disk disk s (build s)
  idle_leaves = leaves_reads disk disk tables s (build s) (reads_nothing disk) stands

  -- where none of the catalog is being built
  pub unbuilt : NoneBuilds (catalog_of tables) → build s ≡ []
  unbuilt none = builds_nothing s (catalog_of tables) (sym stands.catalog)
      (find_none (catalog_of tables) none)

  -- no first one is found
  pub unfound : (finite.get (catalog_of tables) [] ≡ None
      → option_map (λ (d : TableSchema). (d.name, d)) None
      ≡ find (λ e. builds e.1) (finite.entries (catalog_of tables))) → build s ≡ []
  unfound none = builds_nothing s (catalog_of tables) (sym stands.catalog)
      (sym (none (none_empty s (catalog_of tables) (sym stands.catalog) stands.valid)))

  -- the first one is found
  pub found : (d : TableSchema) → (finite.get (catalog_of tables) [] ≡ None
      → option_map (λ (d : TableSchema). (d.name, d)) (Some d)
      ≡ find (λ e. builds e.1) (finite.entries (catalog_of tables)))
      → (t : Table) × (i : IndexSchema) × (finite.get s.tables d.name ≡ Some t)
      × (building_in t.description ≡ Some i)
      × (build s ≡ with_built s BUILT_AT_ONCE d.name t i ∷ [])
  found d first = builds_first s (catalog_of tables) (sym stands.catalog) d
      (sym (first (none_empty s (catalog_of tables) (sym stands.catalog) stands.valid)))
