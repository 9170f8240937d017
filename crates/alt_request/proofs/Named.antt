-- The table that is named, in each state that has the tables of a catalog.
use Rattle.std.proofs.Common.{◌≡◌, refl, ap, ◌∙◌, ℕ, List, Option, Some, None, Err}
use Rattle.std.specs.FinMap as map
use Rattle.alt_machine.specs.Refusals.{or_refused}
use Rattle.alt_machine.specs.State.{State, Table, Texts, descriptions}
use Rattle.alt_machine.proofs.Descriptions.{table_of_description, no_description}
use Rattle.alt_schema.specs.declared.schema.TableSchema.{TableSchema}
use Rattle.alt_shape.specs.Refusals.{Answer, refused}
use Rattle.alt_shape.specs.declared.refusal.Refusal.{Refusal}

-- what was refused wasn't there, and the refusal is the one that stands for it
pub none_found : {A : Type 0} (r : Refusal) (o : Option A) (answer : Answer)
    → or_refused r o ≡ Err answer → (o ≡ None) × (answer ≡ refused r)
none_found r None answer e = (refl, let f : answer ≡ refused r = cc in f)
none_found r (Some y) answer e = absurd (let f : ⊥ = cc in f)

module _ (s : State) (catalog : Texts TableSchema) (same : descriptions s.tables ≡ catalog)
    (name : List ℕ) where
  -- a description that the catalog has under the name is that of a table
  pub table_found : (d : TableSchema) → map.get catalog name ≡ Some d
      → (t : Table) × (map.get s.tables name ≡ Some t) × (t.description ≡ d)
  table_found d e = table_of_description s.tables name d (ap (λ m. map.get m name) same ∙ e)

  -- where it has none there is no table
  pub table_missed : map.get catalog name ≡ None → map.get s.tables name ≡ None
  table_missed e = no_description s.tables name (ap (λ m. map.get m name) same ∙ e)
