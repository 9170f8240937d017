-- Whether a description may stand under a name.
use Rattle.std.specs.Prelude.{◌≡◌, ◌≢◌, ◌<◌, ◌≤◌, ℕ, List, All, AllPairs}
use Rattle.alt_machine.specs.State.{families_of}
use Rattle.alt_machine.specs.Valid.{IsMade}
use Rattle.alt_schemabytes.specs.Held.{IsHeld}
use Rattle.alt_schema.specs.declared.schema.TableSchema.{TableSchema}

-- A description may stand under a name, by the next number and the next family.
pub record IsGood (next_number next : ℕ) (name : List ℕ) (d : TableSchema) : Type 0 where
  pub named : d.name ≡ name
  pub made : IsMade d
  pub held : IsHeld d
  pub number : (1 ≤ d.number) × (d.number < next_number)
  pub families : All (λ f. (1 ≤ f) × (f < next)) (families_of d)
  pub differ : AllPairs (λ f g. f ≢ g) (families_of d)
