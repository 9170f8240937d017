-- The families of a table.
use Rattle.std.proofs.Common.{refl, Contains, arith}
use Rattle.alt_machine.specs.State.{families_of}
use Rattle.alt_schema.specs.declared.schema.TableSchema.{TableSchema}

-- its own is one of them
pub own_family : (d : TableSchema) → Contains (families_of d) d.family
own_family d = (0, omega arith, refl)
