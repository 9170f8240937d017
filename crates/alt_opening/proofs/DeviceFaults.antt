-- A fault of the device is none of a row, whatever is read, and one of a walk is of the device.
use Rattle.std.proofs.Common.{◌≡◌, ℕ, sym, subst}
use Rattle.alt_engine.specs.HandFaults.{told_by_engine}
use Rattle.alt_engine.specs.HandOpened.{EngineFaultIsUndamaged}
use Rattle.alt_engine.specs.HandDeclaredEngineFault.{EngineFault}
use Rattle.alt_faults.specs.Faults.{IsOutside, RowWhere, without_numbers}
use Rattle.alt_faults.proofs.Telling.{outside-numbers, outside-tells}
use Rattle.alt_layout.specs.Layout.{Layout}
use Rattle.alt_schema.specs.declared.schema.IndexSchema.{IndexSchema}
use Rattle.alt_schema.specs.declared.schema.TableSchema.{TableSchema}
use Rattle.alt_opening.specs.Faults.{told_by_opening}
use Rattle.alt_opening.specs.private.IndexScans.{IsIndexFault, IsFirstOff}
use Rattle.alt_opening.specs.Scans.{IsDeviceFault, IsFirstBad, IsItemFault}
use Rattle.alt_opening.specs.StreamScans.{IsChangeFault, IsFirstForeignChange, IsFirstOfStream, IsStreamFault}
use Rattle.alt_opening.specs.declared.faults.OpenFault.{OpenFault}

-- of items
pub device_item : (l : Layout) (d : TableSchema) (fault : OpenFault) → IsDeviceFault fault
    → IsItemFault l d fault
device_item l d fault = outside-tells (λ n. ⊥)
    (RowWhere (λ family key. (family ≡ d.family) × IsFirstBad l d key)) (told_by_opening fault)

-- of changes
pub device_change : (l : Layout) (d : TableSchema) (next trimmed family : ℕ) (fault : OpenFault)
    → IsDeviceFault fault → IsChangeFault l d next trimmed family fault
device_change l d next trimmed family fault = outside-tells (λ n. ⊥)
    (RowWhere (λ f key. (f ≡ family) × IsFirstForeignChange l d next trimmed family key))
    (told_by_opening fault)

-- of a stream
pub device_stream : (l : Layout) (d : TableSchema) (fault : OpenFault) → IsDeviceFault fault
    → IsStreamFault l d fault
device_stream l d fault = outside-tells (λ n. ⊥) (RowWhere (IsFirstOfStream l d))
    (told_by_opening fault)

-- of an index
pub device_index : (l : Layout) (d : TableSchema) (i : IndexSchema) (fault : OpenFault)
    → IsDeviceFault fault → IsIndexFault l d i fault
device_index l d i fault = outside-tells (λ n. ⊥)
    (RowWhere (λ family key. (family ≡ i.family) × IsFirstOff l d i key)) (told_by_opening fault)

-- one that a walk tells of no damage
pub device_walk : (given : EngineFault) (fault : OpenFault)
    → told_by_opening fault ≡ without_numbers (told_by_engine given) → EngineFaultIsUndamaged given
    → IsDeviceFault fault
device_walk given fault same whole =
    subst IsOutside (sym same) (outside-numbers (told_by_engine given) whole)
