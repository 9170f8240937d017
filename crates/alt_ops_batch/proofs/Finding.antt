-- Members that are looked up, one after another.
use Rattle.std.proofs.Common.{◌≡◌, ap, ◌∙◌, List, [], ◌∷◌, ◌++◌, map, append_assoc}
use Rattle.std.proofs.lemmas.List.{map-append}
use Rattle.alt_disk.specs.Disk.{DiskState}
use Rattle.alt_machine.specs.declared.PlacedMember.{PlacedMember}
use Rattle.alt_machine.specs.Ops.BatchWriteItem.{PlacedWrite, written_by}
use Rattle.alt_machine.specs.State.{State}
use Rattle.alt_request.specs.TablesSeveral.{Every, written_at, MayWrite, IsFound}
use Rattle.alt_request.specs.TablesDeclaredItemChange.{ItemChange}
use Rattle.alt_request.specs.TablesLooking.{OnlyReads}
use Rattle.alt_request.specs.TablesStands.{Stands, catalog_of}
use Rattle.alt_request.specs.TablesDeclaredTables.{Tables}
use Rattle.alt_request.proofs.TablesEach.{every_more}
use Rattle.alt_request.proofs.TablesLooking.{only_then}

-- The first of the members are looked up.
pub record AreFound (before : DiskState) (old : Tables) (after : DiskState) (now : Tables)
    (members rest : List PlacedMember) (changes : List ItemChange) : Type 0 where
  pub only : OnlyReads before after old now
  pub written : map written_at changes ++ map written_by rest ≡ map written_by members
  pub may : Every (MayWrite (catalog_of old)) (map written_by rest)
  pub found : (s : State) → Stands before old s → Every (IsFound s) changes

-- so is one more
pub found_one : (before mid after : DiskState) (old now new : Tables)
    (members rest : List PlacedMember) (m : PlacedMember) (changes : List ItemChange) (c : ItemChange)
    → AreFound before old mid now members (m ∷ rest) changes → OnlyReads mid after now new
    → written_at c ≡ written_by m → ((s : State) → Stands mid now s → IsFound s c)
    → AreFound before old after new members rest (changes ++ c ∷ [])
found_one before mid after old now new members rest m changes c so only same found =
    record {
      only = only_then so.only only;
      written = ap (λ l. l ++ map written_by rest) (map-append written_at changes (c ∷ []))
          ∙ append_assoc (map written_at changes) (written_at c ∷ []) (map written_by rest)
          ∙ ap (λ (w : PlacedWrite). map written_at changes ++ w ∷ map written_by rest) same
          ∙ so.written;
      may = so.may.1;
      found = λ s stands. every_more (IsFound s) changes c (so.found s stands)
          (found s ((so.only.stays s).0 stands));
    }
