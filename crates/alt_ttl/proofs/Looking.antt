-- What stands at places, looked up one after another.
use Rattle.std.proofs.Common.{◌≡◌, ap, ◌∙◌, List, [], ◌∷◌, ◌++◌, map, append_assoc}
use Rattle.std.proofs.lemmas.List.{map-append}
use Rattle.alt_disk.specs.Disk.{DiskState}
use Rattle.alt_machine.specs.declared.Standing.{Standing}
use Rattle.alt_machine.specs.Expiry.{gone_at}
use Rattle.alt_machine.specs.Ops.BatchWriteItem.{PlacedWrite}
use Rattle.alt_machine.specs.State.{State}
use Rattle.alt_request.specs.TablesSeveral.{Every, written_at, IsFound}
use Rattle.alt_request.specs.TablesDeclaredItemChange.{ItemChange}
use Rattle.alt_request.specs.TablesLooking.{OnlyReads}
use Rattle.alt_request.specs.TablesStands.{Stands, catalog_of}
use Rattle.alt_request.specs.TablesDeclaredTables.{Tables}
use Rattle.alt_request.proofs.TablesEach.{every_more}
use Rattle.alt_request.proofs.TablesLooking.{only_then}
use Rattle.alt_ttl.specs.private.Searched.{StandingTablesAreThere}

-- The first of them are looked up.
pub record AreFound (before : DiskState) (old : Tables) (after : DiskState) (now : Tables)
    (all rest : List Standing) (changes : List ItemChange) : Type 0 where
  pub only : OnlyReads before after old now
  pub written : map written_at changes ++ map gone_at rest ≡ map gone_at all
  pub named : StandingTablesAreThere (catalog_of old) rest
  pub found : (s : State) → Stands before old s → Every (IsFound s) changes

-- so is one more
pub found_one : (before mid after : DiskState) (old now new : Tables)
    (all rest : List Standing) (e : Standing) (changes : List ItemChange) (c : ItemChange)
    → AreFound before old mid now all (e ∷ rest) changes → OnlyReads mid after now new
    → written_at c ≡ gone_at e → ((s : State) → Stands mid now s → IsFound s c)
    → AreFound before old after new all rest (changes ++ c ∷ [])
found_one before mid after old now new all rest e changes c so only same found =
    record {
      only = only_then so.only only;
      written = ap (λ l. l ++ map gone_at rest) (map-append written_at changes (c ∷ []))
          ∙ append_assoc (map written_at changes) (written_at c ∷ []) (map gone_at rest)
          ∙ ap (λ (w : PlacedWrite). map written_at changes ++ w ∷ map gone_at rest) same
          ∙ so.written;
      named = so.named.1;
      found = λ s stands. every_more (IsFound s) changes c (so.found s stands)
          (found s ((so.only.stays s).0 stands));
    }
