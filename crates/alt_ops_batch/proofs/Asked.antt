-- What is known of the members of a BatchWriteItem that nothing refuses: what they leave may be written, and at different places.
use Rattle.std.proofs.Common.{◌≡◌, refl, ◌&&◌, Bool, true, false, List, [], ◌∷◌, map, Ok}
use Rattle.std.proofs.lemmas.Bool.{or_parts}
use Rattle.std.specs.List.{list_any}
use Rattle.std.specs.FinMap as finite
use Rattle.std.specs.Str.{bytes_eq}
use Rattle.serde_json.specs.Data.{Members}
use Rattle.alt_machine.specs.declared.PlacedMember.{PlacedMember}
use Rattle.alt_machine.specs.Batches.{is_same_key, has_repeat}
use Rattle.alt_machine.specs.Ops.BatchWriteItem.{written_by, writes_asked}
use Rattle.alt_machine.specs.State.{Texts}
use Rattle.alt_machine.proofs.Batches as machine
use Rattle.alt_machine.proofs.Batches.{MayStand, asked_may, asked_named, may_be_left}
use Rattle.alt_request.specs.TablesSeveral.{Every, MayWrite, AreApart, AreAllApart}
use Rattle.alt_schema.specs.declared.schema.TableSchema.{TableSchema}
use Rattle.alt_request.proofs.TablesOpeningOneColumn.{bytes_differ}

-- what nothing refuses may be written
may_all : (catalog : Texts TableSchema) (ms : List PlacedMember)
    → machine.Every (MayStand catalog) ms
    → machine.Every (λ (m : PlacedMember). finite.contains_key catalog m.table ≡ true) ms
    → Every (MayWrite catalog) (map written_by ms)
may_all catalog [] may named = tt
may_all catalog (m ∷ ms) may named = (
  record { there = named.0; stored = may_be_left catalog m may.0 },
  may_all catalog ms may.1 named.1,
)

-- what the writes that are asked for leave may be written
pub asked_may_write : (catalog : Texts TableSchema) (ms : Members) (there : List PlacedMember)
    → writes_asked catalog ms ≡ Ok there → Every (MayWrite catalog) (map written_by there)
asked_may_write catalog ms there e = may_all catalog there (asked_may catalog ms there e)
    (asked_named catalog ms there e)

-- members of different keys are at different places
one_key : (m n : PlacedMember) → is_same_key m n ≡ false → AreApart (written_by m) (written_by n)
one_key m n e table place = by (bytes_eq m.table n.table) refl e
  where
    by : (b : Bool) → bytes_eq m.table n.table ≡ b → (b && bytes_eq m.place n.place) ≡ false → ⊥
    by true f g = bytes_differ m.place n.place g place
    by false f g = bytes_differ m.table n.table f table

-- so are a member and all those of other keys
apart_from : (m : PlacedMember) (ms : List PlacedMember) → list_any (is_same_key m) ms ≡ false
    → Every (AreApart (written_by m)) (map written_by ms)
apart_from m [] e = tt
apart_from m (n ∷ ns) e =
    let both = or_parts (is_same_key m n) (list_any (is_same_key m) ns) e in
    (one_key m n both.0, apart_from m ns both.1)

-- and so are all of them, where no key stands twice
pub all_apart : (ms : List PlacedMember) → has_repeat ms ≡ false → AreAllApart (map written_by ms)
all_apart [] e = tt
all_apart (m ∷ ms) e =
    let both = or_parts (list_any (is_same_key m) ms) (has_repeat ms) e in
    (apart_from m ms both.0, all_apart ms both.1)
