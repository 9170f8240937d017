-- Writes by keys, one after another, at the places of their keys.
use Rattle.std.proofs.Common.{◌≡◌, ◌+◌, refl, sym, ap, subst, ◌∙◌, ℕ, List, [], ◌∷◌, ◌++◌, length, map as each, Option, None, Some, IfSome, IsSome, option_map, append_assoc, length-append, arith}
use Rattle.std.proofs.lemmas.Bool.{false≢true}
use Rattle.std.specs.FinMap as map
use Rattle.std.specs.Prelude.{unwrap_or}
use Rattle.std.specs.Option.{option_map_or}
use Rattle.std.proofs.lemmas.List.{map-append}
use Rattle.alt_machine.specs.Keys.{place_of}
use Rattle.alt_machine.specs.Ops.BatchWriteItem.{PlacedWrite}
use Rattle.alt_machine.specs.State.{State, Table, Texts, descriptions}
use Rattle.alt_machine.specs.Valid.{IsStored}
use Rattle.alt_machine.proofs.Descriptions.{get-descriptions}
use Rattle.alt_schema.specs.declared.schema.TableSchema.{TableSchema}
use Rattle.alt_tables.specs.Several.{Every, IsFound, MayWrite, MayWriteKey, WasThere, place_within, written_at, written_in}
use Rattle.alt_tables.specs.declared.by_keys.ItemWrite.{ItemWrite}
use Rattle.alt_tables.specs.declared.several.ItemChange.{ItemChange}
use Rattle.alt_tables.proofs.Each.{every_more}

-- ---- the place of a key

-- where a key has a place in a table that is there, that is where it is written
pub place_is : (catalog : Texts TableSchema) (w : ItemWrite) (d : TableSchema) (place : List ℕ)
    → map.get catalog w.table ≡ Some d → place_of d w.key ≡ Some place
    → place ≡ place_within catalog w
place_is catalog w d place at here =
    sym (ap (λ o. option_map_or (λ (x : TableSchema). unwrap_or (place_of x w.key) []) o []) at
    ∙ ap (λ o. unwrap_or o []) here)

-- a table of the state is described by its name
pub known_by : (catalog : Texts TableSchema) (s : State) (name : List ℕ) (t : Table)
    → catalog ≡ descriptions s.tables → map.get s.tables name ≡ Some t
    → map.get catalog name ≡ Some t.description
known_by catalog s name t same at = ap (λ m. map.get m name) same
    ∙ get-descriptions s.tables name ∙ ap (option_map (λ (v : Table). v.description)) at

-- what is to be left may stand at the place of its key
pub may_at : (catalog : Texts TableSchema) (w : ItemWrite) → MayWriteKey catalog w
    → MayWrite catalog (written_in catalog w)
may_at catalog w may = record {
  there = may.there;
  stored = λ d at.
      let (place, here) = has_place (place_of d w.key) (place_of d w.key) refl (may.key d at) in
      subst (λ p. IfSome w.new (IsStored d p)) (place_is catalog w d place at here)
      (may.stored d place at here);
}
  where
    has_place : (o p : Option (List ℕ)) → o ≡ p → IsSome p
        → (place : List ℕ) × (o ≡ Some place)
    has_place o None e h = absurd (false≢true h)
    has_place o (Some place) e h = (place, e)

-- so may all of them
pub all_may : (catalog : Texts TableSchema) (ws : List ItemWrite) → Every (MayWriteKey catalog) ws
    → Every (MayWrite catalog) (each (written_in catalog) ws)
all_may catalog [] may = tt
all_may catalog (w ∷ ws) may = (may_at catalog w may.0, all_may catalog ws may.1)

-- ---- one after another

-- The first of the writes are placed.
pub record ArePlaced (catalog : Texts TableSchema) (writes left : List ItemWrite)
    (changes : List ItemChange) : Type 0 where
  pub written : each written_at changes ++ each (written_in catalog) left
      ≡ each (written_in catalog) writes
  pub may : Every (MayWriteKey catalog) left
  pub found : (s : State) → catalog ≡ descriptions s.tables → Every (WasThere s) writes
      → Every (IsFound s) changes × Every (WasThere s) left
  pub count : length changes + length left ≡ length writes

-- before the first none is
pub placed_none : (catalog : Texts TableSchema) (writes : List ItemWrite) (changes : List ItemChange)
    → changes ≡ [] → Every (MayWriteKey catalog) writes → ArePlaced catalog writes writes changes
placed_none catalog writes changes none may =
    subst (λ cs. ArePlaced catalog writes writes cs) (sym none) (record {
      written = refl;
      may = may;
      found = λ s same were. (tt, were);
      count = omega arith;
    })

-- one more is
pub placed_more : (catalog : Texts TableSchema) (writes left before : List ItemWrite)
    (w : ItemWrite) (changes new : List ItemChange) (c : ItemChange) → before ≡ w ∷ left
    → new ≡ changes ++ c ∷ [] → ArePlaced catalog writes before changes
    → written_at c ≡ written_in catalog w
    → ((s : State) → catalog ≡ descriptions s.tables → WasThere s w → IsFound s c)
    → ArePlaced catalog writes left new
placed_more catalog writes left before w changes new c front put so written found =
    let now : ArePlaced catalog writes (w ∷ left) changes =
    subst (λ ws. ArePlaced catalog writes ws changes) front so in
    subst (λ cs. ArePlaced catalog writes left cs) (sym put) (record {
      written = ap (λ ws. ws ++ each (written_in catalog) left)
          (map-append written_at changes (c ∷ []))
          ∙ append_assoc (each written_at changes) (written_at c ∷ [])
          (each (written_in catalog) left)
          ∙ ap (λ (x : PlacedWrite). each written_at changes ++ x ∷ each (written_in catalog) left)
          written ∙ now.written;
      may = now.may.1;
      found = λ s same were.
          let both = now.found s same were in (
            every_more (IsFound s) changes c both.0 (found s same both.1.0),
            both.1.1,
          );
      count = let count = now.count in omega (arith, count, length-append changes (c ∷ []));
    })

-- at the end all are
pub placed_all : (catalog : Texts TableSchema) (writes left : List ItemWrite)
    (changes : List ItemChange) → left ≡ [] → ArePlaced catalog writes left changes
    → ArePlaced catalog writes [] changes
placed_all catalog writes left changes none so =
    subst (λ ws. ArePlaced catalog writes ws changes) none so
