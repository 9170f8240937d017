-- What stands at a key is what was found there, and values without a float.
use Rattle.std.proofs.Common.{◌≡◌, refl, sym, ap, ◌∙◌, ℕ, ◌≤◌, ◌||◌, Bool, true, false, List, [], ◌∷◌, ◌++◌, is_some, Option, Some, None}
use Rattle.std.proofs.lemmas.Bool.{or_from}
use Rattle.std.specs.Prelude.{option_and_then}
use Rattle.std.specs.FinMap as finite
use Rattle.serde_json.specs.View.{view, items_view}
use Rattle.serde_json.specs.Written.{has_float, items_have_float}
use Rattle.serde_json.specs.declared.value.Value.{Value}
use Rattle.alt_disk.specs.Disk.{DiskState}
use Rattle.alt_machine.specs.declared.PlacedMember.{PlacedMember}
use Rattle.alt_machine.specs.declared.TheConstants.{LARGEST_ITEM}
use Rattle.alt_machine.specs.Ops.BatchGetItem.{found_at}
use Rattle.alt_machine.specs.State.{State, Table}
use Rattle.alt_machine.proofs.Descriptions.{there-descriptions}
use Rattle.alt_request.specs.TablesFound.{IsFoundInTable}
use Rattle.alt_request.specs.TablesStands.{Stands, catalog_of}
use Rattle.alt_request.specs.TablesDeclaredFound.{Found}
use Rattle.alt_request.specs.TablesDeclaredTables.{Tables}
use Rattle.alt_value.specs.Size.{item_size}
use Rattle.alt_value.specs.Tree.{Pair}

-- ---- what is found

-- what is told to be there is
some_there : {A : Type 0} (o : Option A) → is_some o ≡ true → (x : A) × (o ≡ Some x)
some_there None e = absurd (let f : ⊥ = cc in f)
some_there (Some x) e = (x, refl)

module _ (disk : DiskState) (tables : Tables) (s : State) (stands : Stands disk tables s)
    (key : PlacedMember) (known : finite.contains_key (catalog_of tables) key.table ≡ true)
    (name : List ℕ) (named : name ≡ key.table) (found : Found) (at : found.place ≡ key.place)
    (is : IsFoundInTable s name found) where
  -- the table of the key is there
  table_there : (t : Table) × (finite.get s.tables key.table ≡ Some t)
  table_there = some_there (finite.get s.tables key.table)
      (sym (there-descriptions s.tables key.table)
      ∙ ap (λ m. finite.contains_key m key.table) (sym stands.catalog) ∙ known)

  -- and has at the key's place what was found
  item_there : finite.get table_there.0.items key.place ≡ found.item
  item_there = sym (is table_there.0 (ap (finite.get s.tables) named ∙ table_there.1)
      ∙ ap (finite.get table_there.0.items) at)

  -- so that is what stands at the key
  pub found_is : found_at s key ≡ found.item
  found_is = ap (option_and_then (λ t. finite.get t.items key.place)) table_there.1 ∙ item_there

  -- an item that was found is no larger than an item may be
  pub found_fits : (i : List Pair) → found.item ≡ Some i → item_size i ≤ LARGEST_ITEM
  found_fits i e = ((stands.valid.tables key.table table_there.0 table_there.1).items key.place i
      (item_there ∙ e)).size

-- ---- values without a float

-- with one more
pub plain_more : (vs : List Value) (v : Value) → items_have_float (items_view vs) ≡ false
    → has_float (view v) ≡ false → items_have_float (items_view (vs ++ v ∷ [])) ≡ false
plain_more [] v h e = or_from (has_float (view v)) false e refl
plain_more (w ∷ vs) v h e = by (has_float (view w)) h (plain_more vs v)
  where
    by : (b : Bool) → (b || items_have_float (items_view vs)) ≡ false
        → (items_have_float (items_view vs) ≡ false → has_float (view v) ≡ false
        → items_have_float (items_view (vs ++ v ∷ [])) ≡ false)
        → (b || items_have_float (items_view (vs ++ v ∷ []))) ≡ false
    by true g rest = absurd (let f : ⊥ = cc in f)
    by false g rest = rest g e
