-- What the parts of a batch of writes are, read straight from the tokens of a text, for private contracts.
use Rattle.std.specs.Prelude.{◌≡◌, ℕ, suc, List, [], ◌∷◌, length, Option, Some, None, option_map, Ok, Vec, ⊤}
use Rattle.std.specs.Cmp.Lexicographic.{slice_cmp}
use Rattle.std.specs.Ordering.{match_ordering, nat_cmp}
use Rattle.std.specs.Global.{Global}
use Rattle.json.specs.Json.{value, items, members}
use Rattle.json.specs.Token.{Token}
use Rattle.serde_json.specs.Data.{Data, object, Items, Members, no_members, put}
use Rattle.serde_json.specs.Read.{of_json, of_items, of_members, converted}
use Rattle.alt_codec.specs.Reading.{item_in}
use Rattle.alt_readahead.specs.Batch.{IsBatchAhead, SaysWrite, SayWrites, SaysTable, SayTables, alone}
use Rattle.alt_readahead.specs.declared.batch.TableWrites.{TableWrites}
use Rattle.alt_readahead.specs.declared.batch.Write.{Write}
use Rattle.alt_value.specs.Tree.{Pair}

-- the next JSON of these tokens is an object with that member alone, which is an item
abbrev pub ReadsRequest : ℕ → List ℕ → List Token → List Pair → List Token → Type 0
ReadsRequest depth name before i after = (os : Members)
    × (converted of_json (value depth before) ≡ Some (alone name (object os), after))
    × (item_in 32 (object os) ≡ Ok i)

-- it is a write
abbrev pub ReadsWrite : ℕ → List Token → Write → List Token → Type 0
ReadsWrite depth before w after = (d : Data)
    × (converted of_json (value depth before) ≡ Some (d, after)) × SaysWrite d w

-- the elements of an array whose bracket was passed are writes
abbrev pub ReadsWrites : ℕ → List Token → List Write → List Token → Type 0
ReadsWrites depth before ws after = (ds : Items)
    × (converted of_items (items (value depth) (length before) before) ≡ Some (ds, after))
    × SayWrites ds ws

-- the members of an object whose brace was passed are tables with their writes
abbrev pub ReadsTables : ℕ → List Token → List TableWrites → List Token → Type 0
ReadsTables depth before ts after = (ms : Members)
    × (converted (λ os. of_members os no_members) (members (value depth) (length before) before)
    ≡ Some (ms, after)) × SayTables ms ts

-- the tables of a body of which so much was read, where they are among it
abbrev pub IsBatchSoFar : Members → Option (Vec TableWrites Global) → Type 0
IsBatchSoFar ms None = ⊤
IsBatchSoFar ms (Some ts) = IsBatchAhead ms ts.items

-- where a table of that name goes among others whose names rise, None where one of them has the name
abbrev pub place_among : List ℕ → List TableWrites → Option ℕ
place_among name [] = Some 0
place_among name (t ∷ ts) = match_ordering (slice_cmp nat_cmp name t.table) (Some 0) None
    (option_map suc (place_among name ts))

-- A table is put to others: where those are what an object says, these are what it says with the table's member.
abbrev pub IsTablePut : TableWrites → List TableWrites → List TableWrites → Type 0
IsTablePut t before after = (ms : Members) (name : List ℕ) (d : Data) → SayTables ms before
    → SaysTable name d t → SayTables (put name d ms) after
