-- Where bytes stop being cell bytes: the first place where nothing stands that could go on there.
--
-- A value is a row of pieces: a byte for its kind, a truth byte, a count, a field or a spelled number. Before the place stand
-- whole pieces of an unfinished value, and at it no piece that could be the next one. A piece that the bytes cut off stops at
-- their end, and any other piece where it begins. A place is told by how many bytes are left from it on.
use Rattle.std.specs.Prelude.{◌≡◌, ℕ, ◌+◌, ◌<◌, ◌≤◌, ◌^◌, ◌⊎◌, List, [], ◌∷◌, ◌++◌, length, ℤ, Bool, true, false, not, ◌&&◌, ◌==◌, nat_lt, if◌then◌else◌, Result, Ok, Err}
use Rattle.std.specs.List.{AllByRecursion, flat_map, list_any}
use Rattle.std.specs.Ordering.{int_cmp}
use Rattle.std.specs.Str.{IsUtf8}
use Rattle.alt_decimal.specs.Number.{FitsDecimal}
use Rattle.alt_decimal.specs.Spelled.{spelled}
use Rattle.alt_fields.specs.Field.{field, told_length}
use Rattle.alt_fields.specs.declared.bytes.BytesFault.{BytesFault}
use Rattle.alt_fields.specs.declared.bytes.BytesFault.TheVariants as fault
use Rattle.alt_value.specs.declared.attr.Attr.{Attr}
use Rattle.alt_value.specs.Stands.{tree_of}
use Rattle.alt_value.specs.CellBytes.{cell_bytes, counted}
use Rattle.alt_value.specs.Item.{IsItem}
use Rattle.alt_value.specs.Size.{depth}
use Rattle.alt_value.specs.Members.{IsSet, text_order}
use Rattle.alt_value.specs.Tree.{Tree, NULL_tree, Pair}
use Rattle.alt_fields.specs.Bytes.{IsShort}
use Rattle.alt_value.specs.Values.{IsText, IsWhole}
use Rattle.alt_cellbytes.specs.Values.{AreSetMembers, HasBytes}
use Rattle.alt_cellbytes.specs.declared.fault.Stop.{Stop}
use Rattle.alt_cellbytes.specs.declared.fault.Stop.TheVariants.{Left, Deep, NoMemory}

-- ---- one piece

-- the bytes end before the field does
abbrev pub IsCut : List ℕ → Type 0
IsCut bytes = length bytes < 8 + told_length bytes 0

-- no field with such a content: it is cut off, or its content is another one
abbrev pub NoFittingField : (List ℕ → Type 0) → List ℕ → ℕ → Type 0
NoFittingField P bytes left =
    (IsCut bytes × (left ≡ 0))
    ⊎ ((s behind : List ℕ) × IsShort s × (bytes ≡ field s ++ behind) × (P s → ⊥) × (left ≡ length bytes))

-- The bytes end before a number's closing byte does. Behind its first byte stand the place of its first digit, at most 19 pairs
-- of digits, and the closing byte: 0, and 255 below zero.
abbrev pub is_unclosed : ℕ → List ℕ → Bool
is_unclosed close [] = true
is_unclosed close (place ∷ pairs) = nat_lt (length pairs) 20 && not (list_any (λ b. b == close) pairs)

-- the bytes end before a number does
abbrev pub is_cut_number : List ℕ → Bool
is_cut_number [] = true
is_cut_number (b ∷ bytes) = if b == 1 then is_unclosed 255 bytes else if b == 3 then is_unclosed 0 bytes else false

-- no number stands at the front
abbrev pub NoneSpelled : List ℕ → Type 0
NoneSpelled bytes = (z : ℤ) (behind : List ℕ) → FitsDecimal z → bytes ≡ spelled z ++ behind → ⊥

-- no spelled number that is one of these: it is cut off or none, or it is another one
abbrev pub NoFittingNumber : (ℤ → Type 0) → List ℕ → ℕ → Type 0
NoFittingNumber P bytes left =
    (NoneSpelled bytes × (left ≡ (if is_cut_number bytes then 0 else length bytes)))
    ⊎ ((z : ℤ) × (behind : List ℕ) × FitsDecimal z × (bytes ≡ spelled z ++ behind) × (P z → ⊥) × (left ≡ length bytes))

-- no count
abbrev pub NoCount : List ℕ → ℕ → Type 0
NoCount bytes left = (length bytes < 8) × (left ≡ 0)

-- neither false nor true
abbrev pub NoTruth : List ℕ → Type 0
NoTruth [] = Unit {0}
NoTruth (b ∷ bytes) = 1 < b

-- none of the ten kinds
abbrev pub NoKind : List ℕ → Type 0
NoKind [] = Unit {0}
NoKind (b ∷ bytes) = (b ≡ 0) ⊎ (10 < b)

-- ---- sets and maps

-- Fewer members than were told stand whole at the front, and behind them none that could be the next.
pub record NoMember {K : Type 0} (spell : K → List ℕ) (Are : List K → Type 0) (NoNext : List K → List ℕ → ℕ → Type 0) (count : ℕ) (bytes : List ℕ) (left : ℕ) : Type 0 where
  pub done : List K
  pub more : List ℕ
  pub few : length done < count
  pub are : Are done
  pub is : bytes ≡ flat_map spell done ++ more
  pub stops : NoNext done more left

-- the texts that a set of texts can go on with
abbrev pub IsNextText : List (List ℕ) → List ℕ → Type 0
IsNextText ss s = IsUtf8 s × IsSet text_order (ss ++ s ∷ [])

-- fewer texts than were told, and behind them none that could be the next
abbrev pub NoTextMember : ℕ → List ℕ → ℕ → Type 0
NoTextMember = NoMember field (AreSetMembers IsText text_order) (λ ss. NoFittingField (IsNextText ss))

-- the same of numbers
abbrev pub NoNumberMember : ℕ → List ℕ → ℕ → Type 0
NoNumberMember = NoMember spelled (AreSetMembers FitsDecimal int_cmp) (λ zs. NoFittingNumber (λ z. IsSet int_cmp (zs ++ z ∷ [])))

-- and of byte strings
abbrev pub NoBinary : ℕ → List ℕ → ℕ → Type 0
NoBinary = NoMember field (AreSetMembers IsShort text_order) (λ bs. NoFittingField (λ b. IsSet text_order (bs ++ b ∷ [])))

-- the names that a map can go on with
abbrev pub IsNextName : List Pair → List ℕ → Type 0
IsNextName ps name = IsUtf8 name × IsItem (ps ++ (name, NULL_tree) ∷ [])

-- the pairs of a map: names in UTF-8 that rise, none of them empty, each with a value
abbrev pub IsMapEntry : Pair → Type 0
IsMapEntry p = IsText p.0 × HasBytes p.1

-- each is one, and the names are those of an item
abbrev pub AreMapEntries : List Pair → Type 0
AreMapEntries ps = AllByRecursion IsMapEntry ps × IsItem ps

-- a name as a field, and then the cell bytes of its value
abbrev pub entry_bytes : Pair → List ℕ
entry_bytes p = field p.0 ++ cell_bytes p.1

-- fewer entries than were told, and behind them no name that could be the next
abbrev pub NoNextName : ℕ → List ℕ → ℕ → Type 0
NoNextName = NoMember entry_bytes AreMapEntries (λ ps. NoFittingField (IsNextName ps))

-- ---- a value

-- The bytes stop at a piece of their own value: not within an element of a list or a value of a map.
pub data StopsHere (bytes : List ℕ) (left : ℕ) : Type 0 where
  no_kind : NoKind bytes → left ≡ length bytes → StopsHere bytes left
  no_text : (more : List ℕ) → bytes ≡ 1 ∷ more → NoFittingField IsUtf8 more left → StopsHere bytes left
  no_number : (more : List ℕ) → bytes ≡ 2 ∷ more → NoFittingNumber (λ z. Unit {0}) more left → StopsHere bytes left
  no_binary : (more : List ℕ) → bytes ≡ 3 ∷ more → NoFittingField (λ b. Unit {0}) more left → StopsHere bytes left
  no_truth : (more : List ℕ) → bytes ≡ 4 ∷ more → NoTruth more → left ≡ length more → StopsHere bytes left
  -- of a set, a list or a map
  no_count : (kind : ℕ) (more : List ℕ) → 6 ≤ kind → kind ≤ 10 → bytes ≡ kind ∷ more → NoCount more left → StopsHere bytes left
  empty_set : (kind : ℕ) (more : List ℕ) → 6 ≤ kind → kind ≤ 8 → bytes ≡ kind ∷ (counted 0 ++ more) → left ≡ 8 + length more → StopsHere bytes left
  no_text_member : (count : ℕ) (more : List ℕ) → count < 2 ^ 64 → bytes ≡ 6 ∷ (counted count ++ more) → NoTextMember count more left → StopsHere bytes left
  no_number_member : (count : ℕ) (more : List ℕ) → count < 2 ^ 64 → bytes ≡ 7 ∷ (counted count ++ more) → NoNumberMember count more left → StopsHere bytes left
  no_binary_member : (count : ℕ) (more : List ℕ) → count < 2 ^ 64 → bytes ≡ 8 ∷ (counted count ++ more) → NoBinary count more left → StopsHere bytes left
  no_name : (count : ℕ) (more : List ℕ) → count < 2 ^ 64 → bytes ≡ 10 ∷ (counted count ++ more) → NoNextName count more left → StopsHere bytes left

-- What is open around a place: a list with fewer elements than it told, or a map with fewer entries, and then the name of the
-- value that is next.
pub data Around : Type 0 where
  in_list : ℕ → List Tree → Around
  in_map : ℕ → List Pair → List ℕ → Around

-- the bytes of what is open up to the value that is next
abbrev pub around_bytes : Around → List ℕ
around_bytes (in_list count ts) = 9 ∷ (counted count ++ flat_map cell_bytes ts)
around_bytes (in_map count ps name) = 10 ∷ (counted count ++ (flat_map entry_bytes ps ++ field name))

-- it tells more than stands there, and what stands there is right
abbrev pub IsAround : Around → Type 0
IsAround (in_list count ts) = (count < 2 ^ 64) × (length ts < count) × AllByRecursion HasBytes ts
IsAround (in_map count ps name) = (count < 2 ^ 64) × (length ps < count) × AreMapEntries ps × IsShort name × IsNextName ps name

-- one within the other
abbrev pub all_around : List Around → List ℕ
all_around [] = []
all_around (a ∷ around) = around_bytes a ++ all_around around

-- What is open around a place, and that this stands there.
pub record Within (Here : List Around → List ℕ → ℕ → Type 0) (bytes : List ℕ) (left : ℕ) : Type 0 where
  pub around : List Around
  pub here : List ℕ
  pub open_there : AllByRecursion IsAround around
  pub is : bytes ≡ all_around around ++ here
  pub stops : Here around here left

-- Within what is open there, a value stops at a piece of its own.
abbrev pub ValueStops : List ℕ → ℕ → Type 0
ValueStops = Within (λ around. StopsHere)

-- a list or a map begins there
abbrev pub IsNested : List ℕ → Type 0
IsNested [] = ⊥
IsNested (b ∷ bytes) = (b ≡ 9) ⊎ (b ≡ 10)

-- Within as many lists and maps as may be, another one begins.
abbrev pub TooDeep : ℕ → List ℕ → ℕ → Type 0
TooDeep most = Within (λ around here left. (length around ≡ most) × IsNested here × (left ≡ length here))

-- fewer elements than were told, and behind them bytes that stop so
abbrev pub NoElementOf : (List ℕ → ℕ → Type 0) → ℕ → List ℕ → ℕ → Type 0
NoElementOf Stop = NoMember cell_bytes (AllByRecursion HasBytes) (λ ts. Stop)

-- behind a next name stand bytes that stop so
abbrev pub NoEntryValue : (List ℕ → ℕ → Type 0) → List Pair → List ℕ → ℕ → Type 0
NoEntryValue Stop ps bytes left =
    (name more : List ℕ) × IsShort name × IsNextName ps name × (bytes ≡ field name ++ more) × Stop more left

-- fewer entries than were told, and behind them a next name and then bytes that stop so
abbrev pub NoEntryOf : (List ℕ → ℕ → Type 0) → ℕ → List ℕ → ℕ → Type 0
NoEntryOf Stop = NoMember entry_bytes AreMapEntries (NoEntryValue Stop)

-- fewer entries than were told, and behind them no next name, or one and then bytes that stop
abbrev pub NoEntry : ℕ → List ℕ → ℕ → Type 0
NoEntry count bytes left = NoNextName count bytes left ⊎ NoEntryOf ValueStops count bytes left

-- No cell bytes: they stop before a value is whole, or something stands behind it.
abbrev pub IsBadValueAt : List ℕ → ℕ → Type 0
IsBadValueAt bytes at =
    ((left : ℕ) × ValueStops bytes left × (at + left ≡ length bytes))
    ⊎ ((t : Tree) × HasBytes t × (behind : List ℕ) × (0 < length behind) × (bytes ≡ cell_bytes t ++ behind) × (at ≡ length (cell_bytes t)))

-- A list or a map within as many as may be.
abbrev pub IsDeepAt : ℕ → List ℕ → ℕ → Type 0
IsDeepAt most bytes at = (left : ℕ) × TooDeep most bytes left × (at + left ≡ length bytes)

-- The first such place.
abbrev pub IsFirstDeepAt : ℕ → List ℕ → ℕ → Type 0
IsFirstDeepAt most bytes at = IsDeepAt most bytes at × ((n : ℕ) → IsDeepAt most bytes n → at ≤ n)

-- the bytes are no value's cell bytes
abbrev pub NoValue : List ℕ → Type 0
NoValue bytes = (t : Tree) → IsWhole t → bytes ≡ cell_bytes t → ⊥

-- the bytes are no value's cell bytes that is nested so little
abbrev pub NoValueWithin : ℕ → List ℕ → Type 0
NoValueWithin most bytes = (t : Tree) → IsWhole t → depth t ≤ most → bytes ≡ cell_bytes t → ⊥

-- that value, or else want of memory
abbrev pub IsReadAsValue : Tree → Result Attr BytesFault → Type 0
IsReadAsValue t (Ok a) = tree_of a ≡ t
IsReadAsValue t (Err e) = e ≡ fault.NoMemory

-- Bad at the first place where a list or a map is within as many as may be, or else want of memory
abbrev pub IsDeepAnswer : ℕ → List ℕ → Result Attr BytesFault → Type 0
IsDeepAnswer most bytes (Ok a) = ⊥
IsDeepAnswer most bytes (Err e) =
    (e ≡ fault.NoMemory) ⊎ ((at : ℕ) × (e ≡ fault.Bad at) × IsFirstDeepAt most bytes at)

-- where it stops by bytes that are left, the first holds of them, and where it stops at a value that is nested too deep, the second
abbrev pub IsStopAt : (ℕ → Type 0) → (ℕ → Type 0) → Stop → Type 0
IsStopAt P D (Left n) = P n
IsStopAt P D (Deep n) = D n
IsStopAt P D NoMemory = Unit {0}

-- where it stops by bytes that are left, this holds of them
abbrev pub IsStopByBytes : (ℕ → Type 0) → Stop → Type 0
IsStopByBytes P = IsStopAt P (λ n. ⊥)

-- it stops at what is nested too deep, with so many bytes left at least, or for want of memory
abbrev pub StopsDeep : {A : Type 0} → ℕ → Result A Stop → Type 0
StopsDeep left (Ok a) = ⊥
StopsDeep left (Err s) = IsStopAt (λ n. ⊥) (λ n. left ≤ n) s
