-- A stop is within the bytes, and one in an element or an entry is a stop of the whole value.
use Rattle.std.proofs.Common.{◌≡◌, refl, sym, ap, ◌∙◌, ℕ, ◌<◌, ◌≤◌, ◌^◌, ◌-◌, List, [], ◌∷◌, ◌++◌, length, inl, inr, arith, append_assoc, length-append}
use Rattle.std.specs.List.{flat_map}
use Rattle.alt_decimal.specs.Spelled.{spelled}
use Rattle.alt_fields.specs.Field.{field}
use Rattle.alt_value.specs.CellBytes.{cell_bytes, counted}
use Rattle.alt_cellbytes.specs.Places.{NoMember, IsNextText, IsNextName, NoElementOf, NoEntry, NoEntryOf, Within, IsNested, TooDeep, entry_bytes, StopsHere, no_kind, no_text, no_number, no_binary, no_truth, no_count, empty_set, no_text_member, no_number_member, no_binary_member, no_name, Around, in_list, in_map, around_bytes, IsAround, all_around, ValueStops}
use Rattle.alt_cellbytes.proofs.Fields.{field-left, number-left, length-counted}

-- ---- a stop is within the bytes

member-left : {K : Type 0} (spell : K → List ℕ) (Are : List K → Type 0)
    (NoNext : List K → List ℕ → ℕ → Type 0)
    → ((ks : List K) (more : List ℕ) (left : ℕ) → NoNext ks more left → left ≤ length more)
    → (count : ℕ) (bytes : List ℕ) (left : ℕ) → NoMember spell Are NoNext count bytes left
    → left ≤ length bytes
member-left spell Are NoNext bound count bytes left non =
    omega (
      arith,
      bound non.done non.more left non.stops,
      ap length non.is,
      length-append (flat_map spell non.done) non.more,
    )

counted-left : (kind count : ℕ) (bytes more : List ℕ) (left : ℕ)
    → bytes ≡ kind ∷ (counted count ++ more) → left ≤ length more → left ≤ length bytes
counted-left kind count bytes more left is h =
    omega (arith, ap length is, length-counted count more, h)

-- no more bytes are left than there are
here-left : (bytes : List ℕ) (left : ℕ) → StopsHere bytes left → left ≤ length bytes
here-left bytes left (no_kind non l) = omega (arith, l)
here-left bytes left (no_text more is non) = omega (arith, ap length is, field-left _ more left non)
here-left bytes left (no_number more is non) =
    omega (arith, ap length is, number-left _ more left non)
here-left bytes left (no_binary more is non) =
    omega (arith, ap length is, field-left _ more left non)
here-left bytes left (no_truth more is non l) = omega (arith, ap length is, l)
here-left bytes left (no_count kind more lo hi is non) = omega (arith, non.1)
here-left bytes left (empty_set kind more lo hi is l) =
    omega (arith, ap length is, length-counted 0 more, l)
here-left bytes left (no_text_member count more small is non) =
    counted-left 6 count bytes more left is (member-left field _ _
    (λ ks m l h. field-left (IsNextText ks) m l h) count more left non)
here-left bytes left (no_number_member count more small is non) =
    counted-left 7 count bytes more left is (member-left spelled _ _
    (λ ks m l h. number-left _ m l h) count more left non)
here-left bytes left (no_binary_member count more small is non) =
    counted-left 8 count bytes more left is (member-left field _ _
    (λ ks m l h. field-left _ m l h) count more left non)
here-left bytes left (no_name count more small is non) =
    counted-left 10 count bytes more left is (member-left entry_bytes _ _
    (λ ks m l h. field-left (IsNextName ks) m l h) count more left non)

-- what is left is within the bytes
within-left : (H : List Around → List ℕ → ℕ → Type 0) (bytes : List ℕ) (left : ℕ)
    → ((around : List Around) (here : List ℕ) → H around here left → left ≤ length here)
    → Within H bytes left
    → left ≤ length bytes
within-left H bytes left bound s =
    omega (
      arith,
      bound s.around s.here s.stops,
      ap length s.is,
      length-append (all_around s.around) s.here,
    )

-- so it is where bytes stop
pub stops-left : (bytes : List ℕ) (left : ℕ) → ValueStops bytes left → left ≤ length bytes
stops-left bytes left s = within-left (λ around. StopsHere) bytes left
    (λ around here h. here-left here left h) s

-- and where something is nested too deep
pub deep-left : (most : ℕ) (bytes : List ℕ) (left : ℕ) → TooDeep most bytes left
    → left ≤ length bytes
deep-left most bytes left s =
    within-left (λ around here left. (length around ≡ most) × IsNested here × (left ≡ length here))
    bytes left
    (λ around here h. omega (arith, h.2)) s

-- ---- stops of a value, of its elements and entries

-- at a piece of its own
pub stops_here : (bytes : List ℕ) (left : ℕ) → StopsHere bytes left → ValueStops bytes left
stops_here bytes left h = record {
  around = [];
  here = bytes;
  open_there = tt;
  is = refl;
  stops =
      h;
}

-- where nothing more may be nested
pub deep_here : (bytes : List ℕ) (most : ℕ) → most ≡ 0 → IsNested bytes
    → TooDeep most bytes (length bytes)
deep_here bytes most z n = record {
  around = [];
  here = bytes;
  open_there = tt;
  is = refl;
  stops = (sym z, n, refl);
}

-- within a value that is next there
within_next : (H J : List Around → List ℕ → ℕ → Type 0) (a : Around) (bytes more : List ℕ)
    (left : ℕ)
    → ((around : List Around) (here : List ℕ) → H around here left → J (a ∷ around) here left)
    → IsAround a → bytes ≡ around_bytes a ++ more → Within H more left → Within J bytes left
within_next H J a bytes more left f opened is s = record {
  around = a ∷ s.around;
  here = s.here;
  open_there = (opened, s.open_there);
  is = is ∙ ap (λ m. around_bytes a ++ m) s.is
      ∙ sym (append_assoc (around_bytes a) (all_around s.around) s.here);
  stops = f s.around s.here s.stops;
}

-- of an element of a list, and of a value of a map
list_within : (H J : List Around → List ℕ → ℕ → Type 0) (count : ℕ) (bytes more : List ℕ) (left : ℕ)
    → ((a : Around) (around : List Around) (here : List ℕ) → H around here left
    → J (a ∷ around) here left)
    → count < 2 ^ 64 → bytes ≡ 9 ∷ (counted count ++ more) → NoElementOf (Within H) count more left
    → Within J bytes left
list_within H J count bytes more left f small is non =
    within_next H J (in_list count non.done) bytes non.more left (f (in_list count non.done))
    (small, non.few, non.are)
    (is ∙ ap (λ m. 9 ∷ (counted count ++ m)) non.is
    ∙ ap (λ m. 9 ∷ m) (sym (append_assoc (counted count) (flat_map cell_bytes non.done) non.more)))
    non.stops

map_within : (H J : List Around → List ℕ → ℕ → Type 0) (count : ℕ) (bytes more : List ℕ) (left : ℕ)
    → ((a : Around) (around : List Around) (here : List ℕ) → H around here left
    → J (a ∷ around) here left)
    → count < 2 ^ 64 → bytes ≡ 10 ∷ (counted count ++ more) → NoEntryOf (Within H) count more left
    → Within J bytes left
map_within H J count bytes more left f small is non =
    let name = non.stops.0 in
    let rest = non.stops.1 in
    within_next H J (in_map count non.done name) bytes rest left (f (in_map count non.done name))
    (small, non.few, non.are, non.stops.2, non.stops.3)
    (is ∙ ap (λ m. 10 ∷ (counted count ++ m))
    (non.is ∙ ap (λ m. flat_map entry_bytes non.done ++ m) non.stops.4
    ∙ sym (append_assoc (flat_map entry_bytes non.done) (field name) rest))
    ∙ ap (λ m. 10 ∷ m) (sym (append_assoc (counted count)
    (flat_map entry_bytes non.done ++ field name) rest))) non.stops.5

-- a list or a map stops where an element or a value does
pub list_stops : (count : ℕ) (bytes more : List ℕ) (left : ℕ) → count < 2 ^ 64
    → bytes ≡ 9 ∷ (counted count ++ more)
    → NoElementOf ValueStops count more left → ValueStops bytes left
list_stops count bytes more left small is non =
    list_within (λ around. StopsHere) (λ around. StopsHere) count bytes more left
    (λ a around here h. h) small is non

-- and a map where a name or a value does
pub map_stops : (count : ℕ) (bytes more : List ℕ) (left : ℕ) → count < 2 ^ 64
    → bytes ≡ 10 ∷ (counted count ++ more)
    → NoEntry count more left → ValueStops bytes left
map_stops count bytes more left small is non = elim non [
  | inl name ↦ stops_here bytes left (no_name count more small is name)
  | inr value ↦
      map_within (λ around. StopsHere) (λ around. StopsHere) count bytes more left
      (λ a around here h. h) small is value
]

-- one list or map more around what is nested too deep
one_around : (most : ℕ) → 0 < most → (a : Around) (around : List Around) (here : List ℕ) (left : ℕ)
    → (length around ≡ most - 1) × IsNested here × (left ≡ length here)
    → (length (a ∷ around) ≡ most) × IsNested here × (left ≡ length here)
one_around most some a around here left h = (omega (arith, h.0, some), h.1, h.2)

-- and is nested too deep where one is
pub list_deep : (most count : ℕ) (bytes more : List ℕ) (left : ℕ) → 0 < most → count < 2 ^ 64
    → bytes ≡ 9 ∷ (counted count ++ more) → NoElementOf (TooDeep (most - 1)) count more left
    → TooDeep most bytes left
list_deep most count bytes more left some small is non =
    list_within (λ around here left. (length around ≡ most - 1) × IsNested here
    × (left ≡ length here))
    (λ around here left. (length around ≡ most) × IsNested here × (left ≡ length here)) count bytes
    more left
    (λ a around here h. one_around most some a around here left h) small is non

-- and a map where a value is
pub map_deep : (most count : ℕ) (bytes more : List ℕ) (left : ℕ) → 0 < most → count < 2 ^ 64
    → bytes ≡ 10 ∷ (counted count ++ more) → NoEntryOf (TooDeep (most - 1)) count more left
    → TooDeep most bytes left
map_deep most count bytes more left some small is non =
    map_within (λ around here left. (length around ≡ most - 1) × IsNested here
    × (left ≡ length here))
    (λ around here left. (length around ≡ most) × IsNested here × (left ≡ length here)) count bytes
    more left
    (λ a around here h. one_around most some a around here left h) small is non

-- what is open takes a byte at least
around-long : (around : List Around) → length around ≤ length (all_around around)
around-long [] = omega arith
around-long (in_list count ts ∷ around) =
    omega (
      arith,
      around-long around,
      length-append (around_bytes (in_list count ts))
          (all_around around),
    )
around-long (in_map count ps name ∷ around) =
    omega (
      arith,
      around-long around,
      length-append (around_bytes (in_map count ps name))
          (all_around around),
    )

-- so nothing is nested deeper than there are bytes
pub never_deep : (bytes : List ℕ) (left : ℕ) → TooDeep (length bytes) bytes left → ⊥
never_deep bytes left s =
    omega (
      arith,
      s.stops.0,
      around-long s.around,
      ap length s.is,
      length-append (all_around s.around) s.here,
      nested-long s.here s.stops.1,
    )
  where
    nested-long : (here : List ℕ) → IsNested here → 0 < length here
    nested-long [] n = absurd n
    nested-long (b ∷ here) n = omega arith
