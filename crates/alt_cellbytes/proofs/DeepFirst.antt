-- Where something is nested too deep, reading goes no further than the first place where it is.
use Rattle.std.proofs.Common.{◌≡◌, ◌≢◌, refl, sym, ap, subst, ◌∙◌, ℕ, ◌<◌, ◌≤◌, ◌^◌, ◌-◌, ◌⊎◌, List, [], ◌∷◌, ◌++◌, length, inl, inr, arith, append_assoc, length-append}
use Rattle.std.specs.List.{AllByRecursion, flat_map}
use Rattle.std.proofs.lemmas.Bool.{cases_order}
use Rattle.alt_base.proofs.Lists.{cons_rest, cons_first, all_among}
use Rattle.alt_fields.specs.Bytes.{IsShort}
use Rattle.alt_fields.specs.Field.{field}
use Rattle.alt_fields.proofs.Apart.{nothing, IsApart, further, same_many, all_map, number-apart, field-apart}
use Rattle.alt_value.specs.CellBytes.{cell_bytes, counted}
use Rattle.alt_value.specs.Size.{depth}
use Rattle.alt_value.specs.Tree.{Tree, Pair}
use Rattle.alt_cellbytes.specs.Places.{NoFittingField, NoCount, IsNextName, NoElementOf, NoEntryOf, Around, in_list, in_map, IsAround, all_around, ValueStops, IsNested, TooDeep, IsMapEntry, AreMapEntries, entry_bytes, IsStopAt, IsStopByBytes}
use Rattle.alt_cellbytes.specs.Values.{HasBytes}
use Rattle.alt_cellbytes.specs.declared.fault.Stop.{Stop}
use Rattle.alt_cellbytes.specs.declared.fault.Stop.TheVariants.{Left, Deep, NoMemory}
use Rattle.alt_cellbytes.proofs.Apart.{value_apart, pair_apart}
use Rattle.alt_cellbytes.proofs.Fields.{field-refuted, length-counted}
use Rattle.alt_cellbytes.proofs.Stopped.{stops-refuted, deep-refuted, deep-inside, next_name_of}
use Rattle.alt_cellbytes.proofs.StopsWithin.{deep-left}

-- ---- where something is nested too deep

-- a list or a map begins there
first_byte : (b : ℕ) (bytes : List ℕ) (around : List Around) (rest : List ℕ) → IsNested rest
    → b ∷ bytes ≡ all_around around ++ rest → (b ≡ 9) ⊎ (b ≡ 10)
first_byte b bytes [] [] n e = absurd n
first_byte b bytes [] (c ∷ rest) n e = subst (λ k. (k ≡ 9) ⊎ (k ≡ 10))
    (sym (cons_first b c bytes rest e)) n
first_byte b bytes (in_list count ts ∷ around) rest n e = inl (cons_first b 9 bytes _ e)
first_byte b bytes (in_map count ps name ∷ around) rest n e = inr (cons_first b 10 bytes _ e)

-- so no other value has it within
pub deep_kind : (most : ℕ) (b : ℕ) (bytes : List ℕ) (left : ℕ) → TooDeep most (b ∷ bytes) left
    → (b ≡ 9) ⊎ (b ≡ 10)
deep_kind most b bytes left s = first_byte b bytes s.around s.here s.stops.1 s.is

-- and no other kind does
pub other_kind : (b : ℕ) → (b ≡ 9) ⊎ (b ≡ 10) → (b ≢ 9) × (b ≢ 10) → ⊥
other_kind b nested other = elim nested [
  | inl list ↦ other.0 list
  | inr map ↦ other.1 map
]

-- where nothing stands, none begins
no_byte : (around : List Around) (rest : List ℕ) → IsNested rest → [] ≡ all_around around ++ rest
    → ⊥
no_byte [] [] n e = n
no_byte [] (c ∷ rest) n e = nothing c rest e
no_byte (in_list count ts ∷ around) rest n e = nothing 9 _ e
no_byte (in_map count ps name ∷ around) rest n e = nothing 10 _ e

-- so nothing is too deep there
pub deep_some : (most : ℕ) (left : ℕ) → TooDeep most [] left → ⊥
deep_some most left s = no_byte s.around s.here s.stops.1 s.is

-- ---- within a list, and within a map

-- the list that is open around it, and the map
list_open : (most : ℕ) (bytes : List ℕ) (left : ℕ) (around : List Around) (rest : List ℕ)
    → AllByRecursion IsAround around → 9 ∷ bytes ≡ all_around around ++ rest
    → length around ≡ most → IsNested rest → left ≡ length rest → 0 < most
    → (count : ℕ) × (more : List ℕ) × (count < 2 ^ 64) × (bytes ≡ counted count ++ more)
    × NoElementOf (TooDeep (most - 1)) count more left
list_open most bytes left [] rest opened is n nested l some = absurd (omega (arith, n, some))
list_open most bytes left (in_list count ts ∷ around) rest opened is n nested l some = (
  count,
  flat_map cell_bytes ts ++ (all_around around ++ rest),
  opened.0.0,
  cons_rest 9 9 bytes _ is
      ∙ append_assoc (counted count ++ flat_map cell_bytes ts) (all_around around) rest
      ∙ append_assoc (counted count) (flat_map cell_bytes ts) (all_around around ++ rest),
  record {
    done = ts;
    more = all_around around ++ rest;
    few = opened.0.1;
    are = opened.0.2;
    is = refl;
    stops = record {
      around = around;
      here = rest;
      open_there = opened.1;
      is = refl;
      stops = (omega (arith, n, some), nested, l);
    };
  },
)
list_open most bytes left (in_map count ps name ∷ around) rest opened is n nested l some =
    absurd (omega (arith, cons_first 9 10 bytes _ is))

map_open : (most : ℕ) (bytes : List ℕ) (left : ℕ) (around : List Around) (rest : List ℕ)
    → AllByRecursion IsAround around → 10 ∷ bytes ≡ all_around around ++ rest
    → length around ≡ most → IsNested rest → left ≡ length rest → 0 < most
    → (count : ℕ) × (more : List ℕ) × (count < 2 ^ 64) × (bytes ≡ counted count ++ more)
    × NoEntryOf (TooDeep (most - 1)) count more left
map_open most bytes left [] rest opened is n nested l some = absurd (omega (arith, n, some))
map_open most bytes left (in_list count ts ∷ around) rest opened is n nested l some =
    absurd (omega (arith, cons_first 10 9 bytes _ is))
map_open most bytes left (in_map count ps name ∷ around) rest opened is n nested l some = (
  count,
  flat_map entry_bytes ps ++ (field name ++ (all_around around ++ rest)),
  opened.0.0,
  cons_rest 10 10 bytes _ is
      ∙ append_assoc (counted count ++ (flat_map entry_bytes ps ++ field name))
      (all_around around) rest
      ∙ append_assoc (counted count) (flat_map entry_bytes ps ++ field name)
      (all_around around ++ rest)
      ∙ ap (λ s. counted count ++ s) (append_assoc (flat_map entry_bytes ps) (field name)
      (all_around around ++ rest)),
  record {
    done = ps;
    more = field name ++ (all_around around ++ rest);
    few = opened.0.1;
    are = opened.0.2;
    is = refl;
    stops = (
      name,
      all_around around ++ rest,
      opened.0.3,
      opened.0.4,
      refl,
      record {
        around = around;
        here = rest;
        open_there = opened.1;
        is = refl;
        stops = (omega (arith, n, some), nested, l);
      },
    );
  },
)

-- a list that tells a count has it within an element
pub list_deeper : (most count : ℕ) (bytes rest : List ℕ) (left : ℕ) → 0 < most → count < 2 ^ 64
    → bytes ≡ counted count ++ rest → TooDeep most (9 ∷ bytes) left
    → NoElementOf (TooDeep (most - 1)) count rest left
list_deeper most count bytes rest left some small is s =
    let d = list_open most bytes left s.around s.here s.open_there s.is s.stops.0 s.stops.1
    s.stops.2 some in
    let c = number-apart d.0 count d.1 rest d.2 small (sym d.3 ∙ is) in
    subst (λ k. NoElementOf (TooDeep (most - 1)) k rest left) c.0
    (subst (λ m. NoElementOf (TooDeep (most - 1)) d.0 m left) c.1 d.4)

-- and a map within a value
pub map_deeper : (most count : ℕ) (bytes rest : List ℕ) (left : ℕ) → 0 < most → count < 2 ^ 64
    → bytes ≡ counted count ++ rest → TooDeep most (10 ∷ bytes) left
    → NoEntryOf (TooDeep (most - 1)) count rest left
map_deeper most count bytes rest left some small is s =
    let d = map_open most bytes left s.around s.here s.open_there s.is s.stops.0 s.stops.1
    s.stops.2 some in
    let c = number-apart d.0 count d.1 rest d.2 small (sym d.3 ∙ is) in
    subst (λ k. NoEntryOf (TooDeep (most - 1)) k rest left) c.0
    (subst (λ m. NoEntryOf (TooDeep (most - 1)) d.0 m left) c.1 d.4)

-- a stop where no count stands is none of bytes that tell one
counted-stop : (bytes more : List ℕ) (count left : ℕ) (s : Stop) → bytes ≡ counted count ++ more
    → IsStopByBytes (NoCount bytes) s → IsStopAt (λ n. ⊥) (λ n. left ≤ n) s
counted-stop bytes more count left (Left n) e h =
    omega (arith, h.0, ap length e, length-counted count more)
counted-stop bytes more count left (Deep n) e h = absurd h
counted-stop bytes more count left NoMemory e h = tt

-- so bytes that tell no count are no such list
pub list_uncounted : (most : ℕ) (bytes : List ℕ) (left : ℕ) (s : Stop) → 0 < most
    → TooDeep most (9 ∷ bytes) left → IsStopByBytes (NoCount bytes) s
    → IsStopAt (λ n. ⊥) (λ n. left ≤ n) s
list_uncounted most bytes left s some t h =
    let d = list_open most bytes left t.around t.here t.open_there t.is t.stops.0 t.stops.1
    t.stops.2 some in
    counted-stop bytes d.1 d.0 left s d.3 h

-- nor such a map
pub map_uncounted : (most : ℕ) (bytes : List ℕ) (left : ℕ) (s : Stop) → 0 < most
    → TooDeep most (10 ∷ bytes) left → IsStopByBytes (NoCount bytes) s
    → IsStopAt (λ n. ⊥) (λ n. left ≤ n) s
map_uncounted most bytes left s some t h =
    let d = map_open most bytes left t.around t.here t.open_there t.is t.stops.0 t.stops.1
    t.stops.2 some in
    counted-stop bytes d.1 d.0 left s d.3 h

-- ---- what is ahead of a reader

-- something is nested too deep there, or a value stands before the place where it is
abbrev pub IsAhead : ℕ → List ℕ → ℕ → Type 0
IsAhead most bytes left =
    TooDeep most bytes left
    ⊎ ((t : Tree) × (x : List ℕ) × HasBytes t × (bytes ≡ cell_bytes t ++ x) × (left ≤ length x))

-- a value that stops there is nested too deep, at that place or before it
pub ahead_stop : (most left : ℕ) (bytes : List ℕ) (s : Stop) → IsAhead most bytes left
    → IsStopAt (ValueStops bytes) (TooDeep most bytes) s
    → ((n : ℕ) → TooDeep most bytes n → IsStopAt (λ m. ⊥) (λ m. n ≤ m) s)
    → IsStopAt (λ m. ⊥) (λ m. left ≤ m) s
ahead_stop most left bytes s (inl deep) stop told = told left deep
ahead_stop most left bytes (Left n) (inr v) stop told =
    stops-refuted bytes n stop v.0 v.1 v.2 v.3
ahead_stop most left bytes (Deep n) (inr v) stop told =
    omega (arith, v.4, deep-inside most bytes n stop v.0 v.1 v.2 v.3)
ahead_stop most left bytes NoMemory (inr v) stop told = tt

-- behind elements that were read it is ahead, and not all of them were
pub elements_ahead : (most : ℕ) (ts : List Tree) (count : ℕ) (bytes rest : List ℕ) (left : ℕ)
    → AllByRecursion HasBytes ts → AllByRecursion (λ t. depth t ≤ most) ts
    → bytes ≡ flat_map cell_bytes ts ++ rest → NoElementOf (TooDeep most) count bytes left
    → (length ts < count) × IsAhead most rest left
elements_ahead most ts count bytes rest left are shallow is non =
    elim (cases_order (length ts) (length non.done)) [
      | inl same ↦
          let s = same_many cell_bytes HasBytes ts non.done rest non.more
          (apart ts are) non.are same (sym is ∙ non.is) in
          (omega (arith, same, non.few), inl (subst (λ m. TooDeep most m left) (sym s.1) non.stops))
      | inr other ↦ elim other [
        | inl fewer ↦
            let g = further cell_bytes HasBytes ts non.done rest non.more
            (apart ts are) non.are fewer (sym is ∙ non.is) in (
              omega (arith, fewer, non.few),
              inr (
                g.next,
                flat_map cell_bytes g.others ++ non.more,
                all_among HasBytes ts g.next g.others
                    (subst (AllByRecursion HasBytes) g.is non.are),
                g.there,
                omega (
                  arith,
                  deep-left most non.more left non.stops,
                  length-append (flat_map cell_bytes g.others) non.more,
                ),
              ),
            )
        | inr further_on ↦
            let g = further cell_bytes HasBytes non.done ts non.more rest
            (apart non.done non.are) are further_on (sym non.is ∙ is) in
            absurd (deep-refuted most non.more left non.stops g.next _
            (all_among HasBytes non.done g.next g.others (subst (AllByRecursion HasBytes) g.is are))
            (all_among (λ t. depth t ≤ most) non.done g.next g.others
            (subst (AllByRecursion (λ t. depth t ≤ most)) g.is shallow)) g.there)
      ]
    ]
  where
    apart : (us : List Tree) → AllByRecursion HasBytes us
        → AllByRecursion (IsApart cell_bytes HasBytes) us
    apart us h = all_map HasBytes (IsApart cell_bytes HasBytes) us value_apart h

-- a next name, and behind it what is ahead
abbrev pub IsNameAhead : ℕ → List Pair → List ℕ → ℕ → Type 0
IsNameAhead most ps bytes left =
    (name more : List ℕ) × IsShort name × IsNextName ps name × (bytes ≡ field name ++ more)
    × IsAhead most more left

-- behind entries that were read it is ahead, and not all of them were
pub entries_ahead : (most : ℕ) (ps : List Pair) (count : ℕ) (bytes rest : List ℕ) (left : ℕ)
    → AreMapEntries ps → AllByRecursion (λ e. depth e.1 ≤ most) ps
    → bytes ≡ flat_map entry_bytes ps ++ rest → NoEntryOf (TooDeep most) count bytes left
    → (length ps < count) × IsNameAhead most ps rest left
entries_ahead most ps count bytes rest left are shallow is non =
    let name = non.stops.0 in
    let more = non.stops.1 in
    elim (cases_order (length ps) (length non.done)) [
      | inl same ↦
          let s = same_many entry_bytes IsMapEntry ps non.done rest non.more
          (apart ps are.0) non.are.0 same (sym is ∙ non.is) in (
            omega (arith, same, non.few),
            (
              name,
              more,
              non.stops.2,
              subst (λ qs. IsNextName qs name) (sym s.0) non.stops.3,
              s.1 ∙ non.stops.4,
              inl non.stops.5,
            ),
          )
      | inr other ↦ elim other [
        | inl fewer ↦
            let g = further entry_bytes IsMapEntry ps non.done rest non.more
            (apart ps are.0) non.are.0 fewer (sym is ∙ non.is) in
            let e = next_name_of ps g.next g.others (subst AreMapEntries g.is non.are) in (
              omega (arith, fewer, non.few),
              (
                g.next.0,
                cell_bytes g.next.1 ++ (flat_map entry_bytes g.others ++ non.more),
                e.0.0.1,
                e.1,
                g.there ∙ append_assoc (field g.next.0) (cell_bytes g.next.1) _,
                inr (
                  g.next.1,
                  flat_map entry_bytes g.others ++ non.more,
                  e.0.1,
                  refl,
                  omega (
                    arith,
                    deep-left most more left non.stops.5,
                    ap length non.stops.4,
                    length-append (field name) more,
                    length-append (flat_map entry_bytes g.others) non.more,
                  ),
                ),
              ),
            )
        | inr further_on ↦
            let g = further entry_bytes IsMapEntry non.done ps non.more rest
            (apart non.done non.are.0) are.0 further_on (sym non.is ∙ is) in
            let e : IsMapEntry g.next = all_among IsMapEntry non.done g.next g.others
            (subst (AllByRecursion IsMapEntry) g.is are.0) in
            let h = field-apart name g.next.0 more _ non.stops.2 e.0.1
            (sym non.stops.4 ∙ g.there ∙ append_assoc (field g.next.0) (cell_bytes g.next.1) _) in
            absurd (deep-refuted most more left non.stops.5 g.next.1 _ e.1
            (all_among (λ (p : Pair). depth p.1 ≤ most) non.done g.next g.others
            (subst (AllByRecursion (λ (p : Pair). depth p.1 ≤ most)) g.is shallow)) h.1)
      ]
    ]
  where
    apart : (qs : List Pair) → AllByRecursion IsMapEntry qs
        → AllByRecursion (IsApart entry_bytes IsMapEntry) qs
    apart qs h = all_map IsMapEntry (IsApart entry_bytes IsMapEntry) qs pair_apart h

-- where no next name stands, none is
pub name_stop : (most : ℕ) (ps : List Pair) (bytes : List ℕ) (left : ℕ) (s : Stop)
    → IsNameAhead most ps bytes left → IsStopByBytes (NoFittingField (IsNextName ps) bytes) s
    → IsStopAt (λ n. ⊥) (λ n. left ≤ n) s
name_stop most ps bytes left (Left n) a h =
    field-refuted (IsNextName ps) bytes n h a.0 a.1 a.2 a.3 a.4
name_stop most ps bytes left (Deep n) a h = absurd h
name_stop most ps bytes left NoMemory a h = tt

-- and behind the next name it is ahead
pub behind_name : (most : ℕ) (ps : List Pair) (bytes name behind : List ℕ) (left : ℕ)
    → IsNameAhead most ps bytes left → IsShort name → bytes ≡ field name ++ behind
    → IsAhead most behind left
behind_name most ps bytes name behind left a short is =
    let f = field-apart a.0 name a.1 behind a.2 short (sym a.4 ∙ is) in
    subst (λ m. IsAhead most m left) f.1 a.5

-- where the bytes stop for another reason, nothing in them is too deep
pub left_shallow : (n left : ℕ) (s : Stop) → s ≡ Left n → IsStopAt (λ m. ⊥) (λ m. left ≤ m) s → ⊥
left_shallow n left s e h = subst (IsStopAt (λ m. ⊥) (λ m. left ≤ m)) e h

-- and where they stop for this, nothing before is
pub deep_least : (n left : ℕ) (s : Stop) → s ≡ Deep n → IsStopAt (λ m. ⊥) (λ m. left ≤ m) s
    → left ≤ n
deep_least n left s e h = subst (IsStopAt (λ m. ⊥) (λ m. left ≤ m)) e h

-- fewer than were told are not as many
pub never_ok : (n count : ℕ) → n < count → n ≡ count → ⊥
never_ok n count less same = omega (arith, less, same)
