-- What is read as an item: its names rise, it isn't too deep and no set in it is empty.
use Rattle.std.proofs.Common.{◌≡◌, refl, ℕ, ◌-◌, ◌<◌, ◌≤◌, Bool, true, false, cond, T, List, [], ◌∷◌, length, Option, Some, None, Result, Ok, Err, IfOk, arith}
use Rattle.std.specs.Prelude.{◌==◌, codes}
use Rattle.std.specs.Str.{bytes_eq}
use Rattle.std.specs.Ordering.{int_cmp}
use Rattle.std.specs.declared.cmp.Ordering.{Ordering}
use Rattle.std.specs.declared.cmp.Ordering.TheVariants.{Less, Equal, Greater}
use Rattle.std.specs.FinMap.Entries.{by_order}
use Rattle.alt_base.proofs.Bools.{both_hold, first_holds, second_holds}
use Rattle.alt_base.proofs.Numbers.{told_above_zero}
use Rattle.serde_json.specs.Data.{Data, null, boolean, number, string, array, object, Items, no_items, item, Members, no_members, member}
use Rattle.alt_codec.specs.declared.fault.ValueFault.{ValueFault}
use Rattle.alt_codec.specs.declared.fault.ValueFault.TheVariants as fault
use Rattle.alt_value.specs.Values.{is_nonempty_set, sets_full, elements_full, fields_full}
use Rattle.alt_codec.specs.Reading.{ValueOrFault, all_null, flat_in, by_kind, if_room, value_in, only_member, first_member, elements_in, fields_in, item_in}
use Rattle.alt_codec.specs.Scalars.{text_in, number_in, binary_in, truth_in, null_in}
use Rattle.alt_codec.specs.Sets.{members_in, told, sound, first_fault, then_sound, or_later_fault}
use Rattle.alt_codec.specs.Steps.{and_then, map_ok}
use Rattle.alt_value.specs.Item.{IsItem, with_pair}
use Rattle.alt_value.specs.Members.{text_order, set_of, are_apart, gathered, with_member}
use Rattle.alt_value.specs.Size.{depth, elements_depth, fields_depth}
use Rattle.alt_value.specs.Tree.{Tree, S_tree, N_tree, B_tree, SS_tree, NS_tree, BS_tree, L_tree, M_tree, Pair, trees_of, fields_of}
use Rattle.alt_value.proofs.Entries.{IsItem-with_pair}

-- ---- what is to hold of a value and of the parts of one

-- a value nests no deeper than there is room, and no set in it is empty
abbrev pub Fits : ℕ → Tree → Type 0
Fits room t = (depth t ≤ room) × T (sets_full t)

-- so do elements
abbrev ElementsFit : ℕ → List Tree → Type 0
ElementsFit room ts = (elements_depth (trees_of ts) ≤ room) × T (elements_full (trees_of ts))

-- so do pairs
abbrev FieldsFit : ℕ → List Pair → Type 0
FieldsFit room ps = (fields_depth (fields_of ps) ≤ room) × T (fields_full (fields_of ps))

-- what holds of an answer, of what is made of it, and of what depends on it
of_map_ok : {A B : Type 0} (P : A → Type 0) (Q : B → Type 0) (f : A → B) (r : Result A ValueFault)
    → ((x : A) → P x → Q (f x)) → IfOk r P → IfOk (map_ok f r) Q
of_map_ok P Q f (Ok x) h p = h x p
of_map_ok P Q f (Err e) h p = tt

of_and_then : {A B : Type 0} (P : A → Type 0) (Q : B → Type 0) (f : A → Result B ValueFault)
    (r : Result A ValueFault) → ((x : A) → P x → IfOk (f x) Q) → IfOk r P → IfOk (and_then f r) Q
of_and_then P Q f (Ok x) h p = h x p
of_and_then P Q f (Err e) h p = tt

-- of any answer nothing
anything : {A : Type 0} (r : Result A ValueFault) → IfOk r (λ _. Unit {0})
anything (Ok x) = tt
anything (Err e) = tt

-- ---- sets

module _ {K : Type 0} (R : K → K → Ordering) where
  some_with_member : (x : K) (ys : List K) → T (is_nonempty_set (with_member R x ys))
  some_with_member x [] = tt
  some_with_member x (y ∷ ys) = elim (R x y) as
      (λ o. T (is_nonempty_set (by_order o (x ∷ y ∷ ys) (y ∷ ys) (y ∷ with_member R x ys)))) [
        | Less ↦ tt
        | Equal ↦ tt
        | Greater ↦ tt
      ]

  some_told : (k : K) (ks : List K) (f : Option ValueFault)
      → IfOk (told (set_of R (k ∷ ks)) f) (λ s. T (is_nonempty_set s))
  unfolding set_of
  some_told k ks f = elim (are_apart R (k ∷ ks)) as
      (λ b. IfOk (told (cond b (Some (gathered R (k ∷ ks))) None) f) (λ s. T (is_nonempty_set s))) [
        | true ↦ told_some f
        | false ↦ tt
      ]
    where
      told_some : (g : Option ValueFault) → IfOk (told (Some (gathered R (k ∷ ks))) g)
          (λ s. T (is_nonempty_set s))
      told_some None = some_with_member k (gathered R ks)
      told_some (Some e) = tt

  none_told : (o : Option (List K)) (f : ValueFault) → IfOk (told o (Some f)) (λ s. T (is_nonempty_set s))
  none_told None f = tt
  none_told (Some s) f = tt

  module _ (read : Data → Result K ValueFault) where
    first_read : (r : Result K ValueFault) (ks : List K) (later : Option ValueFault)
        → IfOk (told (set_of R (then_sound r ks)) (or_later_fault r later)) (λ s. T (is_nonempty_set s))
    first_read (Ok k) ks later = some_told k ks later
    first_read (Err f) ks later = none_told (set_of R []) f

    members_full : (d : Data) → IfOk (members_in R read d) (λ s. T (is_nonempty_set s))
    members_full (array no_items) = tt
    members_full (array (item d ds)) = first_read (read d) (sound read ds) (first_fault read ds)
    members_full null = tt
    members_full (boolean b) = tt
    members_full (number n) = tt
    members_full (string s) = tt
    members_full (object ms) = tt

-- ---- kinds without nested values

-- the kinds without nested values
truth_fits : (room : ℕ) (d : Data) → IfOk (truth_in d) (Fits room)
truth_fits room (boolean b) = (omega arith, tt)
truth_fits room null = tt
truth_fits room (number n) = tt
truth_fits room (string s) = tt
truth_fits room (array ds) = tt
truth_fits room (object ms) = tt

null_fits : (room : ℕ) (d : Data) → IfOk (null_in d) (Fits room)
null_fits room (boolean true) = (omega arith, tt)
null_fits room (boolean false) = tt
null_fits room null = tt
null_fits room (number n) = tt
null_fits room (string s) = tt
null_fits room (array ds) = tt
null_fits room (object ms) = tt

-- what holds in both arms
if_either : {A : Type 0} (Q : A → Type 0) (b : Bool) (x y : A) → Q x → Q y → Q (cond b x y)
if_either Q true x y p q = p
if_either Q false x y p q = q

-- each of these kinds, by its name
flat_fits : (room : ℕ) (name : List ℕ) (d : Data) → IfOk (flat_in name d) (Fits room)
flat_fits room name d =
    let Q : ValueOrFault → Type 0 = λ r. IfOk r (Fits room) in
    if_either Q (bytes_eq name (codes "S")) _ _
    (of_map_ok (λ _. Unit {0}) (Fits room) S_tree (text_in d) (λ x p. (omega arith, tt))
    (anything (text_in d)))
    (if_either Q (bytes_eq name (codes "N")) _ _
    (of_map_ok (λ _. Unit {0}) (Fits room) N_tree (number_in d) (λ x p. (omega arith, tt))
    (anything (number_in d)))
    (if_either Q (bytes_eq name (codes "B")) _ _
    (of_map_ok (λ _. Unit {0}) (Fits room) B_tree (binary_in d) (λ x p. (omega arith, tt))
    (anything (binary_in d)))
    (if_either Q (bytes_eq name (codes "BOOL")) _ _ (truth_fits room d)
    (if_either Q (bytes_eq name (codes "NULL")) _ _ (null_fits room d)
    (if_either Q (bytes_eq name (codes "SS")) _ _
    (of_map_ok (λ ks. T (is_nonempty_set ks)) (Fits room) SS_tree (members_in text_order text_in d)
    (λ x p. (omega arith, p)) (members_full text_order text_in d))
    (if_either Q (bytes_eq name (codes "NS")) _ _
    (of_map_ok (λ ks. T (is_nonempty_set ks)) (Fits room) NS_tree (members_in int_cmp number_in d)
    (λ x p. (omega arith, p)) (members_full int_cmp number_in d))
    (if_either Q (bytes_eq name (codes "BS")) _ _
    (of_map_ok (λ ks. T (is_nonempty_set ks)) (Fits room) BS_tree (members_in text_order binary_in d)
    (λ x p. (omega arith, p)) (members_full text_order binary_in d)) tt)))))))

-- ---- lists and maps

-- lists, maps, and the others
kind_fits : (Q : ValueOrFault → Type 0) (name : List ℕ) (list map flat : ValueOrFault) → Q list → Q map → Q flat
    → Q (by_kind name list map flat)
kind_fits Q name list map flat l m f =
    if_either Q (bytes_eq name (codes "L")) list _ l
    (if_either Q (bytes_eq name (codes "M")) map flat m f)

-- where there is room for a list or a map
in_room : {A : Type 0} (Q : A → Type 0) (room : ℕ) (b : Bool) (r : Result A ValueFault)
    → (room == 0) ≡ b → (0 < room → IfOk r Q) → IfOk (cond b (Err fault.TooDeep) r) Q
in_room Q room true r e h = tt
in_room Q room false r e h = h (some room e)
  where
    some : (n : ℕ) → (n == 0) ≡ false → 0 < n
    some n e = grind arith

-- a pair more
fields_with : (room : ℕ) (name : List ℕ) (t : Tree) (ps : List Pair) → Fits room t
    → FieldsFit room ps → FieldsFit room (with_pair name t ps)
fields_with room name t [] h f = (omega (arith, h.0), both_hold _ true h.1 tt)
fields_with room name t (q ∷ qs) h f =
    let there : FieldsFit room (with_pair name t qs) =
    fields_with room name t qs h (omega (arith, f.0), second_holds (sets_full q.1) _ f.1) in
    elim (text_order name q.0) as (λ o. FieldsFit room
    (by_order o ((name, t) ∷ q ∷ qs) ((q.0, t) ∷ qs) (q ∷ with_pair name t qs))) [
      | Less ↦ (omega (arith, h.0, f.0), both_hold (sets_full t) _ h.1 f.1)
      | Equal ↦ (
        omega (arith, h.0, f.0),
        both_hold (sets_full t) _ h.1
            (second_holds (sets_full q.1) _ f.1),
      )
      | Greater ↦ (
        omega (arith, there.0, f.0),
        both_hold (sets_full q.1) _ (first_holds (sets_full q.1) _ f.1) there.1,
      )
    ]

-- a list and a map, where their parts fit
list_fits : (room : ℕ) (r : Result (List Tree) ValueFault) → IfOk r (ElementsFit (room - 1))
    → IfOk (if_room room (map_ok (λ ts. L_tree (trees_of ts)) r)) (Fits room)
list_fits room r h = in_room (Fits room) room (room == 0)
    (map_ok (λ ts. L_tree (trees_of ts)) r) refl
    (λ some. of_map_ok (ElementsFit (room - 1)) (Fits room) (λ ts. L_tree (trees_of ts)) r
    (λ ts p. (omega (arith, p.0, some), p.1)) h)

map_fits : (room : ℕ) (r : Result (List Pair) ValueFault) → IfOk r (FieldsFit (room - 1))
    → IfOk (if_room room (map_ok (λ ps. M_tree (fields_of ps)) r)) (Fits room)
map_fits room r h = in_room (Fits room) room (room == 0)
    (map_ok (λ ps. M_tree (fields_of ps)) r) refl
    (λ some. of_map_ok (FieldsFit (room - 1)) (Fits room) (λ ps. M_tree (fields_of ps)) r
    (λ ps p. (omega (arith, p.0, some), p.1)) h)

-- a member that is no list and no map
scalar_fits : (room : ℕ) (name : List ℕ) (alone : Bool) (d : Data)
    → IfOk (cond alone (by_kind name (Err fault.WrongJson) (Err fault.WrongJson) (flat_in name d))
    (Err fault.NotOneMember)) (Fits room)
scalar_fits room name false d = tt
scalar_fits room name true d = kind_fits (λ r. IfOk r (Fits room)) name (Err fault.WrongJson)
    (Err fault.WrongJson) (flat_in name d) tt tt (flat_fits room name d)

mutual
  -- what is read fits
  pub value_fits : (room : ℕ) (d : Data) → IfOk (value_in room d) (Fits room)
  value_fits room null = tt
  value_fits room (boolean b) = tt
  value_fits room (number n) = tt
  value_fits room (string s) = tt
  value_fits room (array ds) = tt
  value_fits room (object ms) = only_fits room ms

  -- so does what the one member that isn't null is read as
  only_fits : (room : ℕ) (ms : Members) → IfOk (only_member room ms) (Fits room)
  only_fits room no_members = tt
  only_fits room (member name d ms) = first_fits (only_member room ms) (all_null ms) room name d
      (only_fits room ms)

  first_fits : (others : ValueOrFault) (alone : Bool) (room : ℕ) (name : List ℕ) (d : Data)
      → IfOk others (Fits room) → IfOk (first_member others alone room name d) (Fits room)
  first_fits others alone room name null o = o
  first_fits others alone room name (boolean b) o = scalar_fits room name alone (boolean b)
  first_fits others alone room name (number n) o = scalar_fits room name alone (number n)
  first_fits others alone room name (string s) o = scalar_fits room name alone (string s)
  first_fits others alone room name (array ds) o =
      if_either (λ r. IfOk r (Fits room)) alone _ (Err fault.NotOneMember)
      (kind_fits (λ r. IfOk r (Fits room)) name
      (if_room room (map_ok (λ ts. L_tree (trees_of ts)) (elements_in (room - 1) ds)))
      (Err fault.WrongJson) (flat_in name (array ds))
      (list_fits room (elements_in (room - 1) ds) (elements_fit (room - 1) ds)) tt
      (flat_fits room name (array ds))) tt
  first_fits others alone room name (object ms) o =
      if_either (λ r. IfOk r (Fits room)) alone _ (Err fault.NotOneMember)
      (kind_fits (λ r. IfOk r (Fits room)) name (Err fault.WrongJson)
      (if_room room (map_ok (λ ps. M_tree (fields_of ps)) (fields_in (room - 1) [] ms)))
      (flat_in name (object ms))
      tt (map_fits room (fields_in (room - 1) [] ms)
      (fields_fit (room - 1) [] ms (omega arith, tt))) (flat_fits room name (object ms))) tt

  elements_fit : (room : ℕ) (ds : Items) → IfOk (elements_in room ds) (ElementsFit room)
  elements_fit room no_items = (omega arith, tt)
  elements_fit room (item d ds) =
      of_and_then (Fits room) (ElementsFit room) (λ t. map_ok (λ ts. t ∷ ts) (elements_in room ds))
      (value_in room d)
      (λ t p. of_map_ok (ElementsFit room) (ElementsFit room) (λ ts. t ∷ ts) (elements_in room ds)
      (λ ts q. (omega (arith, p.0, q.0), both_hold (sets_full t) _ p.1 q.1)) (elements_fit room ds))
      (value_fits room d)

  fields_fit : (room : ℕ) (found : List Pair) (ms : Members) → FieldsFit room found
      → IfOk (fields_in room found ms) (FieldsFit room)
  fields_fit room found no_members f = f
  fields_fit room found (member name d ms) f =
      if_either (λ r. IfOk r (FieldsFit room)) (length name == 0) (Err fault.EmptyName) _ tt
      (of_and_then (Fits room) (FieldsFit room) (λ t. fields_in room (with_pair name t found) ms)
      (value_in room d)
      (λ t p. fields_fit room (with_pair name t found) ms (fields_with room name t found p f))
      (value_fits room d))

-- ---- items

-- names that aren't empty, each put at its place
names_rise : (room : ℕ) (found : List Pair) (ms : Members) → IsItem found
    → IfOk (fields_in room found ms) IsItem
names_rise room found no_members f = f
names_rise room found (member name d ms) f =
    (elim (length name == 0) as (λ b. (length name == 0) ≡ b
    → IfOk (cond b (Err fault.EmptyName) (and_then (λ t. fields_in room
    (with_pair name t found) ms) (value_in room d))) IsItem) [
      | true ↦ λ e. tt
      | false ↦ λ e. of_and_then (λ _. Unit {0}) IsItem
          (λ t. fields_in room (with_pair name t found) ms) (value_in room d)
          (λ t p. names_rise room (with_pair name t found) ms
          (IsItem-with_pair name t found (told_above_zero (length name) e) f))
          (anything (value_in room d))
    ]) refl

module _ (room : ℕ) where
  -- what is read as an item has rising names, none empty
  pub item_names : (d : Data) → IfOk (item_in room d) IsItem
  item_names (object ms) = names_rise room [] ms (tt, tt)
  item_names null = tt
  item_names (boolean b) = tt
  item_names (number n) = tt
  item_names (string s) = tt
  item_names (array ds) = tt

  -- it is no deeper than there is room
  pub item_depth : (d : Data) → IfOk (item_in room d) (λ ps. fields_depth (fields_of ps) ≤ room)
  item_depth (object ms) = weaker (fields_in room [] ms) (fields_fit room [] ms (omega arith, tt))
    where
      weaker : (r : Result (List Pair) ValueFault) → IfOk r (FieldsFit room)
          → IfOk r (λ ps. fields_depth (fields_of ps) ≤ room)
      weaker (Ok ps) h = h.0
      weaker (Err f) h = tt
  item_depth null = tt
  item_depth (boolean b) = tt
  item_depth (number n) = tt
  item_depth (string s) = tt
  item_depth (array ds) = tt

  -- and no set in it is empty
  pub item_full : (d : Data) → IfOk (item_in room d) (λ ps. T (fields_full (fields_of ps)))
  item_full (object ms) = weaker (fields_in room [] ms) (fields_fit room [] ms (omega arith, tt))
    where
      weaker : (r : Result (List Pair) ValueFault) → IfOk r (FieldsFit room)
          → IfOk r (λ ps. T (fields_full (fields_of ps)))
      weaker (Ok ps) h = h.1
      weaker (Err f) h = tt
  item_full null = tt
  item_full (boolean b) = tt
  item_full (number n) = tt
  item_full (string s) = tt
  item_full (array ds) = tt
