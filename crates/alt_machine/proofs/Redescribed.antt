-- A valid state in which a table has another description, of its name, keys, stream and number, is valid.
use Rattle.std.proofs.Common.{◌≡◌, ◌≢◌, ◌⊎◌, refl, sym, ap, subst, ◌∙◌, ℕ, ◌+◌, ◌<◌, ◌≤◌, true, false, is_some, List, [], ◌∷◌, Option, Some, None, option_map, inl, inr, All, AllPairs, Contains, arith}
use Rattle.std.specs.FinMap.{len-insert}
use Rattle.std.specs.FinMap as map
use Rattle.std.specs.FinMap.Entries.{where_key}
use Rattle.std.specs.List.{list_all}
use Rattle.std.specs.Option.{option_map_or}
use Rattle.std.specs.Ordering.{is_le}
use Rattle.std.specs.Prelude.{◌&&◌, IfSome, if◌then◌else◌, option_and_then}
use Rattle.std.proofs.lemmas.List.Elements.{All-weaker}
use Rattle.std.proofs.lemmas.Bool.{and_from}
use Rattle.std.specs.Cmp.{first_so, second_so}
use Rattle.alt_keyorder.specs.Place.{place_bytes}
use Rattle.alt_schema.specs.Indexes.{is_key, longest_hash, longest_range, of_range}
use Rattle.alt_schema.specs.declared.schema.Built.{Built}
use Rattle.alt_schema.specs.declared.schema.Built.TheVariants.{Whole, UpTo}
use Rattle.alt_schema.specs.declared.schema.IndexSchema.{IndexSchema}
use Rattle.alt_schema.specs.declared.schema.TableSchema.{TableSchema}
use Rattle.alt_value.specs.Members.{text_order}
use Rattle.alt_value.specs.Tree.{Pair}
use Rattle.alt_value.proofs.Texts.{text_total}
use Rattle.alt_machine.specs.declared.TheConstants.{NUMBERS_END, FAMILIES_END}
use Rattle.alt_machine.specs.Building.{built_part, built_place, is_built_to, reaches}
use Rattle.alt_machine.specs.Keys.{is_key_value_within, key_fits, key_value, place_beside, place_of}
use Rattle.alt_machine.specs.Lists.{start_beside, start_value}
use Rattle.alt_machine.specs.Ops.UpdateTable.{redescribed, with_description}
use Rattle.alt_machine.specs.State.{State, Table, Texts, Change, families_of}
use Rattle.alt_machine.specs.Valid.{AreChanges, IsChange, IsMade, IsStored, IsTable, IsValid}
use Rattle.alt_machine.proofs.Families.{of_contained}
use Rattle.alt_machine.proofs.Looks.{at_insert}
use Rattle.alt_machine.proofs.States.{changes_later, same_count, table_later}

-- Two descriptions of one table: the name, the keys, the stream and the number are the same.
pub record IsAlike (d e : TableSchema) : Type 0 where
  pub name : e.name ≡ d.name
  pub hash : e.hash ≡ d.hash
  pub range : e.range ≡ d.range
  pub stream : e.stream_family ≡ d.stream_family
  pub number : e.number ≡ d.number

module _ (d e : TableSchema) (alike : IsAlike d e) where
  -- an item has one place by both
  place_alike : (item : List Pair) → place_of e item ≡ place_of d item
  place_alike item = λ j. option_map place_bytes
      (option_and_then (place_beside item (alike.range j)) (key_value item (alike.hash j)))

  fits_alike : (item : List Pair) → key_fits e item ≡ key_fits d item
  fits_alike item = λ j. is_key_value_within longest_hash item (alike.hash j)
      && of_range (is_key_value_within longest_range item) true (alike.range j)

  -- so has a key
  built_place-alike : (key : List Pair) → built_place e key ≡ built_place d key
  built_place-alike key = λ j.
      if list_all (λ (p : Pair). is_key (alike.hash j) (alike.range j) p.0) key
      then option_map place_bytes
      (option_and_then (start_beside key (alike.range j)) (start_value key (alike.hash j)))
      else None

  -- so an index is built up to a key of both
  pub built_to-alike : (b : Built) → is_built_to e b ≡ is_built_to d b
  built_to-alike Whole = refl
  built_to-alike (UpTo None) = refl
  built_to-alike (UpTo (Some key)) = ap is_some (built_place-alike key)

  pub keys_alike : (gs : List IndexSchema) → list_all (λ i. is_built_to d i.built) gs ≡ true
      → list_all (λ i. is_built_to e i.built) gs ≡ true
  keys_alike [] h = refl
  keys_alike (g ∷ gs) h = and_from (is_built_to e g.built) _
      (built_to-alike g.built ∙ first_so (is_built_to d g.built) _ h)
      (keys_alike gs (second_so (is_built_to d g.built) _ h))

  -- it is built of the same items
  reaches_alike : (b : Built) (place : List ℕ) → reaches e b place ≡ reaches d b place
  reaches_alike Whole place = refl
  reaches_alike (UpTo None) place = refl
  reaches_alike (UpTo (Some key)) place =
      ap (λ o. option_map_or (λ last. is_le (text_order place last)) o false) (built_place-alike key)

  pub built_part-alike : (b : Built) (items : Texts (List Pair))
      → built_part e b items ≡ built_part d b items
  built_part-alike b items = λ j. map.from_sorted
      (where_key text_order (λ place. reaches_alike b place j) (map.entries items))

  -- what is stored by one is stored by the other
  stored_alike : (place : List ℕ) (item : List Pair) → IsStored d place item → IsStored e place item
  stored_alike place item is = record {
    stands = place_alike item ∙ is.stands;
    fits = fits_alike item ∙ is.fits;
    size = is.size;
    depth = is.depth;
    full = is.full;
    names = is.names;
  }

  some_alike : (place : List ℕ) (o : Option (List Pair)) → IfSome o (IsStored d place)
      → IfSome o (IsStored e place)
  some_alike place None is = tt
  some_alike place (Some item) is = stored_alike place item is

  -- and so are changes
  changes_alike : (next trimmed : ℕ) (changes : List Change) → AreChanges d next trimmed changes
      → AreChanges e next trimmed changes
  changes_alike next trimmed changes h = record {
    each = All-weaker (IsChange d next) (IsChange e next) (λ (c : Change) is. record {
      number = is.number;
      differ = is.differ;
      place = is.place;
      old = some_alike is.place c.old is.old;
      new = some_alike is.place c.new is.new;
    }) changes h.each;
    rise = h.rise;
    above = h.above;
    trimmed_before = h.trimmed_before;
    none = λ no. h.none (sym alike.stream ∙ no);
  }

module _ (s : State) (name : List ℕ) (t : Table) (e : TableSchema) (next : ℕ) (v : IsValid s)
    (room : s.next_number < NUMBERS_END) (there : map.get s.tables name ≡ Some t)
    (low : s.next_family ≤ next) (high : next ≤ FAMILIES_END) (alike : IsAlike t.description e)
    (made : IsMade e) (families : All (λ f. (1 ≤ f) × (f < next)) (families_of e))
    (differ : AllPairs (λ f g. f ≢ g) (families_of e))
    (own : (f : ℕ) → Contains (families_of e) f
    → Contains (families_of t.description) f ⊎ (s.next_family ≤ f)) where
  abbrev r : State
  r = with_description s name t e next

  -- the table is as one has to be
  described_is : IsTable r name (redescribed e t)
  described_is =
      let old : IsTable s name t = v.tables name t there in
      record {
        named = alike.name ∙ old.named;
        made = made;
        number = subst (λ n. (1 ≤ n) × (n < s.next_number + 1)) (sym alike.number)
            (old.number.0, omega (arith, old.number.1));
        families = families;
        differ = differ;
        items = λ place item at.
            stored_alike t.description e alike place item (old.items place item at);
        changes = changes_later e s.next_number (s.next_number + 1) t.trimmed t.changes (omega arith)
            (changes_alike t.description e alike s.next_number t.trimmed t.changes old.changes);
      }

  -- a family of the table's is none of another's
  apart : (other : List ℕ) (w : Table) (f : ℕ) → map.get s.tables other ≡ Some w
      → Contains (families_of e) f → Contains (families_of w.description) f → name ≡ other
  apart other w f at h i = elim (own f h) [
    | inl was ↦ v.families name other t w f there at was i
    | inr new ↦ absurd (let old : (1 ≤ f) × (f < s.next_family) =
        of_contained (λ g. (1 ≤ g) × (g < s.next_family)) (families_of w.description) f
        (v.tables other w at).families i in
        omega (arith, old.1, new))
  ]

  -- a valid state stays valid with that table, which takes families up to the next one then
  pub with_description_valid : IsValid r
  with_description_valid = record {
    few = omega (
      arith,
      len-insert text_total s.tables name (redescribed e t),
      same_count (map.contains_key s.tables name) (map.len s.tables) (ap is_some there),
      v.few,
    );
    tables = λ q u at. elim (at_insert s.tables name q u (redescribed e t) at) [
      | inl new ↦ subst (λ (w : Table). IsTable r q w) new.1
          (subst (λ n. IsTable r n (redescribed e t)) (sym new.0) described_is)
      | inr old ↦ table_later s r q u (omega arith) low (v.tables q u old)
    ];
    families = λ q other u w f at_q at_other h i.
        elim (at_insert s.tables name q u (redescribed e t) at_q) [
          | inl new ↦ elim (at_insert s.tables name other w (redescribed e t) at_other) [
            | inl also ↦ new.0 ∙ sym also.0
            | inr old ↦ new.0 ∙ apart other w f old
                (subst (λ (x : Table). Contains (families_of x.description) f) (sym new.1) h) i
          ]
          | inr old ↦ elim (at_insert s.tables name other w (redescribed e t) at_other) [
            | inl new ↦ sym (new.0 ∙ apart q u f old
                (subst (λ (x : Table). Contains (families_of x.description) f) (sym new.1) i) h)
            | inr also ↦ v.families q other u w f old also h i
          ]
        ];
    next_number = (omega arith, omega (arith, room));
    next_family = (omega (arith, v.next_family.0, low), high);
  }
