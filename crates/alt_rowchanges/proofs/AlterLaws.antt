-- The rows of a state in which a table has a global index more or less, and the write that leads there.
use Rattle.std.proofs.Common.{◌≡◌, ◌≢◌, ◌≤◌, ◌<◌, ◌+◌, ◌⊎◌, ℕ, zero, suc, Bool, true, false, cond, List, [], ◌∷◌, ◌++◌, length, Some, None, refl, sym, ap, subst, ◌∙◌, inl, inr, slice_get, append_assoc, arith, All}
use Rattle.std.proofs.lemmas.List.Elements.{All-weaker}
use Rattle.std.proofs.lemmas.Bool.{le-ltb, lt-ltb}
use Rattle.std.proofs.lemmas.Option.{same_Some}
use Rattle.std.specs.Prelude.{if◌then◌else◌, not, option_map}
use Rattle.std.specs.List.{filter}
use Rattle.std.specs.Ordering.{eq_by_cmp}
use Rattle.std.specs.FinMap as map
use Rattle.alt_base.proofs.Lists.{length-filter, length-one_more}
use Rattle.alt_cells.specs.declared.batch.RowChange.{RowChange}
use Rattle.alt_cells.specs.Changes.{change_between}
use Rattle.alt_cells.specs.Keys.{key_cmp}
use Rattle.alt_cells.proofs.ChangeLaws.{written-change_between}
use Rattle.alt_opening.specs.HandInHand.{batch_write}
use Rattle.alt_layout.specs.Layout.{Layout, shown, shown_by}
use Rattle.alt_layout.specs.Writes.{with_write}
use Rattle.alt_layout.proofs.BatchLaws.{shows_batch}
use Rattle.alt_writes.specs.Writes.{Write}
use Rattle.alt_machine.specs.Building.{built_part}
use Rattle.alt_machine.specs.Indexed.{index_entry, index_items}
use Rattle.alt_machine.specs.Ops.UpdateTable.{redescribed, with_description}
use Rattle.alt_machine.specs.Sources.{index_at}
use Rattle.alt_machine.specs.Outcomes.{a_family, a_number}
use Rattle.alt_machine.specs.State.{State, Table, Texts, families_of}
use Rattle.alt_machine.specs.Valid.{IsChangeOfValues, IsMade, IsTable, IsValid}
use Rattle.alt_machine.specs.Wanted.{lack_of}
use Rattle.alt_machine.proofs.Added.{alike_added, differ_added, families_added, own_added}
use Rattle.alt_machine.proofs.Building.{get-built_part}
use Rattle.alt_machine.proofs.Looks.{at_insert}
use Rattle.alt_machine.proofs.Lacks.{index_room, number_room}
use Rattle.alt_machine.proofs.Redescribed.{IsAlike, built_part-alike, with_description_valid}
use Rattle.alt_machine.proofs.Removed.{alike_removed, differ_removed, families_removed, own_removed}
use Rattle.alt_schema.specs.Altered.{index_added, with_index, without_index}
use Rattle.alt_schemabytes.specs.Held.{IsHeld}
use Rattle.alt_schema.specs.Indexes.{indexes, is_named}
use Rattle.alt_schema.specs.declared.schema.Built.TheVariants.{UpTo}
use Rattle.alt_schema.specs.declared.schema.IndexSchema.{IndexSchema}
use Rattle.alt_schema.specs.declared.schema.KeyAttr.{KeyAttr}
use Rattle.alt_schema.specs.declared.schema.TableSchema.{TableSchema}
use Rattle.alt_schema.specs.declared.stated.StatedIndex.{StatedIndex}
use Rattle.alt_value.specs.Members.{text_order}
use Rattle.alt_value.specs.Tree.{Pair}
use Rattle.alt_views.specs.IndexRows.{index_columns}
use Rattle.alt_opening.specs.StateRows.{HasMoment, IsHeldWhole, Shows, catalog_family, index_rows, next_row}
use Rattle.alt_opening.proofs.Maps.{same_texts}
use Rattle.alt_rowchanges.specs.Altering.{MayAlter, alter_wants, family_left, has_more}
use Rattle.alt_rowchanges.specs.RowChanges.{Turns, alter_changes}
use Rattle.alt_rowchanges.proofs.CatalogLaws.{next_can_show, no_items, none_rekeyed, off_catalog, table_named}
use Rattle.alt_rowchanges.proofs.ChangeLaws.{ShowsWrite, two_changes}
use Rattle.alt_rowchanges.proofs.DescribedShows.{described_change, shows_described}
use Rattle.alt_rowchanges.proofs.WriteLaws.{family_within, index_within, stream_within}

-- ---- places in lists

-- a place of a list with one more behind is that of the one, or one of the list
more_at : {A : Type 0} (xs : List A) (new x : A) (n : ℕ) → slice_get (xs ++ new ∷ []) n ≡ Some x
    → (slice_get xs n ≡ Some x) ⊎ (new ≡ x)
more_at [] new x zero e = inr (same_Some new x e)
more_at [] new x (suc n) e = absurd (let no : None ≡ Some x = e in cc no)
more_at (y ∷ ys) new x zero e = inl e
more_at (y ∷ ys) new x (suc n) e = more_at ys new x n e

-- what is left of a list stood in it
left_at : {A : Type 0} (p : A → Bool) (xs : List A) (n : ℕ) (x : A)
    → slice_get (filter p xs) n ≡ Some x → (m : ℕ) × (slice_get xs m ≡ Some x)
left_at p [] n x e = absurd (let no : None ≡ Some x = e in cc no)
left_at p (y ∷ ys) n x e = by (λ k f. left_at p ys k x f) (p y) n e
  where
    by : ((k : ℕ) → slice_get (filter p ys) k ≡ Some x → (m : ℕ) × (slice_get ys m ≡ Some x))
        → (b : Bool) (k : ℕ) → slice_get (cond b (y ∷ filter p ys) (filter p ys)) k ≡ Some x
        → (m : ℕ) × (slice_get (y ∷ ys) m ≡ Some x)
    by later true zero f = (0, f)
    by later true (suc k) f = let (m, at) = later k f in (suc m, at)
    by later false k f = let (m, at) = later k f in (suc m, at)

-- so it is behind another list
behind_left : {A : Type 0} (p : A → Bool) (xs ys : List A) (n : ℕ) (x : A)
    → slice_get (xs ++ filter p ys) n ≡ Some x → (m : ℕ) × (slice_get (xs ++ ys) m ≡ Some x)
behind_left p [] ys n x e = left_at p ys n x e
behind_left p (z ∷ zs) ys zero x e = (0, e)
behind_left p (z ∷ zs) ys (suc n) x e =
    let (m, at) = behind_left p zs ys n x e in (suc m, at)

-- a description with an index more has more of them
pub is_longer : (d : TableSchema) (more : List KeyAttr) (family : ℕ) (index : StatedIndex)
    → has_more d (with_index d more family index) ≡ true
is_longer d more family index = lt-ltb (length d.globals)
    (length (d.globals ++ index_added d more family index ∷ []))
    (length-one_more d.globals (index_added d more family index))

-- ---- rows

-- an index of the description then was there before, or it is built of no item and its family is new
abbrev WasOrComes : TableSchema → ℕ → IndexSchema → Type 0
WasOrComes d next i = ((n : ℕ) × (index_at d (Some n) ≡ Some i))
    ⊎ ((i.built ≡ UpTo None) × (next ≤ i.family))

module _ (s : State) (name : List ℕ) (t : Table) (at : map.get s.tables name ≡ Some t)
    (valid : IsValid s) (e : TableSchema) (next : ℕ) (low : s.next_family ≤ next)
    (alike : IsAlike t.description e) (family : e.family ≡ t.description.family)
    (columns : (i : IndexSchema) → index_columns e i ≡ index_columns t.description i)
    (entries : (i : IndexSchema) (m : Texts (List Pair))
    → index_items e i m ≡ index_items t.description i m)
    (each : (n : ℕ) (i : IndexSchema) → index_at e (Some n) ≡ Some i
    → WasOrComes t.description s.next_family i) where
  abbrev batch : List RowChange
  batch = alter_changes s.next_family next t.description e

  abbrev first : RowChange
  first = described_change t.description e

  abbrev second : RowChange
  second = change_between catalog_family [] (next_row s.next_family) (next_row next)

  -- an index that is built of no item has no rows
  none_built : (i : IndexSchema) → i.built ≡ UpTo None → (key : List ℕ)
      → index_rows (redescribed e t) i key ≡ None
  none_built i is key =
      ap (λ b. option_map (index_columns e i) (map.get (index_items e i (built_part e b t.items)) key))
      is
      ∙ ap (λ m. option_map (index_columns e i) (map.get (index_items e i m) key))
      (same_texts (built_part e (UpTo None) t.items) no_items (λ q.
      get-built_part e (UpTo None) t.items q ∙ sym (map.get-empty text_order q)))
      ∙ ap (option_map (index_columns e i)) (none_rekeyed (index_entry e i) key)

  module _ (l : Layout) (shows : Shows l s) (law : ShowsWrite l (batch_write l batch)) where
    abbrev w : Write
    w = batch_write l batch

    off : (f : ℕ) (key : List ℕ) → 1 ≤ f → shown (with_write l w) f key ≡ shown l f key
    off f key high = law f key ∙ ap (λ c. shown_by c (shown l f key))
        (off_catalog first (second ∷ []) f key refl high
        ∙ off_catalog second [] f key refl high)

    -- those that were there show what they did, and a new one shows nothing
    own_index : (n : ℕ) (i : IndexSchema) → index_at e (Some n) ≡ Some i → (key : List ℕ)
        → shown (with_write l w) i.family key ≡ index_rows (redescribed e t) i key
    own_index n i at_index key = by (each n i at_index)
      where
        by : WasOrComes t.description s.next_family i
            → shown (with_write l w) i.family key ≡ index_rows (redescribed e t) i key
        by (inl was) =
            off i.family key (index_within s name t (valid.tables name t at) was.0 i was.1).0
            ∙ shows.indexes name t was.0 i at was.1 key
            ∙ (λ j. option_map (sym (columns i) j)
            (map.get (sym (entries i (built_part t.description i.built t.items)) j) key))
            ∙ ap (λ m. option_map (index_columns e i) (map.get (index_items e i m) key))
            (sym (built_part-alike t.description e alike i.built t.items))
        by (inr comes) =
            off i.family key
            (let one = valid.next_family.0 in let behind = comes.1 in omega (arith, one, behind))
            ∙ shows.beyond i.family key comes.1
            ∙ sym (none_built i comes.0 key)

    -- the rows are then those of the state with it
    alter_shows : Shows (with_write l w) (with_description s name t e next)
    alter_shows = shows_described l s shows valid name t at (table_named s name t valid at) e family
        alike.stream next low w refl law (Some second)
        (written-change_between catalog_family [] (next_row s.next_family) (next_row next)
        (next_can_show next))
        (λ key. two_changes catalog_family first second key refl refl
        ∙ ap (λ n. if eq_by_cmp key_cmp key n then Some first
        else (if eq_by_cmp key_cmp key [] then Some second else None))
        (valid.tables name t at).named)
        0 (let one = valid.next_family.0 in omega (arith, one))
        (λ f key high apart. off f key high)
        (λ other x at_x same. let one = (family_within s other x (valid.tables other x at_x)).0 in
        omega (arith, one, same))
        (λ other x g at_x told same.
        let one = (stream_within s other x (valid.tables other x at_x) g told).0 in
        omega (arith, one, same))
        (λ other x n i apart at_x at_index same.
        let one = (index_within s other x (valid.tables other x at_x) n i at_index).0 in
        omega (arith, one, same))
        own_index

  -- The write turns the state into that one.
  turns_alike : IsHeldWhole s → IsHeld e → IsValid (with_description s name t e next)
      → Turns batch s (with_description s name t e next)
  turns_alike held held_e is_valid = record {
    shows = λ distinct l past shows. alter_shows l shows
        (shows_batch l (batch_write l batch) distinct past (omega arith));
    valid = is_valid;
    held = record {
      items = record {
        items = λ other q x item at_x here.
            elim (at_insert s.tables name other x (redescribed e t) at_x) [
              | inl new ↦ held.items.items name q t item at
                  (ap (λ (y : Table). map.get y.items q) new.1 ∙ here)
              | inr old ↦ held.items.items other q x item old here
            ];
        changes = λ other x at_x. elim (at_insert s.tables name other x (redescribed e t) at_x) [
          | inl new ↦ subst (λ (y : Table). All IsChangeOfValues y.changes) new.1
              (held.items.changes name t at)
          | inr old ↦ held.items.changes other x old
        ];
      };
      moments = λ other x at_x. elim (at_insert s.tables name other x (redescribed e t) at_x) [
        | inl new ↦ subst (λ (y : Table). All HasMoment y.changes) new.1 (held.moments name t at)
        | inr old ↦ held.moments other x old
      ];
      descriptions = λ other x at_x. elim (at_insert s.tables name other x (redescribed e t) at_x) [
        | inl new ↦ subst (λ (y : Table). IsHeld y.description) new.1 held_e
        | inr old ↦ held.descriptions other x old
      ];
    };
  }

-- ---- an index more, or less

module _ (s : State) (name : List ℕ) (t : Table) (at : map.get s.tables name ≡ Some t)
    (valid : IsValid s) (held : IsHeldWhole s) where
  abbrev d : TableSchema
  d = t.description

  -- it is made and nothing is lacked: then the state with it is valid
  abbrev MayCome : TableSchema → Type 0
  MayCome e = IsMade e → lack_of (alter_wants d e) s ≡ None
      → IsValid (with_description s name t e (family_left s.next_family d e))

  is_table : IsTable s name t
  is_table = valid.tables name t at

  -- what is said of such a description
  abbrev Comes : TableSchema → Type 0
  Comes e = IsHeld e → IsValid (with_description s name t e (family_left s.next_family d e))
      → Turns (alter_changes s.next_family (family_left s.next_family d e) d e) s
      (with_description s name t e (family_left s.next_family d e))

  -- ---- with one more

  module _ (more : List KeyAttr) (index : StatedIndex) where
    abbrev with_one : TableSchema
    with_one = with_index d more s.next_family index

    abbrev new : IndexSchema
    new = index_added d more s.next_family index

    longer : has_more d with_one ≡ true
    longer = is_longer d more s.next_family index

    counted : family_left s.next_family d with_one ≡ s.next_family + 1
    counted = ap (λ b. if b then s.next_family + 1 else s.next_family) longer

    each : (n : ℕ) (i : IndexSchema) → index_at with_one (Some n) ≡ Some i
        → WasOrComes d s.next_family i
    each n i at_index = elim (more_at (indexes d) new i n
        (subst (λ (is : List IndexSchema). slice_get is n ≡ Some i)
        (sym (append_assoc d.locals d.globals (new ∷ []))) at_index)) [
          | inl was ↦ inl (n, was)
          | inr comes ↦ inr (
            ap (λ (j : IndexSchema). j.built) (sym comes),
            omega (arith, ap (λ (j : IndexSchema). j.family) comes),
          )
        ]

    valid_more : MayCome with_one
    valid_more made enough =
        let room = index_room s
        (sym (ap (λ b. lack_of (if b then a_family else a_number) s) longer) ∙ enough) in
        subst (λ n. IsValid (with_description s name t with_one n)) (sym counted)
        (with_description_valid s name t with_one (s.next_family + 1) valid room.0 at (omega arith)
        (omega (arith, room.1)) (alike_added d more s.next_family index) made
        (families_added d more s.next_family index (λ g. (1 ≤ g) × (g < s.next_family + 1))
        (valid.next_family.0, omega arith)
        (All-weaker (λ g. (1 ≤ g) × (g < s.next_family)) (λ g. (1 ≤ g) × (g < s.next_family + 1))
        (λ g below. (below.0, omega (arith, below.1))) (families_of d) is_table.families))
        (differ_added d more s.next_family index
        (All-weaker (λ g. (1 ≤ g) × (g < s.next_family)) (λ g. g ≢ s.next_family)
        (λ g below same. omega (arith, below.1, same)) (families_of d) is_table.families)
        is_table.differ)
        (λ g here. elim (own_added d more s.next_family index g here) [
          | inl was ↦ inl was
          | inr own ↦ inr (omega (arith, own))
        ]))

    turns_more : Comes with_one
    turns_more held_x is_valid = turns_alike s name t at valid with_one
        (family_left s.next_family d with_one) (omega (arith, counted))
        (alike_added d more s.next_family index) refl (λ i. refl) (λ i m. refl) each held held_x
        is_valid

  -- ---- with one less

  module _ (gone : List ℕ) where
    abbrev without : TableSchema
    without = without_index d gone

    abbrev stays : IndexSchema → Bool
    stays i = not (is_named gone i)

    shorter : has_more d without ≡ false
    shorter = le-ltb (length d.globals) (length (filter stays d.globals))
        (length-filter stays d.globals)

    left : family_left s.next_family d without ≡ s.next_family
    left = ap (λ b. if b then s.next_family + 1 else s.next_family) shorter

    was : (n : ℕ) (i : IndexSchema) → index_at without (Some n) ≡ Some i
        → WasOrComes d s.next_family i
    was n i at_index = inl (behind_left stays d.locals d.globals n i at_index)

    valid_less : MayCome without
    valid_less made enough = subst (λ n. IsValid (with_description s name t without n)) (sym left)
        (with_description_valid s name t without s.next_family valid
        (number_room s (sym (ap (λ b. lack_of (if b then a_family else a_number) s) shorter)
        ∙ enough)) at (omega arith) valid.next_family.1 (alike_removed d gone) made
        (families_removed d gone (λ g. (1 ≤ g) × (g < s.next_family)) is_table.families)
        (differ_removed d gone is_table.differ) (λ g here. inl (own_removed d gone g here)))

    turns_less : Comes without
    turns_less held_x is_valid = turns_alike s name t at valid without
        (family_left s.next_family d without) (omega (arith, left)) (alike_removed d gone) refl
        (λ i. refl) (λ i m. refl) was held held_x is_valid

  -- ---- with either

  -- the state with such a description is valid
  pub alter_valid : (e : TableSchema) → MayAlter s.next_family d e → MayCome e
  alter_valid e (inl more) = subst MayCome (sym more.is) (valid_more more.definitions more.index)
  alter_valid e (inr less) = subst MayCome (sym less.is) (valid_less less.name)

  -- The write of a table with an index more or less turns the state into that one.
  pub alter_turns : (e : TableSchema) → MayAlter s.next_family d e → Comes e
  alter_turns e (inl more) = subst Comes (sym more.is) (turns_more more.definitions more.index)
  alter_turns e (inr less) = subst Comes (sym less.is) (turns_less less.name)
