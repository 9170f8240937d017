-- For which state the tables stand, and what the catalog knows of it.
use Rattle.std.proofs.Common.{◌≡◌, ◌≤◌, refl, sym, ap, subst, ◌∙◌, ℕ, Bool, true, false, cond, List, Option, Some, None, IfSome, IsTrue, option_map}
use Rattle.std.proofs.Math.Nat.{le_refl, le_trans}
use Rattle.std.proofs.lemmas.Option.{same_Some}
use Rattle.std.specs.Prelude.{◌↔◌}
use Rattle.std.specs.Ordering.{eq_by_cmp}
use Rattle.std.specs.FinMap as map
use Rattle.alt_cells.specs.Changes.{Columns}
use Rattle.alt_cells.proofs.SameKeys.{one_key}
use Rattle.alt_disk.specs.Disk.{DiskState, Goes, IsTrusted}
use Rattle.alt_disk.proofs.Calls.{goes_refl, goes_on}
use Rattle.alt_due.specs.Due.{KeepsKnown}
use Rattle.alt_disk.proofs.Runs.{quiet_start, quiet_then, trusted_on, trusted_back, tells_of}
use Rattle.alt_rowchanges.specs.OpeningEngineInHand.{Bounds, ReadsLayout as EngineReads, StandsForLayout as EngineStands}
use Rattle.alt_rowchanges.specs.OpeningEngineOpened.{StaysOn}
use Rattle.alt_layout.specs.Layout.{Layout, shown}
use Rattle.alt_machine.specs.State.{State, Table, Texts, descriptions}
use Rattle.alt_machine.proofs.Descriptions.{get-descriptions, no_description, table_of_description}
use Rattle.alt_schema.specs.declared.schema.TableSchema.{TableSchema}
use Rattle.alt_views.specs.ItemRows.{IsReadItem, item_columns}
use Rattle.alt_rowchanges.proofs.OpeningOverEngine.{one_layout_in_hand}
use Rattle.alt_rowchanges.specs.Fronts.{AreFronts}
use Rattle.alt_tables.specs.Stands.{AreReady, HasRows, KeepsTables, Stands, bounds_of, catalog_of, trimmed_of}
use Rattle.alt_tables.specs.declared.tables.Tables.{Tables}
use Rattle.alt_rowchanges.specs.OpeningLive.{AreLiveIn}
use Rattle.alt_rowchanges.specs.OpeningTrimmed.{AreTrimmedOf, number_at}
use Rattle.alt_tables.proofs.Holding.{one_held}
use Rattle.alt_tables.proofs.NoneBuilt.{none_on}
use Rattle.alt_views.proofs.ItemRowLaws.{item_columns-one}
use Rattle.alt_rowchanges.proofs.OpeningOneState.{has_whole}
use Rattle.alt_rowchanges.proofs.OpeningMaps.{same_texts}
use Rattle.alt_value.specs.Tree.{Pair}
use Rattle.alt_value.specs.Values.{IsWholeItem}
use Rattle.alt_value.specs.Members.{text_order}
use Rattle.alt_value.proofs.Texts.{text_total}

-- ---- what work goes by

-- where that stays, so does the first file that it makes
pub file_stays : (t u : Tables) → bounds_of u ≡ bounds_of t → (bounds_of u).file ≡ (bounds_of t).file
file_stays t u same = ap (λ (b : Bounds). b.file) same

-- ---- the descriptions of other tables

module _ (tables : Texts Table) (name : List ℕ) where
  -- with a table more, or another one
  described : (t : Table) (q : List ℕ) → map.get (descriptions (map.insert tables name t)) q
      ≡ cond (eq_by_cmp text_order q name) (Some t.description) (map.get (descriptions tables) q)
  described t q = get-descriptions (map.insert tables name t) q
      ∙ ap (option_map (λ (t : Table). t.description)) (map.get-insert text_total tables name t q)
      ∙ by (eq_by_cmp text_order q name)
    where
      by : (b : Bool) → option_map (λ (t : Table). t.description)
          (cond b (Some t) (map.get tables q))
          ≡ cond b (Some t.description) (map.get (descriptions tables) q)
      by true = refl
      by false = sym (get-descriptions tables q)

  -- a table more
  pub descriptions-insert : (t : Table) → descriptions (map.insert tables name t)
      ≡ map.insert (descriptions tables) name t.description
  descriptions-insert t = same_texts _ _ (λ q. described t q
      ∙ sym (map.get-insert text_total (descriptions tables) name t.description q))

  -- a table of other items
  pub descriptions-stay : (t u : Table) → map.get tables name ≡ Some t
      → u.description ≡ t.description
      → descriptions (map.insert tables name u) ≡ descriptions tables
  descriptions-stay t u at same = same_texts _ _ (λ q. described u q
      ∙ by q (eq_by_cmp text_order q name) refl)
    where
      by : (q : List ℕ) (b : Bool) → eq_by_cmp text_order q name ≡ b
          → cond b (Some u.description) (map.get (descriptions tables) q)
          ≡ map.get (descriptions tables) q
      by q true e = ap (λ d. Some d) same
          ∙ sym (get-descriptions tables q
          ∙ ap (λ k. option_map (λ (t : Table). t.description) (map.get tables k))
          (one_key q name e)
          ∙ ap (option_map (λ (t : Table). t.description)) at)
      by q false e = refl

  -- a table less
  pub descriptions-remove : descriptions (map.remove tables name)
      ≡ map.remove (descriptions tables) name
  descriptions-remove = same_texts _ _ (λ q.
      get-descriptions (map.remove tables name) q
      ∙ ap (option_map (λ (t : Table). t.description)) (map.get-remove text_total tables name q)
      ∙ by q (eq_by_cmp text_order q name)
      ∙ sym (map.get-remove text_total (descriptions tables) name q))
    where
      by : (q : List ℕ) (b : Bool) → option_map (λ (t : Table). t.description)
          (cond b None (map.get tables q)) ≡ cond b None (map.get (descriptions tables) q)
      by q true = refl
      by q false = sym (get-descriptions tables q)

-- ---- tables in hand

-- a table of the state is described in the catalog
pub known : (disk : DiskState) (t : Tables) (s : State) (name : List ℕ) (u : Table)
    → Stands disk t s → map.get s.tables name ≡ Some u
    → map.get (catalog_of t) name ≡ Some u.description
known disk t s name u stands at = ap (λ m. map.get m name) stands.catalog
    ∙ get-descriptions s.tables name ∙ ap (option_map (λ (v : Table). v.description)) at

-- and what is described there is a table of it
pub there : (disk : DiskState) (t : Tables) (s : State) (name : List ℕ) (d : TableSchema)
    → Stands disk t s → map.get (catalog_of t) name ≡ Some d
    → (u : Table) × (map.get s.tables name ≡ Some u) × (u.description ≡ d)
there disk t s name d stands at = table_of_description s.tables name d
    (ap (λ m. map.get m name) (sym stands.catalog) ∙ at)

-- what isn't described there is none
pub absent : (disk : DiskState) (t : Tables) (s : State) (name : List ℕ) → Stands disk t s
    → map.get (catalog_of t) name ≡ None → map.get s.tables name ≡ None
absent disk t s name stands at = no_description s.tables name
    (ap (λ m. map.get m name) (sym stands.catalog) ∙ at)

-- they stand for one state
pub one_stands : (disk : DiskState) (t : Tables) (s r : State) → Stands disk t s → Stands disk t r
    → s ≡ r
one_stands disk t s r a b = one_held disk t.engine s r a.rows b.rows a.valid b.valid

-- of an item at a place there is one place
pub one_place : (o : Option (List ℕ)) (p q : List ℕ) → o ≡ Some p → o ≡ Some q → p ≡ q
one_place o p q e f = let both : Some p ≡ Some q = sym e ∙ f in cc

-- families that are live in a catalog are live in the same one
pub still_live : (m n : Texts TableSchema) (fs gs : List ℕ) → n ≡ m → gs ≡ fs → AreLiveIn m fs
    → AreLiveIn n gs
still_live m n fs gs catalog live are = subst (λ (o : Texts TableSchema). AreLiveIn o gs)
    (sym catalog) (subst (AreLiveIn m) (sym live) are)

-- what was trimmed of tables stays so
pub still_trimmed : (tables : Texts Table) (t u : Tables) → u.trimmed ≡ t.trimmed
    → AreTrimmedOf tables (trimmed_of t) → AreTrimmedOf tables (trimmed_of u)
still_trimmed tables t u trimmed are name =
    ap (λ known. number_at name known.items) trimmed ∙ are name

-- ---- a call that reads alone

module _ (old new : DiskState) (t u : Tables) (catalog : u.catalog ≡ t.catalog)
    (live : u.live ≡ t.live) (family : u.family ≡ t.family) (trimmed : u.trimmed ≡ t.trimmed)
    (fronts : u.fronts ≡ t.fronts) (due : KeepsKnown t.due u.due) (largest : t.largest ≤ u.largest)
    (builds : u.builds ≡ t.builds)
    (goes : Goes old new)
    (same : IsTrue old.tells → StaysOn old new t.engine u.engine) where
  -- the tables stand for what they stood for
  stays_on : (s : State) → Stands old t s → Stands new u s
  stays_on s stands =
      let on = same (tells_of old stands.rows.trusted) in record {
        catalog = catalog ∙ stands.catalog;
        number = on.next ∙ stands.number;
        family = family ∙ stands.family;
        live = still_live t.catalog u.catalog t.live u.live catalog live stands.live;
        trimmed = still_trimmed s.tables t u trimmed stands.trimmed;
        rows = record {
          trusted = trusted_on old new goes stands.rows.trusted;
          layout = stands.rows.layout;
          is = on.stands stands.rows.layout stands.rows.is;
          shows = stands.rows.shows;
          held = stands.rows.held;
        };
        fronts = λ m rows. subst (λ known. AreFronts m s.tables known.items) (sym fronts)
            (stands.fronts m (subst (λ l. EngineStands old t.engine l)
            (one_layout_in_hand new u.engine stands.rows.layout m
            (on.stands stands.rows.layout stands.rows.is) rows) stands.rows.is));
        due = λ name place v item at there moment fits over.
            due moment _ (stands.due name place v item at there moment fits over);
        sized = λ name place v item at there.
            le_trans (stands.sized name place v item at there) largest;
        builds = none_on t u catalog builds stands.builds;
        valid = stands.valid;
      }

  -- and for nothing else
  pub stays : AreReady old t → (s : State) → Stands old t s ↔ Stands new u s
  stays ready s = (
    stays_on s,
    λ stands.
        let (r, before) = ready (trusted_back old new goes stands.rows.trusted) in
        subst (Stands old t) (one_stands new u r s (stays_on r before) stands) before,
  )

-- ---- a call that keeps what is known

module _ (old new : DiskState) (t u : Tables) (keeps : KeepsTables old new t u) where
  -- the tables stand for what they stood for
  pub stays_kept : AreReady old t → (s : State) → Stands old t s ↔ Stands new u s
  stays_kept = stays old new t u keeps.catalog keeps.live keeps.family keeps.trimmed keeps.fronts
      keeps.due keeps.largest keeps.builds keeps.reads.goes keeps.same

  pub stands_kept : (s : State) → Stands old t s → Stands new u s
  stands_kept = stays_on old new t u keeps.catalog keeps.live keeps.family keeps.trimmed
      keeps.fronts keeps.due keeps.largest keeps.builds keeps.reads.goes keeps.same

  -- they are ready
  pub ready_kept : AreReady old t → AreReady new u
  ready_kept ready trusted =
      let (s, stands) = ready (trusted_back old new keeps.reads.goes trusted) in
      (s, stands_kept s stands)

  -- and the rows are those that they were
  pub rows_kept : IsTrusted old → (l : Layout) → HasRows old t l → HasRows new u l
  rows_kept trusted l rows = (keeps.same (tells_of old trusted)).stands l rows

-- one after another
pub keeps_then : (a b c : DiskState) (t u v : Tables) → KeepsTables a b t u → KeepsTables b c u v → KeepsTables a c t v
keeps_then a b c t u v first then = record {
  catalog = then.catalog ∙ first.catalog;
  live = then.live ∙ first.live;
  family = then.family ∙ first.family;
  trimmed = then.trimmed ∙ first.trimmed;
  fronts = then.fronts ∙ first.fronts;
  due = λ moment spot knows. then.due moment spot (first.due moment spot knows);
  largest = le_trans first.largest then.largest;
  builds = then.builds ∙ first.builds;
  limits = then.limits ∙ first.limits;
  number = then.number ∙ first.number;
  reads = record {
    goes = goes_on a b c first.reads.goes then.reads.goes;
    quiet = λ tells. quiet_then a b c (first.reads.quiet tells)
        (then.reads.quiet (subst IsTrue (sym first.reads.goes.tells) tells));
  };
  same = λ tells.
      let one = first.same tells in
      let two = then.same (subst IsTrue (sym first.reads.goes.tells) tells) in
      record {
        next = two.next ∙ one.next;
        reads = λ l reads. two.reads l (one.reads l reads);
        stands = λ l stands. two.stands l (one.stands l stands);
      };
}

-- and one that makes no call of the disk behind it
pub keeps_on : (a b : DiskState) (t u v : Tables) → KeepsTables a b t u
    → ((disk : DiskState) → KeepsTables disk disk u v) → KeepsTables a b t v
keeps_on a b t u v first then = keeps_then a b b t u v first (then b)

-- no call keeps everything
pub keeps_nothing : (a : DiskState) (t : Tables) → KeepsTables a a t t
keeps_nothing a t = record {
  catalog = refl;
  live = refl;
  family = refl;
  trimmed = refl;
  fronts = refl;
  due = λ moment spot knows. knows;
  largest = le_refl t.largest;
  builds = refl;
  limits = refl;
  number = refl;
  reads = record { goes = goes_refl a; quiet = λ tells. quiet_start a };
  same = λ tells. record { next = refl; reads = λ l reads. reads; stands = λ l stands. stands };
}

-- ---- the item that a row shows

-- items of one row are one
one_item : (o p : Option (List Pair)) → IfSome o IsReadItem
    → ((item : List Pair) → p ≡ Some item → IsWholeItem item)
    → option_map item_columns o ≡ option_map item_columns p → o ≡ p
one_item None None h k e = refl
one_item None (Some b) h k e = absurd (let no : None ≡ Some (item_columns b) = e in
    let f : ⊥ = cc in f)
one_item (Some a) None h k e = absurd (let no : Some (item_columns a) ≡ None = e in
    let f : ⊥ = cc in f)
one_item (Some a) (Some b) h k e = ap (λ x. Some x)
    (item_columns-one a b h.whole (k b refl) (same_Some _ _ e))

module _ (disk : DiskState) (t : Tables) (s : State) (name : List ℕ) (u : Table)
    (d : TableSchema) (stands : Stands disk t s) (at : map.get s.tables name ≡ Some u)
    (known_as : map.get (catalog_of t) name ≡ Some d) (place : List ℕ) (row : Option Columns)
    (shows : (l : Layout) → EngineReads disk t.engine l → row ≡ shown l d.family place) where
  -- what the row shows is the item at its key
  pub row_shows : row ≡ option_map item_columns (map.get u.items place)
  row_shows = shows stands.rows.layout stands.rows.is.hand.reads
      ∙ ap (λ (x : TableSchema). shown stands.rows.layout x.family place)
      (same_Some _ _ (sym known_as ∙ known disk t s name u stands at))
      ∙ stands.rows.shows.items name u at place

  -- so what was read is that
  pub item_found : (item : Option (List Pair)) → IfSome item IsReadItem
      → row ≡ option_map item_columns item → item ≡ map.get u.items place
  item_found item read is = one_item item (map.get u.items place) read
      (has_whole s stands.valid stands.rows.held name u at place) (sym is ∙ row_shows)

  -- and it can be read
  pub item_reads : IfSome (map.get u.items place) IsReadItem
  item_reads = by (map.get u.items place) refl
    where
      by : (o : Option (List Pair)) → map.get u.items place ≡ o → IfSome o IsReadItem
      by None e = tt
      by (Some item) e = record {
        whole = has_whole s stands.valid stands.rows.held name u at place item e;
        depth = ((stands.valid.tables name u at).items place item e).depth;
      }
