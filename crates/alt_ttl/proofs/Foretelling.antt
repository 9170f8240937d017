-- What the list of the items that are due next tells of places that are ready, and what it knows once it is told of one.
use Rattle.std.proofs.Common.{◌≡◌, ◌<◌, ◌≤◌, ◌^◌, refl, sym, ap, subst, ◌∙◌, ℕ, Bool, true, false, List, [], ◌∷◌, inl, inr, Option, Some, None, is_some, option_map, arith}
use Rattle.std.specs.Prelude.{◌&&◌, option_and_then}
use Rattle.std.specs.FinMap as finite
use Rattle.std.specs.Option.{option_map_or}
use Rattle.std.specs.Ordering.{eq_by_cmp, is_le, is_lt, nat_cmp}
use Rattle.std.proofs.lemmas.Bool.{false≢true, cases_lt, and_from}
use Rattle.std.specs.Cmp.{second_so}
use Rattle.alt_base.proofs.Orderings.{nat_cmp-greater}
use Rattle.alt_cells.proofs.SameKeys.{key_itself, one_key}
use Rattle.alt_due.specs.Due.{FindsNext, IsReady, IsRipe, KeepsKnown, KeepsOthers, Knows, KnowsFrom, Lists, NoneDue, is_before, is_behind, suffices_at}
use Rattle.alt_due.specs.Order.{spot_of}
use Rattle.alt_due.specs.declared.due.Due.{Due}
use Rattle.alt_due.specs.declared.spot.Spot.{Spot}
use Rattle.alt_machine.specs.Expiry.{all_expired, is_expired, is_over}
use Rattle.alt_machine.specs.Keys.{place_of}
use Rattle.alt_machine.specs.declared.Standing.{Standing}
use Rattle.alt_machine.specs.State.{State, Table, Texts, descriptions}
use Rattle.alt_machine.proofs.Descriptions.{get-descriptions}
use Rattle.alt_schema.specs.declared.schema.TableSchema.{TableSchema}
use Rattle.alt_request.specs.TablesForeseen.{Foresees, ForeseesItem, IsMomentFrom, IsMetFrom}
use Rattle.alt_request.specs.TablesSeveral.{Every}
use Rattle.alt_request.proofs.TablesEach.{every_weaker}
use Rattle.alt_ttl.specs.private.Foresight.{Defers, ForeseesPlaced, ListSettles, ListSuffices, is_over_at, spot_at}
use Rattle.alt_ttl.proofs.Ordered.{every_over, has_over, is_less, less_trans, rise_all}
use Rattle.alt_ttl.proofs.LeftBehind.{NoneBetween, left_behind, left_none, left_other, left_own}
use Rattle.alt_value.specs.Item.{at_name}
use Rattle.alt_value.specs.Members.{text_order}
use Rattle.alt_value.specs.Tree.{Pair}

-- ---- places that are ready

module _ (s : State) (due : Due) (moment : ℕ) (fits : moment < 2 ^ 64)
    (knows : Foresees s.tables due) (ripe : IsRipe moment due) (enough : ListSuffices due moment) where
  -- a place before the end at which an item has expired is ready
  ready_over : (y : Spot) → is_over_at s moment y ≡ true → is_before due.end y ≡ true → IsReady due y
  ready_over y over before = by (finite.get s.tables y.table) refl over
    where
      lists : Lists due moment y → IsReady due y
      lists (inl ready) = and_from _ (is_before due.end y) ready before
      lists (inr waits) =
          let low = waits.1 in
          let high = ripe waits.0 y waits.2 in
          absurd (omega (arith, low, high))

      in_table : (t : Table) → finite.get s.tables y.table ≡ Some t → (o : Option (List Pair))
          → finite.get t.items y.place ≡ o
          → option_map_or (is_expired t.description moment) o false ≡ true → IsReady due y
      in_table t at None at_i over = absurd (false≢true over)
      in_table t at (Some item) at_i is = lists (knows y.table y.place t item at at_i moment fits is
          (and_from (suffices_at due moment) (is_before due.end y) enough.within before))

      by : (o : Option Table) → finite.get s.tables y.table ≡ o
          → option_map_or (λ (t : Table). option_map_or (is_expired t.description moment)
          (finite.get t.items y.place) false) o false ≡ true → IsReady due y
      by None at over = absurd (false≢true over)
      by (Some t) at is = in_table t at (finite.get t.items y.place) refl is

  -- so no item that has expired lies between a place and the next one that is ready
  none_between : (after : Option Spot) (y : Spot) → FindsNext due after (Some y) → (x : Spot)
      → is_over_at s moment x ≡ true → is_behind after x ≡ true → is_less x y ≡ false
  none_between after y next x over behind = by (is_less x y) refl
    where
      before : (o : Option Spot) → is_before o y ≡ true → is_less x y ≡ true → is_before o x ≡ true
      before None h low = refl
      before (Some end) h low = less_trans x y end low h

      by : (b : Bool) → is_less x y ≡ b → is_less x y ≡ false
      by false e = e
      by true e = next.2 x (ready_over x over
          (before due.end (second_so _ (is_before due.end y) next.0) e))
          behind

  -- what is left behind the one is that place, where an item there has expired, and what is left behind it
  pub left_over : (after : Option Spot) (y : Spot) → FindsNext due after (Some y)
      → is_over_at s moment y ≡ true → left_behind after (all_expired s moment)
      ≡ record { table = y.table; place = y.place } ∷ left_behind (Some y) (all_expired s moment)
  left_over after y next over = left_own after y next.1 (all_expired s moment)
      (rise_all s moment)
      (every_weaker (λ e. is_over_at s moment (spot_at e) ≡ true)
      (NoneBetween after y next.1)
      (λ e is behind. none_between after y next (spot_at e) is behind) (all_expired s moment)
      (every_over s moment))
      (has_over s moment y over)

  pub left_stale : (after : Option Spot) (y : Spot) → FindsNext due after (Some y)
      → is_over_at s moment y ≡ false → left_behind after (all_expired s moment)
      ≡ left_behind (Some y) (all_expired s moment)
  left_stale after y next stale = left_other after y next.1 (all_expired s moment)
      (every_weaker (λ e. is_over_at s moment (spot_at e) ≡ true)
      (NoneBetween after y next.1)
      (λ e is behind. none_between after y next (spot_at e) is behind) (all_expired s moment)
      (every_over s moment))
      (every_weaker (λ e. is_over_at s moment (spot_at e) ≡ true) (λ e. spot_at e ≡ y → ⊥)
      (λ e is same. false≢true (sym stale ∙ ap (is_over_at s moment) (sym same) ∙ is))
      (all_expired s moment) (every_over s moment))

  -- where none is ready behind a place, and the list has no end, nothing is left
  pub left_nothing : (after : Option Spot) → FindsNext due after None → is_some due.end ≡ false
      → left_behind after (all_expired s moment) ≡ []
  left_nothing after next endless = left_none after (all_expired s moment)
      (every_weaker (λ e. is_over_at s moment (spot_at e) ≡ true)
      (λ e. is_behind after (spot_at e) ≡ false)
      (λ e is. next (spot_at e) (ready_over (spot_at e) is (all_before due.end endless (spot_at e))))
      (all_expired s moment) (every_over s moment))
    where
      all_before : (o : Option Spot) → is_some o ≡ false → (x : Spot) → is_before o x ≡ true
      all_before None h x = refl
      all_before (Some end) h x = absurd (false≢true (sym h))

-- where it tells that nothing is due, nothing has expired
pub none_over : (s : State) (due : Due) (moment : ℕ) → moment < 2 ^ 64 → Foresees s.tables due
    → NoneDue due moment → all_expired s moment ≡ []
none_over s due moment fits knows none = by (all_expired s moment) (every_over s moment)
  where
    known : (y : Spot) → is_over_at s moment y ≡ true → Knows due moment y
    known y over = of (finite.get s.tables y.table) refl over
      where
        in_table : (t : Table) → finite.get s.tables y.table ≡ Some t → (o : Option (List Pair))
            → finite.get t.items y.place ≡ o
            → option_map_or (is_expired t.description moment) o false ≡ true → Knows due moment y
        in_table t at None at_i over = absurd (false≢true over)
        in_table t at (Some item) at_i is = knows y.table y.place t item at at_i moment fits is

        of : (o : Option Table) → finite.get s.tables y.table ≡ o
            → option_map_or (λ (t : Table). option_map_or (is_expired t.description moment)
            (finite.get t.items y.place) false) o false ≡ true → Knows due moment y
        of None at over = absurd (false≢true over)
        of (Some t) at is = in_table t at (finite.get t.items y.place) refl is

    by : (es : List Standing) → Every (λ e. is_over_at s moment (spot_at e) ≡ true) es → es ≡ []
    by [] over = refl
    by (e ∷ es) over = absurd (none (spot_at e) (known (spot_at e) over.0))

-- ---- a list that is told of a place

-- a list that knows of the item at a place, and of all others what it knew, knows of all
pub foresees_told : (s : State) (spot : Spot) (old new : Due) → KeepsOthers spot old new
    → ((t : Table) (item : List Pair) → finite.get s.tables spot.table ≡ Some t
    → finite.get t.items spot.place ≡ Some item
    → ForeseesItem t.description spot.table spot.place new item)
    → Foresees s.tables old → Foresees s.tables new
foresees_told s spot old new others own knows name place t item at there moment fits over =
    by (eq_by_cmp text_order name spot.table) refl (eq_by_cmp text_order place spot.place) refl
  where
    apart : (spot_of name place ≡ spot → ⊥) → Knows new moment (spot_of name place)
    apart other = others moment (spot_of name place) other
        (knows name place t item at there moment fits over)

    differs : (a b : List ℕ) → eq_by_cmp text_order a b ≡ false → a ≡ b → ⊥
    differs a b apart same =
        false≢true (sym apart ∙ ap (eq_by_cmp text_order a) (sym same) ∙ key_itself a)

    by : (a : Bool) → eq_by_cmp text_order name spot.table ≡ a → (b : Bool)
        → eq_by_cmp text_order place spot.place ≡ b → Knows new moment (spot_of name place)
    by true e true f =
        subst (Knows new moment) (λ i. spot_of (sym (one_key name spot.table e) i)
        (sym (one_key place spot.place f) i))
        (own t item (ap (finite.get s.tables) (sym (one_key name spot.table e)) ∙ at)
        (ap (finite.get t.items) (sym (one_key place spot.place f)) ∙ there) moment fits over)
    by true e false f = apart (λ same. differs place spot.place f (ap (λ (x : Spot). x.place) same))
    by false e b f = apart (λ same. differs name spot.table e (ap (λ (x : Spot). x.table) same))

-- so it does where it is told of the item that was looked at
pub foresees_settled : (s : State) (t : Table) (spot : Spot) (moment : ℕ) (item : Option (List Pair))
    (old new : Due) → finite.get s.tables spot.table ≡ Some t → item ≡ finite.get t.items spot.place
    → ListSettles t.description moment spot item old new → old.since ≡ moment
    → Foresees s.tables old → Foresees s.tables new
foresees_settled s t spot moment item old new at is settles since knows =
    foresees_told s spot old new settles.others (λ u i at_u at_i.
    let same : t ≡ u = same_table t u (sym at ∙ at_u) in
    subst (λ (v : Table). ForeseesItem v.description spot.table spot.place new i) same
    (settles.own since i (is ∙ ap (λ (v : Table). finite.get v.items spot.place) same ∙ at_i)
    (knows spot.table spot.place t i at
    (ap (λ (v : Table). finite.get v.items spot.place) same ∙ at_i)))) knows
  where
    same_table : (t u : Table) → Some t ≡ Some u → t ≡ u
    same_table t u e = cc

-- where the items of a table have no time to live, or there is none, nothing there has expired
pub no_time : (d : TableSchema) → is_some d.ttl ≡ false → (moment : ℕ) (item : List Pair)
    → is_expired d moment item ≡ false
no_time d none moment item = by d.ttl none
  where
    by : (o : Option (List ℕ)) → is_some o ≡ false
        → option_map_or (is_over moment) (option_and_then (λ n. at_name n item) o) false ≡ false
    by None h = refl
    by (Some n) h = absurd (false≢true (sym h))

module _ (s : State) (catalog : Texts TableSchema) (same : catalog ≡ descriptions s.tables)
    (spot : Spot) (none : option_map_or (λ (d : TableSchema). is_some d.ttl)
    (finite.get catalog spot.table) false ≡ false) where
  untimed : (t : Table) → finite.get s.tables spot.table ≡ Some t
      → is_some t.description.ttl ≡ false
  untimed t at =
      sym (ap (λ o. option_map_or (λ (d : TableSchema). is_some d.ttl) o false)
      (ap (λ (m : Texts TableSchema). finite.get m spot.table) same
      ∙ get-descriptions s.tables spot.table
      ∙ ap (option_map (λ (t : Table). t.description)) at)) ∙ none

  pub stale_untimed : (moment : ℕ) → is_over_at s moment spot ≡ false
  stale_untimed moment = by (finite.get s.tables spot.table) refl
    where
      of_item : (t : Table) → finite.get s.tables spot.table ≡ Some t → (o : Option (List Pair))
          → option_map_or (is_expired t.description moment) o false ≡ false
      of_item t at None = refl
      of_item t at (Some item) = no_time t.description (untimed t at) moment item

      by : (o : Option Table) → finite.get s.tables spot.table ≡ o
          → option_map_or (λ (t : Table). option_map_or (is_expired t.description moment)
          (finite.get t.items spot.place) false) o false ≡ false
      by None at = refl
      by (Some t) at = of_item t at (finite.get t.items spot.place)

  pub foresees_dropped : (old new : Due) → KeepsOthers spot old new → Foresees s.tables old
      → Foresees s.tables new
  foresees_dropped old new others knows = foresees_told s spot old new others
      (λ t item at at_i moment fits over. absurd (false≢true
      (sym (no_time t.description (untimed t at) moment item) ∙ over))) knows

-- what stands at a place of a table that is there has expired where the item has
pub over_there : (s : State) (moment : ℕ) (spot : Spot) (t : Table) (item : Option (List Pair))
    → finite.get s.tables spot.table ≡ Some t → item ≡ finite.get t.items spot.place
    → option_map_or (is_expired t.description moment) item false ≡ is_over_at s moment spot
over_there s moment spot t item at is =
    ap (λ o. option_map_or (is_expired t.description moment) o false) is
    ∙ sym (ap (λ o. option_map_or (λ (u : Table). option_map_or (is_expired u.description moment)
    (finite.get u.items spot.place) false) o false) at)

-- ---- an item that hasn't expired

-- a list covers no moment before it begins
not_before : (due : Due) (moment : ℕ) (spot : Spot) → moment < due.since → Knows due moment spot
not_before due moment spot low covered = absurd (false≢true (sym
    (ap (λ o. (is_le o && is_lt (nat_cmp moment due.until)) && is_before due.end spot)
    (nat_cmp-greater due.since moment low)) ∙ covered))

module _ (d : TableSchema) (moment : ℕ) (spot : Spot) (item : List Pair)
    (stale : is_expired d moment item ≡ false) (new : Due) (since : new.since ≡ moment) where
  -- it knows of one that is noted
  pub noted_later : (first : ℕ) → IsMetFrom (λ m. is_expired d m item) (Some first)
      → KnowsFrom first spot new → ForeseesItem d spot.table spot.place new item
  noted_later first met known m fits over = known m (met.from m fits over)

  -- and of one that won't expire
  pub never_later : (first : Option ℕ) → IsMetFrom (λ m. is_expired d m item) first
      → ((f : ℕ) → first ≡ Some f → f ≤ moment) → ForeseesItem d spot.table spot.place new item
  never_later first met passed m fits over = elim (cases_lt m moment) [
    | inl low ↦ not_before new m spot (omega (arith, low, since))
    | inr high ↦ by first refl high
  ]
    where
      by : (o : Option ℕ) → first ≡ o → moment ≤ m → Knows new m spot
      by None is high = let far : 2 ^ 64 ≤ m = subst (λ x. IsMomentFrom x m) is (met.from m fits over) in
          absurd (omega (arith, far, fits))
      by (Some f) is high = absurd (false≢true (sym stale
          ∙ met.upto f moment m is (passed f is) high over))

-- what is told of such an item
module _ (d : TableSchema) (moment : ℕ) (spot : Spot) (item : List Pair) (r : Option ℕ)
    (met : IsMetFrom (λ m. is_expired d m item) r) where
  -- from which moment on it will have
  pub deferred_noted : (first : ℕ) → r ≡ Some first → (old new : Due) → KeepsKnown old new
      → new.since ≡ old.since → (table place : List ℕ) → table ≡ spot.table → place ≡ spot.place
      → KnowsFrom first (spot_of table place) new → Defers d moment spot item old new
  deferred_noted first is old new keeps stays table place same_table same_place known = record {
    keeps = keeps;
    own = λ since stale. noted_later d moment spot item stale new (stays ∙ since) first
        (subst (IsMetFrom (λ m. is_expired d m item)) is met)
        (subst (λ x. KnowsFrom first x new) (λ i. spot_of (same_table i) (same_place i)) known);
  }

  -- nothing, where it won't any more
  pub deferred_passed : (first : ℕ) → r ≡ Some first → first ≤ moment → (due : Due)
      → Defers d moment spot item due due
  deferred_passed first is low due = record {
    keeps = λ m x knows. knows;
    own = λ since stale. never_later d moment spot item stale due since r met
        (λ f same. subst (λ k. k ≤ moment) (same_some first f (sym is ∙ same)) low);
  }
    where
      same_some : (a b : ℕ) → Some a ≡ Some b → a ≡ b
      same_some a b e = cc

  -- or never will
  pub deferred_never : r ≡ None → (due : Due) → Defers d moment spot item due due
  deferred_never is due = record {
    keeps = λ m x knows. knows;
    own = λ since stale. never_later d moment spot item stale due since r met
        (λ f same. absurd (no_some f (sym is ∙ same)));
  }
    where
      no_some : (f : ℕ) → None ≡ Some f → ⊥
      no_some f e = cc

-- ---- an item of a walk

module _ (d : TableSchema) (name : List ℕ) (item : List Pair) (due : Due) (r : Option ℕ)
    (met : IsMetFrom (λ m. is_expired d m item) r) where
  -- one that never expires is known of
  pub placed_never : r ≡ None → ForeseesPlaced d name due item
  placed_never is place at m fits over =
      let far : 2 ^ 64 ≤ m = subst (λ x. IsMomentFrom x m) is (met.from m fits over) in
      absurd (omega (arith, far, fits))

  -- so is one that is noted at its place
  pub placed_noted : (first : ℕ) → r ≡ Some first → (own place : List ℕ) → own ≡ place
      → place_of d item ≡ Some place → KnowsFrom first (spot_of name own) due
      → ForeseesPlaced d name due item
  placed_noted first is own place same placed known q at m fits over =
      subst (λ p. Knows due m (spot_of name p)) (same ∙ same_some place q (sym placed ∙ at))
      (known m (subst (λ x. IsMomentFrom x m) is (met.from m fits over)))
    where
      same_some : (a b : List ℕ) → Some a ≡ Some b → a ≡ b
      same_some a b e = cc

-- ---- a table that may have expired items

-- it is there
pub may_there : (o : Option TableSchema)
    → option_map_or (λ (d : TableSchema). is_some d.ttl) o false ≡ true → is_some o ≡ true
may_there None may = absurd (false≢true may)
may_there (Some d) may = refl
