-- One step of a walk: what its last item leaves of the range, where it ends the page, and what it pays.
use Rattle.std.proofs.Common.{◌≡◌, ◌≢◌, ◌≤◌, ◌+◌, ◌*◌, refl, sym, ap, subst, ◌∙◌, ℕ, ◌<◌, Bool, true, false, not, ◌&&◌, List, [], ◌∷◌, ◌++◌, map, take, drop, length, Option, Some, None, IfSome, All, append_assoc, append-nil, take-append-drop, length-append, length-take, is_some, arith}
use Rattle.std.proofs.Math.Nat.{lt_of_not-le}
use Rattle.std.specs.Prelude.{if◌then◌else◌, option_and_then}
use Rattle.std.specs.BTreeMap.Range.{range_contains}
use Rattle.std.specs.FinMap as finite
use Rattle.std.specs.List.{last_or}
use Rattle.std.specs.declared.ops.Bound.TheVariants.{Included}
use Rattle.std.proofs.lemmas.List.{map-append, take-map, take_all, length-map}
use Rattle.std.proofs.lemmas.List.Elements.{All-filter, All-map, All-take, All-head, All-tail, filter_passes}
use Rattle.alt_base.proofs.Lists.{All-front, last_push}
use Rattle.alt_cells.specs.Walks.{RowMap}
use Rattle.alt_disk.specs.Disk.{DiskState}
use Rattle.alt_expr.specs.Pages as pages
use Rattle.alt_expr.specs.Pages.{ends_early}
use Rattle.alt_families.specs.Reads.{versions_of}
use Rattle.alt_machine.specs.Sources.{items_of}
use Rattle.alt_machine.specs.State.{Table}
use Rattle.alt_machine.specs.Walks.{end_bound, is_beyond, items_between, placed_items}
use Rattle.alt_keyorder.specs.declared.range.KeyRange.{KeyRange}
use Rattle.alt_machine.proofs.Turned.{All-turned}
use Rattle.alt_ops_query.specs.PageReads.{is_passed_by_page, page_end}
use Rattle.alt_ops_query.specs.Places.{place_in_source}
use Rattle.alt_ops_query.specs.private.Filled.{EndsPage, Examines, ContinuesPage, is_behind_in_range, paid_for}
use Rattle.alt_ops_query.specs.private.Ranges.{IsBeyond}
use Rattle.alt_ops_query.specs.private.Stops.{IsFault}
use Rattle.alt_paging.specs.declared.pager.Pager.{Pager}
use Rattle.alt_ops_query.proofs.Filling.{filled_all, filled_front}
use Rattle.alt_ops_query.proofs.Lists.{each_entry}
use Rattle.alt_ops_query.proofs.Passing.{reached_all, reached_last}
use Rattle.alt_ops_query.proofs.Rests.{HasLast, has_last, walked, items_walked, rest_is}
use Rattle.alt_paging.specs.Offered.{WasOffered, asked_of_page}
use Rattle.alt_paging.specs.declared.ask.PageAsk.{PageAsk}
use Rattle.alt_paging.proofs.PageLaws.{examined-ended, full_prefix-ended}
use Rattle.alt_request.specs.Steps.{IsMemory}
use Rattle.alt_request.specs.declared.stop.Stop.{Stop}
use Rattle.alt_schema.specs.declared.schema.IndexSchema.{IndexSchema}
use Rattle.alt_request.specs.TablesReading.{HasRowFiles, family_read, is_place_reached, is_within, places_between, most_walk_reads}
use Rattle.alt_value.specs.Members.{text_order}
use Rattle.alt_value.specs.Size.{item_size}
use Rattle.alt_value.specs.Tree.{Pair}

-- what holds of all holds of the last
All-last : {A : Type 0} (P : A → Type 0) (front : List A) (x : A) → All P (front ++ x ∷ []) → P x
All-last P [] x all = All-head P x [] all
All-last P (y ∷ ys) x all = All-last P ys x (All-tail P y (ys ++ x ∷ []) all)

-- a front that isn't shorter is the whole
front_all : {A : Type 0} (xs front rest : List A) → xs ≡ front ++ rest → length xs ≤ length front
    → front ≡ xs
front_all xs front [] is long = sym (is ∙ append-nil front)
front_all xs front (r ∷ rs) is long =
    absurd (omega (arith, long, ap length is, length-append front (r ∷ rs)))

-- ---- the entries of a range

module _ (t : Table) (i : Option IndexSchema) (forward : Bool) (from : List ℕ)
    (to : Option (List ℕ)) where
  -- what holds of each item that is there holds of each entry of the range
  each_walked : (P : List ℕ × List Pair → Type 0) → ((place : List ℕ) (item : List Pair)
      → finite.get (items_of t i) place ≡ Some item → P (place, item))
      → All P (walked t i from to forward)
  unfolding walked
  each_walked P each = All-turned P forward _ (All-filter
      (λ e. range_contains text_order (Included from) (end_bound to) e.0) P (placed_items t i)
      (each_entry P (placed_items t i) (finite.entries_sorted (items_of t i))
      (λ place item at. each place item (finite.get-entries (items_of t i) place ∙ at))))

  -- each of them lies in it
  within_walked : All (λ e. is_within from to e.0 ≡ true) (walked t i from to forward)
  unfolding walked
  within_walked = All-turned (λ e. is_within from to e.0 ≡ true) forward _
      (filter_passes (λ e. range_contains text_order (Included from) (end_bound to) e.0)
      (placed_items t i))

  -- their places are those of the range
  places_walked : places_between t i from to forward ≡ map (λ e. e.0) (walked t i from to forward)
  unfolding walked
  places_walked = refl

  -- What holds of each item that is there holds of each that a step gives.
  pub items_all : (P : List Pair → Type 0) → ((place : List ℕ) (item : List Pair)
      → finite.get (items_of t i) place ≡ Some item → P item) → (n : ℕ)
      → All P (take n (items_between t i from to forward))
  items_all P each n =
      let all : List (List ℕ × List Pair) = walked t i from to forward in
      subst (All P) (sym (ap (take n) (items_walked t i from to forward)
      ∙ take-map (λ e. e.1) n all))
      (All-map P (λ e. e.1) (take n all) (All-take (λ e. P e.1) n all
      (each_walked (λ e. P e.1) each)))

  -- there are as many places as items
  same_length : length (places_between t i from to forward)
      ≡ length (items_between t i from to forward)
  same_length =
      let all : List (List ℕ × List Pair) = walked t i from to forward in
      ap length places_walked ∙ length-map all (λ (e : List ℕ × List Pair). e.0)
      ∙ sym (ap length (items_walked t i from to forward)
      ∙ length-map all (λ (e : List ℕ × List Pair). e.1))

-- an item that has a place isn't empty
pub placed_some : (t : Table) (i : Option IndexSchema) (item : List Pair) (place : List ℕ)
    → place_in_source t.description i item ≡ Some place → item ≢ []
placed_some t i item place at empty = let no : None ≡ Some place = sym (none_placed i)
    ∙ ap (place_in_source t.description i) (sym empty) ∙ at in absurd (cc no)
  where
    none_placed : (i : Option IndexSchema) → place_in_source t.description i [] ≡ None
    none_placed None = refl
    none_placed (Some i) = refl

-- ---- the last of a step

-- The last item of a step that gave as many as it asked for stands at the place that is told, up to which the step went; and beyond it the
-- range has the items that the step didn't give.
pub record IsLast (t : Table) (i : Option IndexSchema) (forward : Bool) (from : List ℕ)
    (to : Option (List ℕ)) (most : ℕ) (items : List (List Pair)) (last : Option (List ℕ))
    : Type 0 where
  pub front : List (List Pair)
  pub item : List Pair
  pub are : items ≡ front ++ item ∷ []
  pub place : List ℕ
  pub told : last ≡ Some place
  pub stands : place_in_source t.description i item ≡ Some place
  pub within : is_within from to place ≡ true
  pub reached : (key : List ℕ) → is_place_reached forward most (places_between t i from to forward) key
      ≡ not (is_beyond forward (Some place) key)
  pub rest : (first : List ℕ) (stop : Option (List ℕ))
      → IsBeyond forward (Some place) from to first stop
      → items_between t i first stop forward ≡ drop most (items_between t i from to forward)

module _ (t : Table) (i : Option IndexSchema) (stored : (place : List ℕ) (item : List Pair)
    → finite.get (items_of t i) place ≡ Some item → place_in_source t.description i item ≡ Some place)
    (forward : Bool) (from : List ℕ) (to : Option (List ℕ)) (most : ℕ)
    (items : List (List Pair)) (last : Option (List ℕ))
    (given : items ≡ take most (items_between t i from to forward))
    (told : last ≡ last_or None (take most (places_between t i from to forward)))
    (some : 0 < most) (many : most ≤ length items) where
  pub last_of_step : IsLast t i forward from to most items last
  last_of_step =
      let all : List (List ℕ × List Pair) = walked t i from to forward in
      let places : List (List ℕ) = places_between t i from to forward in
      let is : items ≡ map (λ e. e.1) (take most all) =
      given ∙ ap (take most) (items_walked t i from to forward) ∙ take-map (λ e. e.1) most all in
      let long : length items ≡ length (take most all) =
      ap length is ∙ length-map (take most all) (λ (e : List ℕ × List Pair). e.1) in
      let end : HasLast (take most all) =
      has_last (take most all) (omega (arith, some, many, long)) in
      let at : last_or None (take most places) ≡ Some end.last.0 =
      ap (last_or None) (ap (take most) (places_walked t i forward from to)
      ∙ take-map (λ (e : List ℕ × List Pair). e.0) most all ∙ ap (map (λ e. e.0)) end.is
      ∙ map-append (λ (e : List ℕ × List Pair). e.0) end.front (end.last ∷ []))
      ∙ last_push None (map (λ e. e.0) end.front) end.last.0 in
      let enough : most ≤ length places =
      omega (
        arith,
        many,
        ap length given,
        same_length t i forward from to,
        length-take most (items_between t i from to forward),
      ) in
      record {
        front = map (λ e. e.1) end.front;
        item = end.last.1;
        are = is ∙ ap (map (λ e. e.1)) end.is
            ∙ map-append (λ (e : List ℕ × List Pair). e.1) end.front (end.last ∷ []);
        place = end.last.0;
        told = told ∙ at;
        stands = All-last (λ e. place_in_source t.description i e.1 ≡ Some e.0) end.front end.last
            (subst (All (λ e. place_in_source t.description i e.1 ≡ Some e.0)) end.is
            (All-take (λ e. place_in_source t.description i e.1 ≡ Some e.0) most all
            (each_walked t i forward from to (λ e. place_in_source t.description i e.1 ≡ Some e.0)
            stored)));
        within = All-last (λ e. is_within from to e.0 ≡ true) end.front end.last
            (subst (All (λ e. is_within from to e.0 ≡ true)) end.is
            (All-take (λ e. is_within from to e.0 ≡ true) most all
            (within_walked t i forward from to)));
        reached = λ key. reached_last forward most places None end.last.0 key some enough at;
        rest = λ first stop beyond. rest_is t i forward from to first stop most end.last end.front
            end.is beyond;
      }

-- ---- what a step comes to

-- what was paid once
paid_once : (p : List ℕ → Bool) (maps : List RowMap)
    → versions_of p maps + 2 * length maps ≤ paid_for p maps 1
paid_once p maps = omega arith

-- what is paid for other words of the same places
paid_as : (x y : ℕ) (p q : List ℕ → Bool) (maps : List RowMap) → ((key : List ℕ) → p key ≡ q key)
    → y ≤ x + (versions_of p maps + 2 * length maps) → y ≤ x + paid_for q maps 1
paid_as x y p q maps same paid =
    let once = paid_once q maps in
    let so : y ≤ x + (versions_of q maps + 2 * length maps) =
    subst (λ (r : List ℕ → Bool). y ≤ x + (versions_of r maps + 2 * length maps))
    (λ j key. same key j) paid in
    omega (arith, once, so)

module _ (a b : DiskState) (t : Table) (i : Option IndexSchema) (stored : (place : List ℕ)
    (item : List Pair) → finite.get (items_of t i) place ≡ Some item
    → place_in_source t.description i item ≡ Some place) (forward : Bool) (range : KeyRange)
    (pager : Pager) (ask : PageAsk) (seen items : List (List Pair)) (most : ℕ)
    (last : Option (List ℕ))
    (given : items ≡ take most (items_between t i range.from range.to forward))
    (told : last ≡ last_or None (take most (places_between t i range.from range.to forward)))
    (some : 0 < most)
    (paid : (maps : List RowMap) → HasRowFiles a.file (family_read t.description i) maps
    → b.reads ≤ a.reads + most_walk_reads forward range.from range.to most
    (places_between t i range.from range.to forward) maps) where
  -- the items of the range
  abbrev list : List (List Pair)
  list = items_between t i range.from range.to forward

  whole_list : seen ++ list ≡ (seen ++ items) ++ drop most list
  whole_list = ap (λ l. seen ++ l) (sym (take-append-drop most list)
      ∙ ap (λ l. l ++ drop most list) (sym given)) ∙ sym (append_assoc seen items (drop most list))

  -- the walk goes on: the range beyond its last item has the others
  pub step_on : WasOffered pager ask (seen ++ items) → most ≤ length items → (rest : KeyRange)
      → IsBeyond forward last range.from range.to rest.from rest.to
      → ContinuesPage a b t i forward ask seen pager range rest
  step_on h many rest beyond =
      let end = last_of_step t i stored forward range.from range.to most items last given told some
      many in
      let further = subst (λ o. IsBeyond forward o range.from range.to rest.from rest.to) end.told
      beyond in
      record {
        front = items;
        some = omega (arith, some, many);
        examined = h;
        whole = sym (take-append-drop most list) ∙ ap (λ l. l ++ drop most list) (sym given)
            ∙ ap (λ l. items ++ l) (sym (end.rest rest.from rest.to further));
        last = end.place;
        within = end.within;
        beyond = further;
        paid = λ maps has. paid_as a.reads b.reads _
            (is_behind_in_range forward range.from range.to (Some end.place)) maps
            (λ key. ap (λ x. is_within range.from range.to key && x) (end.reached key))
            (paid maps has);
      }

  -- ---- an item of the step ended the page

  module _ (h : WasOffered pager ask (seen ++ items))
      (ends : ends_early ask.limit (seen ++ items) ≡ true)
      (end : IsLast t i forward range.from range.to most items last) where
    -- then the page of the whole list has ended there
    ends_list : ends_early ask.limit (seen ++ list) ≡ true
    ends_list = ap (ends_early ask.limit) whole_list
        ∙ ap is_some (full_prefix-ended ask.limit (seen ++ items) (drop most list) ends) ∙ ends

    examined_list : pages.examined ask.limit (seen ++ list) ≡ seen ++ items
    examined_list = ap (pages.examined ask.limit) whole_list
        ∙ examined-ended ask.limit (seen ++ items) (drop most list) ends ∙ h.whole

    last_item : last_or None (seen ++ items) ≡ Some end.item
    last_item = ap (last_or None) (ap (λ l. seen ++ l) end.are
        ∙ sym (append_assoc seen end.front (end.item ∷ [])))
        ∙ last_push None (seen ++ end.front) end.item

    ends_at : page_end t i (asked_of_page ask) (seen ++ list) ≡ Some end.place
    ends_at = ap (option_and_then (place_in_source t.description i))
        ((λ j. if ends_list j then last_or None (examined_list j) else None) ∙ last_item)
        ∙ end.stands

    page_ended : EndsPage a b t i forward ask seen list pager range
    page_ended = record {
      filled = filled_front pager ask (seen ++ list) (seen ++ items) (drop most list) whole_list h
          ends;
      more = omega (arith, ap length examined_list, length-append seen items);
      within = subst (λ o. IfSome o (λ place. is_within range.from range.to place ≡ true))
          (sym ends_at) end.within;
      paid = λ maps has. subst
          (λ o. b.reads ≤ a.reads + paid_for (is_passed_by_page forward range.from range.to o) maps 1)
          (sym ends_at) (paid_as a.reads b.reads _
          (is_passed_by_page forward range.from range.to (Some end.place)) maps
          (λ key. ap (λ x. is_within range.from range.to key && x) (end.reached key))
          (paid maps has));
    }

  -- Fewer items than the step asked for never end the page, so where one does it is the last of them.
  pub step_ended : (largest : ℕ) → Examines pager ask seen items false
      → All (λ x. item_size x ≤ largest) items
      → ((more : List (List Pair)) → All (λ x. item_size x ≤ largest) more
      → length more < most → ends_early ask.limit (seen ++ more) ≡ false)
      → EndsPage a b t i forward ask seen list pager range
  step_ended largest (front, rest, is, h, ends) sized sure =
      let long : most < length front + 1 = lt_of_not-le (λ short.
      let unended : ends_early ask.limit (seen ++ front) ≡ false = sure front
      (All-front (λ x. item_size x ≤ largest) front rest
      (subst (All (λ x. item_size x ≤ largest)) is sized)) (omega (arith, short)) in
      let no : true ≡ false = sym ends ∙ unended in cc no) in
      let taken : length items ≤ most =
      omega (arith, ap length given, length-take most list) in
      let same : front ≡ items = front_all items front rest is (omega (arith, long, taken)) in
      page_ended (subst (λ l. WasOffered pager ask (seen ++ l)) same h)
      (subst (λ l. ends_early ask.limit (seen ++ l) ≡ true) same ends)
      (last_of_step t i stored forward range.from range.to most items last given told some
      (omega (arith, long, ap length same)))

  -- ---- the step was the last of the list

  pub step_last : Examines pager ask seen items true → length items < most
      → EndsPage a b t i forward ask seen list pager range
  step_last (h, going) few =
      let short : length list ≤ most =
      omega (arith, few, ap length given, length-take most list) in
      let same : items ≡ list = given ∙ take_all most list short in
      let all : WasOffered pager ask (seen ++ list) =
      subst (λ l. WasOffered pager ask (seen ++ l)) same h in
      let unended : ends_early ask.limit (seen ++ list) ≡ false = sym all.ended ∙ going in
      let none : page_end t i (asked_of_page ask) (seen ++ list) ≡ None =
      ap (option_and_then (place_in_source t.description i))
      (λ j. if unended j then last_or None (pages.examined ask.limit (seen ++ list)) else None) in
      let fewer : length (places_between t i range.from range.to forward) < most =
      omega (arith, few, ap length same, same_length t i forward range.from range.to) in
      record {
        filled = filled_all pager ask (seen ++ list) all;
        more = omega (arith, ap length all.whole, length-append seen list);
        within = subst (λ o. IfSome o (λ place. is_within range.from range.to place ≡ true))
            (sym none) tt;
        paid = λ maps has. subst
            (λ o. b.reads ≤ a.reads + paid_for (is_passed_by_page forward range.from range.to o) maps 1)
            (sym none) (paid_as a.reads b.reads _ (is_passed_by_page forward range.from range.to None) maps
            (λ key. ap (λ x. is_within range.from range.to key && x)
            (reached_all forward most (places_between t i range.from range.to forward) key fewer))
            (paid maps has));
      }

-- ---- faults

-- memory was wanting: that is a fault of a call that reads
pub memory_fault : (stop : Stop) → IsMemory stop → IsFault stop
memory_fault stop e = subst IsFault (sym e) tt
