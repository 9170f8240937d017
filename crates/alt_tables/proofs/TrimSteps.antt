-- What is read of the front of a table's stream before a write, as the tables stand for a state.
use Rattle.std.proofs.Common.{◌≡◌, ◌<◌, ◌≤◌, ◌+◌, ◌^◌, ◌⊎◌, refl, sym, ap, subst, ◌∙◌, ℕ, suc, Bool, true, false, List, [], ◌++◌, take, drop, length, Option, Some, None, IsSome, All, IsTrue, arith}
use Rattle.std.proofs.lemmas.List.Elements.{All-filter, All-take}
use Rattle.std.proofs.lemmas.Option.{same_Some}
use Rattle.std.specs.FinMap as map
use Rattle.std.specs.Option.{option_map_or}
use Rattle.std.specs.Prelude.{◌-◌, filter, nat_le, is_some, if◌then◌else◌, Vec}
use Rattle.std.specs.List.{range_with_len}
use Rattle.std.specs.declared.alloc.Global.{Global}
use Rattle.alt_cells.specs.Changes.{Columns}
use Rattle.alt_changes.specs.ChangeRows.{row_key}
use Rattle.alt_disk.specs.Disk.{DiskState}
use Rattle.alt_disk.proofs.Runs.{tells_of}
use Rattle.alt_rowchanges.specs.OpeningEngineInHand.{ReadsLayout as EngineReads}
use Rattle.alt_layout.specs.Layout.{Layout, rows_between, shown}
use Rattle.alt_machine.specs.Ops.GetRecords.{changes_from}
use Rattle.alt_machine.specs.State.{Change, State, Table}
use Rattle.alt_machine.specs.Trimming.{kept, trimmed_at}
use Rattle.alt_machine.specs.Valid.{AreChanges}
use Rattle.alt_rowchanges.proofs.OpeningStreamKeys.{IsSmall}
use Rattle.alt_machine.proofs.Trimming.{trimmed_least, trimmed_most}
use Rattle.alt_rowchanges.proofs.OpeningOverEngine.{one_layout_in_hand}
use Rattle.alt_rowchanges.proofs.OpeningKeptChanges.{are_small, trimmed_small}
use Rattle.alt_rowchanges.specs.OpeningTrimmed.{number_at}
use Rattle.alt_rowchanges.specs.Fronts.{IsFront, first_moment, front_at}
use Rattle.alt_rowchanges.specs.Leftovers.{leftovers}
use Rattle.alt_tables.specs.Stands.{HasRows, Stands, fronts_of, next_write_of_tables, trimmed_of}
use Rattle.alt_rowchanges.specs.declared.fronts.Front.{Front}
use Rattle.alt_tables.specs.declared.tables.Tables.{Tables}
use Rattle.alt_rowchanges.specs.Trims.{AreNumbersOf, AreTwo, IsKeptFrom, IsLowest, IsLowestFrom, IsRest, IsTrim, number_behind_second, is_over_a_day_before, left_from, leftovers_from}
use Rattle.alt_rowchanges.proofs.KeptFrom.{KeptPage, all_from, kept_page, page_done, young}
use Rattle.alt_rowchanges.proofs.LeftoverRows.{left_from_there, lowest_read, range_read, read_numbers, read_two}
use Rattle.alt_rowchanges.proofs.Rising.{all_further, filter_rising, rising_least}

-- The walk over the changes of a table has come to a number: those behind it tell the rest.
pub record WalkedTo (s : State) (t : Table) (moment number : ℕ) : Type 0 where
  pub trimmed : trimmed_at moment t.trimmed t.changes
      ≡ trimmed_at moment number (changes_from (number + 1) t.changes)
  pub stays : kept moment t.changes ≡ kept moment (changes_from (number + 1) t.changes)
  pub below : number < s.next_number

module _ (disk : DiskState) (tables : Tables) (s : State) (name : List ℕ) (t : Table)
    (stands : Stands disk tables s) (at : map.get s.tables name ≡ Some t) where
  -- what is known of what was trimmed is what was
  pub trimmed_known : number_at name (trimmed_of tables) ≡ t.trimmed
  trimmed_known = stands.trimmed name
      ∙ ap (λ o. option_map_or (λ (t : Table). t.trimmed) o 0) at

  -- what is known of the front is the front
  front_known : (l : Layout) → HasRows disk tables l → (f : Front)
      → front_at name (fronts_of tables) ≡ Some f → IsFront l t f
  front_known l rows f told =
      let (u, at_u, front) = stands.fronts l rows name f told in
      subst (λ v. IsFront l v f) (same_Some _ _ (sym at_u ∙ at)) front

  -- ---- the changes

  -- Where the oldest isn't too old, none is trimmed.
  pub kept_young : (f : Front) → Some f ≡ front_at name (fronts_of tables) → (moment before : ℕ)
      → before ≡ number_at name (trimmed_of tables) → is_over_a_day_before f.oldest moment ≡ false
      → IsKeptFrom moment t.trimmed t.changes (before, f.oldest)
  kept_young f told moment before known not =
      let front = front_known stands.rows.layout stands.rows.is f (sym told) in
      let both = young moment t.trimmed t.changes
      (sym (ap (λ o. is_over_a_day_before o moment) front.oldest) ∙ not) in
      record {
        number = known ∙ trimmed_known ∙ sym both.0;
        oldest = front.oldest ∙ ap first_moment (sym both.1);
      }

  -- it begins with what was trimmed
  pub walk_begins : (moment number : ℕ) → number ≡ number_at name (trimmed_of tables)
      → WalkedTo s t moment number
  walk_begins moment number known =
      subst (WalkedTo s t moment) (sym (known ∙ trimmed_known)) (record {
        trimmed = ap (trimmed_at moment t.trimmed)
            (sym (all_from t.trimmed t.changes changes.above (t.trimmed + 1) (omega arith)));
        stays = ap (kept moment)
            (sym (all_from t.trimmed t.changes changes.above (t.trimmed + 1) (omega arith)));
        below = changes.trimmed_before;
      })
    where
      changes : AreChanges t.description s.next_number t.trimmed t.changes
      changes = (stands.valid.tables name t at).changes

  -- a page further
  pub walk_further : (moment number : ℕ) → WalkedTo s t moment number → (most : ℕ) (page : List Change)
      → page ≡ take most (changes_from (number + 1) t.changes) → (r : ℕ × Option ℕ)
      → IsKeptFrom moment number page r → r.1 ≡ None → WalkedTo s t moment r.0
  walk_further moment number walked most page is r told none =
      let of_page : KeptPage moment t.changes number page (changes_from (number + 1) t.changes) =
      subst (λ xs. KeptPage moment t.changes number xs (changes_from (number + 1) t.changes)) (sym is)
      (kept_page moment t.changes (stands.valid.tables name t at).changes.rise most number
      (changes_from (number + 1) t.changes) refl) in
      let next = of_page.none (sym told.oldest ∙ none) in
      subst (WalkedTo s t moment) (sym told.number) (record {
        trimmed = walked.trimmed ∙ next.0;
        stays = walked.stays ∙ next.1;
        below = trimmed_most moment number s.next_number page walked.below
            (subst (All (λ (c : Change). c.number < s.next_number)) (sym is)
            (All-take (λ (c : Change). c.number < s.next_number) most
            (changes_from (number + 1) t.changes)
            (All-filter (λ (c : Change). nat_le (number + 1) c.number)
            (λ (c : Change). c.number < s.next_number) t.changes
            (λ k x within. ((stands.valid.tables name t at).changes.each k x within).number))));
      })

  -- and the last page
  pub walk_ends : (moment number : ℕ) → WalkedTo s t moment number → (most : ℕ) (page : List Change)
      → page ≡ take (most + 1) (changes_from (number + 1) t.changes) → (r : ℕ × Option ℕ)
      → IsKeptFrom moment number page r → (length page ≡ 0) ⊎ IsSome r.1
      → IsKeptFrom moment t.trimmed t.changes r
  walk_ends moment number walked most page is r told done =
      let one_more : most + 1 ≡ suc most = omega arith in
      let all = page_done moment t.changes (stands.valid.tables name t at).changes.rise most number
      (changes_from (number + 1) t.changes) page refl
      (is ∙ ap (λ n. take n (changes_from (number + 1) t.changes)) one_more) r told done in
      record {
        number = all.number ∙ sym walked.trimmed;
        oldest = all.oldest ∙ sym (ap first_moment walked.stays);
      }

  -- ---- the rows that are left over

  -- what is trimmed is no less than it was
  pub trimmed_rises : (moment : ℕ) → t.trimmed ≤ trimmed_at moment t.trimmed t.changes
  trimmed_rises moment = trimmed_least moment t.trimmed t.changes
      (stands.valid.tables name t at).changes.rise (stands.valid.tables name t at).changes.above

  -- and stays below the next number
  pub trimmed_stays_below : (moment : ℕ) → trimmed_at moment t.trimmed t.changes < s.next_number
  trimmed_stays_below moment = trimmed_most moment t.trimmed s.next_number t.changes
      (stands.valid.tables name t at).changes.trimmed_before
      (λ k x within. ((stands.valid.tables name t at).changes.each k x within).number)

  module _ (family : ℕ) (stream : t.description.stream_family ≡ Some family) where
    -- Below the number from which on rows may be left over none is, also of those that are trimmed then.
    pub left_above : (l : Layout) → HasRows disk tables l → (number : ℕ) → t.trimmed ≤ number
        → (1 ≤ left_from name (fronts_of tables))
        × All (λ n. left_from name (fronts_of tables) ≤ n) (leftovers l family number)
    left_above l rows number more = by (front_at name (fronts_of tables)) refl
      where
        has : ℕ → Bool
        has n = is_some (shown l family (row_key n))

        by : (o : Option Front) → front_at name (fronts_of tables) ≡ o
            → (1 ≤ option_map_or (λ (f : Front). f.from) o 1)
            × All (λ n. option_map_or (λ (f : Front). f.from) o 1 ≤ n) (leftovers l family number)
        by None e = (
          omega arith,
          rising_least 1 (number + 1) (leftovers l family number)
              (filter_rising has 1 number (number + 1) (omega arith)),
        )
        by (Some f) e =
            let front = front_known l rows f e in
            let low = front.low.1 in (
              front.low.0,
              all_further has t.trimmed 1 number f.from (omega (arith, low)) more
                  (front.above family stream),
            )

    module _ (from number : ℕ) (low : from ≤ number) (below : number < next_write_of_tables tables)
        (first : 1 ≤ from) (start : List ℕ) (end : Option (List ℕ)) (is_start : start ≡ row_key from)
        (is_end : end ≡ Some (row_key (number + 1))) (before page : List (List ℕ × Columns))
        (empty : before ≡ [])
        (walked : IsTrue disk.tells → (l : Layout) → EngineReads disk tables.engine l
        → page ≡ before ++ take 2 (rows_between l family start end true)) where
      -- the rows that are read
      is_page : page ≡ take 2 (rows_between stands.rows.layout family (row_key from)
          (Some (row_key (number + 1))) true)
      is_page = walked (tells_of disk stands.rows.trusted) stands.rows.layout
          stands.rows.is.hand.reads
          ∙ (λ i. empty i ++ take 2 (rows_between stands.rows.layout family (is_start i) (is_end i)
          true))

      high : number + 1 < 2 ^ 64
      high =
          let last = stands.valid.next_number.1 in
          let same = stands.number in
          omega (arith, below, same, last)

      small : t.trimmed < 2 ^ 64
      small = trimmed_small s stands.valid name t at

      small_all : All IsSmall t.changes
      small_all = are_small t.description s.next_number t.trimmed t.changes
          (let last = stands.valid.next_number.1 in omega (arith, last))
          (stands.valid.tables name t at).changes

      -- are those of numbers, two at most
      pub page_numbers : (ns : List ℕ) × AreNumbersOf page ns × AreTwo number ns
      page_numbers = (
        take 2 (filter (λ n. is_some (shown stands.rows.layout family (row_key n)))
            (range_with_len from (number + 1 - from))),
        read_numbers stands.rows.layout family t small small_all
            (stands.valid.tables name t at).changes.rise
            (stands.rows.shows.changes name t family at stream) from number low high first page
            is_page,
        read_two stands.rows.layout family t small small_all
            (stands.valid.tables name t at).changes.rise
            (stands.rows.shows.changes name t family at stream) from number low high first page
            is_page,
      )

      -- and the lowest that are left over.
      pub page_lowest : (l : Layout) → HasRows disk tables l
          → All (λ n. from ≤ n) (leftovers l family number) → (v : Vec ℕ Global)
          → AreNumbersOf page v.items → AreTwo number v.items → (after : ℕ)
          → after ≡ number_behind_second number v.items → IsLowest l family number (v, after)
      page_lowest l rows above v numbers two after is_after =
          let same : l ≡ stands.rows.layout =
          one_layout_in_hand disk tables.engine l stands.rows.layout rows stands.rows.is in
          subst (λ x. IsLowest x family number (v, after)) (sym same)
          (lowest_read stands.rows.layout family t small small_all
          (stands.valid.tables name t at).changes.rise
          (stands.rows.shows.changes name t family at stream) from number low high first page
          is_page (subst (λ x. All (λ n. from ≤ n) (leftovers x family number)) same above) v numbers
          two after is_after)

      -- or of those in the range, whatever is below.
      pub page_range : (l : Layout) → HasRows disk tables l → (v : Vec ℕ Global)
          → AreNumbersOf page v.items → AreTwo number v.items → (after : ℕ)
          → after ≡ number_behind_second number v.items → IsLowestFrom l family from number (v, after)
      page_range l rows v numbers two after is_after =
          let same : l ≡ stands.rows.layout =
          one_layout_in_hand disk tables.engine l stands.rows.layout rows stands.rows.is in
          subst (λ x. IsLowestFrom x family from number (v, after)) (sym same)
          (range_read stands.rows.layout family t small small_all
          (stands.valid.tables name t at).changes.rise
          (stands.rows.shows.changes name t family at stream) from number low high first page
          is_page v numbers two after is_after)

    -- ---- both

    -- Once the rows are hidden the others are those from the number behind them on.
    pub is_rest : (l : Layout) (number : ℕ) (oldest : Option ℕ) (v : Vec ℕ Global) (from after : ℕ)
        → 1 ≤ from → All (λ n. from ≤ n) (leftovers l family number)
        → IsLowestFrom l family from number (v, after) → IsRest l l t
        (record { number = number; oldest = oldest; leftovers = v; from = after })
    is_rest l number oldest v from after some_from above lowest g of =
        subst (λ f. drop 2 (leftovers l f number) ≡ leftovers_from l f after number)
        (same_Some family g (sym stream ∙ of))
        (ap (drop 2) (left_from_there l family number from some_from above) ∙ lowest.rest)

    -- So what is read is what a write takes.
    pub is_trim : (l : Layout) (moment number : ℕ) (oldest : Option ℕ) (v : Vec ℕ Global) (from : ℕ)
        → IsKeptFrom moment t.trimmed t.changes (number, oldest)
        → IsLowest l family number (v, from)
        → IsTrim l t moment
        (record { number = number; oldest = oldest; leftovers = v; from = from })
    is_trim l moment number oldest v from told lowest = record {
      number = told.number ∙ sym (ap (λ o. if is_some o
          then trimmed_at moment t.trimmed t.changes else t.trimmed) stream);
      lowest = lowest.lowest
          ∙ sym (ap (λ o. option_map_or (λ f. take 2 (leftovers l f number)) o []) stream);
      oldest = λ g of. told.oldest;
      low = lowest.low;
      above = λ g of. subst (λ f. All (λ n. from ≤ n) (drop 2 (leftovers l f number)))
          (same_Some family g (sym stream ∙ of)) lowest.above;
    }

  -- nothing, without a stream
  pub no_trim : t.description.stream_family ≡ None → (l : Layout) (moment number : ℕ)
      → number ≡ number_at name (trimmed_of tables) → (v : Vec ℕ Global) → v.items ≡ []
      → IsTrim l t moment (record { number = number; oldest = None; leftovers = v; from = 1 })
  no_trim none l moment number known v empty = record {
    number = known ∙ trimmed_known ∙ sym (ap (λ o. if is_some o
        then trimmed_at moment t.trimmed t.changes else t.trimmed) none);
    lowest = empty
        ∙ sym (ap (λ o. option_map_or (λ f. take 2 (leftovers l f number)) o []) none);
    oldest = λ g of. absurd (let no : None ≡ Some g = sym none ∙ of in let e : ⊥ = cc no in e);
    low = (omega arith, omega arith);
    above = λ g of. absurd (let no : None ≡ Some g = sym none ∙ of in let e : ⊥ = cc no in e);
  }
