-- One write more behind others, before any of them is made: what it takes from the front of its table's stream, and what it leaves.
use Rattle.std.proofs.Common.{◌≡◌, ◌<◌, ◌≤◌, ◌+◌, ◌^◌, refl, sym, ap, subst, ◌∙◌, ℕ, Bool, true, false, cond, T, List, [], ◌∷◌, ◌++◌, length, take, drop, Option, Some, None, IfSome, All, length-append, arith}
use Rattle.std.proofs.lemmas.Bool.{false≢true}
use Rattle.std.proofs.lemmas.Bool.Decides.{nat_tests}
use Rattle.std.proofs.lemmas.Slice.Eq.{bytes_eq-Decides}
use Rattle.std.proofs.lemmas.Option.{same_Some}
use Rattle.std.specs.FinMap as map
use Rattle.std.specs.Option.{option_map_or}
use Rattle.std.specs.Prelude.{◌-◌, if◌then◌else◌, is_some, nat_lt, unwrap_or}
use Rattle.std.specs.Str.{bytes_eq}
use Rattle.alt_cells.specs.Batches.{is_distinct}
use Rattle.alt_cells.specs.declared.batch.RowChange.{RowChange}
use Rattle.alt_cells.proofs.SameKeys.{key_itself}
use Rattle.alt_changes.specs.ChangeRows.{row_key}
use Rattle.alt_codec.specs.declared.writer.Writer.{Writer}
use Rattle.alt_layout.specs.Layout.{Layout, IsPast, shown}
use Rattle.alt_machine.specs.declared.TheConstants.{NUMBERS_END}
use Rattle.alt_machine.specs.Same.{is_same}
use Rattle.alt_machine.specs.State.{Change, State, Table}
use Rattle.alt_machine.specs.Trimming.{a_day, is_past, kept, trimmed_at}
use Rattle.alt_machine.specs.Valid.{IsStored, IsValid}
use Rattle.alt_machine.specs.Writes.{after_item_by, with_write_by}
use Rattle.alt_machine.proofs.Looks.{insert_elsewhere}
use Rattle.alt_rowchanges.specs.OpeningStateRows.{IsHeldWhole}
use Rattle.alt_rowchanges.specs.Fronts.{first_moment}
use Rattle.alt_rowchanges.specs.Leftovers.{leftovers}
use Rattle.alt_rowchanges.specs.RowChanges.{Turns, changed_rows, write_changes}
use Rattle.alt_tables.specs.Several.{with_batches}
use Rattle.alt_tables.specs.declared.several.Noted.{Noted}
use Rattle.alt_rowchanges.specs.declared.trimming.Trim.{Trim}
use Rattle.alt_tables.specs.private.Staging.{IsAgain, IsStateAhead, IsTableAhead, IsTouched, IsUntouched, note_at, oldest_by}
use Rattle.alt_rowchanges.specs.Trims.{IsLowestFrom, IsRest, IsTrim, is_over_a_day_before, leftovers_from, trimmed_by}
use Rattle.alt_tables.proofs.Batches.{past_behind, turns_more, turns_none, with_batches-append}
use Rattle.alt_rowchanges.proofs.ChangeLaws.{AreOthers}
use Rattle.alt_rowchanges.proofs.Elsewhere.{shown_elsewhere, write_others}
use Rattle.alt_rowchanges.proofs.FrontLaws.{leftovers_alike}
use Rattle.alt_rowchanges.proofs.FrontTrims.{front_then, left_then, leftovers_then, trimmed_then}
use Rattle.alt_rowchanges.proofs.KeptFrom.{young}
use Rattle.alt_rowchanges.proofs.Rising.{filter_rising, rising_least}
use Rattle.alt_tables.proofs.Standing.{descriptions-stay}
use Rattle.alt_rowchanges.proofs.StreamShows.{stream_family}
use Rattle.alt_rowchanges.proofs.ItemTurns.{item_turns}
use Rattle.alt_value.specs.Tree.{Pair}
use Rattle.alt_value.specs.Values.{IsItemOfValues}
use Rattle.alt_value.proofs.Texts.{text_total}

-- ---- the oldest change that is kept

-- it isn't too old, also where it is that of the write
oldest_young : (moment : ℕ) (cs : List Change)
    → is_over_a_day_before (Some (unwrap_or (first_moment (kept moment cs)) moment)) moment ≡ false
oldest_young moment [] = own moment
  where
    own : (m : ℕ) → nat_lt (m + a_day) m ≡ false
    own m = grind (arith, nat_tests)
oldest_young moment (c ∷ cs) = by (is_past moment c) refl (oldest_young moment cs)
  where
    by : (b : Bool) → is_past moment c ≡ b
        → is_over_a_day_before (Some (unwrap_or (first_moment (kept moment cs)) moment)) moment ≡ false
        → is_over_a_day_before (Some (unwrap_or (first_moment (if b then kept moment cs else c ∷ cs)) moment))
        moment ≡ false
    by true e rest = rest
    by false e rest = e

-- ---- what a write takes behind others

-- Where none of them was to its table, it takes what it takes before them.
pub first_behind : (l m : Layout) (t : Table) (moment : ℕ)
    → ((family : ℕ) → t.description.stream_family ≡ Some family → (key : List ℕ)
    → shown m family key ≡ shown l family key)
    → (x : Trim) → IsTrim l t moment x → IsRest l l t x → IsAgain l m t moment x
first_behind l m t moment alike x is rest = record {
  trim = record {
    number = is.number;
    lowest = is.lowest ∙ by t.description.stream_family refl;
    oldest = is.oldest;
    low = is.low;
    above = λ family stream. subst (λ ns. All (λ n. x.from ≤ n) (drop 2 ns))
        (sym (leftovers_alike l m family x.number (alike family stream))) (is.above family stream);
  };
  rest = λ family stream. ap (drop 2) (leftovers_alike l m family x.number (alike family stream))
      ∙ rest family stream;
}
  where
    by : (o : Option ℕ) → t.description.stream_family ≡ o
        → option_map_or (λ family. take 2 (leftovers l family x.number)) o []
        ≡ option_map_or (λ family. take 2 (leftovers m family x.number)) o []
    by None e = refl
    by (Some family) e = ap (take 2) (sym (leftovers_alike l m family x.number (alike family e)))

module _ (l m : Layout) (t : Table) (moment : ℕ) (last : Trim) (touched : IsTouched l m moment last t)
    (x : Trim) (number : x.number ≡ last.number) (oldest : x.oldest ≡ oldest_by moment last) where
  -- where one of them was, nothing is trimmed
  same_number : x.number ≡ trimmed_by t moment
  same_number = number ∙ sym touched.trimmed ∙ by t.description.stream_family refl
    where
      by : (o : Option ℕ) → t.description.stream_family ≡ o
          → t.trimmed ≡ (if is_some o then trimmed_at moment t.trimmed t.changes else t.trimmed)
      by None e = refl
      by (Some family) e = sym (young moment t.trimmed t.changes
          (ap (λ o. is_over_a_day_before o moment) (touched.oldest family e) ∙ touched.young family e)).0

  same_oldest : (family : ℕ) → t.description.stream_family ≡ Some family
      → x.oldest ≡ first_moment (kept moment t.changes)
  same_oldest family stream = oldest ∙ sym (touched.oldest family stream)
      ∙ sym (ap first_moment (young moment t.trimmed t.changes
      (ap (λ o. is_over_a_day_before o moment) (touched.oldest family stream) ∙ touched.young family stream)).1)

  -- the next two rows go that are left over
  pub again_with : (family : ℕ) → t.description.stream_family ≡ Some family
      → IsLowestFrom l family last.from last.number (x.leftovers, x.from) → IsAgain l m t moment x
  again_with family stream lowest =
      let left : leftovers m family x.number ≡ leftovers_from l family last.from last.number =
      ap (leftovers m family) number ∙ touched.left family stream in
      let rest : drop 2 (leftovers m family x.number) ≡ leftovers_from l family x.from x.number =
      ap (drop 2) left ∙ lowest.rest ∙ ap (leftovers_from l family x.from) (sym number) in
      record {
        trim = record {
          number = same_number;
          lowest = lowest.lowest ∙ sym (ap (take 2) left)
              ∙ sym (ap (λ o. option_map_or (λ f. take 2 (leftovers m f x.number)) o []) stream);
          oldest = same_oldest;
          low = (lowest.low.0, subst (λ n. x.from ≤ n + 1) (sym number) lowest.low.1);
          above = λ g of. subst (λ f. All (λ n. x.from ≤ n) (drop 2 (leftovers m f x.number)))
              (same_Some family g (sym stream ∙ of))
              (subst (λ ns. All (λ n. x.from ≤ n) ns) (sym rest)
              (rising_least x.from (x.from + (x.number + 1 - x.from))
              (leftovers_from l family x.from x.number)
              (filter_rising (λ n. is_some (shown l family (row_key n))) x.from
              (x.number + 1 - x.from) (x.from + (x.number + 1 - x.from)) (omega arith))));
        };
        rest = λ g of. subst (λ f. drop 2 (leftovers m f x.number)
            ≡ leftovers_from l f x.from x.number) (same_Some family g (sym stream ∙ of)) rest;
      }

  -- none, without a stream
  pub again_without : t.description.stream_family ≡ None → x.leftovers.items ≡ []
      → x.from ≡ last.from → IsAgain l m t moment x
  again_without none empty from = record {
    trim = record {
      number = same_number;
      lowest = empty
          ∙ sym (ap (λ o. option_map_or (λ f. take 2 (leftovers m f x.number)) o []) none);
      oldest = λ g of. absurd (let no : None ≡ Some g = sym none ∙ of in let e : ⊥ = cc no in e);
      low = (
        subst (λ n. 1 ≤ n) (sym from) touched.low.0,
        subst (λ n. x.from ≤ n + 1) (sym number)
            (subst (λ n. n ≤ last.number + 1) (sym from) touched.low.1),
      );
      above = λ g of. absurd (let no : None ≡ Some g = sym none ∙ of in let e : ⊥ = cc no in e);
    };
    rest = λ g of. absurd (let no : None ≡ Some g = sym none ∙ of in let e : ⊥ = cc no in e);
  }

-- ---- one write more

-- none leaves everything
pub none_ahead : (l : Layout) (s : State) (moment : ℕ) → IsValid s → IsHeldWhole s
    → IsStateAhead l s moment [] [] s
none_ahead l s moment valid held = record {
  turns = turns_none s valid held;
  number = omega arith;
  family = refl;
  catalog = refl;
  tables = λ q. record { same = refl; rows = λ t family is stream key. refl };
}

module _ (l : Layout) (s : State) (moment : ℕ) (notes : List Noted)
    (batches : List (List RowChange)) (r : State) (ahead : IsStateAhead l s moment notes batches r)
    (name : List ℕ) where
  -- a table that is noted is as its note says
  pub touched_by : (e : Noted) → Some e ≡ note_at name notes
      → (t : Table) × (map.get r.tables name ≡ Some t)
      × IsTouched l (with_batches l batches) moment e.trim t
  touched_by e noted = subst (IsTableAhead l (with_batches l batches) moment
      (map.get s.tables name) (map.get r.tables name)) (sym noted) (ahead.tables name)

  -- and one that isn't is as it was
  pub untouched_by : None ≡ note_at name notes → IsUntouched l (with_batches l batches)
      (map.get s.tables name) (map.get r.tables name)
  untouched_by none = subst (IsTableAhead l (with_batches l batches) moment
      (map.get s.tables name) (map.get r.tables name)) (sym none) (ahead.tables name)

-- a table to which none was goes on as it is where its rows do
table_on : (l now m : Layout) (moment : ℕ) (was before after : Option Table) (o : Option Noted)
    → ((v : Table) (family : ℕ) → before ≡ Some v → v.description.stream_family ≡ Some family
    → (key : List ℕ) → shown m family key ≡ shown now family key)
    → after ≡ before → IsTableAhead l now moment was before o → IsTableAhead l m moment was after o
table_on l now m moment was before after None alike same h = record {
  same = same ∙ h.same;
  rows = λ v family is stream key. alike v family (h.same ∙ is) stream key
      ∙ h.rows v family is stream key;
}
table_on l now m moment was before after (Some e) alike same h = (
  h.0,
  same ∙ h.1,
  record {
    trimmed = h.2.trimmed;
    low = h.2.low;
    oldest = h.2.oldest;
    young = h.2.young;
    left = λ family stream. leftovers_alike now m family e.trim.number (alike h.0 family h.1 stream)
        ∙ h.2.left family stream;
  },
)

module _ (l : Layout) (s : State) (past : IsPast l) (moment : ℕ) (writer : Writer) (notes : List Noted)
    (batches : List (List RowChange)) (r : State) (ahead : IsStateAhead l s moment notes batches r)
    (name : List ℕ) (t : Table) (at : map.get r.tables name ≡ Some t) (place : List ℕ)
    (to : Option (List Pair)) (differ : is_same (map.get t.items place) to ≡ false) (x : Trim)
    (is : IsTrim (with_batches l batches) t moment x) (rest : IsRest l (with_batches l batches) t x)
    (batch : List RowChange)
    (written : batch ≡ write_changes t.description r.next_number moment writer place
    (map.get t.items place) to t.trimmed x.number x.leftovers.items) (one : T (is_distinct batch))
  where
    -- the rows so far, and those behind the write
    abbrev now : Layout
    now = with_batches l batches

    abbrev later : Layout
    later = changed_rows now batch

    abbrev table_after : Table
    table_after = with_write_by r.next_number moment writer t place to

    abbrev after : State
    after = after_item_by r moment writer name t place to

    -- the table behind it
    touched : IsTouched l later moment x table_after
    touched = record {
      trimmed = trimmed_then r name t at ahead.turns.valid moment writer place to differ now x is;
      low = is.low;
      oldest = λ family stream. sym (front_then r name t at ahead.turns.valid moment writer place to
          differ now x is family stream later (left_of family stream)
          (record { table = name; oldest = oldest_by moment x; from = x.from }) (refl, refl)).oldest;
      young = λ family stream. ap (λ o. is_over_a_day_before (Some (unwrap_or o moment)) moment)
          (is.oldest family stream) ∙ oldest_young moment t.changes;
      left = λ family stream. left_of family stream ∙ rest family stream;
    }
      where
        left_of : (family : ℕ) → t.description.stream_family ≡ Some family
            → leftovers later family x.number ≡ drop 2 (leftovers now family x.number)
        left_of family stream = leftovers_then r name t at ahead.turns.valid moment writer place to
            differ now x is family stream (past_behind l batches past) batch written one

    -- the families of another table show what they showed
    others_stay : (q : List ℕ) → bytes_eq name q ≡ false → (v : Table) (family : ℕ)
        → map.get r.tables q ≡ Some v → v.description.stream_family ≡ Some family
        → (key : List ℕ) → shown later family key ≡ shown now family key
    others_stay q apart v family at_v stream = shown_elsewhere now batch one
        (past_behind l batches past) family
        (subst (AreOthers family) (sym written)
        (write_others t.description r.next_number moment writer place (map.get t.items place) to
        t.trimmed x.number x.leftovers.items family
        (λ own. false≢true (sym apart ∙ (bytes_eq-Decides name q).1
        (sym (ahead.turns.valid.families q name v t family at_v at
        (stream_family v.description family stream) own))))))

    module _ (room : r.next_number < NUMBERS_END)
        (stored : (item : List Pair) → to ≡ Some item → IsStored t.description place item)
        (given : IfSome to IsItemOfValues) (fits : moment < 2 ^ 64) where
      -- The row changes turn the rows of the state into those of the next one.
      pub one_turned : Turns batch r after
      one_turned = subst (λ cs. Turns cs r after)
          (ap (λ n. write_changes t.description r.next_number moment writer place
          (map.get t.items place) to t.trimmed n x.leftovers.items)
          (trimmed_then r name t at ahead.turns.valid moment writer place to differ now x is)
          ∙ sym written)
          (item_turns r moment writer name t place to x.leftovers.items ahead.turns.valid ahead.turns.held
          room at differ stored given fits
          (left_then r name t at ahead.turns.valid moment writer place to differ now x is))

      -- So one more is ahead.
      pub one_ahead : IsStateAhead l s moment (record { table = name; trim = x } ∷ notes)
          (batches ++ batch ∷ []) after
      one_ahead = record {
        turns = turns_more batches batch s r after ahead.turns one_turned;
        number = ap (λ n. n + 1) ahead.number ∙ one_longer s.next_number batches batch;
        family = ahead.family;
        catalog = descriptions-stay r.tables name t table_after at refl ∙ ahead.catalog;
        tables = λ q. by q (bytes_eq name q) refl;
      }
        where
          one_longer : (n : ℕ) (bs : List (List RowChange)) (b : List RowChange)
              → n + length bs + 1 ≡ n + length (bs ++ b ∷ [])
          one_longer n bs b = omega (arith, length-append bs (b ∷ []))

          note : Noted
          note = record { table = name; trim = x }

          then_is : with_batches l (batches ++ batch ∷ []) ≡ later
          then_is = with_batches-append l batches (batch ∷ [])

          by : (q : List ℕ) (b : Bool) → bytes_eq name q ≡ b
              → IsTableAhead l (with_batches l (batches ++ batch ∷ [])) moment
              (map.get s.tables q) (map.get after.tables q)
              (cond (bytes_eq name q) (Some note) (note_at q notes))
          by q true e = subst (λ (b : Bool). IsTableAhead l
              (with_batches l (batches ++ batch ∷ [])) moment (map.get s.tables q)
              (map.get after.tables q) (cond b (Some note) (note_at q notes))) (sym e) (
                table_after,
                ap (map.get after.tables) (sym ((bytes_eq-Decides name q).0 e))
                    ∙ map.get-insert text_total r.tables name table_after name
                    ∙ ap (λ b. cond b (Some table_after) (map.get r.tables name)) (key_itself name),
                subst (λ m. IsTouched l m moment x table_after) (sym then_is) touched,
              )
          by q false e = subst (λ (b : Bool). IsTableAhead l
              (with_batches l (batches ++ batch ∷ [])) moment (map.get s.tables q)
              (map.get after.tables q) (cond b (Some note) (note_at q notes))) (sym e)
              (subst (λ m. IsTableAhead l m moment (map.get s.tables q) (map.get after.tables q)
              (note_at q notes)) (sym then_is)
              (table_on l now later moment (map.get s.tables q) (map.get r.tables q)
              (map.get after.tables q) (note_at q notes) (others_stay q e)
              (insert_elsewhere r.tables name q (λ same. false≢true (sym e
              ∙ (bytes_eq-Decides name q).1 (sym same))) table_after) (ahead.tables q)))
