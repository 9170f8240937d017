-- The front of a stream after a write of an item to its table: the number of the last change that is trimmed, the oldest that is kept, and the
-- rows that are left over.
use Rattle.std.proofs.Common.{◌≡◌, ◌<◌, ◌≤◌, ◌+◌, refl, sym, ap, subst, ◌∙◌, ℕ, Bool, true, false, T, List, [], ◌∷◌, ◌++◌, map as map_list, take, drop, Option, Some, None, All, arith}
use Rattle.std.proofs.lemmas.List.Elements.{All-nil}
use Rattle.std.proofs.lemmas.Option.{same_Some}
use Rattle.std.specs.FinMap as map
use Rattle.std.specs.Option.{option_map_or, option_to_list}
use Rattle.std.specs.Prelude.{if◌then◌else◌, is_some, unwrap_or}
use Rattle.alt_cells.specs.Batches.{is_distinct}
use Rattle.alt_cells.specs.declared.batch.RowChange.{RowChange}
use Rattle.alt_changes.specs.ChangeRows.{row_change, row_key}
use Rattle.alt_changes.specs.TrimRows.{AreLeft, hidden, trimmed_changes}
use Rattle.alt_opening.specs.HandInHand.{batch_write}
use Rattle.alt_layout.specs.Layout.{Layout, IsPast, change_of, shown}
use Rattle.alt_layout.proofs.BatchLaws.{shows_batch}
use Rattle.alt_codec.specs.declared.writer.Writer.{Writer}
use Rattle.alt_machine.specs.Changes.{change_left}
use Rattle.alt_machine.specs.Same.{is_same}
use Rattle.alt_machine.specs.State.{Change, State, Table}
use Rattle.alt_machine.specs.Trimming.{kept, trimmed_at}
use Rattle.alt_machine.specs.Valid.{IsValid}
use Rattle.alt_machine.specs.Writes.{with_write_by}
use Rattle.alt_machine.proofs.Trimming.{trimmed_most}
use Rattle.alt_schema.specs.declared.schema.TableSchema.{TableSchema}
use Rattle.alt_rowchanges.specs.Fronts.{IsFront, first_moment}
use Rattle.alt_rowchanges.specs.Leftovers.{leftovers, lowest_left}
use Rattle.alt_rowchanges.specs.RowChanges.{changed_rows, write_changes}
use Rattle.alt_rowchanges.specs.declared.fronts.Front.{Front}
use Rattle.alt_rowchanges.specs.declared.trimming.Trim.{Trim}
use Rattle.alt_rowchanges.specs.Trims.{IsTrim}
use Rattle.alt_rowchanges.proofs.Elsewhere.{write_stream}
use Rattle.alt_rowchanges.proofs.KeptFrom.{first_more, kept_more, trimmed_more}
use Rattle.alt_rowchanges.proofs.LeftoverLaws.{leftovers_after}
use Rattle.alt_rowchanges.proofs.Rising.{filter_rising, take_two, two_left}
use Rattle.alt_value.specs.Tree.{Pair}

-- the lowest rows that are left over may be left over
pub lowest_are_left : (l : Layout) (d : TableSchema) (n : ℕ) → AreLeft n (lowest_left l d n)
lowest_are_left l d n = by d.stream_family
  where
    by : (o : Option ℕ) → AreLeft n (option_map_or (λ family. take 2 (leftovers l family n)) o [])
    by None = All-nil (λ m. (1 ≤ m) × (m ≤ n))
    by (Some family) = two_left n (take 2 (leftovers l family n))
        (take_two n (leftovers l family n)
        (filter_rising (λ m. is_some (shown l family (row_key m))) 1 n (n + 1) (omega arith)))

module _ (s : State) (name : List ℕ) (t : Table) (at : map.get s.tables name ≡ Some t)
    (valid : IsValid s) (moment : ℕ) (writer : Writer) (place : List ℕ) (to : Option (List Pair))
    (differ : is_same (map.get t.items place) to ≡ false) (l : Layout) (r : Trim)
    (is : IsTrim l t moment r) where
  -- the table then, and the change of the write
  abbrev after : Table
  after = with_write_by s.next_number moment writer t place to

  abbrev change : Change
  change = record {
    number = s.next_number;
    moment = moment;
    old = map.get t.items place;
    new = to;
    by = writer;
  }

  left_is : change_left s.next_number moment writer (map.get t.items place) to ≡ Some change
  left_is = ap (λ b. if b then None else Some change) differ

  -- the number is what was read
  pub trimmed_then : after.trimmed ≡ r.number
  trimmed_then =
      (λ i. if is_some t.description.stream_family
      then trimmed_at moment t.trimmed (t.changes ++ option_to_list (left_is i)) else t.trimmed)
      ∙ by (is_some t.description.stream_family) ∙ sym is.number
    where
      by : (b : Bool)
          → (if b then trimmed_at moment t.trimmed (t.changes ++ change ∷ []) else t.trimmed)
          ≡ (if b then trimmed_at moment t.trimmed t.changes else t.trimmed)
      by true = trimmed_more moment change refl t.trimmed t.changes
      by false = refl

  -- the rows that go may be left over
  pub left_then : AreLeft after.trimmed r.leftovers.items
  left_then = subst (λ n. AreLeft n r.leftovers.items) (sym trimmed_then)
      (subst (AreLeft r.number) (sym is.lowest) (lowest_are_left l t.description r.number))

  -- it lies before the number of the write
  pub below_then : r.number < s.next_number
  below_then = subst (λ n. n < s.next_number) (sym is.number)
      (by (is_some t.description.stream_family))
    where
      by : (b : Bool)
          → (if b then trimmed_at moment t.trimmed t.changes else t.trimmed) < s.next_number
      by true = trimmed_most moment t.trimmed s.next_number t.changes
          (valid.tables name t at).changes.trimmed_before
          (λ k x within. ((valid.tables name t at).changes.each k x within).number)
      by false = (valid.tables name t at).changes.trimmed_before

  module _ (family : ℕ) (stream : t.description.stream_family ≡ Some family) where
    -- the changes then
    changes_then : after.changes ≡ kept moment t.changes ++ change ∷ []
    changes_then = (λ i. if is_some (stream i)
        then kept moment (t.changes ++ option_to_list (left_is i)) else t.changes)
        ∙ kept_more moment change refl t.changes

    -- the rows that go are the lowest two
    lowest_is : r.leftovers.items ≡ take 2 (leftovers l family r.number)
    lowest_is = is.lowest
        ∙ ap (λ o. option_map_or (λ f. take 2 (leftovers l f r.number)) o []) stream

    -- so the others are left over then
    pub leftovers_then : IsPast l → (changes : List RowChange)
        → changes ≡ write_changes t.description s.next_number moment writer place
        (map.get t.items place) to t.trimmed r.number r.leftovers.items → T (is_distinct changes)
        → leftovers (changed_rows l changes) family r.number
        ≡ drop 2 (leftovers l family r.number)
    leftovers_then past changes written distinct = leftovers_after family s.next_number t.trimmed
        r.number 2 (row_change family change) l (batch_write l changes)
        (shows_batch l (batch_write l changes) distinct past (omega arith)) refl refl below_then
        (let high = valid.next_number.1 in omega (arith, high))
        (λ key. (λ i. change_of family key (written i))
        ∙ write_stream t.description s.next_number moment writer place (map.get t.items place) to
        t.trimmed r.number r.leftovers.items differ (valid.tables name t at).differ family stream key
        ∙ ap (λ hs. change_of family key (row_change family change
        ∷ (trimmed_changes family t.trimmed r.number ++ map_list (hidden family) hs))) lowest_is)

    -- and what is known of the front is so
    pub front_then : (m : Layout)
        → leftovers m family r.number ≡ drop 2 (leftovers l family r.number)
        → (f : Front) → (f.oldest ≡ Some (unwrap_or r.oldest moment)) × (f.from ≡ r.from)
        → IsFront m after f
    front_then m left f told = record {
      oldest = told.0 ∙ ap (λ o. Some (unwrap_or o moment)) (is.oldest family stream)
          ∙ sym (first_more (kept moment t.changes) change) ∙ sym (ap first_moment changes_then);
      low = (
        subst (λ n. 1 ≤ n) (sym told.1) is.low.0,
        subst (λ n. n ≤ after.trimmed + 1) (sym told.1)
            (subst (λ n. r.from ≤ n + 1) (sym trimmed_then) is.low.1),
      );
      above = λ g of. subst (λ n. All (λ k. n ≤ k) (leftovers m g after.trimmed)) (sym told.1)
          (subst (λ ns. All (λ k. r.from ≤ k) ns)
          (sym
          ((λ i. leftovers m (same_Some g family (sym of ∙ stream) i) (trimmed_then i)) ∙ left))
          (is.above family stream));
    }

  -- Of a table without a stream what is known stays so.
  pub front_stays : t.description.stream_family ≡ None → (m : Layout) (f : Front) → IsFront l t f
      → IsFront m after f
  front_stays none m f front = record {
    oldest = front.oldest ∙ ap first_moment (sym changes_stay);
    low = subst (λ n. (1 ≤ f.from) × (f.from ≤ n + 1)) (sym trimmed_stays) front.low;
    above = λ g of. absurd (let no : None ≡ Some g = sym none ∙ of in let e : ⊥ = cc no in e);
  }
    where
      changes_stay : after.changes ≡ t.changes
      changes_stay i = if is_some (none i)
          then kept moment (t.changes ++ option_to_list (change_left s.next_number moment writer
          (map.get t.items place) to)) else t.changes

      trimmed_stays : after.trimmed ≡ t.trimmed
      trimmed_stays i = if is_some (none i)
          then trimmed_at moment t.trimmed (t.changes ++ option_to_list (change_left s.next_number
          moment writer (map.get t.items place) to)) else t.trimmed
