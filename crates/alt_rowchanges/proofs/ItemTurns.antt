-- The write of an item turns a state into the one after it, which can be held in turn.
use Rattle.std.proofs.Common.{◌≡◌, ◌<◌, ℕ, Bool, true, false, cond, List, ◌∷◌, Option, Some, None, IfSome, refl, sym, ap, subst, ◌∙◌, ◌⊎◌, inl, inr, arith}
use Rattle.std.proofs.Common.{append-nil, append_assoc}
use Rattle.std.proofs.lemmas.List.Elements.{All-push}
use Rattle.std.proofs.lemmas.Option.{same_Some}
use Rattle.std.specs.Option.{option_to_list}
use Rattle.std.specs.Prelude.{if◌then◌else◌, ◌++◌, ◌^◌, is_some, option_map, All}
use Rattle.std.specs.Ordering.{eq_by_cmp}
use Rattle.std.specs.FinMap as map
use Rattle.alt_cells.specs.declared.batch.RowChange.{RowChange}
use Rattle.alt_cells.specs.Changes.{change_between}
use Rattle.alt_cells.specs.Keys.{key_cmp}
use Rattle.alt_changes.specs.ChangeRows.{row_changes}
use Rattle.alt_changes.specs.TrimRows.{AreLeft, trim_changes}
use Rattle.alt_opening.specs.HandInHand.{batch_write}
use Rattle.alt_layout.proofs.BatchLaws.{shows_batch}
use Rattle.alt_codec.specs.declared.writer.Writer.{Writer}
use Rattle.alt_machine.specs.declared.TheConstants.{NUMBERS_END}
use Rattle.alt_machine.specs.Changes.{change_left}
use Rattle.alt_machine.specs.Same.{is_same}
use Rattle.alt_machine.specs.State.{State, Table, Change}
use Rattle.alt_machine.specs.Valid.{IsStored, IsValid, IsChangeOfValues}
use Rattle.alt_machine.specs.Writes.{with_write_by as with_row, after_item_by}
use Rattle.alt_machine.proofs.Looks.{at_insert}
use Rattle.alt_machine.proofs.States.{after_item_valid}
use Rattle.alt_machine.proofs.Trimming.{kept_all}
use Rattle.alt_machine.specs.Trimming.{kept}
use Rattle.alt_schemabytes.specs.Held.{IsHeld}
use Rattle.alt_views.specs.ItemRows.{item_columns}
use Rattle.alt_opening.specs.StateRows.{HasMoment, IsHeldWhole}
use Rattle.alt_rowchanges.specs.RowChanges.{Turns, write_changes}
use Rattle.alt_rowchanges.proofs.WriteLaws.{get-with_item, shows_item}
use Rattle.alt_views.specs.IndexRows.{index_changes}
use Rattle.alt_value.specs.Tree.{Pair}
use Rattle.alt_value.specs.Values.{IsItemOfValues}

-- a state with an item more is held, as far as the item is
held_after : (s : State) (moment : ℕ) (writer : Writer) (name : List ℕ) (t : Table) (place : List ℕ)
    (new : Option (List Pair)) → IsHeldWhole s → map.get s.tables name ≡ Some t
    → IfSome new IsItemOfValues → moment < 2 ^ 64
    → IsHeldWhole (after_item_by s moment writer name t place new)
held_after s moment writer name t place new held at given fits = record {
  items = record {
    items = λ other q u item at_other here. items other u q item here
        (at_insert s.tables name other u (with_row s.next_number moment writer t place new)
        at_other);
    changes = λ other u at_other. changes other u
        (at_insert s.tables name other u (with_row s.next_number moment writer t place new)
        at_other);
  };
  moments = λ other u at_other. moments other u
      (at_insert s.tables name other u (with_row s.next_number moment writer t place new) at_other);
  descriptions = λ other u at_other. descriptions other u
      (at_insert s.tables name other u (with_row s.next_number moment writer t place new) at_other);
}
  where
    new_or_old : (to : Option (List Pair)) (q : List ℕ) (item : List Pair) (b : Bool)
        → IfSome to IsItemOfValues → cond b to (map.get t.items q) ≡ Some item
        → IsItemOfValues item
    new_or_old None q item true given e = let no : None ≡ Some item = e in cc no
    new_or_old (Some x) q item true given e = subst IsItemOfValues (same_Some x item e) given
    new_or_old to q item false given e = held.items.items name q t item at e

    items : (other : List ℕ) (u : Table) (q : List ℕ) (item : List Pair)
        → map.get u.items q ≡ Some item
        → ((other ≡ name) × (with_row s.next_number moment writer t place new ≡ u))
        ⊎ (map.get s.tables other ≡ Some u) → IsItemOfValues item
    items other u q item here (inl changed) = new_or_old new q item (eq_by_cmp key_cmp q place)
        given (sym (get-with_item t.items place new q)
        ∙ ap (λ (x : Table). map.get x.items q) changed.1 ∙ here)
    items other u q item here (inr old) = held.items.items other q u item old here

    -- what holds of all changes and of the one more holds of all then
    all_left : (P : Change → Type 0) → P (record {
      number = s.next_number;
      moment = moment;
      old = map.get t.items place;
      new = new;
      by = writer;
    }) → All P t.changes → All P (with_row s.next_number moment writer t place new).changes
    all_left P last all = by (is_some t.description.stream_family)
        (is_same (map.get t.items place) new)
      where
        by : (b c : Bool) → All P (if b then kept moment (t.changes
            ++ option_to_list (if c then None else Some (record {
              number = s.next_number;
              moment = moment;
              old = map.get t.items place;
              new = new;
              by = writer;
            }))) else t.changes)
        by true true = kept_all P moment _ (subst (All P) (sym (append-nil t.changes)) all)
        by true false = kept_all P moment _ (All-push P t.changes _ all last)
        by false c = all

    was_held : (o : Option (List Pair)) → map.get t.items place ≡ o → IfSome o IsItemOfValues
    was_held None is = tt
    was_held (Some item) is = held.items.items name place t item at is

    changes : (other : List ℕ) (u : Table)
        → ((other ≡ name) × (with_row s.next_number moment writer t place new ≡ u))
        ⊎ (map.get s.tables other ≡ Some u) → All IsChangeOfValues u.changes
    changes other u (inl changed) = subst (λ (x : Table). All IsChangeOfValues x.changes) changed.1
        (all_left IsChangeOfValues (was_held (map.get t.items place) refl, given)
        (held.items.changes name t at))
    changes other u (inr old) = held.items.changes other u old

    moments : (other : List ℕ) (u : Table)
        → ((other ≡ name) × (with_row s.next_number moment writer t place new ≡ u))
        ⊎ (map.get s.tables other ≡ Some u) → All HasMoment u.changes
    moments other u (inl changed) = subst (λ (x : Table). All HasMoment x.changes) changed.1
        (all_left HasMoment fits (held.moments name t at))
    moments other u (inr old) = held.moments other u old

    descriptions : (other : List ℕ) (u : Table)
        → ((other ≡ name) × (with_row s.next_number moment writer t place new ≡ u))
        ⊎ (map.get s.tables other ≡ Some u) → IsHeld u.description
    descriptions other u (inl changed) = subst (λ (x : Table). IsHeld x.description) changed.1
        (held.descriptions name t at)
    descriptions other u (inr old) = held.descriptions other u old

-- The change of an item's row, with those of its rows in the indexes and in the stream, turns the state into the one with that item,
-- whichever rows that are left over go with it.
pub item_turns : (s : State) (moment : ℕ) (writer : Writer) (name : List ℕ) (t : Table)
    (place : List ℕ) (new : Option (List Pair)) (leftovers : List ℕ) → IsValid s → IsHeldWhole s
    → s.next_number < NUMBERS_END
    → map.get s.tables name ≡ Some t → is_same (map.get t.items place) new ≡ false
    → ((item : List Pair) → new ≡ Some item → IsStored t.description place item)
    → IfSome new IsItemOfValues → moment < 2 ^ 64
    → AreLeft (with_row s.next_number moment writer t place new).trimmed leftovers
    → Turns (write_changes t.description s.next_number moment writer place (map.get t.items place)
    new t.trimmed (with_row s.next_number moment writer t place new).trimmed leftovers) s
    (after_item_by s moment writer name t place new)
item_turns s moment writer name t place new leftovers valid held room at differ stored given fits
    left =
    let changes : List RowChange =
    write_changes t.description s.next_number moment writer place (map.get t.items place) new
    t.trimmed (with_row s.next_number moment writer t place new).trimmed leftovers in
    record {
      shows = λ distinct l past shows. shows_item l s shows valid held.items moment writer name t at
          place new room differ stored given leftovers left (batch_write l changes)
          (ap (λ cs. change_between t.description.family place
          (option_map item_columns (map.get t.items place)) (option_map item_columns new) ∷ cs)
          (append_assoc (index_changes t.description (map.get t.items place) new)
          (row_changes t.description
          (change_left s.next_number moment writer (map.get t.items place) new))
          (trim_changes t.description t.trimmed (with_row s.next_number moment writer t place
          new).trimmed leftovers))) refl
          (shows_batch l (batch_write l changes) distinct past (omega arith));
      valid = after_item_valid s moment writer name t place new valid room at differ stored;
      held = held_after s moment writer name t place new held at given fits;
    }
