-- The row changes of an item are of none of the rows that a write trims.
use Rattle.std.proofs.Common.{◌≡◌, ◌<◌, ◌≤◌, ◌^◌, refl, sym, ap, subst, ◌∙◌, ℕ, Bool, true, false, List, [], ◌∷◌, map as each, Option, Some, None, arith}
use Rattle.std.specs.Option.{option_map_or, option_to_list}
use Rattle.std.specs.Prelude.{◌&&◌, ◌||◌, ◌==◌, if◌then◌else◌, option_map}
use Rattle.std.specs.Str.{bytes_eq}
use Rattle.alt_cells.specs.Batches.{has_row}
use Rattle.alt_cells.specs.Changes.{change_between}
use Rattle.alt_cells.specs.declared.batch.RowChange.{RowChange}
use Rattle.alt_changes.specs.ChangeRows.{row_change, row_changes, row_key}
use Rattle.alt_codec.specs.declared.writer.Writer.{Writer}
use Rattle.alt_machine.specs.Changes.{change_left}
use Rattle.alt_machine.specs.Same.{is_same}
use Rattle.alt_machine.specs.State.{Change}
use Rattle.alt_opening.specs.Families.{HasOwnFamilies}
use Rattle.alt_opening.proofs.StreamKeys.{key_one}
use Rattle.alt_schema.specs.declared.schema.TableSchema.{TableSchema}
use Rattle.alt_rowchanges.specs.RowChanges.{item_changes}
use Rattle.alt_rowchanges.specs.declared.trimming.Trim.{Trim}
use Rattle.alt_rowchanges.specs.Trims.{CanTrim, TrimIsWithin}
use Rattle.alt_rowchanges.proofs.StreamShows.{change_new}
use Rattle.alt_value.specs.Tree.{Pair}
use Rattle.alt_views.specs.IndexRows.{index_changes}
use Rattle.alt_views.specs.ItemRows.{item_columns}
use Rattle.std.proofs.lemmas.Slice.Eq.{bytes_eq-Decides}
use Rattle.std.proofs.lemmas.List.Elements.{All-weaker}
use Rattle.alt_views.proofs.Batched.{has_row-append}

-- The row changes of an item have none of the row of a lesser number.
pub no_lesser_row : (d : TableSchema) → HasOwnFamilies d → (number moment : ℕ) (writer : Writer)
    (place : List ℕ) (old new : Option (List Pair)) (family : ℕ) → d.stream_family ≡ Some family → (k : ℕ)
    → k < number → number < 2 ^ 64
    → has_row (item_changes d number moment writer place old new) family (row_key k) ≡ false
no_lesser_row d own number moment writer place old new family stream k less small = has_row-append
    (change_between d.family place (option_map item_columns old) (option_map item_columns new)
    ∷ index_changes d old new)
    (row_changes d (change_left number moment writer old new)) family (row_key k)
    (change_new d own old new (change_between d.family place (option_map item_columns old)
    (option_map item_columns new)) refl family stream (row_key k))
    ((λ i. has_row (option_map_or (λ f. each (row_change f)
    (option_to_list (change_left number moment writer old new))) (stream i) []) family (row_key k))
    ∙ by (is_same old new))
  where
    change : Change
    change = record {
      number = number;
      moment = moment;
      old = old;
      new = new;
      by = writer;
    }

    apart : (b : Bool) → bytes_eq (row_key number) (row_key k) ≡ b → b ≡ false
    apart true e = absurd (let same : number ≡ k = key_one number k small (omega (arith, less, small))
        ((bytes_eq-Decides (row_key number) (row_key k)).0 e) in omega (arith, same, less))
    apart false e = refl

    of_own : (own : Bool) → ((own && bytes_eq (row_key number) (row_key k)) || false) ≡ false
    of_own true = ap (λ b. b || false) (apart (bytes_eq (row_key number) (row_key k)) refl)
    of_own false = refl

    by : (b : Bool) → has_row (each (row_change family) (option_to_list
        (if b then None else Some change))) family (row_key k) ≡ false
    by true = refl
    by false = of_own (family == family)

-- So a write may trim behind them.
pub can_trim : (d : TableSchema) → HasOwnFamilies d → (number moment : ℕ) (writer : Writer)
    (place : List ℕ) (old new : Option (List Pair)) (batch : List RowChange)
    → batch ≡ item_changes d number moment writer place old new → (before : ℕ) (r : Trim)
    → TrimIsWithin before number r → number < 2 ^ 64 → (family : ℕ) → d.stream_family ≡ Some family
    → CanTrim before r batch family
can_trim d own number moment writer place old new batch is before r within small family stream =
    record {
      rise = within.rise;
      left = within.left;
      differ = within.differ;
      zero = let low = within.below in free 0 (omega (arith, low));
      rows = All-weaker (λ k. (1 ≤ k) × (k ≤ r.number)) (λ k. has_row batch family (row_key k) ≡ false)
          (λ k left. let high = left.1 in let below = within.below in
          free k (omega (arith, high, below))) r.leftovers.items within.left;
    }
  where
    free : (k : ℕ) → k < number → has_row batch family (row_key k) ≡ false
    free k less = subst (λ cs. has_row cs family (row_key k) ≡ false) (sym is)
        (no_lesser_row d own number moment writer place old new family stream k less small)
