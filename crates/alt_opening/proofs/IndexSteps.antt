-- The rows of an index and of the items beside it, read one after the other.
use Rattle.std.proofs.Common.{◌≡◌, ◌⊎◌, ◌<◌, ◌≤◌, ◌+◌, ⊎_elim, refl, sym, ap, subst, ◌∙◌, ◌++◌, ◌∷◌, [], ℕ, List, length, Option, Some, None, IfSome, arith}
use Rattle.std.proofs.lemmas.Option.{slice_get_within, same_Some as some}
use Rattle.alt_base.proofs.Lists.{get-within}
use Rattle.alt_cells.specs.Changes.{Columns}
use Rattle.alt_layout.specs.Layout.{Layout, shown}
use Rattle.alt_machine.specs.Sources.{index_at}
use Rattle.alt_schema.specs.Indexes.{indexes}
use Rattle.alt_schema.specs.declared.schema.IndexSchema.{IndexSchema}
use Rattle.alt_schema.specs.declared.schema.TableSchema.{TableSchema}
use Rattle.alt_opening.specs.private.IndexScans.{AreOwn, HasRow, IndexRead, IndexesRead, IndexesWhere, IsAhead, IsFirstForeign, IsIndexFault, IsItemThere, IsLeastMissing, IsMissing, IsOwnFault, IsRightAt, ShowsAhead, TellsMissing, TellsMissingOf, lesser}
use Rattle.alt_opening.specs.Scans.{IsBelow, IsFirstFrom, IsNextRow, ItemsRead, RowsWhere}
use Rattle.alt_opening.specs.declared.faults.OpenFault.{OpenFault}
use Rattle.alt_opening.specs.declared.faults.OpenFault.TheVariants.{Damaged, DigestDiffers, BadRow, Failed, NoMemory}
use Rattle.alt_opening.proofs.IndexKeys.{ahead_first, ahead_second, not_itself, of_lesser}
use Rattle.alt_opening.proofs.Scanning.{rows_all, rows_more, rows_next, rows_none}
use Rattle.alt_value.specs.Tree.{Pair}
use Rattle.alt_tablerows.specs.ItemRows.{item_columns}

module _ (l : Layout) (d : TableSchema) (i : IndexSchema) where
  -- ---- missing rows

  -- none yet
  pub missing_none : (from : List ℕ) → from ≡ [] → (o : Option (List ℕ)) → o ≡ None
      → IsLeastMissing (λ place. IsBelow place from) l d i o
  missing_none from first o none = record {
    shows = rows_none l d.family (ShowsAhead l d i o) from first;
    missing = subst (λ o. IfSome o (λ key. (place : List ℕ) × (item : List Pair)
        × IsItemThere l d place item × IsMissing l d i item key)) (sym none) tt;
  }

  module _ (from : List ℕ) (least : Option (List ℕ))
      (so_far : IsLeastMissing (λ place. IsBelow place from) l d i least) where
    -- all, where no row of the table follows
    pub missing_all : IsNextRow l d.family from None
        → IsLeastMissing (λ place. Unit {0}) l d i least
    missing_all none = record {
      shows = rows_all l d.family (ShowsAhead l d i least) from so_far.shows none;
      missing = so_far.missing;
    }

    -- and the one of the next row
    pub missing_more : ItemsRead l d → (place : List ℕ) (row : Columns)
        → IsFirstFrom l d.family from place row → (told : Option (List ℕ))
        → TellsMissingOf l d i row told → (after : List ℕ) → after ≡ place ++ 0 ∷ []
        → (now : Option (List ℕ)) → now ≡ lesser least told
        → IsLeastMissing (λ p. IsBelow p after) l d i now
    missing_more read place row first told tells after at now is =
        subst (IsLeastMissing (λ p. IsBelow p after) l d i) (sym is) (record {
          shows = rows_more l d.family (ShowsAhead l d i (lesser least told)) place row before
              first.shows this after at;
          missing = of_lesser _ least told so_far.missing (of_told told tells);
        })
      where
        before : RowsWhere (λ p. IsBelow p place) l d.family (ShowsAhead l d i (lesser least told))
        before p c low shows item key columns is_item of_item has ahead =
            rows_next l d.family (ShowsAhead l d i least) from so_far.shows place row first p c low
            shows item key columns is_item of_item has (ahead_first key least told ahead)

        this : ShowsAhead l d i (lesser least told) place row
        this item key columns is_item of_item has ahead =
            by told (tells item is_item of_item) (ahead_second key least told ahead)
          where
            by : (o : Option (List ℕ)) → TellsMissing l d i item o → IsAhead key o
                → shown l i.family key ≡ Some columns
            by None shows low = shows key columns has
            by (Some k) missing low =
                let one : key ≡ k = ap (λ (r : List ℕ × Columns). r.0)
                (some _ _ (sym has ∙ missing.row)) in
                absurd (not_itself k (subst (λ q. IsBelow q k) one low))

        of_told : (o : Option (List ℕ)) → TellsMissingOf l d i row o
            → IfSome o (λ key. (place : List ℕ) × (item : List Pair)
            × IsItemThere l d place item × IsMissing l d i item key)
        of_told None tells = tt
        of_told (Some key) tells =
            let (item, is) = read place row tt first.shows in (
              place,
              item,
              record {
                shows = first.shows ∙ ap (λ c. Some c) is.row;
                stored = is.stored;
                read = is.read;
              },
              tells item is.read is.row,
            )

  -- ---- rows of no item

  -- none, where all were read
  pub foreign_none : AreOwn (λ key. Unit {0}) l d i → IsFirstForeign l d i None
  foreign_none own = record { own = own; foreign = tt }

  -- the first
  pub foreign_first : (key : List ℕ) (columns : Columns) → AreOwn (λ k. IsBelow k key) l d i
      → shown l i.family key ≡ Some columns → (HasRow l d i key columns → ⊥)
      → IsFirstForeign l d i (Some key)
  foreign_first key columns own shows none = record {
    own = own;
    foreign = (columns, shows, none);
  }

  -- ---- both

  module _ (missing foreign : Option (List ℕ))
      (least : IsLeastMissing (λ place. Unit {0}) l d i missing)
      (first : IsFirstForeign l d i foreign) where
    -- a key ahead of both is right
    right_ahead : (key : List ℕ) → IsAhead key (lesser missing foreign) → IsRightAt l d i key
    right_ahead key ahead = record {
      own = λ columns shows. first.own key columns (ahead_second key missing foreign ahead) shows;
      each = λ columns has. least.shows has.place (item_columns has.item) tt has.there.shows
          has.item key columns has.there.read refl has.row (ahead_first key missing foreign ahead);
    }

    pub index_read : lesser missing foreign ≡ None → IndexRead l d i
    index_read none key = right_ahead key (subst (IsAhead key) (sym none) tt)

    -- and the lesser of them isn't
    pub index_wrong : (key : List ℕ) → lesser missing foreign ≡ Some key → (family : ℕ)
        → family ≡ i.family → IsIndexFault l d i (BadRow family key)
    index_wrong key some family same = (
      same,
      record {
        before = λ k low. right_ahead k (subst (IsAhead k) (sym some) low);
        wrong = subst (λ o. IfSome o (λ k. IsRightAt l d i k → ⊥)) some
            (of_lesser (λ k. IsRightAt l d i k → ⊥) missing foreign
            (by_missing missing least.missing)
            (by_foreign foreign first.foreign));
      },
    )
      where
        by_missing : (o : Option (List ℕ)) → IfSome o (λ key. (place : List ℕ) × (item : List Pair)
            × IsItemThere l d place item × IsMissing l d i item key)
            → IfSome o (λ k. IsRightAt l d i k → ⊥)
        by_missing None is = tt
        by_missing (Some k) (place, item, there, is) = λ right.
            is.missing (right.each is.columns (record {
              place = place;
              item = item;
              there = there;
              row = is.row;
            }))

        by_foreign : (o : Option (List ℕ)) → IfSome o (λ key. (columns : Columns)
            × (shown l i.family key ≡ Some columns) × (HasRow l d i key columns → ⊥))
            → IfSome o (λ k. IsRightAt l d i k → ⊥)
        by_foreign None is = tt
        by_foreign (Some k) (columns, shows, none) = λ right. none (right.own columns shows)

-- ---- the indexes of a table

before_or_at : (n k : ℕ) → n < k + 1 → (n < k) ⊎ (n ≡ k)
before_or_at n k within = grind arith

module _ (l : Layout) (d : TableSchema) where
  -- before the first index no rows were read
  pub indexes_none : IndexesWhere (λ n. n < 0) l d
  indexes_none number i none at = absurd (omega (arith, none))

  -- one more
  pub indexes_more : (number : ℕ) → IndexesWhere (λ n. n < number) l d
      → ((i : IndexSchema) → index_at d (Some number) ≡ Some i → IndexRead l d i)
      → IndexesWhere (λ n. n < number + 1) l d
  indexes_more number so_far this n i within at = ⊎_elim
      (λ (before : n < number). so_far n i before at)
      (λ (same : n ≡ number). this i (ap (λ k. index_at d (Some k)) (sym same) ∙ at))
      (before_or_at n number within)

  -- all of them
  pub indexes_all : (count : ℕ) → length (indexes d) ≤ count → IndexesWhere (λ n. n < count) l d
      → IndexesRead l d
  indexes_all count all so_far number i here at =
      let within : number < length (indexes d) = slice_get_within (indexes d) number i at in
      so_far number i (omega (arith, within, all)) at

  -- a wrong row of one is the first of all
  pub own_wrong : (number : ℕ) → number < length (indexes d) → IndexesWhere (λ n. n < number) l d
      → (fault : OpenFault)
      → ((i : IndexSchema) → index_at d (Some number) ≡ Some i → IsIndexFault l d i fault)
      → IsOwnFault l d fault
  own_wrong number within so_far (Damaged file at) wrong =
      let (i, at) = get-within (indexes d) number within in wrong i at
  own_wrong number within so_far (DigestDiffers file kept found) wrong =
      let (i, at) = get-within (indexes d) number within in wrong i at
  own_wrong number within so_far (BadRow family key) wrong =
      let (i, at) = get-within (indexes d) number within in
      let is = wrong i at in
      record {
        number = number;
        index = i;
        at = at;
        of_family = is.0;
        first = is.1;
        lesser = so_far;
      }
  own_wrong number within so_far Failed wrong = tt
  own_wrong number within so_far NoMemory wrong = tt
