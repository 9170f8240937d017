-- A merge over its sources.
use Rattle.std.proofs.Common.{◌≡◌, ℕ, Bool, List, [], ◌∷◌, ◌++◌, length, map, get_or, set, Option, Some, None, refl, sym, ap, subst, ◌∙◌, arith, take, drop, Vec}
use Rattle.std.proofs.lemmas.Grind.{common_steps}
use Rattle.std.proofs.lemmas.List.{get_or_default}
use Rattle.std.specs.Vec.{with_items}
use Rattle.alt_disk.specs.Disk.{DiskState}
use Rattle.alt_cells.specs.declared.source.SourceFault.{SourceFault}
use Rattle.alt_cells.specs.Joined.{all_joined, joined_entries}
use Rattle.alt_cells.specs.declared.row.RowCells.{RowCells}
use Rattle.alt_cells.specs.Rows.{join_row}
use Rattle.alt_cells.specs.Walks.{RowMap, RowList, walk_cmp, rows_from, HasCause, KeepsSource, Fails, Gives}
use Rattle.alt_cells.proofs.WalkLaws.{is_sorted-rows_from, rows_from-joined, rows_from-empty}
use Rattle.alt_merge.specs.declared.merge.Merge.{Merge}
use Rattle.alt_merge.specs.declared.head.Head.{Head}
use Rattle.alt_merge.specs.declared.head.Head.TheVariants.{Due, Held, End}
use Rattle.alt_merge.specs.Costs.{HasLists}
use Rattle.alt_merge.specs.Merges.{Each2, HoldsEach, any_reads, with_heads, AllSorted, AllDue, AllFilled, NoneHeld, all_rows, MergeLeft, GivesFirst, Gathers, LeftWith}
use Rattle.alt_merge.specs.Tied.{IsLeastAt}
use Rattle.alt_merge.specs.Whole.{merge_reads, merge_holds}
use Rattle.alt_merge.specs.Merges.{IsLeast}
use Rattle.alt_merge.proofs.Lists.{each2_length}
use Rattle.alt_merge.proofs.Heads.{ready_start, take_head, none_left}

module _ {S : Type 0} (Holds : DiskState → S → RowMap → Type 0) where
  -- what a call keeps of the sources it keeps of the merge
  pub keeps_merge : (reads : S → ℕ → Bool) (a b : DiskState) (old new : Merge S) (xs ys : List S)
      → xs ≡ old.sources.items → new.sources.items ≡ ys
      → KeepsSource (HoldsEach Holds) (any_reads reads) a b xs ys
      → KeepsSource (merge_holds Holds) (merge_reads reads) a b old new
  keeps_merge reads a b old new xs ys is made k = record {
    holds = λ t rows h. record {
      maps = h.maps;
      each =
          subst (λ l. Each2 (Holds b) l h.maps) (sym made)
          (k.holds t h.maps (subst (λ l. Each2 (Holds a) l h.maps) (sym is) h.each));
      same = h.same;
    };
    reads = ap (any_reads reads) made ∙ k.reads ∙ ap (any_reads reads) is;
    goes = k.goes;
    quiet = k.quiet;
  }

  -- where a call on the sources fails, one on the merge fails so
  pub fails_merge : (reads : S → ℕ → Bool) (a b : DiskState) (old : Merge S) (fault : SourceFault)
      (xs : List S) → xs ≡ old.sources.items
      → Fails (HoldsEach Holds) (any_reads reads) a b xs fault
      → Fails (merge_holds Holds) (merge_reads reads) a b old fault
  fails_merge reads a b old fault xs is f = record {
    cause = subst (λ l. HasCause (any_reads reads l) a b fault) is f.cause;
    sound =
        λ tells rows h. f.sound tells h.maps
        (subst (λ l. Each2 (Holds a) l h.maps) (sym is) h.each);
  }

-- where nothing is in hand, the lists are those of the sources; one more source has nothing in hand
due_with : (heads : List Head) (tails : List RowList) → AllDue heads → length heads ≡ length tails
    → with_heads heads tails ≡ tails
due_with [] [] due len = refl
due_with [] (t ∷ tails) due len = absurd (omega arith)
due_with (h ∷ heads) [] due len = absurd (omega arith)
due_with (Due ∷ heads) (t ∷ tails) due len = ap (λ l. t ∷ l)
    (due_with heads tails due (omega arith))
due_with (Held key row ∷ heads) (t ∷ tails) due len = absurd due
due_with (End ∷ heads) (t ∷ tails) due len = absurd due

-- one source more whose head is due leaves all heads due
pub due_push : (heads : List Head) → AllDue heads → AllDue (heads ++ Due ∷ [])
due_push [] due = tt
due_push (Due ∷ heads) due = due_push heads due
due_push (Held key row ∷ heads) due = absurd due
due_push (End ∷ heads) due = absurd due

-- what each map has from a place on is sorted
sorted_from : (maps : List RowMap) (from : Option (List ℕ)) (forward : Bool)
    → AllSorted forward (map (λ m. rows_from m from forward) maps)
sorted_from [] from forward = tt
sorted_from (m ∷ maps) from forward = (
  is_sorted-rows_from m from forward,
  sorted_from maps from forward,
)

-- the rows of all sources from a place on are those of each, joined
pub rows_from_all : (maps : List RowMap) (from : Option (List ℕ)) (forward : Bool)
    → rows_from (all_rows maps) from forward ≡ all_joined (walk_cmp forward) join_row
    (map (λ m. rows_from m from forward) maps)
rows_from_all [] from forward = rows_from-empty from forward
rows_from_all (m ∷ maps) from forward = rows_from-joined m (all_rows maps) from forward
    ∙ ap (joined_entries (walk_cmp forward) join_row (rows_from m from forward))
    (rows_from_all maps from forward)

module _ {S : Type 0} (Left : S → RowList → Type 0) where
  -- sources that were sought from a place give what all rows joined show from there
  pub seek_merge : (sources : List S) (heads : List Head) (maps : List RowMap) (rows : RowMap)
      (from : Option (List ℕ)) (forward : Bool)
      → Each2 Left sources (map (λ m. rows_from m from forward) maps) → AllDue heads
      → length heads ≡ length sources → rows ≡ all_rows maps
      → MergeLeft Left sources heads forward (rows_from rows from forward)
  seek_merge sources heads maps rows from forward each due counted same =
      let tails = map (λ m. rows_from m from forward) maps in
      let plain = due_with heads tails due (counted ∙ each2_length Left sources tails each) in
      record {
        tails = tails;
        each = each;
        counted = counted;
        sorted = subst (AllSorted forward) (sym plain) (sorted_from maps from forward);
        same = ap (λ (r : RowMap). rows_from r from forward) same ∙ rows_from_all maps from forward
            ∙ ap (all_joined (walk_cmp forward) join_row) (sym plain);
      }

  -- and these lists are left with their heads
  pub lists_sought : (sources : List S) (heads : List Head) (maps : List RowMap)
      (from : Option (List ℕ)) (forward : Bool)
      → Each2 Left sources (map (λ m. rows_from m from forward) maps) → AllDue heads
      → length heads ≡ length sources
      → HasLists Left sources heads forward (map (λ m. rows_from m from forward) maps)
  lists_sought sources heads maps from forward each due counted =
      let tails = map (λ m. rows_from m from forward) maps in
      let plain = due_with heads tails due (counted ∙ each2_length Left sources tails each) in
      record {
        with_head = (tails, each, plain);
        counted = counted;
        sorted = sorted_from maps from forward;
      }

  -- a merge gives the least of the heads, joined with its equals
  pub gives_merge : (sources : List S) (before heads : List Head) (forward : Bool)
      (tails : List RowList) (given : Option (List ℕ × RowCells)) (rows : RowList)
      → Each2 Left sources tails → length heads ≡ length sources
      → GivesFirst forward before heads tails given
      → rows ≡ all_joined (walk_cmp forward) join_row (with_heads before tails)
      → Gives (MergeLeft Left sources heads forward) rows given
  gives_merge sources before heads forward tails None rows each counted first same = absurd first
  gives_merge sources before heads forward tails (Some e) rows each counted first same =
      subst (λ r. Gives (MergeLeft Left sources heads forward) r (Some e)) (sym (same ∙ first.1)) (
        refl,
        record {
          tails = tails;
          each = each;
          counted = counted;
          sorted = first.0;
          same =
              refl;
        },
      )

  -- where no head is left, the merge gives nothing
  pub ends_merge : (sources : List S) (heads : List Head) (forward : Bool) (tails : List RowList)
      (rows : RowList)
      → Each2 Left sources tails → length heads ≡ length sources
      → AllSorted forward (with_heads heads tails) → AllFilled heads → NoneHeld heads
      → rows ≡ all_joined (walk_cmp forward) join_row (with_heads heads tails)
      → Gives (MergeLeft Left sources heads forward) rows None
  ends_merge sources heads forward tails rows each counted sorted filled none same =
      let e = none_left forward heads tails filled none in
      subst (λ r. Gives (MergeLeft Left sources heads forward) r None) (sym (same ∙ e))
      (record { tails = tails; each = each; counted = counted; sorted = sorted; same = sym e })

-- the least row in hand, once it is joined with those of its key, is the first of all
pub gives_first : (forward : Bool) (heads after : List Head) (tails : List RowList) (at : ℕ)
    (d : Head) (key : List ℕ) (row : RowCells) (given : List ℕ × RowCells)
    → AllFilled heads → IsLeastAt forward heads at → length heads ≡ length tails
    → AllSorted forward (with_heads heads tails) → get_or heads at d ≡ Held key row
    → Gathers key row (set heads at Due) after given
    → GivesFirst forward heads after tails (Some given)
gives_first forward heads after tails at d key row given filled least len sorted held gathers =
    let here = sym (get_or_default heads at d Due least.0) ∙ held in
    let not_above = subst (λ h. IsLeast forward h heads) here least.1 in
    let g = gathers forward tails (ready_start forward key row heads tails at d len least.0 held
    filled not_above sorted) in
    (g.0, take_head forward heads tails at d key row len least.0 held sorted ∙ g.1)

-- what is left where the lists lie behind references
pub left_with : {S : Type 0} (Left : S → RowList → Type 0) (xs ys : List S) (hs ks : List Head)
    (tails : List RowList) → xs ≡ ys → hs ≡ ks → Each2 Left ys tails
    → LeftWith Left xs hs (with_heads ks tails)
left_with Left xs ys hs ks tails e f each = (
  tails,
  subst (λ l. Each2 Left l tails) (sym e) each,
  ap (λ l. with_heads l tails) f,
)

-- a vector whose elements were written through a slice
pub items_is : {A Z : Type 0} (v : Vec A Z) (ws : List A) → length ws ≡ length v.items
    → (with_items v ws).items ≡ ws
items_is v ws e = refill v.len ws v.items e v.ok.0
  where
    nothing : {A : Type 0} (n : ℕ) (old : List A) → n ≡ length old → drop n old ≡ []
    nothing n old e = grind (arith, common_steps)

    refill : {A : Type 0} (n : ℕ) (ws old : List A) → length ws ≡ length old → n ≡ length old
        → take n (ws ++ drop (length ws) old) ≡ ws
    refill n ws old e f = let none = nothing (length ws) old e in
        let m : n ≡ length ws = omega arith in grind (arith, common_steps)

-- what is given and left, said of equal sources and heads
pub left_on_merge : {S : Type 0} (Left : S → RowList → Type 0) (xs ys : List S) (hs ks : List Head)
    (forward : Bool) (rows : RowList) (given : Option (List ℕ × RowCells)) → ys ≡ xs → ks ≡ hs
    → Gives (MergeLeft Left xs hs forward) rows given
    → Gives (MergeLeft Left ys ks forward) rows given
left_on_merge Left xs ys hs ks forward rows given e f h =
    subst (λ k. Gives (MergeLeft Left ys k forward) rows given) (sym f)
    (subst (λ y. Gives (MergeLeft Left y hs forward) rows given) (sym e) h)

-- what is left after a seek, said of equal sources
pub sought_on_merge : {S : Type 0} (Left : S → RowList → Type 0) (xs ys : List S) (hs : List Head)
    (forward : Bool) (rows : RowList) → ys ≡ xs → MergeLeft Left xs hs forward rows
    → MergeLeft Left ys hs forward rows
sought_on_merge Left xs ys hs forward rows e h =
    subst (λ y. MergeLeft Left y hs forward rows) (sym e) h
