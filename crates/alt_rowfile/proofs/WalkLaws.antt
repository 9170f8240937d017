-- One block more in hand, and one row less.
use Rattle.std.proofs.Common.{◌≡◌, refl, sym, ap, subst, ◌∙◌, ℕ, ◌+◌, ◌<◌, ◌≤◌, List, [], ◌∷◌, ◌++◌, length, take, drop, get_or, reverse, arith}
use Rattle.std.proofs.lemmas.List.{drop_more, take_more, drop_all, reverse-append, reverse-reverse}
use Rattle.std.specs.Prelude.{Bool, true, false, Option, Some, None, Result, Ok, Err, IfOk, IfErr, IsTrue}
use Rattle.alt_disk.specs.Disk.{DiskState, contents}
use Rattle.alt_cells.specs.Walks.{Gives, IsDamaged, RowList, turned}
use Rattle.alt_cells.specs.declared.source.SourceFault.{SourceFault}
use Rattle.alt_cells.specs.declared.source.SourceFault.TheVariants.{Damaged, Failed, NoMemory}
use Rattle.alt_rowfile.specs.Damage.{IsDamageIn}
use Rattle.alt_rowblocks.specs.Format.{Entry, Mark, rows_of, AreBlocks}
use Rattle.alt_rowblocks.specs.Holding.{IsCutBlock, IsInHand}
use Rattle.alt_rowfile.specs.InHand.{ReadsAsRowFile, block_count, file_of}
use Rattle.alt_rowblocks.specs.Loading.{LoadedAt}
use Rattle.alt_rowfile.specs.Walking.{rows_ahead, walk_left, LeftAs, RowsAreLeft, IsNext, IsEnd, IsUnreadIn, place_behind_block}
use Rattle.alt_rowblocks.specs.declared.hand.Hand.{Hand}
use Rattle.alt_rowfile.specs.declared.rowfile.RowFile.{RowFile}
use Rattle.alt_filter.specs.declared.filter.Filter.{Filter}
use Rattle.alt_rowblocks.specs.declared.summary.Summary.{Summary}
use Rattle.alt_rowfile.specs.declared.walk.RowFileWalk.{RowFileWalk}
use Rattle.alt_rowblocks.proofs.HandLaws.{all_in_hand}
use Rattle.alt_rowblocks.proofs.PlaceLaws.{length-marks, split_at}
use Rattle.alt_rowblocks.proofs.BlockLaws.{no_block}
use Rattle.alt_rowblocks.proofs.BlockRuns.{block_within}
use Rattle.alt_rowblocks.proofs.PushLaws.{rows_of-push}

-- ---- the next block, and none

-- before the next one downwards lies one more
next_down : (at count i : ℕ) → at ≤ count → IsNext false at count i → at ≡ i + 1
next_down at count i within next = omega (arith, next.0, within)

-- at the end downwards none lies before
end_down : (at count : ℕ) → at ≤ count → IsEnd false at count → at ≡ 0
end_down at count within end = omega (arith, end, within)

-- the next block comes in front of the others
ahead_next : (forward : Bool) (blocks : List (List Entry)) (n i : ℕ) → n ≤ length blocks
    → IsNext forward n (length blocks) i → rows_ahead forward n blocks
    ≡ turned forward (get_or blocks i []) ++ rows_ahead forward (place_behind_block forward i) blocks
ahead_next true blocks n i within next =
    ap (λ (k : ℕ). rows_of (drop k blocks)) (sym next.0) ∙ ap rows_of (drop_more blocks i [] next.1)
ahead_next false blocks n i within next =
    let is : n ≡ i + 1 = next_down n (length blocks) i within next in
    ap (λ (k : ℕ). reverse (rows_of (take k blocks))) is
    ∙ ap (λ (l : List (List Entry)). reverse (rows_of l)) (take_more blocks i [] next.1)
    ∙ ap reverse (rows_of-push (take i blocks) (get_or blocks i []))
    ∙ reverse-append (rows_of (take i blocks)) (get_or blocks i [])

-- where there is none, nothing is ahead
ahead_end : (forward : Bool) (blocks : List (List Entry)) (n : ℕ) → n ≤ length blocks
    → IsEnd forward n (length blocks) → rows_ahead forward n blocks ≡ []
ahead_end true blocks n within end = ap rows_of (drop_all n blocks end)
ahead_end false blocks n within end =
    ap (λ (k : ℕ). reverse (rows_of (take k blocks))) (end_down n (length blocks) within end)

-- the place behind one of them lies within
passed_within : (forward : Bool) (at count i : ℕ) → IsNext forward at count i
    → place_behind_block forward i ≤ count
passed_within true at count i next = omega (arith, next.1)
passed_within false at count i next = omega (arith, next.1)

-- the next one is one of them
pub next_within : (forward : Bool) (at count i : ℕ) → IsNext forward at count i → i < count
next_within true at count i next = next.1
next_within false at count i next = next.1

-- ---- what is left

-- a file that reads the same is the same file
abbrev pub reads_at : {summary : Summary} {filters : List Filter} (s t : DiskState) (f : ℕ)
    (marks : List Mark) (end : ℕ) (rows : List Entry)
    → t.file f ≡ s.file f → ReadsAsRowFile s f marks end summary filters rows
    → ReadsAsRowFile t f marks end summary filters rows
reads_at s t f marks end rows same r =
    record { bytes = r.bytes; there = same ∙ r.there; as_file = r.as_file }

-- there are as many marks as blocks
pub count_blocks : {summary : Summary} {filters : List Filter} (s : DiskState) (f : ℕ)
    (marks : List Mark) (end : ℕ) (rows : List Entry)
    (r : ReadsAsRowFile s f marks end summary filters rows) → length marks ≡ length r.as_file.blocks
count_blocks s f marks end rows r = ap length r.as_file.marks_are ∙ length-marks 8 r.as_file.blocks

-- no block is empty
some_block : {summary : Summary} {filters : List Filter} (s : DiskState) (f : ℕ)
    (marks : List Mark) (end : ℕ) (rows : List Entry)
    (r : ReadsAsRowFile s f marks end summary filters rows) (i : ℕ) → i < length marks → get_or
    r.as_file.blocks i [] ≡ []
    → ⊥
some_block s f marks end rows r i less none =
    let p = split_at r.as_file.blocks i (omega (arith, less, count_blocks s f marks end rows r)) in
    no_block p.here
    (block_within p.before p.here p.behind (subst AreBlocks p.is r.as_file.file.cut)) (sym p.at
    ∙ none)

-- a turned list of none has none
none_turned : (forward : Bool) (xs : List Entry) → turned forward xs ≡ [] → xs ≡ []
none_turned true xs none = none
none_turned false xs none = sym (reverse-reverse xs) ∙ ap reverse none

module _ (s : DiskState) (file : RowFile) (forward : Bool) (next : ℕ) (hand : Hand)
    (rows : List Entry) where
  -- a row in hand is given
  pub left_next : (held : List Entry) (given : Entry) → LeftAs s file forward next held rows
      → Gives (IsInHand hand forward) held (Some given)
      → Gives (RowsAreLeft s file forward next hand) rows (Some given)
  left_next [] given l g = absurd g
  left_next (x ∷ held) given l g =
      subst (λ (r : List Entry). Gives (RowsAreLeft s file forward next hand) r (Some given)) (sym l.is) (
        g.0,
        record {
          held = held;
          in_hand = g.1;
          left = record { all = l.all; reads = l.reads; within = l.within; is = refl };
        },
      )

  -- where none is given, none was in hand
  pub left_none : (held : List Entry) → LeftAs s file forward next held rows
      → Gives (IsInHand hand forward) held None
      → IsInHand hand forward [] × LeftAs s file forward next [] rows
  left_none [] l g = (g, l)
  left_none (x ∷ held) l g = absurd g

  -- and where no block is ahead, nothing is left
  pub left_end : IsInHand hand forward [] → LeftAs s file forward next [] rows
      → IsEnd forward next (length file.marks.items)
      → Gives (RowsAreLeft s file forward next hand) rows None
  left_end h l end =
      let size = count_blocks s file.file file.marks.items file.end l.all l.reads in
      let none : rows ≡ [] = l.is
      ∙ ahead_end forward l.reads.as_file.blocks next (omega (arith, l.within, size))
      (subst (λ (n : ℕ). IsEnd forward next n) size end) in
      subst (λ (r : List Entry). Gives (RowsAreLeft s file forward next hand) r None) (sym none) (record {
        held = [];
        in_hand = h;
        left = subst (LeftAs s file forward next []) none l;
      })

-- the next block is in hand, and its first row is given
module _ (s t : DiskState) (file : RowFile) (forward : Bool) (next i : ℕ) (rows : List Entry)
    (l : LeftAs s file forward next [] rows) (same : t.file file.file ≡ s.file file.file)
    (found : IsNext forward next (length file.marks.items) i) where
  -- the block
  abbrev pub block_ahead : List Entry
  block_ahead = get_or l.reads.as_file.blocks i []

  left_then : LeftAs t file forward (place_behind_block forward i) (turned forward block_ahead) rows
  left_then =
      let size = count_blocks s file.file file.marks.items file.end l.all l.reads in
      record {
        all = l.all;
        reads = reads_at s t file.file file.marks.items file.end l.all same l.reads;
        within = passed_within forward next (length file.marks.items) i found;
        is = l.is ∙ ahead_next forward l.reads.as_file.blocks next i
            (omega (arith, l.within, size))
            (subst (λ (n : ℕ). IsNext forward next n i) size found);
      }

  -- its first row is given, since it has one
  pub left_first : (hand : Hand) (o : Option Entry)
      → Gives (IsInHand hand forward) (turned forward block_ahead) o
      → Gives (RowsAreLeft t file forward (place_behind_block forward i) hand) rows o
  left_first hand (Some given) g =
      left_next t file forward (place_behind_block forward i) hand rows (turned forward block_ahead) given
      left_then g
  left_first hand None g =
      absurd (some_block s file.file file.marks.items file.end l.all l.reads i
      (next_within forward next (length file.marks.items) i found)
      (none_turned forward block_ahead (none_in (turned forward block_ahead) g)))
    where
      none_in : (held : List Entry) → Gives (IsInHand hand forward) held None → held ≡ []
      none_in [] g = refl
      none_in (x ∷ held) g = absurd g

-- what a block in hand gives is what the walk gives
module _ (s t : DiskState) (walk new : RowFileWalk) (i : ℕ) (rows : List Entry)
    (l : LeftAs s walk.file.now walk.forward walk.next [] rows)
    (same : t.file walk.file.now.file ≡ s.file walk.file.now.file)
    (found : IsNext walk.forward walk.next (length walk.file.now.marks.items) i) where
  pub walk_gives : (r : Result (Option Entry) SourceFault) → new.file ≡ walk.file
      → new.forward ≡ walk.forward → new.next ≡ place_behind_block walk.forward i
      → IfOk r (Gives (IsInHand new.hand walk.forward)
      (turned walk.forward (get_or l.reads.as_file.blocks i [])))
      → IfOk r (Gives (walk_left t new) rows)
  walk_gives (Err e) file way next g = g
  walk_gives (Ok o) file way next g =
      subst (λ f. Gives (λ (r : RowList). RowsAreLeft t f.now new.forward new.next new.hand r) rows o)
      (sym file)
      (subst (λ (b : Bool). Gives (λ (r : RowList).
      RowsAreLeft t walk.file.now b new.next new.hand r) rows o) (sym way)
      (subst (λ (n : ℕ). Gives (λ (r : RowList).
      RowsAreLeft t walk.file.now walk.forward n new.hand r) rows o) (sym next)
      (left_first s t walk.file.now walk.forward walk.next i rows l same found new.hand o g)))

-- where no row of a block could be read, no block stands there
module _ (s : DiskState) (file : RowFile) (i : ℕ) (forward : Bool) (hand : Hand)
    (less : i < block_count file)
    (cut : IsTrue s.tells → (b : List Entry)
    → LoadedAt (contents s (file_of file)) file.marks.items file.end i b
    → IsCutBlock hand None forward b) where
  pub unread_damage : {V : Type 0} (r : Result V SourceFault)
      → IfErr r (IsUnreadIn file i forward hand) → IfErr r (IsDamageIn s file)
  unread_damage (Ok v) u = u
  unread_damage (Err (Damaged f at)) u = (
    u.0,
    record {
      block = i;
      within = less;
      place = u.1;
      bad = λ told b loaded. u.2 (turned forward b)
          (all_in_hand hand forward b (cut told b loaded) loaded.held.0);
    },
  )
  unread_damage (Err Failed) u = absurd u
  unread_damage (Err NoMemory) u = u

  pub unread_sound : {V : Type 0} (r : Result V SourceFault)
      → IfErr r (IsUnreadIn file i forward hand) → IsTrue s.tells → (b : List Entry)
      → LoadedAt (contents s (file_of file)) file.marks.items file.end i b
      → IfErr r (λ fault. IsDamaged fault → ⊥)
  unread_sound (Ok v) u told b loaded = u
  unread_sound (Err (Damaged f at)) u told b loaded =
      λ damaged. u.2 (turned forward b)
      (all_in_hand hand forward b (cut told b loaded) loaded.held.0)
  unread_sound (Err Failed) u told b loaded = absurd u
  unread_sound (Err NoMemory) u told b loaded = λ damaged. damaged
