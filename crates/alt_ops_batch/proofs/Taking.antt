-- Keys that are read, one after another, and tables one after another.
use Rattle.std.proofs.Common.{◌≡◌, refl, sym, ap, ◌∙◌, ℕ, ◌+◌, Bool, true, false, cond, List, [], ◌∷◌, ◌++◌, map, length, drop, append_assoc, append-nil, arith}
use Rattle.std.specs.Prelude.{fold, sum_by, All, nat_le}
use Rattle.std.specs.List.{filter_map}
use Rattle.std.proofs.lemmas.List.{map-append}
use Rattle.std.proofs.lemmas.List.Elements.{All-tail, filter_map-append}
use Rattle.std.proofs.lemmas.List.Sums.{sum_by-append}
use Rattle.serde_json.specs.Data.{Members, no_members, array, item, put}
use Rattle.serde_json.specs.View.{view, items_of, members_view}
use Rattle.alt_codec.specs.Writing.{json_of_pairs}
use Rattle.alt_disk.specs.Disk.{DiskState}
use Rattle.alt_machine.specs.declared.PlacedMember.{PlacedMember}
use Rattle.alt_machine.specs.declared.TheConstants.{BATCH_BYTES}
use Rattle.alt_shape.specs.Body.{items_json}
use Rattle.alt_machine.specs.Ops.BatchGetItem.{KeyReads as Asked, Shown, found_at, keys_object, size_at, read_of, with_left, with_reads, nothing_read}
use Rattle.alt_machine.specs.Ops.GetItem.{parts}
use Rattle.alt_machine.specs.State.{State}
use Rattle.alt_ops_batch.specs.private.Readings.{AreAllKnown, KeyTablesAreThere, IsBounded, IsPlainRead, IsPlainTaken, ItemsAreTaken, TakesItems, unprocessed_key_json, name_left, read_so, responses_of}
use Rattle.alt_ops_batch.specs.declared.reading.Read.{Read}
use Rattle.alt_ops_batch.specs.declared.reading.Taken.{Taken}
use Rattle.alt_ops_batch.specs.private.Batches.{HasPlainNames, reads_of}
use Rattle.alt_ops_batch.specs.declared.asked_reads.TableReads.{TableReads}
use Rattle.alt_shape.specs.declared.body.TableItems.{TableItems}
use Rattle.alt_request.specs.TablesLooking.{OnlyReads}
use Rattle.alt_request.specs.TablesStands.{Stands, catalog_of}
use Rattle.alt_request.specs.TablesDeclaredTables.{Tables}
use Rattle.alt_request.proofs.TablesLooking.{only_then}
use Rattle.alt_value.specs.Tree.{Pair}

-- items as JSON, by each of them
pub json_of_each : {A : Type 0} (of : A → List Pair) (xs : List A)
    → items_json (map of xs) ≡ items_of (map (λ x. json_of_pairs (of x)) xs)
json_of_each of [] = refl
json_of_each of (x ∷ xs) = ap (λ ds. item (json_of_pairs (of x)) ds) (json_of_each of xs)

-- ---- the keys of a table

-- behind the item at which the sizes reach 16 MB nothing is read
none_read : (s : State) (size : ℕ) (ks : List PlacedMember) → nat_le BATCH_BYTES size ≡ true
    → read_of s size ks ≡ []
none_read s size [] e = refl
none_read s size (k ∷ ks) e = ap (λ (b : Bool). cond b []
    (k ∷ read_of s (size + size_at s k) ks)) e

-- before that a key is read
one_read : (s : State) (size : ℕ) (k : PlacedMember) (ks : List PlacedMember)
    → nat_le BATCH_BYTES size ≡ false
    → read_of s size (k ∷ ks) ≡ k ∷ read_of s (size + size_at s k) ks
one_read s size k ks e = ap (λ (b : Bool). cond b [] (k ∷ read_of s (size + size_at s k) ks)) e

-- a key and those behind it
record Parts (s : State) (size : ℕ) (k : PlacedMember) (after : ℕ) (rest : List PlacedMember)
    : Type 0 where
  read : read_of s size (k ∷ rest) ≡ read_of s size (k ∷ []) ++ read_of s after rest
  left : drop (length (read_of s size (k ∷ rest))) (k ∷ rest)
      ≡ drop (length (read_of s size (k ∷ []))) (k ∷ [])
      ++ drop (length (read_of s after rest)) rest

-- what is read of a key and of those behind it is what is read of that and then of those, and so with what is left
parts_so : (s : State) (size : ℕ) (k : PlacedMember) (after : ℕ) (rest : List PlacedMember)
    → after ≡ size + sum_by (size_at s) (read_of s size (k ∷ [])) → Parts s size k after rest
parts_so s size k after rest e = by (nat_le BATCH_BYTES size) refl
  where
    by : (b : Bool) → nat_le BATCH_BYTES size ≡ b → Parts s size k after rest
    by true full =
        let none : read_of s size (k ∷ []) ≡ [] = none_read s size (k ∷ []) full in
        let same : after ≡ size = e ∙ ap (λ ks. size + sum_by (size_at s) ks) none
        ∙ (omega arith) in
        let others : read_of s after rest ≡ [] = ap (λ n. read_of s n rest) same
        ∙ none_read s size rest full in
        record {
          read = none_read s size (k ∷ rest) full ∙ sym (λ i. none i ++ others i);
          left = ap (λ (ks : List PlacedMember). drop (length ks) (k ∷ rest))
              (none_read s size (k ∷ rest) full)
              ∙ sym (λ i. drop (length (none i)) (k ∷ []) ++ drop (length (others i)) rest);
        }
    by false under =
        let one : read_of s size (k ∷ []) ≡ k ∷ [] = one_read s size k [] under in
        let same : after ≡ size + size_at s k = e ∙ ap (λ ks. size + sum_by (size_at s) ks) one
        ∙ (omega arith) in
        let all : read_of s size (k ∷ rest) ≡ k ∷ read_of s after rest =
        one_read s size k rest under
        ∙ ap (λ n. k ∷ read_of s n rest) (sym same) in
        record {
          read = all ∙ sym (ap (λ ks. ks ++ read_of s after rest) one);
          left = ap (λ (ks : List PlacedMember). drop (length ks) (k ∷ rest)) all
              ∙ sym (ap (λ (ks : List PlacedMember). drop (length ks) (k ∷ [])
              ++ drop (length (read_of s after rest)) rest) one);
        }

-- What is taken so far and what is read of the keys that are left is what is read of all.
pub record SoFar (s : State) (paths : Shown) (before : ℕ) (keys : List PlacedMember) (taken : Taken)
    (now : ℕ) (rest : List PlacedMember) : Type 0 where
  pub items : taken.items.items
      ++ map (parts paths) (filter_map (found_at s) (read_of s now rest))
      ≡ map (parts paths) (filter_map (found_at s) (read_of s before keys))
  pub left : map view taken.left.items ++ map unprocessed_key_json (drop (length (read_of s now rest)) rest)
      ≡ map unprocessed_key_json (drop (length (read_of s before keys)) keys)
  pub size : now + sum_by (size_at s) (read_of s now rest)
      ≡ before + sum_by (size_at s) (read_of s before keys)

module _ (s : State) (paths : Shown) (before : ℕ) (keys : List PlacedMember) where
  -- so it is with one key more that is taken
  so_more : (old new : Taken) (size after : ℕ) (k : PlacedMember) (rest : List PlacedMember)
      → SoFar s paths before keys old size (k ∷ rest) → TakesItems s paths size (k ∷ []) old new after
      → SoFar s paths before keys new after rest
  so_more old new size after k rest so takes =
      let shown : List PlacedMember → List _ =
      λ ks. map (parts paths) (filter_map (found_at s) ks) in
      let one : List PlacedMember = read_of s size (k ∷ []) in
      let others : List PlacedMember = read_of s after rest in
      let both = parts_so s size k after rest takes.size in
      record {
        items = ap (λ ds. ds ++ shown others) takes.items
            ∙ append_assoc old.items.items (shown one) (shown others)
            ∙ ap (λ ds. old.items.items ++ ds)
            (sym (ap shown both.read
            ∙ ap (map (parts paths)) (filter_map-append (found_at s) one others)
            ∙ map-append (parts paths) (filter_map (found_at s) one)
            (filter_map (found_at s) others)))
            ∙ so.items;
        left = ap (λ ds. ds ++ map unprocessed_key_json (drop (length others) rest)) takes.left
            ∙ append_assoc (map view old.left.items) (map unprocessed_key_json (drop (length one) (k ∷ [])))
            (map unprocessed_key_json (drop (length others) rest))
            ∙ ap (λ ds. map view old.left.items ++ ds)
            (sym (ap (map unprocessed_key_json) both.left
            ∙ map-append unprocessed_key_json (drop (length one) (k ∷ [])) (drop (length others) rest)))
            ∙ so.left;
        size = omega (
          arith,
          takes.size,
          so.size,
          ap (sum_by (size_at s)) both.read,
          sum_by-append (size_at s) one others,
        );
      }

-- where none is left all are taken
pub all_taken : (s : State) (paths : Shown) (before : ℕ) (keys : List PlacedMember) (taken : Taken)
    (now : ℕ) → SoFar s paths before keys taken now [] → ItemsAreTaken s paths before keys taken now
all_taken s paths before keys taken now so = record {
  items = sym (append-nil taken.items.items) ∙ so.items;
  left = sym (append-nil (map view taken.left.items)) ∙ so.left;
  size = sym (nothing now) ∙ so.size;
}
  where
    nothing : (n : ℕ) → n + 0 ≡ n
    nothing n = omega arith

-- So it is for each state for which the tables stand, and the keys that are left may be read.
pub record AreTaken (before : DiskState) (old : Tables) (after : DiskState) (now : Tables)
    (paths : Shown) (first : ℕ) (keys : List PlacedMember) (taken : Taken) (size : ℕ)
    (rest : List PlacedMember) : Type 0 where
  pub only : OnlyReads before after old now
  pub known : KeyTablesAreThere (catalog_of old) rest
  pub bounded : IsBounded size
  pub plain : IsPlainTaken taken
  pub so : (s : State) → Stands before old s → SoFar s paths first keys taken size rest

module _ (before mid after : DiskState) (old now new : Tables) where
  -- one key more is taken
  pub taken_more : (paths : Shown) (first : ℕ) (keys : List PlacedMember) (taken more : Taken)
      (size next : ℕ) (k : PlacedMember) (rest : List PlacedMember)
      → AreTaken before old mid now paths first keys taken size (k ∷ rest)
      → OnlyReads mid after now new → IsBounded next → IsPlainTaken more
      → ((s : State) → Stands mid now s → TakesItems s paths size (k ∷ []) taken more next)
      → AreTaken before old after new paths first keys more next rest
  taken_more paths first keys taken more size next k rest so only bounded plain takes = record {
    only = only_then so.only only;
    known = so.known.1;
    bounded = bounded;
    plain = plain;
    so = λ s stands. so_more s paths first keys taken more size next k rest (so.so s stands)
        (takes s ((so.only.stays s).0 stands));
  }

-- ---- the tables

-- what is left of keys is asked for again
left_named : (r : Asked Shown PlacedMember) (ks : List PlacedMember) (ms : Members)
    → name_left r.table r.body (map unprocessed_key_json ks) ms ≡ with_left r ks ms
left_named r [] ms = refl
left_named r (k ∷ ks) ms = ap (λ ds. put r.table (keys_object r.body (array ds)) ms)
    (sym (json_of_each (λ (x : PlacedMember). x.item) (k ∷ ks)))

-- one table more is put behind those before
responses_push : (ms : Members) (ts : List TableItems) (t : TableItems)
    → responses_of ms (ts ++ t ∷ [])
    ≡ put t.table (array (items_json t.items.items)) (responses_of ms ts)
responses_push ms [] t = refl
responses_push ms (u ∷ ts) t =
    responses_push (put u.table (array (items_json u.items.items)) ms) ts t

-- what is taken of a table is read of it
pub table_read : (s : State) (old new : Read) (r : TableReads) (taken : Taken) (t : TableItems)
    → ItemsAreTaken s r.projection old.size r.keys.items taken new.size
    → t.table ≡ r.table → t.items.items ≡ taken.items.items
    → new.responses.items ≡ old.responses.items ++ t ∷ []
    → members_view new.unprocessed.entries
    ≡ name_left r.table (members_view r.body.now.entries) (map view taken.left.items)
    (members_view old.unprocessed.entries)
    → read_so new ≡ with_reads s (read_so old) (reads_of r)
table_read s old new r taken t is named holds responses unprocessed =
    let read : List PlacedMember = read_of s old.size r.keys.items in
    let before : Members = responses_of no_members old.responses.items in
    let shown = ap (responses_of no_members) responses
    ∙ responses_push no_members old.responses.items t
    ∙ ap (λ name. put name (array (items_json t.items.items)) before) named
    ∙ ap (λ items. put r.table (array (items_json items)) before) (holds ∙ is.items) in
    let left = unprocessed
    ∙ ap (λ ds. name_left r.table (members_view r.body.now.entries) ds
    (members_view old.unprocessed.entries)) is.left
    ∙ left_named (reads_of r) (drop (length read) r.keys.items)
    (members_view old.unprocessed.entries) in
    λ i. record { size = is.size i; responses = shown i; unprocessed = left i }

-- What is read so far and of the tables that are left is what is read of all.
pub record AreRead (before : DiskState) (old : Tables) (after : DiskState) (now : Tables)
    (asked : List TableReads) (read : Read) (rest : List TableReads) : Type 0 where
  pub only : OnlyReads before after old now
  pub known : AreAllKnown (catalog_of old) rest
  pub names : All HasPlainNames rest
  pub plain : IsPlainRead read
  pub bounded : IsBounded read.size
  pub so : (s : State) → Stands before old s
      → fold (with_reads s) nothing_read (map reads_of asked)
      ≡ fold (with_reads s) (read_so read) (map reads_of rest)

module _ (before mid after : DiskState) (old now new : Tables) where
  -- one table more is read
  pub read_more : (asked : List TableReads) (read more : Read) (r : TableReads)
      (rest : List TableReads) → AreRead before old mid now asked read (r ∷ rest)
      → OnlyReads mid after now new → IsBounded more.size → IsPlainRead more
      → ((s : State) → Stands mid now s → read_so more ≡ with_reads s (read_so read) (reads_of r))
      → AreRead before old after new asked more rest
  read_more asked read more r rest so only bounded plain is = record {
    only = only_then so.only only;
    known = so.known.1;
    names = All-tail HasPlainNames r rest so.names;
    plain = plain;
    bounded = bounded;
    so = λ s stands. so.so s stands ∙ ap (λ x. fold (with_reads s) x (map reads_of rest))
        (sym (is s ((so.only.stays s).0 stands)));
  }
