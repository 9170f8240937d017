-- A batch of writes that was read ahead: what the machine makes of its body is what it makes of the writes that were read.
use Rattle.std.proofs.Common.{◌≡◌, ◌<◌, refl, sym, ap, ◌∙◌, ℕ, zero, suc, ◌+◌, ◌&&◌, Bool, true, List, [], ◌∷◌, ◌++◌, map, length, drop, get_or, Option, Some, None, Result, Ok, add-one, arith}
use Rattle.std.specs.Prelude.{⊤}
use Rattle.std.specs.FinMap as finite
use Rattle.std.specs.List.{list_all}
use Rattle.std.proofs.lemmas.List.{length-append, length-map}
use Rattle.std.proofs.Math.Bool.{and-true}
use Rattle.serde_json.specs.Data.{Data, Items, no_items, item, Members, no_members, member}
use Rattle.serde_json.specs.Find.{as_object}
use Rattle.alt_machine.specs.declared.BatchMember.{BatchMember}
use Rattle.alt_machine.specs.declared.PlacedMember.{PlacedMember}
use Rattle.alt_machine.specs.declared.Sought.TheVariants.{Item, Key}
use Rattle.alt_machine.specs.declared.TheConstants.{MOST_WRITES}
use Rattle.alt_machine.specs.Body.{of_shape}
use Rattle.alt_machine.specs.Batches as machine
use Rattle.alt_machine.specs.Batches.{each_found, array_elements, elements_in, has_repeat, is_sized, of_each, pairs_in, pairs_of, placed, tables_asked}
use Rattle.alt_machine.specs.Members.{unless_fault}
use Rattle.alt_machine.specs.Ops.BatchWriteItem.{are_writes, is_one, of_body, of_members, read_write, requested_writes, writes_asked}
use Rattle.alt_machine.specs.Refusals.{first_answer, refuse_if, refuse_unless, unless_answer, ◌>>=◌}
use Rattle.alt_machine.specs.State.{Texts}
use Rattle.alt_ops_batch.specs.private.Ahead.{member_of_write, members_of, missing_table_refusals, writes_ahead}
use Rattle.alt_readahead.specs.Batch.{IsBatchAhead, SaysWrite, SayWrites, SayTables}
use Rattle.alt_readahead.specs.declared.batch.TableWrites.{TableWrites}
use Rattle.alt_readahead.specs.declared.batch.Write.{Write}
use Rattle.alt_readahead.specs.declared.batch.Write.TheVariants.{Put, Delete}
use Rattle.alt_schema.specs.Rules.{is_name}
use Rattle.alt_schema.specs.declared.schema.TableSchema.{TableSchema}
use Rattle.alt_shape.specs.Bodies as bodies
use Rattle.alt_shape.specs.Bodies.{write_request}
use Rattle.alt_shape.specs.BodyParts.{array_fault, in_items, in_members, object_fault}
use Rattle.alt_shape.specs.Refusals.{Answer, not_found, bad_batch, bad_name}
use Rattle.alt_shape.specs.Shape.{or_next_fault}

-- ---- from a table on

-- there are as many writes as in the table there and in those behind it
members_from_suc : (ts : List TableWrites) (i : ℕ) (t : TableWrites) → i < length ts
    → length (members_of (drop i ts))
    ≡ length (get_or ts i t).writes.items + length (members_of (drop (suc i) ts))
members_from_suc [] i t h = absurd (omega arith)
members_from_suc (u ∷ ts) zero t h =
    length-append (map (member_of_write u.table) u.writes.items) (members_of ts)
    ∙ ap (λ n. n + length (members_of ts)) (length-map u.writes.items (member_of_write u.table))
members_from_suc (u ∷ ts) (suc i) t h = members_from_suc ts i t (omega arith)

-- the same, with the next place counted by + 1
pub members_from : (ts : List TableWrites) (i : ℕ) (t : TableWrites) → i < length ts
    → length (members_of (drop i ts))
    ≡ length (get_or ts i t).writes.items + length (members_of (drop (i + 1) ts))
members_from ts i t h = rw add-one (members_from_suc ts i t h)

module _ (catalog : Texts TableSchema) where
  -- the table is there
  abbrev is_there : TableWrites → Bool
  is_there t = finite.contains_key catalog t.table

  known_from_suc : (ts : List TableWrites) (i : ℕ) (t : TableWrites) → i < length ts
      → list_all is_there (drop i ts)
      ≡ (is_there (get_or ts i t) && list_all is_there (drop (suc i) ts))
  known_from_suc [] i t h = absurd (omega arith)
  known_from_suc (u ∷ ts) zero t h = refl
  known_from_suc (u ∷ ts) (suc i) t h = known_from_suc ts i t (omega arith)

  -- all tables are there where that one is and those behind it are
  pub known_from : (ts : List TableWrites) (i : ℕ) (t : TableWrites) → i < length ts
      → list_all (λ (u : TableWrites). finite.contains_key catalog u.table) (drop i ts)
      ≡ (finite.contains_key catalog (get_or ts i t).table
      && list_all (λ (u : TableWrites). finite.contains_key catalog u.table) (drop (i + 1) ts))
  known_from ts i t h = rw add-one (known_from_suc ts i t h)

-- ---- what each write comes to

-- each request is one write, and is read as the member at its place
abbrev AreRead : List (List ℕ × Data) → List BatchMember → Type 0
AreRead [] [] = ⊤
AreRead [] (m ∷ ms) = ⊥
AreRead (r ∷ rs) [] = ⊥
AreRead (r ∷ rs) (m ∷ ms) = (read_write r ≡ Ok m) × (is_one r.1 ≡ true) × AreRead rs ms

read_both : (rs ss : List (List ℕ × Data)) (ms ns : List BatchMember) → AreRead rs ms
    → AreRead ss ns → AreRead (rs ++ ss) (ms ++ ns)
read_both [] ss [] ns h k = k
read_both [] ss (m ∷ ms) ns h k = absurd h
read_both (r ∷ rs) ss [] ns h k = absurd h
read_both (r ∷ rs) ss (m ∷ ms) ns h k = (h.0, h.1, read_both rs ss ms ns h.2 k)

read_found : (rs : List (List ℕ × Data)) (ms : List BatchMember) → AreRead rs ms
    → each_found read_write rs ≡ Ok ms
read_found [] [] h = refl
read_found [] (m ∷ ms) h = absurd h
read_found (r ∷ rs) [] h = absurd h
read_found (r ∷ rs) (m ∷ ms) h =
    ap (λ q. q >>= (λ y. each_found read_write rs >>= (λ ys. Ok (y ∷ ys)))) h.0
    ∙ ap (λ q. q >>= (λ ys. Ok (m ∷ ys))) (read_found rs ms h.2)

read_count : (rs : List (List ℕ × Data)) (ms : List BatchMember) → AreRead rs ms
    → length rs ≡ length ms
read_count [] [] h = refl
read_count [] (m ∷ ms) h = absurd h
read_count (r ∷ rs) [] h = absurd h
read_count (r ∷ rs) (m ∷ ms) h = ap suc (read_count rs ms h.2)

read_one : (rs : List (List ℕ × Data)) (ms : List BatchMember) → AreRead rs ms
    → list_all (λ r. is_one r.1) rs ≡ true
read_one [] [] h = refl
read_one [] (m ∷ ms) h = absurd h
read_one (r ∷ rs) [] h = absurd h
read_one (r ∷ rs) (m ∷ ms) h =
    ap (λ b. b && list_all (λ q. is_one q.1) rs) h.1 ∙ read_one rs ms h.2

-- a write is read as its member
write_read : (table : List ℕ) (d : Data) (w : Write) → SaysWrite d w
    → (read_write (table, d) ≡ Ok (member_of_write table w)) × (is_one d ≡ true)
write_read table d (Put i) h = (
  ap (λ e. read_write (table, e)) h.1
      ∙ ap (λ r. unless_fault r
      >>= (λ x. Ok (record { table = table; sought = Item; item = x }))) h.2,
  ap is_one h.1,
)
write_read table d (Delete i) h = (
  ap (λ e. read_write (table, e)) h.1
      ∙ ap (λ r. unless_fault r
      >>= (λ x. Ok (record { table = table; sought = Key; item = x }))) h.2,
  ap is_one h.1,
)

-- so are those of a table
writes_read : (table : List ℕ) (ds : Items) (ws : List Write) → SayWrites ds ws
    → AreRead (map (λ d. (table, d)) (array_elements ds)) (map (member_of_write table) ws)
writes_read table no_items [] h = tt
writes_read table no_items (w ∷ ws) h = absurd h
writes_read table (item d ds) [] h = absurd h
writes_read table (item d ds) (w ∷ ws) h =
    let one = write_read table d w h.0 in (one.0, one.1, writes_read table ds ws h.1)

-- and those of all tables
tables_read : (ms : Members) (ts : List TableWrites) → SayTables ms ts
    → AreRead (of_each elements_in (pairs_in ms)) (members_of ts)
tables_read no_members [] h = tt
tables_read no_members (t ∷ ts) h = absurd h
tables_read (member name d ms) [] h = absurd h
tables_read (member name d ms) (t ∷ ts) h =
    let one : AreRead (map (λ e. (name, e)) (elements_in d))
    (map (member_of_write t.table) t.writes.items) =
    rw (h.0.array, h.0.named) (writes_read name h.0.elements t.writes.items h.0.writes) in
    read_both (map (λ e. (name, e)) (elements_in d)) (of_each elements_in (pairs_in ms))
    (map (member_of_write t.table) t.writes.items) (members_of ts) one (tables_read ms ts h.1)

-- ---- what the body and the names of the tables come to

-- the writes of a table break no rule
writes_unbroken : (ds : Items) (ws : List Write) → SayWrites ds ws
    → in_items (object_fault write_request) ds ≡ None
writes_unbroken no_items [] h = refl
writes_unbroken no_items (w ∷ ws) h = absurd h
writes_unbroken (item d ds) [] h = absurd h
writes_unbroken (item d ds) (Put i ∷ ws) h =
    ap (λ e. or_next_fault (object_fault write_request e) (in_items (object_fault write_request) ds)) h.0.1
    ∙ writes_unbroken ds ws h.1
writes_unbroken (item d ds) (Delete k ∷ ws) h =
    ap (λ e. or_next_fault (object_fault write_request e) (in_items (object_fault write_request) ds)) h.0.1
    ∙ writes_unbroken ds ws h.1

-- nor does a table
tables_unbroken : (ms : Members) (ts : List TableWrites) → SayTables ms ts
    → in_members (array_fault (in_items (object_fault write_request))) ms ≡ None
tables_unbroken no_members [] h = refl
tables_unbroken no_members (t ∷ ts) h = absurd h
tables_unbroken (member name d ms) [] h = absurd h
tables_unbroken (member name d ms) (t ∷ ts) h =
    let inside = array_fault (in_items (object_fault write_request)) in
    ap (λ e. or_next_fault (inside e) (in_members inside ms)) h.0.array
    ∙ ap (λ o. or_next_fault o (in_members inside ms))
    (writes_unbroken h.0.elements t.writes.items h.0.writes)
    ∙ tables_unbroken ms ts h.1

-- the tables have their names
all_named : (p : List ℕ → Bool) (ms : Members) (ts : List TableWrites) → SayTables ms ts
    → list_all (λ q. p q.0) (pairs_in ms) ≡ list_all (λ (t : TableWrites). p t.table) ts
all_named p no_members [] h = refl
all_named p no_members (t ∷ ts) h = absurd h
all_named p (member name d ms) [] h = absurd h
all_named p (member name d ms) (t ∷ ts) h =
    ap (λ n. p n && list_all (λ q. p q.0) (pairs_in ms)) (sym h.0.named)
    ∙ ap (λ b. p t.table && b) (all_named p ms ts h.1)

-- ---- the whole

module _ (catalog : Texts TableSchema) (ms : Members) (ts : List TableWrites)
    (ahead : IsBatchAhead ms ts) where
  tables_are : tables_asked ms ≡ pairs_in ahead.tables
  tables_are = ap (λ (o : Option Data). pairs_of (as_object_in o)) ahead.given
    where
      as_object_in : Option Data → Option Members
      as_object_in None = None
      as_object_in (Some d) = as_object d

  requests_are : requested_writes ms ≡ of_each elements_in (pairs_in ahead.tables)
  requests_are = ap (of_each elements_in) tables_are

  reads : AreRead (requested_writes ms) (members_of ts)
  reads = rw requests_are (tables_read ahead.tables ts ahead.say)

  unbroken : bodies.batch_write_item ms ≡ None
  unfolding bodies.batch_write_item
  unbroken =
      rw ahead.given (ap (λ o. or_next_fault o None) (tables_unbroken ahead.tables ts ahead.say))

  -- the body alone is refused for the number of its writes, and for the names of its tables
  body_refused : of_body ms ≡ (None ∷ None ∷
      refuse_unless (is_sized MOST_WRITES (length (members_of ts))) bad_batch ∷
      refuse_unless (list_all (λ (t : TableWrites). is_name t.table) ts) bad_name ∷ [])
  body_refused =
      let good : are_writes (requested_writes ms) ≡ is_sized MOST_WRITES (length (members_of ts)) =
      (λ i. is_sized MOST_WRITES (read_count (requested_writes ms) (members_of ts) reads i)
      && read_one (requested_writes ms) (members_of ts) reads i)
      ∙ and-true (is_sized MOST_WRITES (length (members_of ts))) in
      let named = ap (list_all (λ q. is_name q.0)) tables_are
      ∙ all_named is_name ahead.tables ts ahead.say in
      λ i. of_shape (unbroken i) ∷ None ∷ refuse_unless (good i) bad_batch ∷
      refuse_unless (named i) bad_name ∷ []

  -- each table is there where those of the writes are
  catalog_same : machine.of_catalog catalog (tables_asked ms) ≡ missing_table_refusals catalog ts
  catalog_same = ap (λ b. refuse_unless b not_found ∷ [])
      (ap (list_all (λ q. finite.contains_key catalog q.0)) tables_are
      ∙ all_named (finite.contains_key catalog) ahead.tables ts ahead.say)

  found : each_found read_write (requested_writes ms) ≡ Ok (members_of ts)
  found = read_found (requested_writes ms) (members_of ts) reads

-- the tables may be tested before the writes are read, where nothing refuses those
tested_first : (x y z : Option Answer) (rs : List (List ℕ × Data)) (read : List BatchMember)
    (rest : List BatchMember → Result (List PlacedMember) Answer)
    → each_found read_write rs ≡ Ok read
    → (unless_answer (first_answer (None ∷ None ∷ x ∷ y ∷ [])) rs >>= (λ qs.
    each_found read_write qs >>= (λ r. unless_answer (first_answer (z ∷ [])) r >>= rest)))
    ≡ (unless_answer (first_answer (x ∷ y ∷ z ∷ [])) read >>= rest)
tested_first (Some a) y z rs read rest e = refl
tested_first None (Some a) z rs read rest e = refl
tested_first None None z rs read rest e =
    ap (λ q. q >>= (λ r. unless_answer (first_answer (z ∷ [])) r >>= rest)) e

-- what is asked for is what was read ahead
pub asked_ahead : (catalog : Texts TableSchema) (ms : Members) (ts : List TableWrites)
    → IsBatchAhead ms ts → writes_asked catalog ms ≡ writes_ahead catalog ts
unfolding writes_asked writes_ahead
asked_ahead catalog ms ts ahead =
    let rest : List BatchMember → Result (List PlacedMember) Answer =
    λ known. each_found (placed catalog) known >>= (λ there. unless_answer
    (first_answer (refuse_if (has_repeat there) bad_batch ∷ of_members catalog there)) there) in
    (λ i. unless_answer (first_answer (body_refused catalog ms ts ahead i)) (requested_writes ms)
    >>= (λ rs. each_found read_write rs >>= (λ read. unless_answer
    (first_answer (catalog_same catalog ms ts ahead i)) read >>= rest)))
    ∙ tested_first (refuse_unless (is_sized MOST_WRITES (length (members_of ts))) bad_batch)
    (refuse_unless (list_all (λ (t : TableWrites). is_name t.table) ts) bad_name)
    (refuse_unless (list_all (λ (t : TableWrites). finite.contains_key catalog t.table) ts)
    not_found) (requested_writes ms) (members_of ts) rest (found catalog ms ts ahead)
