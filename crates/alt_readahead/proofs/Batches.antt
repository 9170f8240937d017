-- The parts of a batch of writes, a turn at a time.
use Rattle.std.proofs.Common.{◌≡◌, refl, sym, ap, ◌∙◌, ℕ, zero, suc, ◌+◌, ◌-◌, ◌<◌, ◌≤◌, List, [], ◌∷◌, ◌++◌, length, drop, get_or, Option, Some, None, option_map, Ordering, Less, Equal, Greater, nat_cmp, Vec, Global, add-one, arith}
use Rattle.std.specs.Prelude.{◌≢◌, codes}
use Rattle.std.specs.Cmp.Lexicographic.{slice_cmp}
use Rattle.std.specs.List.{insert}
use Rattle.std.specs.Ordering.{match_ordering}
use Rattle.json.specs.Json.{parse_map, after_end_array, read_key, items, members, value}
use Rattle.json.specs.Token.{Token}
use Rattle.json.proofs.Grammar.{read_key-shorter}
use Rattle.serde_json.specs.Data.{Data, array, object, Items, no_items, item, Members, no_members, member, put}
use Rattle.serde_json.specs.Read.{of_json, of_items, of_members, converted}
use Rattle.alt_named.proofs.Converted.{item_read, items_over, none_before, member_read, members_over}
use Rattle.alt_readahead.specs.Batch.{IsBatchAhead, SaysWrite, SayWrites, SaysTable, SayTables, alone}
use Rattle.alt_readahead.specs.Batches.{IsBatchSoFar, IsTablePut, ReadsWrites, ReadsTables, place_among}
use Rattle.alt_readahead.specs.declared.batch.TableWrites.{TableWrites}
use Rattle.alt_readahead.specs.declared.batch.Write.{Write}
use Rattle.alt_shape.specs.Shape.{given}
use Rattle.alt_readahead.proofs.Loops.{joined, joined_none, one_more}
use Rattle.alt_readahead.proofs.Payloads.{reads_array, reads_object, value_shorter}
use Rattle.alt_readahead.proofs.SoFar.{given-put, given-put_other}

-- ---- an object with one member

-- a brace, a name, its value and a brace
pub reads_alone : (depth : ℕ) (before s1 s2 s3 after : List Token) (name : List ℕ) (d : Data)
    → 0 < depth → before ≡ Token.begin_object ∷ s1 → s1 ≡ Token.key name ∷ s2
    → converted of_json (value (depth - 1) s2) ≡ Some (d, s3) → s3 ≡ Token.end_object ∷ after
    → converted of_json (value depth before) ≡ Some (alone name d, after)
reads_alone depth before s1 s2 s3 after name d deep opened named r closed =
    let p = value (depth - 1) in
    let less = value_shorter (depth - 1) s2 s3 d r in
    let long : length s1 ≡ suc (length s2) = ap length named in
    let key : read_key s1 ≡ Some (Some name, s2) = ap read_key named in
    let over : read_key s3 ≡ Some (None, after) = ap read_key closed in
    let turn = member_read p no_members (length s1) name s1 s2 s3 d (omega arith) key r in
    let ms = member name d no_members in
    let rest = members_over p ms (length s1 - 1) s3 after (omega arith) over in
    reads_object depth before s1 after ms deep opened (turn ∙ rest)

-- ---- the writes of a table

-- one of them more
one_said : (ds : Items) (ws : List Write) (d : Data) (w : Write) → SayWrites ds ws → SaysWrite d w
    → SayWrites (joined ds (item d no_items)) (ws ++ w ∷ [])
one_said no_items [] d w h e = (e, tt)
one_said no_items (v ∷ ws) d w h e = absurd h
one_said (item c ds) [] d w h e = absurd h
one_said (item c ds) (v ∷ ws) d w h e = (h.0, one_said ds ws d w h.1 e)

module _ (depth : ℕ) (first : List Token) where
  -- of the elements of an array these were read, and those tokens come behind them
  abbrev pub WritesSoFar : List Token → List Write → Type 0
  WritesSoFar now ws = (n : ℕ) × (ds : Items) × (length now ≤ n)
      × (converted of_items (items (value depth) (length first) first)
      ≡ parse_map (joined ds) (converted of_items (items (value depth) n now)))
      × SayWrites ds ws

  -- none yet
  pub writes_begin : (ws : List Write) → ws ≡ [] → WritesSoFar first ws
  writes_begin ws none = rw none (length first, no_items, omega arith, none_before _, tt)

  -- one more
  pub writes_turn : (now same next : List Token) (ws vs : List Write) (w : Write) (d : Data)
      → WritesSoFar now ws → after_end_array now ≡ None → same ≡ now
      → converted of_json (value depth same) ≡ Some (d, next) → SaysWrite d w → vs ≡ ws ++ w ∷ []
      → WritesSoFar next vs
  writes_turn now same next ws vs w d s going is r said more =
      let here : converted of_json (value depth now) ≡ Some (d, next) = rw (← is) r in
      let less = value_shorter depth now next d here in
      let enough = s.2 in
      let turn = item_read (value depth) s.0 now next d (omega arith) going here in
      rw more (
        s.0 - 1,
        joined s.1 (item d no_items),
        omega arith,
        s.3 ∙ ap (parse_map (joined s.1)) turn ∙ one_more s.1 d _,
        one_said s.1 ws d w s.4 said,
      )

  -- all of them
  pub writes_end : (now after : List Token) (ws : List Write) → WritesSoFar now ws
      → after_end_array now ≡ Some after → ReadsWrites depth first ws after
  writes_end now after ws s e = (
    s.1,
    s.3 ∙ ap (parse_map (joined s.1)) (items_over (value depth) s.0 now after s.2 e)
        ∙ ap (λ ds. Some (ds, after)) (joined_none s.1),
    s.4,
  )

-- ---- the tables of a batch

-- from a table on
place_from_suc : (name : List ℕ) (ts : List TableWrites) (i : ℕ) (t : TableWrites) → i < length ts
    → place_among name (drop i ts)
    ≡ match_ordering (slice_cmp nat_cmp name (get_or ts i t).table) (Some 0) None
    (option_map suc (place_among name (drop (suc i) ts)))
place_from_suc name [] i t h = absurd (omega arith)
place_from_suc name (u ∷ ts) zero t h = refl
place_from_suc name (u ∷ ts) (suc i) t h = place_from_suc name ts i t (omega arith)

-- the same, with the next place counted by + 1
pub place_from : (name : List ℕ) (ts : List TableWrites) (i : ℕ) (t : TableWrites) → i < length ts
    → place_among name (drop i ts)
    ≡ match_ordering (slice_cmp nat_cmp name (get_or ts i t).table) (Some 0) None
    (option_map suc (place_among name (drop (i + 1) ts)))
place_from name ts i t h = rw add-one (place_from_suc name ts i t h)

-- a place behind so many others
abbrev pub place_behind : ℕ → Option ℕ → Option ℕ
place_behind n None = None
place_behind n (Some i) = Some (n + i)

-- a table that is put at its place is what its member says
pub table_put : (t : TableWrites) (ts : List TableWrites) (at : ℕ) (ms : Members) (name : List ℕ)
    (d : Data) → place_among t.table ts ≡ Some at → SayTables ms ts → SaysTable name d t
    → SayTables (put name d ms) (insert ts at t)
table_put t [] at no_members name d e h says =
    let first : at ≡ 0 = cc in rw first (says, tt)
table_put t [] at (member l c ms) name d e h says = absurd h
table_put t (u ∷ ts) at no_members name d e h says = absurd h
table_put t (u ∷ ts) at (member l c ms) name d e h says =
    let same : slice_cmp nat_cmp name l ≡ slice_cmp nat_cmp t.table u.table =
    λ i. slice_cmp nat_cmp (sym says.named i) (sym h.0.named i) in
    rw same (by (slice_cmp nat_cmp t.table u.table) e
    (λ j f. table_put t ts j ms name d f h.1 says))
  where
    -- among the others
    Further : Type 0
    Further = (j : ℕ) → place_among t.table ts ≡ Some j
        → SayTables (put name d ms) (insert ts j t)

    behind : (o : Option ℕ) → place_among t.table ts ≡ o → option_map suc o ≡ Some at → Further
        → SayTables (member l c (put name d ms)) (insert (u ∷ ts) at t)
    behind None f g others = absurd (let b : ⊥ = cc in b)
    behind (Some j) f g others = let next : at ≡ suc j = cc in rw next (h.0, others j f)

    by : (o : Ordering) → match_ordering o (Some 0) None (option_map suc (place_among t.table ts))
        ≡ Some at → Further → SayTables (match_ordering o (member name d (member l c ms))
        (member l d ms) (member l c (put name d ms))) (insert (u ∷ ts) at t)
    by Less f others = let first : at ≡ 0 = cc in rw first (says, h)
    by Equal f others = absurd (let b : ⊥ = cc in b)
    by Greater f others = behind (place_among t.table ts) refl f others

module _ (depth : ℕ) (first : List Token) where
  -- of the members of an object these tables were read, and those tokens come behind them
  pub record TablesSoFar (now : List Token) (ts : List TableWrites) : Type 0 where
    pub n : ℕ
    pub found : Members
    pub enough : length now ≤ n
    pub so : converted (λ os. of_members os no_members) (members (value depth) (length first) first)
        ≡ converted (λ os. of_members os found) (members (value depth) n now)
    pub say : SayTables found ts

  -- none yet
  pub tables_begin : (ts : List TableWrites) → ts ≡ [] → TablesSoFar first ts
  tables_begin ts none = record {
    n = length first;
    found = no_members;
    enough = omega arith;
    so = refl;
    say = rw none tt;
  }

  -- one more
  pub tables_turn : (now inner rest next : List Token) (name : List ℕ) (ts us : List TableWrites)
      (t : TableWrites) → 0 < depth → TablesSoFar now ts → read_key now ≡ Some (Some name, inner)
      → inner ≡ Token.begin_array ∷ rest → ReadsWrites (depth - 1) rest t.writes.items next
      → t.table ≡ name → IsTablePut t ts us → TablesSoFar next us
  tables_turn now inner rest next name ts us t deep s key opened r is put_so =
      let d : Data = array r.0 in
      let read : converted of_json (value depth inner) ≡ Some (d, next) =
      reads_array depth inner rest next r.0 deep opened r.1 in
      let less = value_shorter depth inner next d read in
      let lesser = read_key-shorter now (Some name) inner key in
      let enough = s.enough in
      let table : SaysTable name d t =
      record { named = is; elements = r.0; array = refl; writes = r.2 } in
      record {
        n = s.n - 1;
        found = put name d s.found;
        enough = omega arith;
        so = s.so ∙ member_read (value depth) s.found s.n name now inner next d (omega arith) key read;
        say = put_so s.found name d s.say table;
      }

  -- what is read is passed
  pub tables_less : (now inner rest next : List Token) (name : List ℕ) (ws : List Write)
      → 0 < depth → read_key now ≡ Some (Some name, inner) → inner ≡ Token.begin_array ∷ rest
      → ReadsWrites (depth - 1) rest ws next → length next < length now
  tables_less now inner rest next name ws deep key opened r =
      let lesser = read_key-shorter now (Some name) inner key in
      omega (
        arith,
        value_shorter depth inner next (array r.0)
            (reads_array depth inner rest next r.0 deep opened r.1),
      )

  -- all of them
  pub tables_end : (now after : List Token) (ts : List TableWrites) → TablesSoFar now ts
      → read_key now ≡ Some (None, after) → ReadsTables depth first ts after
  tables_end now after ts s e =
      (s.found, s.so ∙ members_over (value depth) s.found s.n now after s.enough e, s.say)

-- ---- a member of the body more

-- the tables, whatever stood there before
pub batch-put : (k : List ℕ) (tables : Members) (ts : List TableWrites) (ms : Members)
    → k ≡ codes "RequestItems" → SayTables tables ts → IsBatchAhead (put k (object tables) ms) ts
batch-put k tables ts ms is say = record {
  tables = tables;
  given = ap (λ n. given n (put k (object tables) ms)) (sym is) ∙ given-put k (object tables) ms;
  say = say;
}

-- another member
pub batch-pass : (k : List ℕ) (d : Data) (ms : Members) (o : Option (Vec TableWrites Global))
    → k ≢ codes "RequestItems" → IsBatchSoFar ms o → IsBatchSoFar (put k d ms) o
batch-pass k d ms None other h = h
batch-pass k d ms (Some ts) other h = record {
  tables = h.tables;
  given = given-put_other (codes "RequestItems") k d ms (λ is. other (sym is)) ∙ h.given;
  say = h.say;
}
