-- The range of a key condition holds the items of which it holds.
use Rattle.std.proofs.Common.{◌≡◌, refl, sym, ap, subst, ◌∙◌, ℕ, Bool, ◌&&◌, List, ◌++◌, Option, Some, None, Result, Ok, Err, option_map}
use Rattle.std.proofs.Math.Bool.{and_comm}
use Rattle.std.proofs.lemmas.Bool.{and_parts, and_from}
use Rattle.std.specs.Cmp.{both_ways}
use Rattle.alt_expr.specs.Holds.{equal, same}
use Rattle.alt_expr.specs.KeyForm.{Key, Ask, ask_of, in_range, meets, range_meets}
use Rattle.alt_expr.specs.Pages.{passes}
use Rattle.alt_expr.specs.declared.cond.Cond.{Cond}
use Rattle.alt_expr.proofs.SameValues.{same_decides}
use Rattle.alt_keycond.specs.Asked.{test_of, answer_asks}
use Rattle.alt_keycond.specs.KeysAsked.{AsksOfKind, HoldsAsked}
use Rattle.alt_keycond.specs.declared.ask.KeyAsk.{KeyAsk}
use Rattle.alt_keycond.specs.declared.ask.RangeAsk.{RangeAsk}
use Rattle.alt_keycond.specs.declared.ask.RangeAsk.TheVariants as r
use Rattle.alt_keyorder.specs.Kinds.{IsOfKind, IsKeyFor}
use Rattle.alt_keyorder.specs.Place.{place_bytes, place_in_table}
use Rattle.alt_keyorder.specs.Range.{IsByteString, IsInRange}
use Rattle.alt_keyorder.specs.declared.range.KeyRange.{KeyRange}
use Rattle.alt_machine.specs.Lists.{walk_start}
use Rattle.alt_machine.specs.Ops.Query.{key_of, key_asked}
use Rattle.alt_machine.specs.Outcomes.{with_found}
use Rattle.alt_machine.specs.Refusals.{or_refused}
use Rattle.alt_machine.specs.Walks.{is_beyond}
use Rattle.alt_machine.specs.Sources.{hash_of, range_of}
use Rattle.alt_ops_query.specs.private.Asked.{AreHeld, IsRangeAskedOrRefused, IsRangeAsked, IsRangePlaced, Places}
use Rattle.alt_ops_query.specs.Places.{HoldsListed}
use Rattle.alt_ops_query.specs.private.Ranges.{IsBeyond}
use Rattle.alt_ops_query.proofs.KeyKinds.{asks_kinds}
use Rattle.alt_ops_query.proofs.PlaceBytes.{bytes_there}
use Rattle.alt_ops_query.proofs.Rests.{contains_so, so_contains, contains_beyond}
use Rattle.alt_ops_query.proofs.Stored.{IsPart, IsBeside, IsKeyed, keyed_there}
use Rattle.alt_request.specs.Steps.{Comes}
use Rattle.alt_request.specs.declared.stop.Stop.{Stop}
use Rattle.alt_request.specs.declared.stop.Stop.TheVariants.{Refused, Fault}
use Rattle.alt_schema.specs.declared.schema.IndexSchema.{IndexSchema}
use Rattle.alt_schema.specs.declared.schema.KeyAttr.{KeyAttr}
use Rattle.alt_schema.specs.declared.schema.TableSchema.{TableSchema}
use Rattle.alt_shape.specs.Refusals.{bad_key_condition}
use Rattle.alt_value.specs.Item.{at_name}
use Rattle.alt_value.specs.Stands.{tree_of}
use Rattle.alt_value.specs.Tree.{Tree, Pair}
use Rattle.alt_value.specs.Values.{IsValue}

-- the kinds of a key
kinds_of : (item : List Pair) (h : KeyAttr) (hash : Tree) (k : Option KeyAttr) (range : Option Tree)
    → IsPart item h hash → IsBeside item k range
    → IsKeyFor h.kind (option_map (λ x. x.kind) k) hash range
kinds_of item h hash None None part beside = part.kind
kinds_of item h hash None (Some t) part beside = absurd beside
kinds_of item h hash (Some key) None part beside = absurd beside
kinds_of item h hash (Some key) (Some t) part beside = (part.kind, beside.kind)

-- a test of the RANGE value, as the item has it
range_test : (item : List Pair) (k : Option KeyAttr) (range : Option Tree) (ask : RangeAsk)
    → IsBeside item k range → AsksOfKind (option_map (λ x. x.kind) k) ask
    → range_meets (option_map key_of k) (test_of ask) (λ name. at_name name item)
    ≡ in_range (test_of ask) range
range_test item None None r.All beside kinds = refl
range_test item None None (r.Eq v) beside kinds = absurd kinds
range_test item None None (r.Lt v) beside kinds = absurd kinds
range_test item None None (r.Le v) beside kinds = absurd kinds
range_test item None None (r.Gt v) beside kinds = absurd kinds
range_test item None None (r.Ge v) beside kinds = absurd kinds
range_test item None None (r.Between low high) beside kinds = absurd kinds
range_test item None None (r.Begins v) beside kinds = absurd kinds
range_test item None (Some t) ask beside kinds = absurd beside
range_test item (Some key) None ask beside kinds = absurd beside
range_test item (Some key) (Some t) ask beside kinds = ap (in_range (test_of ask)) beside.at

module _ (d : TableSchema) (i : Option IndexSchema) (condition : Option Cond) (ask : KeyAsk)
    (hash_kind : IsOfKind (hash_of d i).kind (tree_of ask.hash))
    (range_kind : AsksOfKind (option_map (λ x. x.kind) (range_of d i)) ask.range)
    (holds : (item : List Pair) → passes condition item
    ≡ meets (key_of (hash_of d i)) (option_map key_of (range_of d i)) (answer_asks ask)
    (λ name. at_name name item)) where
  -- a stored item passes exactly where its key is one that is asked for
  passes_is : (key : List ℕ) (item : List Pair)
      (keys : IsKeyed (hash_of d i) (range_of d i) item key)
      → passes condition item
      ≡ (same keys.hash (tree_of ask.hash) && in_range (test_of ask.range) keys.range)
  passes_is key item keys = holds item
      ∙ (λ j. equal (keys.has_hash.at j) (Some (tree_of ask.hash))
      && range_test item (range_of d i) keys.range ask.range
      keys.has_range range_kind j)

  -- A range that holds what is asked for holds the listed items in its part beyond a place.
  pub holds_listed : (forward : Bool) (place : Option (List ℕ)) (from : List ℕ)
      (to : Option (List ℕ)) (first : List ℕ) (last : Option (List ℕ)) → HoldsAsked ask from to
      → IsBeyond forward place from to first last
      → HoldsListed forward place (passes condition) d i first last
  unfolding HoldsAsked
  holds_listed forward place from to first last asked beyond key item may =
      let keys = keyed_there d i key item may in
      let kinds = kinds_of item (hash_of d i) keys.hash (range_of d i) keys.range keys.has_hash
      keys.has_range in
      let whole : place_bytes (place_in_table keys.hash keys.range) ++ keys.behind ≡ key =
      sym keys.is in
      let both = asked (hash_of d i).kind (option_map (λ (x : KeyAttr). x.kind) (range_of d i))
      hash_kind range_kind keys.hash keys.range keys.behind kinds
      (subst IsByteString (sym whole) (bytes_there d i key item may)) in
      let test = passes_is key item keys in
      contains_beyond forward place from to first last beyond key
      ∙ ap (λ b. b && is_beyond forward place key) (both_ways _ _
      (λ e.
      let so = both.0 (subst (IsInRange from to) (sym whole) (contains_so from to key e)) in
      test ∙ and_from _ _ ((same_decides keys.hash (tree_of ask.hash)).1 so.0) so.1)
      (λ e.
      let tests = and_parts _ _ (sym test ∙ e) in
      so_contains from to key (subst (IsInRange from to) whole
      (both.1 ((same_decides keys.hash (tree_of ask.hash)).0 tests.0, tests.1)))))
      ∙ and_comm (passes condition item) (is_beyond forward place key)

-- ---- what is asked, and what stops it

-- a key attribute has its kind in key conditions too
kinds_same : (k : Option KeyAttr)
    → option_map (λ (x : Key). x.kind) (option_map key_of k)
    ≡ option_map (λ (x : KeyAttr). x.kind) k
kinds_same None = refl
kinds_same (Some k) = refl

-- a condition that asks is there
some_asked : (d : TableSchema) (i : Option IndexSchema) (condition : Option Cond) (ask : Ask)
    → key_asked d i condition ≡ Ok ask
    → (x : Cond) × (ask_of (key_of (hash_of d i)) (option_map key_of (range_of d i)) x ≡ Some ask)
some_asked d i None ask e = absurd (let f : ⊥ = cc in f)
some_asked d i (Some x) ask e =
    (x, by (ask_of (key_of (hash_of d i)) (option_map key_of (range_of d i)) x) e)
  where
    by : (o : Option Ask) → or_refused bad_key_condition o ≡ Ok ask → o ≡ Some ask
    by None f = absurd (let g : ⊥ = cc in g)
    by (Some q) f = let same : q ≡ ask = cc in ap (λ z. Some z) same

module _ (d : TableSchema) (i : Option IndexSchema) (condition : Option Cond)
    (start : Option (List Pair)) (forward : Bool) where
  -- a range that is placed as the ask says holds the items of which the key condition holds
  pub asked_so : (ask : KeyAsk) → key_asked d i condition ≡ Ok (answer_asks ask)
      → ((item : List Pair) → passes condition item
      ≡ meets (key_of (hash_of d i)) (option_map key_of (range_of d i)) (answer_asks ask)
      (λ name. at_name name item))
      → IsValue (tree_of ask.hash) → AreHeld ask.range → (range : KeyRange)
      → IsRangePlaced d i ask start forward range → IsRangeAsked d i condition start forward range
  asked_so ask e holds held range_held range p =
      let x = some_asked d i condition (answer_asks ask) e in
      let kinds = asks_kinds (key_of (hash_of d i))
      (option_map key_of (range_of d i)) x.0 ask x.1 held range_held in
      record {
        ask = answer_asks ask;
        asks = e;
        place = p.place;
        starts = p.starts;
        holds = holds_listed d i condition ask kinds.0
            (subst (λ k. AsksOfKind k ask.range) (kinds_same (range_of d i)) kinds.1) holds
            forward p.place
            p.from p.to range.from range.to p.holds p.beyond;
      }

  -- the machine asks nothing either
  pub no_ask : (stop : Stop) → Comes {X = KeyAsk} answer_asks (key_asked d i condition) (Err stop)
      → IsRangeAskedOrRefused d i condition start forward (Err stop)
  no_ask (Refused r) h = (
    h.1,
    λ go. ap (λ q. with_found q
        (λ ask. with_found (walk_start d i (Some ask.hash) start) (go ask))) h.0,
  )
  no_ask (Fault f) h = h

  -- or it starts nowhere
  pub no_place : (ask : KeyAsk) → key_asked d i condition ≡ Ok (answer_asks ask) → (stop : Stop)
      → Places d i ask start forward (Err stop) → IsRangeAskedOrRefused d i condition start forward (Err stop)
  no_place ask e (Refused r) h = (
    h.0,
    λ go. ap (λ q. with_found q
        (λ ask. with_found (walk_start d i (Some ask.hash) start) (go ask))) e
        ∙ ap (λ q. with_found q (go (answer_asks ask))) h.1,
  )
  no_place ask e (Fault f) h = h

  -- a result that is placed as the ask says answers the key condition
  pub asked_by : (ask : KeyAsk) → key_asked d i condition ≡ Ok (answer_asks ask)
      → ((item : List Pair) → passes condition item
      ≡ meets (key_of (hash_of d i)) (option_map key_of (range_of d i)) (answer_asks ask)
      (λ name. at_name name item))
      → IsValue (tree_of ask.hash) → AreHeld ask.range → (result : Result KeyRange Stop)
      → Places d i ask start forward result → IsRangeAskedOrRefused d i condition start forward result
  asked_by ask e holds held range_held (Ok range) p =
      asked_so ask e holds held range_held range p
  asked_by ask e holds held range_held (Err stop) p = no_place ask e stop p
