-- What is at hand of a request is what the request says: it stops at the same step, and comes to the same behind its item.
use Rattle.std.proofs.Common.{◌≡◌, refl, sym, ap, subst, ◌∙◌, ℕ, List, Option, Some, None, Result, Ok, Err}
use Rattle.std.proofs.lemmas.Option.{same_Some}
use Rattle.std.specs.Prelude.{IfSome}
use Rattle.std.specs.FinMap as map
use Rattle.serde_json.specs.Data.{Members}
use Rattle.alt_disk.specs.Disk.{DiskState}
use Rattle.alt_machine.specs.Body.{MemberRules, body_refusals}
use Rattle.alt_machine.specs.declared.Expressions.{Expressions}
use Rattle.alt_machine.specs.declared.Sought.{Sought}
use Rattle.alt_machine.specs.Expressions as words
use Rattle.alt_machine.specs.Members.{table_name}
use Rattle.alt_machine.specs.Outcomes.{Outcome, unless_refused}
use Rattle.alt_machine.specs.Refusals.{first_answer}
use Rattle.alt_machine.specs.State.{State, Table, new_table}
use Rattle.alt_machine.specs.Targets.{on_item, IsPlaced}
use Rattle.alt_machine.specs.Valid.{IsStored}
use Rattle.alt_machine.proofs.Tests.{passed, stopped}
use Rattle.alt_request.specs.Carried.{FollowsOutcome, Moves}
use Rattle.alt_request.specs.private.Decided.{CarriesAndMoves}
use Rattle.alt_request.specs.ItemWrites.{Writer, IsAsked, LeavesStored, writer_body_refusals, changes_item, writes_item}
use Rattle.alt_request.specs.Steps.{Tested}
use Rattle.alt_request.specs.Targets.{IsAtHand, OnItem, IsAt}
use Rattle.alt_said.specs.declared.stop.Stop.{Stop}
use Rattle.alt_request.specs.declared.targets.Target.{Target}
use Rattle.alt_request.proofs.Carrying.{item_stopped, item_reached, item_done, untested}
use Rattle.alt_request.proofs.Moving.{moves_nothing, item_moved, item_unfailed, tested_unfailed}
use Rattle.alt_schema.specs.declared.schema.TableSchema.{TableSchema}
use Rattle.alt_shape.specs.Refusals.{Answer, refused}
use Rattle.alt_shape.specs.declared.refusal.Reply.{Reply}
use Rattle.alt_shape.specs.declared.rule.Broken.{Broken}
use Rattle.alt_said.specs.TablesStands.{Stands, catalog_of}
use Rattle.alt_said.specs.TablesDeclaredTables.{Tables}
use Rattle.alt_said.proofs.TablesStanding.{known}
use Rattle.alt_value.specs.Tree.{Pair}

-- a request of which the whole body is at hand says what it says
pub all_asked : (w : Writer) (ms : Members) → IsAsked w ms ms None
all_asked w ms = record {
  tests = refl;
  at_hand = record {
    beside = record { words = refl; table = refl; says = λ d g. refl };
    item = refl;
  };
  changed = λ s moment said item t place. refl;
}

-- The shape, the rules and so on, as the calls of the operation gave them.
module _ (w : Writer) (moment : ℕ) (ms bs : Members) (ahead : Option (List Pair))
    (asked : IsAsked w ms bs ahead) (broken : Option Broken) (shape : broken ≡ w.shape bs)
    (rules : MemberRules) (ruled : rules ≡ w.rules) (sought : Sought) (seeks : sought ≡ w.sought)
    (texts : words.Texts) (takes : texts ≡ w.texts) where
  abbrev tests : List (Option Answer)
  tests = body_refusals broken rules bs

  abbrev go : State → Expressions → List Pair → Table → List ℕ → Outcome
  go s said item t place = unless_refused (w.takes t.description item)
      (changes_item w s moment ms said item t place)

  same_tests : writer_body_refusals w ms ≡ tests
  same_tests = asked.tests ∙ (λ i. body_refusals (sym shape i) (sym ruled i) bs)

  whole_is : (s : State) → writes_item w s moment ms ≡ on_item tests sought texts s ms (go s)
  whole_is s = λ i. on_item (same_tests i) (sym seeks i) (sym takes i) s ms (go s)

  -- it is at hand as they say
  pub at_hand_so : IsAtHand sought texts ms bs ahead
  at_hand_so = subst (λ (k : Sought). IsAtHand k texts ms bs ahead) (sym seeks)
      (subst (λ (x : words.Texts). IsAtHand w.sought x ms bs ahead) (sym takes) asked.at_hand)

  module _ (disk : DiskState) (tables : Tables) where
    -- the item isn't reached
    pub unreached : {file : ℕ} (stop : Stop) → OnItem tests sought texts (catalog_of tables) ms (Err stop)
        → CarriesAndMoves file (λ s. writes_item w s moment ms) (Stands disk tables) (Stands disk tables) disk disk
        (Err stop)
    unreached stop h = record {
      carries = item_stopped disk tables tests ms (λ s. writes_item w s moment ms) sought texts go
          whole_is (Stands disk tables) stop h (λ s stands. stands);
      moves = moves_nothing (λ s. writes_item w s moment ms) tables disk (Err stop)
          (item_unfailed _ tests sought texts (catalog_of tables) ms stop h);
    }

    -- it is
    module _ (target : Target) (at : IsAt tests sought texts (catalog_of tables) ms target) where
      -- its table refuses it
      pub untaken : {file : ℕ} (stop : Stop)
          → Tested {X = Unit {0}} (w.takes target.schema.now target.item) (Err stop)
          → CarriesAndMoves file (λ s. writes_item w s moment ms) (Stands disk tables) (Stands disk tables)
          disk disk (Err stop)
      untaken stop h = record {
        carries = untested (λ s. writes_item w s moment ms) (Stands disk tables)
            (Stands disk tables) (w.takes target.schema.now target.item) stop h
            (λ s stands r e.
            let there = item_reached disk tables tests ms (λ s. writes_item w s moment ms) sought
            texts go whole_is target at s stands in
            there.3 ∙ stopped (w.takes there.0.description target.item)
            (changes_item w s moment ms target.said target.item there.0 target.place) (refused r)
            (ap (λ (d : TableSchema). first_answer (w.takes d target.item)) there.2 ∙ e))
            (λ s stands. stands);
        moves = moves_nothing (λ s. writes_item w s moment ms) tables disk (Err stop)
            (tested_unfailed _ (w.takes target.schema.now target.item) stop h);
      }

      module _ (free : first_answer (w.takes target.schema.now target.item) ≡ None) where
        goes_on : (s : State) (t : Table) → t.description ≡ target.schema.now
            → go s target.said target.item t target.place
            ≡ changes_item w s moment bs target.said target.item t target.place
        goes_on s t same = passed (w.takes t.description target.item)
            (changes_item w s moment ms target.said target.item t target.place)
            (ap (λ (d : TableSchema). first_answer (w.takes d target.item)) same ∙ free)
            ∙ asked.changed s moment target.said target.item t target.place

        same_name : table_name ms ≡ table_name bs
        same_name = asked.at_hand.beside.table

        -- what was done at its place was done for the request
        module _ {file : ℕ} (after : DiskState) (now : State → Type 0) (r : Result Reply Stop)
            (works : (t : Table) → CarriesAndMoves file
            (λ s. changes_item w s moment bs target.said target.item t target.place)
            (λ s. Stands disk tables s × (map.get s.tables (table_name bs) ≡ Some t))
            now disk after r) where
          pub done : CarriesAndMoves file (λ s. writes_item w s moment ms) (Stands disk tables) now disk after r
          done = record {
            carries = item_done disk tables tests ms (λ s. writes_item w s moment ms) sought texts
                go whole_is now target at r (works (new_table target.schema.now)).carries.plain
                (λ s t stands there same. subst (λ o. FollowsOutcome file now s o r) (sym (goes_on s t same))
                ((works t).carries.does s
                (stands, ap (map.get s.tables) (sym same_name) ∙ there)));
            moves = item_moved disk after tables tests ms (λ s. writes_item w s moment ms) sought
                texts go whole_is target at
                (λ s t. changes_item w s moment bs target.said target.item t target.place) goes_on r
                (λ t. subst (λ (name : List ℕ). Moves
                (λ s. changes_item w s moment bs target.said target.item t target.place)
                (λ s. Stands disk tables s × (map.get s.tables name ≡ Some t)) disk after r)
                (sym same_name) (works t).moves);
          }

        -- what is left may be stored
        pub may_be_stored : LeavesStored w → (s : State) (t : Table) → Stands disk tables s
            → map.get s.tables (table_name bs) ≡ Some t → (new : Option (List Pair))
            → w.leaves t.description target.said target.item (map.get t.items target.place)
            ≡ Ok new → IfSome new (IsStored t.description target.place)
        may_be_stored stored s t stands there new e =
            let named : map.get s.tables (table_name ms) ≡ Some t =
            ap (map.get s.tables) same_name ∙ there in
            let same : target.schema.now ≡ t.description =
            same_Some target.schema.now t.description
            (sym at.there ∙ known disk tables s (table_name ms) t stands named) in
            stored s ms target.said target.item t target.place
            (subst (λ (ts : List (Option Answer)). IsPlaced ts w.sought w.texts ms t.description
            target.said target.item target.place) (sym same_tests)
            (subst (λ (k : Sought). IsPlaced tests k w.texts ms t.description target.said
            target.item target.place) seeks
            (subst (λ (x : words.Texts). IsPlaced tests sought x ms t.description target.said
            target.item target.place) takes
            (subst (λ (d : TableSchema). IsPlaced tests sought texts ms d target.said target.item
            target.place) same at.placed))))
            (ap (λ (d : TableSchema). first_answer (w.takes d target.item)) (sym same) ∙ free)
            stands.valid named new e
