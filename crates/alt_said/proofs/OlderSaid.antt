-- What members of the older interface say, by what was read of them, and what is said with them.
use Rattle.std.proofs.Common.{◌≡◌, refl, sym, ap, ◌∙◌, Bool, true, false, List, [], ◌∷◌, Option, Some, None, Result, Ok, Err, arith}
use Rattle.std.specs.Prelude.{option_map}
use Rattle.serde_json.specs.Data.{Data, Members}
use Rattle.alt_expr.specs.Given as expr
use Rattle.alt_expr.specs.declared.cond.Cond.{Cond}
use Rattle.alt_expr.specs.declared.path.PathPart.{PathPart}
use Rattle.alt_expr.specs.declared.update.Action.{Action}
use Rattle.alt_legacy.specs.Answered.{IsBad}
use Rattle.alt_legacy.specs.Trees.{condition_in, update_in, paths_in}
use Rattle.alt_legacy.specs.declared.fault.LegacyFault.{LegacyFault}
use Rattle.alt_legacy.specs.declared.fault.LegacyFault.TheVariants as fault
use Rattle.alt_legacy.specs.declared.reading.Form.TheVariants.{Filter}
use Rattle.alt_machine.specs.declared.Expressions.{Expressions}
use Rattle.alt_machine.specs.Expressions as machine
use Rattle.alt_machine.specs.Older.{Older, older_at, older_said, is_any, said_by, some_actions, of_entries}
use Rattle.alt_machine.specs.Refusals.{first_answer, refuse_if, unless_answer, or_refused, ◌>>=◌}
use Rattle.alt_machine.proofs.Older.{with_apart, with_older, all_in_place}
use Rattle.alt_said.specs.Older.{all_older, stop_of}
use Rattle.alt_said.specs.Steps.{Comes, Tested}
use Rattle.alt_said.specs.declared.stop.Stop.{Stop}
use Rattle.alt_said.specs.declared.stop.Stop.TheVariants.{Refused, Fault}
use Rattle.alt_schema.specs.declared.schema.TableSchema.{TableSchema}
use Rattle.alt_shape.specs.Refusals.{Answer, refused, key_update, bad_legacy_parameter}

-- ---- one member

-- a member without a meaning has none of what is made of its meaning
pub bad_mapped : {A B : Type 0} (f : A → B) (o : Option A) (e : LegacyFault) → IsBad o e
    → IsBad (option_map f o) e
bad_mapped f o e h n = let told = h n in (told.0, ap (option_map f) told.1)

-- it is refused
pub bad_said : {A : Type 0} (read : Data → Option (Option A)) (d : Data) (e : LegacyFault)
    → IsBad (read d) e → Comes {X = Option A} (λ x. x) (said_by read (Some d)) (Err (stop_of e))
bad_said read d fault.Bad h =
    let told = h (λ n. absurd (cc)) in (ap (or_refused bad_legacy_parameter) told.1, omega arith)
bad_said read d fault.NotKey h =
    let wrong : fault.NotKey ≡ fault.Bad = (h (λ n. absurd (cc))).0 in absurd (cc)
bad_said read d fault.NoMemory h = tt

-- one with a meaning says it
pub told_said : {A : Type 0} (read : Data → Option (Option A)) (d : Data) (x : Option A)
    → read d ≡ Some x → said_by read (Some d) ≡ Ok x
told_said read d x e = ap (or_refused bad_legacy_parameter) e

-- ---- tests, one after another

-- what the first of several tests refuses
pub tested_first : (o : Option Answer) (tests : List (Option Answer)) (stop : Stop)
    → Tested {X = Unit {0}} (o ∷ []) (Err stop) → Tested {X = Unit {0}} (o ∷ tests) (Err stop)
tested_first None tests (Refused r) h = absurd (let f : ⊥ = cc in f)
tested_first (Some a) tests (Refused r) h = h
tested_first o tests (Fault f) h = h

-- where it refuses nothing, the others tell
pub tested_next : (o : Option Answer) (tests : List (Option Answer)) → first_answer (o ∷ []) ≡ None
    → first_answer (o ∷ tests) ≡ first_answer tests
tested_next None tests e = refl
tested_next (Some a) tests e = absurd (let f : ⊥ = cc in f)

-- what those behind it refuse
pub tested_rest : (o : Option Answer) (tests : List (Option Answer)) → first_answer (o ∷ []) ≡ None
    → (stop : Stop) → Tested {X = Unit {0}} tests (Err stop)
    → Tested {X = Unit {0}} (o ∷ tests) (Err stop)
tested_rest o tests e (Refused r) h = (tested_next o tests e ∙ h.0, h.1)
tested_rest o tests e (Fault f) h = h

-- ---- entries behind what was read before

module _ {A X : Type 0} (of : X → A) (texts : machine.Texts) (ms : Members) where
  -- what stops the one stops both
  pub unread_first : (r : Result A Answer) (stop : Stop) → Comes of r (Err stop)
      → Comes of (r >>= machine.entries_read texts ms) (Err stop)
  unread_first r (Refused q) h = (ap (λ x. x >>= machine.entries_read texts ms) h.0, h.1)
  unread_first r (Fault f) h = h

  module _ (r : Result A Answer) (x : X) (read : r ≡ Ok (of x)) where
    -- and so does an entry
    pub unread_entries : (stop : Stop)
        → Tested {X = Unit {0}} (of_entries texts.older ms) (Err stop)
        → Comes of (r >>= machine.entries_read texts ms) (Err stop)
    unread_entries (Refused q) h = (
      ap (λ y. y >>= machine.entries_read texts ms) read ∙ ap (λ o. unless_answer o (of x)) h.0,
      h.1,
    )
    unread_entries (Fault f) h = h

    -- else it is what was read
    pub read_entries : first_answer (of_entries texts.older ms) ≡ None
        → r >>= machine.entries_read texts ms ≡ Ok (of x)
    read_entries e =
        ap (λ y. y >>= machine.entries_read texts ms) read ∙ ap (λ o. unless_answer o (of x)) e

-- ---- members, or texts in their place

-- what the members say is what the machine has of them
older_is : (older : Older) (ms : Members) → older_said older ms ≡ all_older older ms
unfolding older_said
older_is older ms = refl

module _ (texts : machine.Texts) (d : TableSchema) (ms : Members) (g : expr.Given) where
  -- what stops the members stops all
  pub older_unsaid : (stop : Stop)
      → Comes {X = Expressions} (λ e. e) (all_older texts.older ms) (Err stop)
      → Comes {X = Expressions} (λ e. e) (machine.expressions texts d ms g) (Err stop)
  older_unsaid (Refused r) h = (
    all_in_place texts d ms g
        ∙ ap (λ x. x >>= with_older texts d ms g) (older_is texts.older ms ∙ h.0),
    h.1,
  )
  older_unsaid (Fault f) h = h

  module _ (older : Expressions) (said : all_older texts.older ms ≡ Ok older) where
    by_key : (b : Bool) → machine.changes_key d older.update ≡ b
        → machine.expressions texts d ms g
        ≡ unless_answer (first_answer (refuse_if b key_update ∷ [])) older
        >>= with_apart texts d ms g
    by_key b e = all_in_place texts d ms g ∙ ap (λ x. x >>= with_older texts d ms g) (older_is texts.older ms ∙ said)
        ∙ ap (λ k. unless_answer (first_answer (refuse_if k key_update ∷ [])) older
        >>= with_apart texts d ms g) e

    -- an update of a key attribute
    pub older_key : machine.changes_key d older.update ≡ true
        → machine.expressions texts d ms g ≡ Err (refused key_update)
    older_key e = by_key true e

    module _ (apart : machine.changes_key d older.update ≡ false) where
      -- what stops the texts stops all
      pub texts_unsaid : (stop : Stop)
          → Comes {X = Expressions} (λ e. e) (machine.texts_say texts d ms g) (Err stop)
          → Comes {X = Expressions} (λ e. e) (machine.expressions texts d ms g) (Err stop)
      texts_unsaid (Refused r) h = (
        by_key false apart
            ∙ ap (λ x. x >>= (λ (y : Expressions). Ok (machine.in_place older y))) h.0,
        h.1,
      )
      texts_unsaid (Fault f) h = h

      -- both together
      pub both_said : (spoken : Expressions) → machine.texts_say texts d ms g ≡ Ok spoken
          → machine.expressions texts d ms g ≡ Ok (machine.in_place older spoken)
      both_said spoken e = by_key false apart
          ∙ ap (λ x. x >>= (λ (y : Expressions). Ok (machine.in_place older y))) e

-- ---- the members one after another

module _ (older : Older) (ms : Members) where
  -- what comes behind each of them
  abbrev update_then : Option Cond → Option Cond → Option (List Action)
      → Result Expressions Answer
  update_then keys condition update =
      said_by (λ d. option_map Some (paths_in d)) (older_at older.names ms)
      >>= (λ paths. Ok (record {
        key_condition = keys;
        condition = condition;
        update = update;
        projection = paths;
      }))

  abbrev condition_then : Option Cond → Option Cond → Result Expressions Answer
  condition_then keys condition =
      said_by (λ d. option_map some_actions (update_in d)) (older_at older.update ms)
      >>= update_then keys condition

  abbrev keys_then : Option Cond → Result Expressions Answer
  keys_then keys =
      said_by (condition_in older.form (is_any ms)) (older_at older.condition ms)
      >>= condition_then keys

  module _ (x y z w : Option Data) (a : Bool) (at_keys : x ≡ older_at older.keys ms)
      (at_condition : y ≡ older_at older.condition ms) (at_update : z ≡ older_at older.update ms)
      (any : a ≡ is_any ms) (keys condition : Option Cond)
      (keys_so : said_by (condition_in Filter false) x ≡ Ok keys)
      (condition_so : said_by (condition_in older.form a) y ≡ Ok condition) where
    behind_both : all_older older ms ≡ condition_then keys condition
    behind_both =
        ap (λ r. r >>= keys_then) (ap (said_by (condition_in Filter false)) (sym at_keys) ∙ keys_so)
        ∙ ap (λ r. r >>= condition_then keys)
        ((λ i. said_by (condition_in older.form (sym any i)) (sym at_condition i)) ∙ condition_so)

    -- an update that stops the request
    pub update_stops : (stop : Stop)
        → Comes {X = Option (List Action)} (λ u. u)
        (said_by (λ d. option_map some_actions (update_in d)) z) (Err stop)
        → Comes {X = Expressions} (λ e. e) (all_older older ms) (Err stop)
    update_stops (Refused r) h = (
      behind_both ∙ ap (λ r. r >>= update_then keys condition)
          (ap (said_by (λ d. option_map some_actions (update_in d))) (sym at_update) ∙ h.0),
      h.1,
    )
    update_stops (Fault f) h = h

    -- names that do
    pub names_stop : (update : Option (List Action))
        → said_by (λ d. option_map some_actions (update_in d)) z ≡ Ok update
        → w ≡ older_at older.names ms → (stop : Stop)
        → Comes {X = Option (List (List PathPart))} (λ p. p)
        (said_by (λ d. option_map Some (paths_in d)) w) (Err stop)
        → Comes {X = Expressions} (λ e. e) (all_older older ms) (Err stop)
    names_stop update update_so at_names (Refused r) h = (
      behind_both ∙ ap (λ r. r >>= update_then keys condition)
          (ap (said_by (λ d. option_map some_actions (update_in d))) (sym at_update) ∙ update_so)
          ∙ ap (λ r. r >>= (λ paths. Ok (record {
            key_condition = keys;
            condition = condition;
            update = update;
            projection = paths;
          }))) (ap (said_by (λ d. option_map Some (paths_in d))) (sym at_names) ∙ h.0),
      h.1,
    )
    names_stop update update_so at_names (Fault f) h = h
