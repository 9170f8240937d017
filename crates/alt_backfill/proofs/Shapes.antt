-- What is asked of a body whose shape is good: an index comes or goes exactly where it is asked.
use Rattle.std.proofs.Common.{◌≡◌, refl, ap, ◌∙◌, ℕ, Bool, true, false, List, [], ◌∷◌, ◌++◌, Option, Some, None, is_some}
use Rattle.std.proofs.lemmas.Bool.{or_left, or_right}
use Rattle.std.specs.Prelude.{◌||◌, codes, option_and_then, if◌then◌else◌}
use Rattle.std.specs.List.{flat_map, list_any}
use Rattle.std.specs.Option.{option_map_or}
use Rattle.serde_json.specs.Data.{Data, Items, no_items, item, Members}
use Rattle.serde_json.specs.Find.{as_array, as_object}
use Rattle.alt_backfill.specs.private.Asked.{first_asked, first_of}
use Rattle.alt_machine.specs.Lists.{is_given}
use Rattle.alt_machine.specs.Ops.UpdateTable.{acts, asked_in, change_members, changes}
use Rattle.alt_schema.specs.Stated.{at_most_one, stated_by}
use Rattle.alt_shape.specs.Bodies as bodies
use Rattle.alt_shape.specs.Bodies.{index_update}
use Rattle.alt_shape.specs.BodyParts.{in_items, object_fault}
use Rattle.alt_shape.specs.Shape.{an_object, fault_of, given}
use Rattle.alt_shape.specs.declared.rule.Broken.TheVariants.{WrongKind}
use Rattle.alt_shape.proofs.Places.{or_next_first, or_next_second}

-- ---- an index comes or goes

-- where a change asks at a name that acts, it acts
module _ (name : List ℕ) (does : (u : Members) → is_given name u ≡ true → acts u ≡ true) where
  pub acts_asked : (us : List Members) (m : Members) → first_of (flat_map (asked_in name) us) ≡ Some m
      → list_any acts us ≡ true
  acts_asked [] m e = absurd (let f : ⊥ = cc in f)
  acts_asked (u ∷ us) m e = by (given name u) refl e (acts_asked us m)
    where
      by : (o : Option Data) → given name u ≡ o
          → first_of (at_most_one (option_and_then as_object o) ++ flat_map (asked_in name) us)
          ≡ Some m
          → (first_of (flat_map (asked_in name) us) ≡ Some m → list_any acts us ≡ true)
          → (acts u || list_any acts us) ≡ true
      by None at e rest = by_or (acts u) (rest e)
        where
          by_or : (b : Bool) → list_any acts us ≡ true → (b || list_any acts us) ≡ true
          by_or true h = refl
          by_or false h = h
      by (Some d) at e rest = ap (λ b. b || list_any acts us) (does u (ap is_some at))

-- where one comes
pub acts_coming : (ms m : Members) → first_asked (codes "Create") ms ≡ Some m
    → list_any acts (changes ms) ≡ true
acts_coming ms m e = acts_asked (codes "Create")
    (λ u h. or_left (is_given (codes "Create") u) (is_given (codes "Delete") u) h) (changes ms) m e

-- where one goes
pub acts_going : (ms m : Members) → first_asked (codes "Delete") ms ≡ Some m
    → list_any acts (changes ms) ≡ true
acts_going ms m e = acts_asked (codes "Delete")
    (λ u h. or_right (is_given (codes "Create") u) (is_given (codes "Delete") u) h) (changes ms) m e

-- ---- and else it doesn't

-- where a member that may be an object asks nothing, it isn't given
not_given : (o : Option Data) → fault_of an_object false o ≡ None
    → at_most_one (option_and_then as_object o) ≡ [] → is_some o ≡ false
not_given None e h = refl
not_given (Some d) e h = absurd (kept (as_object d) e h)
  where
    kept : (o : Option Members) → (if is_some o then None else Some WrongKind) ≡ None
        → at_most_one o ≡ [] → ⊥
    kept None e h = let f : ⊥ = cc in f
    kept (Some m) e h = let f : ⊥ = cc in f

-- the first of two lists is empty where the first of both together is none
front_none : {A : Type 0} (xs ys : List A) → first_of (xs ++ ys) ≡ None
    → (xs ≡ []) × (first_of ys ≡ None)
front_none [] ys e = (refl, e)
front_none (x ∷ xs) ys e = absurd (let f : ⊥ = cc in f)

-- a good change that asks neither doesn't act
not_acting : (u : Members) → index_update u ≡ None → asked_in (codes "Create") u ≡ []
    → asked_in (codes "Delete") u ≡ [] → acts u ≡ false
not_acting u e create delete =
    let demands = or_next_first _ _ e in
    let c = not_given (given (codes "Create") u) (or_next_first _ _ demands) create in
    let behind = or_next_second _ _ demands in
    let d = not_given (given (codes "Delete") u) (or_next_first _ _ (or_next_second _ _ behind)) delete in
    (λ i. c i || d i)

-- nor do good changes that ask neither
none_acting : (ds : Items) → in_items (object_fault index_update) ds ≡ None
    → first_of (flat_map (asked_in (codes "Create")) (stated_by change_members ds)) ≡ None
    → first_of (flat_map (asked_in (codes "Delete")) (stated_by change_members ds)) ≡ None
    → list_any acts (stated_by change_members ds) ≡ false
none_acting no_items e create delete = refl
none_acting (item d ds) e create delete = by (as_object d)
    (or_next_first (object_fault index_update d) (in_items (object_fault index_update) ds) e)
    create delete
    (none_acting ds
    (or_next_second (object_fault index_update d) (in_items (object_fault index_update) ds) e))
  where
    by : (o : Option Members) → option_map_or index_update o (Some WrongKind) ≡ None
        → first_of (flat_map (asked_in (codes "Create")) (at_most_one o ++ stated_by change_members ds)) ≡ None
        → first_of (flat_map (asked_in (codes "Delete")) (at_most_one o ++ stated_by change_members ds)) ≡ None
        → (first_of (flat_map (asked_in (codes "Create")) (stated_by change_members ds)) ≡ None
        → first_of (flat_map (asked_in (codes "Delete")) (stated_by change_members ds)) ≡ None
        → list_any acts (stated_by change_members ds) ≡ false)
        → list_any acts (at_most_one o ++ stated_by change_members ds) ≡ false
    by None e create delete rest = absurd (let f : ⊥ = cc in f)
    by (Some u) e create delete rest =
        let c = front_none (asked_in (codes "Create") u) _ create in
        let d = front_none (asked_in (codes "Delete") u) _ delete in
        ap (λ b. b || list_any acts (stated_by change_members ds)) (not_acting u e c.0 d.0)
        ∙ rest c.1 d.1

-- so it is of a body whose shape is good
pub none_acts : (ms : Members) → bodies.update_table ms ≡ None
    → first_asked (codes "Create") ms ≡ None → first_asked (codes "Delete") ms ≡ None
    → list_any acts (changes ms) ≡ false
unfolding bodies.update_table
none_acts ms e create delete = by
    (option_and_then as_array (given (codes "GlobalSecondaryIndexUpdates") ms))
    (or_next_first _ _ (or_next_second _ _ (or_next_second _ _ e))) create delete
  where
    by : (o : Option Items) → option_map_or (in_items (object_fault index_update)) o None ≡ None
        → first_of (flat_map (asked_in (codes "Create")) (option_map_or (stated_by change_members) o [])) ≡ None
        → first_of (flat_map (asked_in (codes "Delete")) (option_map_or (stated_by change_members) o [])) ≡ None
        → list_any acts (option_map_or (stated_by change_members) o []) ≡ false
    by None e create delete = refl
    by (Some ds) e create delete = none_acting ds e create delete
