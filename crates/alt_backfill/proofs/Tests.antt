-- The tests of an UpdateTable: those of its body, and those of a table for an index that comes, for one that goes, and for none.
use Rattle.std.proofs.Common.{◌≡◌, refl, sym, ap, ◌∙◌, ℕ, Bool, true, false, not, List, [], ◌∷◌, ◌++◌, map, Option, Some, None, Err, is_some, arith}
use Rattle.std.specs.Prelude.{◌&&◌, ◌||◌, codes, if◌then◌else◌}
use Rattle.std.specs.List.{list_all, list_any}
use Rattle.std.proofs.lemmas.List.Folds.{list_any-append}
use Rattle.serde_json.specs.Data.{Members}
use Rattle.alt_backfill.specs.private.Asked.{IsAskedOf, first_asked, stop_of_schema_fault}
use Rattle.alt_backfill.proofs.Singles.{none_first, only_comes, only_goes}
use Rattle.alt_backfill.proofs.Shapes.{acts_coming, acts_going}
use Rattle.alt_machine.specs.Body.{of_shape}
use Rattle.alt_machine.specs.Building.{building_in}
use Rattle.alt_machine.specs.Ops.UpdateTable.{acts, altered, altered_by, are_single, asked_at, changes, comes_early, of_body, of_indexes}
use Rattle.alt_machine.specs.Outcomes.{Outcome, refuses, unless_refused}
use Rattle.alt_machine.specs.Refusals.{first_answer, refuse_if, refuse_unless}
use Rattle.alt_machine.proofs.Tests.{rest_none, stopped, unless_holds}
use Rattle.alt_schema.specs.Altered.{IsFaultOf, definitions_fit, differs_in_kind, index_added, indexes_fit_with, is_none_of, keys_fit_with, refused_with, refused_without, with_index, without_index}
use Rattle.alt_schema.specs.Described.{IsKnownFault}
use Rattle.alt_schema.specs.Indexes.{indexes, is_key, is_used}
use Rattle.alt_schema.specs.Rules.{all_differ}
use Rattle.alt_schema.specs.Stated.{definitions_of, index_in, text_of}
use Rattle.alt_schema.specs.declared.described.SchemaFault.{SchemaFault}
use Rattle.alt_schema.specs.declared.described.SchemaFault.TheVariants.{Refused, NoMemory}
use Rattle.alt_schema.specs.declared.schema.IndexSchema.{IndexSchema}
use Rattle.alt_schema.specs.declared.schema.KeyAttr.{KeyAttr}
use Rattle.alt_schema.specs.declared.schema.TableSchema.{TableSchema}
use Rattle.alt_schema.specs.declared.stated.StatedIndex.{StatedIndex}
use Rattle.alt_shape.specs.Bodies as bodies
use Rattle.alt_shape.specs.Refusals.{Answer, bad_index, bad_index_update, bad_key_schema, no_such_index, refused}
use Rattle.alt_shape.specs.declared.refusal.Refusal.{Refusal}
use Rattle.alt_shape.specs.declared.rule.Broken.{Broken}

-- ---- the body

module _ (ms : Members) (free : first_answer (of_body ms) ≡ None) where
  parts : (of_shape (bodies.update_table ms) ≡ None) × (are_single ms ≡ true)
  parts =
      let shaped = rest_none (of_shape (bodies.update_table ms)) _ free in
      (shaped.0, (unless_holds (are_single ms) bad_index_update _ shaped.1).0)

  unbroken : (o : Option Broken) → of_shape o ≡ None → o ≡ None
  unbroken None e = refl
  unbroken (Some b) e = absurd (let f : ⊥ = cc in f)

  -- its shape is good
  pub shape_kept : bodies.update_table ms ≡ None
  shape_kept = unbroken (bodies.update_table ms) parts.0

  -- and its changes are single
  pub single_kept : are_single ms ≡ true
  single_kept = parts.1

-- ---- the table

module _ (d : TableSchema) (more : List KeyAttr) where
  -- the tests of a table for indexes that come and for names that go
  abbrev pub tests : List StatedIndex → List (List ℕ) → List (Option Answer)
  tests cs ns =
      refuse_if (list_any (is_none_of d) ns) no_such_index ∷
      refuse_unless (definitions_fit d (altered_by d more 0 cs ns) more
      && list_all (keys_fit_with d more) cs) bad_key_schema ∷
      refuse_unless (list_all (indexes_fit_with d more) cs) bad_index ∷
      refuse_if (comes_early d cs) bad_index_update ∷ []

  -- what uses an attribute is the same whatever the family of the index that comes is
  used_alike : (f g : ℕ) (i : StatedIndex) (name : List ℕ)
      → is_used (with_index d more f i) name ≡ is_used (with_index d more g i) name
  used_alike f g i name = ap (λ b. is_key d.hash d.range name || b) (
      split f ∙ sym (split g))
    where
      split : (h : ℕ) → list_any (λ (x : IndexSchema). is_key x.hash x.range name) (indexes (with_index d more h i))
          ≡ (list_any (λ (x : IndexSchema). is_key x.hash x.range name) d.locals
          || (list_any (λ (x : IndexSchema). is_key x.hash x.range name) d.globals
          || list_any (λ (x : IndexSchema). is_key x.hash x.range name) (index_added d more 0 i ∷ [])))
      split h = list_any-append (λ (x : IndexSchema). is_key x.hash x.range name) d.locals
          (d.globals ++ index_added d more h i ∷ [])
          ∙ ap (λ b. list_any (λ (x : IndexSchema). is_key x.hash x.range name) d.locals || b)
          (list_any-append (λ (x : IndexSchema). is_key x.hash x.range name) d.globals
          (index_added d more h i ∷ []))

  -- and so definitions fit
  fit_alike : (f g : ℕ) (i : StatedIndex)
      → definitions_fit d (with_index d more f i) more ≡ definitions_fit d (with_index d more g i) more
  fit_alike f g i = ap (λ (used : List ℕ → Bool). not (list_any (differs_in_kind d) more)
      && (list_all (λ (a : KeyAttr). used a.name) more
      && all_differ (λ (a : KeyAttr). a.name) more))
      (λ j name. used_alike f g i name j)

  -- ---- one comes

  -- what refuses one that comes is what its description is refused for
  comes_by : (a k x e : Bool) (r : Refusal)
      → (if not (a && k) then Some bad_key_schema else (if not x then Some bad_index else None)) ≡ Some r
      → first_answer (refuse_unless (a && (k && true)) bad_key_schema
      ∷ refuse_unless (x && true) bad_index ∷ refuse_if e bad_index_update ∷ []) ≡ Some (refused r)
  comes_by false k x e r h = ap (λ q. Some (refused q)) (let f : bad_key_schema ≡ r = cc in f)
  comes_by true false x e r h = ap (λ q. Some (refused q)) (let f : bad_key_schema ≡ r = cc in f)
  comes_by true true false e r h = ap (λ q. Some (refused q)) (let f : bad_index ≡ r = cc in f)
  comes_by true true true e r h = absurd (let f : ⊥ = cc in f)

  -- and else that another is being built
  comes_then : (a k x e : Bool)
      → (if not (a && k) then Some bad_key_schema else (if not x then Some bad_index else None)) ≡ None
      → first_answer (refuse_unless (a && (k && true)) bad_key_schema
      ∷ refuse_unless (x && true) bad_index ∷ refuse_if e bad_index_update ∷ [])
      ≡ first_answer (refuse_if e bad_index_update ∷ [])
  comes_then false k x e h = absurd (let f : ⊥ = cc in f)
  comes_then true false x e h = absurd (let f : ⊥ = cc in f)
  comes_then true true false e h = absurd (let f : ⊥ = cc in f)
  comes_then true true true e h = refl

  module _ (family : ℕ) (i : StatedIndex) where
    with_zero : refused_with d more 0 i ≡ refused_with d more family i
    with_zero = ap (λ b. if not (b && keys_fit_with d more i) then Some bad_key_schema
        else (if not (indexes_fit_with d more i) then Some bad_index else None)) (fit_alike 0 family i)

    pub comes_refused : (r : Refusal) → refused_with d more family i ≡ Some r
        → first_answer (tests (i ∷ []) []) ≡ Some (refused r)
    comes_refused r e = comes_by (definitions_fit d (with_index d more 0 i) more)
        (keys_fit_with d more i) (indexes_fit_with d more i) (is_some (building_in d)) r
        (with_zero ∙ e)

    pub comes_else : refused_with d more family i ≡ None
        → first_answer (tests (i ∷ []) [])
        ≡ first_answer (refuse_if (is_some (building_in d)) bad_index_update ∷ [])
    comes_else e = comes_then (definitions_fit d (with_index d more 0 i) more)
        (keys_fit_with d more i) (indexes_fit_with d more i) (is_some (building_in d))
        (with_zero ∙ e)

  -- ---- one goes

  module _ (name : List ℕ) where
    pub goes_missed : is_none_of d name ≡ true
        → first_answer (tests [] (name ∷ [])) ≡ Some (refused no_such_index)
    goes_missed e = ap (λ b. first_answer (refuse_if (b || false) no_such_index ∷
        refuse_unless (definitions_fit d (without_index d name) more && true) bad_key_schema
        ∷ None ∷ None ∷ []))
        e

    pub goes_else : is_none_of d name ≡ false → first_answer (tests [] (name ∷ []))
        ≡ first_answer (refuse_unless (definitions_fit d (without_index d name) more && true)
        bad_key_schema ∷ None ∷ None ∷ [])
    goes_else e = ap (λ b. first_answer (refuse_if (b || false) no_such_index ∷
        refuse_unless (definitions_fit d (without_index d name) more && true) bad_key_schema
        ∷ None ∷ None ∷ []))
        e

    pub goes_refused : is_none_of d name ≡ false → (r : Refusal) → refused_without d more name ≡ Some r
        → first_answer (tests [] (name ∷ [])) ≡ Some (refused r)
    goes_refused e r is = goes_else e ∙ by (definitions_fit d (without_index d name) more) is
      where
        by : (a : Bool) → (if not a then Some bad_key_schema else None) ≡ Some r
            → first_answer (refuse_unless (a && true) bad_key_schema ∷ None ∷ None ∷ []) ≡ Some (refused r)
        by true h = absurd (let f : ⊥ = cc in f)
        by false h = ap (λ q. Some (refused q)) (let f : bad_key_schema ≡ r = cc in f)

    pub goes_free : is_none_of d name ≡ false → refused_without d more name ≡ None
        → first_answer (tests [] (name ∷ [])) ≡ None
    goes_free e is = goes_else e ∙ by (definitions_fit d (without_index d name) more) is
      where
        by : (a : Bool) → (if not a then Some bad_key_schema else None) ≡ None
            → first_answer (refuse_unless (a && true) bad_key_schema ∷ None ∷ None ∷ []) ≡ None
        by true h = refl
        by false h = absurd (let f : ⊥ = cc in f)

  -- ---- none does

  pub stays_so : (fits : Bool) → fits ≡ definitions_fit d d more
      → first_answer (tests [] []) ≡ first_answer (refuse_unless fits bad_key_schema ∷ [])
  stays_so fits e = by (definitions_fit d d more) fits e
    where
      by : (a b : Bool) → b ≡ a
          → first_answer (refuse_unless (a && true) bad_key_schema ∷ None ∷ None ∷ [])
          ≡ first_answer (refuse_unless b bad_key_schema ∷ [])
      by true b e = ap (λ x. first_answer (refuse_unless x bad_key_schema ∷ [])) (sym e)
      by false b e = ap (λ x. first_answer (refuse_unless x bad_key_schema ∷ [])) (sym e)

-- ---- what the body asks of the table

module _ (d : TableSchema) (ms : Members) where
  abbrev more : List KeyAttr
  more = definitions_of ms

  -- the tests by what comes and goes
  tests_by : (cs : List Members) (ns : List Members) → asked_at (codes "Create") ms ≡ cs
      → asked_at (codes "Delete") ms ≡ ns → first_answer (of_indexes d ms)
      ≡ first_answer (tests d more (map index_in cs) (map (text_of (codes "IndexName")) ns))
  tests_by cs ns e f = λ i. first_answer (tests d more (map index_in (e i))
      (map (text_of (codes "IndexName")) (f i)))

  -- the description by what comes and goes
  altered_to : (family : ℕ) (cs : List Members) (ns : List Members)
      → asked_at (codes "Create") ms ≡ cs → asked_at (codes "Delete") ms ≡ ns
      → altered d ms family
      ≡ altered_by d more family (map index_in cs) (map (text_of (codes "IndexName")) ns)
  altered_to family cs ns e f = λ i. altered_by d more family (map index_in (e i))
      (map (text_of (codes "IndexName")) (f i))

  -- a refusal of the tests
  refused_then : (r : Refusal) → first_answer (of_indexes d ms) ≡ Some (refused r) → (o : Outcome)
      → unless_refused (of_indexes d ms) o ≡ refuses r
  refused_then r e o = stopped (of_indexes d ms) o (refused r) e

  -- ---- one comes

  module _ (single : are_single ms ≡ true) (m : Members)
      (first : first_asked (codes "Create") ms ≡ Some m) (family : ℕ) where
    abbrev i : StatedIndex
    i = index_in m

    only : (asked_at (codes "Create") ms ≡ m ∷ []) × (asked_at (codes "Delete") ms ≡ [])
    only = only_comes ms single m first

    comes_tests : first_answer (of_indexes d ms) ≡ first_answer (tests d more (i ∷ []) [])
    comes_tests = tests_by (m ∷ []) [] only.0 only.1

    -- its description is refused
    pub coming_refused : (f : SchemaFault) → IsFaultOf (refused_with d more family i) f
        → IsKnownFault f → IsAskedOf d ms family (Err (stop_of_schema_fault f))
    coming_refused (Refused r) h known = (
      known,
      refused_then r (comes_tests ∙ comes_refused d more family i r h),
    )
    coming_refused NoMemory h known = tt

    -- another is being built
    pub coming_early : refused_with d more family i ≡ None → is_some (building_in d) ≡ true
        → (o : Outcome) → unless_refused (of_indexes d ms) o ≡ refuses bad_index_update
    coming_early taken early = refused_then bad_index_update (comes_tests
        ∙ comes_else d more family i taken
        ∙ ap (λ b. first_answer (refuse_if b bad_index_update ∷ [])) early)

    -- or nothing refuses it
    pub coming_free : refused_with d more family i ≡ None → is_some (building_in d) ≡ false
        → first_answer (of_indexes d ms) ≡ None
    coming_free taken late = comes_tests ∙ comes_else d more family i taken
        ∙ ap (λ b. first_answer (refuse_if b bad_index_update ∷ [])) late

    pub coming_is : with_index d more family i ≡ altered d ms family
    coming_is = sym (altered_to family (m ∷ []) [] only.0 only.1)

    pub coming_acts : true ≡ list_any acts (changes ms)
    coming_acts = sym (acts_coming ms m first)

  -- ---- one goes

  module _ (single : are_single ms ≡ true) (m : Members)
      (none : first_asked (codes "Create") ms ≡ None)
      (first : first_asked (codes "Delete") ms ≡ Some m) where
    abbrev name : List ℕ
    name = text_of (codes "IndexName") m

    none_comes : asked_at (codes "Create") ms ≡ []
    none_comes = none_first (asked_at (codes "Create") ms) none

    one_goes : asked_at (codes "Delete") ms ≡ m ∷ []
    one_goes = only_goes ms single m first

    goes_tests : first_answer (of_indexes d ms) ≡ first_answer (tests d more [] (name ∷ []))
    goes_tests = tests_by [] (m ∷ []) none_comes one_goes

    -- there is none of its name
    pub going_missed : is_none_of d name ≡ true → (o : Outcome)
        → unless_refused (of_indexes d ms) o ≡ refuses no_such_index
    going_missed e = refused_then no_such_index (goes_tests ∙ goes_missed d more name e)

    -- the description then is refused
    pub going_refused : is_none_of d name ≡ false → (f : SchemaFault)
        → IsFaultOf (refused_without d more name) f → IsKnownFault f → (family : ℕ)
        → IsAskedOf d ms family (Err (stop_of_schema_fault f))
    going_refused e (Refused r) h known family = (
      known,
      refused_then r (goes_tests ∙ goes_refused d more name e r h),
    )
    going_refused e NoMemory h known family = tt

    -- or nothing refuses it
    pub going_free : is_none_of d name ≡ false → refused_without d more name ≡ None
        → first_answer (of_indexes d ms) ≡ None
    going_free e taken = goes_tests ∙ goes_free d more name e taken

    pub going_is : (family : ℕ) → without_index d name ≡ altered d ms family
    going_is family = sym (altered_to family [] (m ∷ []) none_comes one_goes)

    pub going_acts : true ≡ list_any acts (changes ms)
    going_acts = sym (acts_going ms m first)

  -- ---- none does

  module _ (create : first_asked (codes "Create") ms ≡ None)
      (delete : first_asked (codes "Delete") ms ≡ None) where
    stays_tests : first_answer (of_indexes d ms) ≡ first_answer (tests d more [] [])
    stays_tests = tests_by [] [] (none_first (asked_at (codes "Create") ms) create)
        (none_first (asked_at (codes "Delete") ms) delete)

    -- a definition doesn't fit
    pub staying_refused : false ≡ definitions_fit d d more → (o : Outcome)
        → unless_refused (of_indexes d ms) o ≡ refuses bad_key_schema
    staying_refused e = refused_then bad_key_schema (stays_tests ∙ stays_so d more false e)

    -- or nothing refuses it
    pub staying_free : true ≡ definitions_fit d d more → first_answer (of_indexes d ms) ≡ None
    staying_free e = stays_tests ∙ stays_so d more true e

    pub staying_is : (family : ℕ) → d ≡ altered d ms family
    staying_is family = sym (altered_to family [] []
        (none_first (asked_at (codes "Create") ms) create)
        (none_first (asked_at (codes "Delete") ms) delete))
