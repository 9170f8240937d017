-- The refusals of a CreateTable, step by step, and what it comes to.
use Rattle.std.proofs.Common.{◌≡◌, inl, inr, refl, sym, ap, subst, ◌∙◌, ℕ, ◌+◌, ◌<◌, ◌≤◌, Err, Bool, true, false, cond, not, nat_le, [], ◌∷◌, Option, Some, None, option_map, is_some, arith}
use Rattle.std.specs.Prelude.{IsSome}
use Rattle.std.proofs.lemmas.Bool.{le-leb, lt-leb}
use Rattle.std.specs.FinMap as map
use Rattle.serde_json.specs.Data.{Members}
use Rattle.alt_disk.specs.Disk.{DiskState}
use Rattle.alt_machine.specs.declared.TheConstants.{MOST_TABLES, MOST_FAMILIES, FAMILIES_END}
use Rattle.alt_machine.specs.Members.{table_name}
use Rattle.alt_machine.specs.Ops.CreateTable.{of_body, of_tables, creates, create_table}
use Rattle.alt_machine.specs.Outcomes.{Outcome, refuses, unless_refused, a_table, state_after}
use Rattle.alt_machine.specs.Refusals.{first_answer, refuse_if, refuse_by}
use Rattle.alt_machine.specs.State.{State, Texts, descriptions}
use Rattle.alt_machine.proofs.Descriptions.{there-descriptions, len-descriptions}
use Rattle.alt_machine.specs.Valid.{IsMade}
use Rattle.alt_machine.specs.Wanted.{Lack, table_lack, lack_among, or_later}
use Rattle.alt_machine.proofs.Lacks.{table_room}
use Rattle.alt_machine.proofs.Made.{made_is}
use Rattle.alt_machine.proofs.Tests.{passed, stopped}
use Rattle.alt_request.specs.Carried.{Carries, IfFailed}
use Rattle.alt_request.proofs.Carrying.{refused_so, faulted}
use Rattle.alt_request.proofs.Moving.{unfailed_fault, leaves_nothing}
use Rattle.alt_request.specs.TablesImages.{Leaves}
use Rattle.alt_request.specs.Steps.{Tested}
use Rattle.alt_request.specs.declared.stop.Stop.{Stop}
use Rattle.alt_request.specs.declared.stop.Stop.TheVariants.{Refused, Fault}
use Rattle.alt_ops_table.specs.private.Asked.{IsToBeMade, IsToBeMadeOrRefused}
use Rattle.alt_request.specs.TablesFaults.{AreLacking, AreMade, BreakOff}
use Rattle.alt_request.specs.TablesStands.{Stands, catalog_of, next_write_of_tables, next_family_of_tables}
use Rattle.alt_request.specs.TablesDeclaredTables.{Tables}
use Rattle.alt_request.specs.TablesDeclaredTableFault.{TableFault}
use Rattle.alt_request.specs.TablesDeclaredTableFault.TheVariants.{Spent, Damaged, BadRow, Failed, NoMemory}
use Rattle.alt_schema.specs.Described.{description_of, described_by}
use Rattle.alt_schema.specs.Rules as rules
use Rattle.alt_schema.specs.Stated.{stated}
use Rattle.alt_schema.specs.declared.schema.TableSchema.{TableSchema}
use Rattle.alt_shape.specs.Refusals.{refused, table_exists, too_many_tables, IsKnown}
use Rattle.alt_shape.specs.declared.refusal.Refusal.{Refusal}
use Rattle.alt_shape.specs.declared.refusal.Refusal.TheVariants.{Invalid}

-- ---- the refusals of a body for its names, keys or indexes

known_by : (a b c : Bool) (r : Refusal) → cond (not a) (Some (Invalid 4))
    (cond (not b) (Some (Invalid 5)) (cond (not c) (Some (Invalid 6)) None)) ≡ Some r → IsKnown r
known_by false b c r e = subst IsKnown (same e) (omega arith)
  where
    same : Some (Invalid 4) ≡ Some r → Invalid 4 ≡ r
    same e = cc
known_by true false c r e = subst IsKnown (same e) (omega arith)
  where
    same : Some (Invalid 5) ≡ Some r → Invalid 5 ≡ r
    same e = cc
known_by true true false r e = subst IsKnown (same e) (omega arith)
  where
    same : Some (Invalid 6) ≡ Some r → Invalid 6 ≡ r
    same e = cc
known_by true true true r e = absurd (let f : ⊥ = cc in f)

-- each refusal of a body is one of those that are known
pub known : (ms : Members) (r : Refusal) → rules.create_table_refusal ms ≡ Some r → IsKnown r
unfolding rules.create_table_refusal rules.refused_for
known ms r e = known_by (rules.names_fit (stated ms)) (rules.keys_fit_together (stated ms))
    (rules.indexes_fit (stated ms)) r e

-- ---- the description that is made

-- the description has the name that the body states
pub name-described : (ms : Members) (moment number family : ℕ) (d : TableSchema)
    → d ≡ description_of ms moment number family → d.name ≡ table_name ms
unfolding description_of described_by
name-described ms moment number family d e = ap (λ (x : TableSchema). x.name) e

-- the description has the number that it is made with
pub number-described : (ms : Members) (moment number family : ℕ) (d : TableSchema)
    → d ≡ description_of ms moment number family → d.number ≡ number
unfolding description_of described_by
number-described ms moment number family d e = ap (λ (x : TableSchema). x.number) e

-- the description has the family that it is made with
pub family-described : (ms : Members) (moment number family : ℕ) (d : TableSchema)
    → d ≡ description_of ms moment number family → d.family ≡ family
unfolding description_of described_by
family-described ms moment number family d e = ap (λ (x : TableSchema). x.family) e

-- ---- what a CreateTable comes to

module _ (s : State) (moment : ℕ) (ms : Members) where
  -- what is made where nothing is refused
  abbrev made : Outcome
  made = creates s (description_of ms moment s.next_number s.next_family)

  -- a body that is unfit is refused as its first test says
  pub create-unfit : (r : Refusal) → first_answer (of_body ms) ≡ Some (refused r)
      → create_table s moment ms ≡ refuses r
  unfolding create_table
  create-unfit r e = stopped (of_body ms) (unless_refused (of_tables s ms) made) (refused r) e

  module _ (free : first_answer (of_body ms) ≡ None) where
    of_body_on : create_table s moment ms ≡ unless_refused (of_tables s ms) made
    unfolding create_table
    of_body_on = passed (of_body ms) (unless_refused (of_tables s ms) made) free

    pub create-refused : (r : Refusal) → rules.create_table_refusal ms ≡ Some r
        → create_table s moment ms ≡ refuses r
    create-refused r e = of_body_on ∙ stopped (of_tables s ms) made (refused r)
        (ap (λ o. first_answer (refuse_by o ∷ refuse_if (map.contains_key s.tables (table_name ms))
        table_exists ∷ refuse_if (nat_le MOST_TABLES (map.len s.tables)) too_many_tables ∷ []))
        e)

    module _ (taken : rules.create_table_refusal ms ≡ None) (catalog : Texts TableSchema)
        (same : descriptions s.tables ≡ catalog) where
      tests : (b c : Bool) → map.contains_key catalog (table_name ms) ≡ b
          → nat_le MOST_TABLES (map.len catalog) ≡ c
          → first_answer (of_tables s ms) ≡ first_answer
          (refuse_if b table_exists ∷ refuse_if c too_many_tables ∷ [])
      tests b c e f = λ i. first_answer (refuse_by (taken i)
          ∷ refuse_if ((sym (there-descriptions s.tables (table_name ms))
          ∙ ap (λ m. map.contains_key m (table_name ms)) same ∙ e) i) table_exists
          ∷ refuse_if ((ap (nat_le MOST_TABLES)
          (sym (len-descriptions s.tables) ∙ ap (λ m. map.len m) same) ∙ f) i)
          too_many_tables ∷ [])

      pub create-exists : map.contains_key catalog (table_name ms) ≡ true
          → create_table s moment ms ≡ refuses table_exists
      create-exists e = of_body_on ∙ stopped (of_tables s ms) made (refused table_exists)
          (tests true _ e refl)

      pub create-many : map.contains_key catalog (table_name ms) ≡ false
          → MOST_TABLES ≤ map.len catalog → create_table s moment ms ≡ refuses too_many_tables
      create-many e h = of_body_on ∙ stopped (of_tables s ms) made (refused too_many_tables)
          (tests false true e (le-leb MOST_TABLES (map.len catalog) h))

      pub create-made : map.contains_key catalog (table_name ms) ≡ false
          → map.len catalog < MOST_TABLES → create_table s moment ms ≡ made
      create-made e h = of_body_on ∙ passed (of_tables s ms) made
          (tests false false e (lt-leb MOST_TABLES (map.len catalog) h))

-- ---- whether a name is there

-- where an option that was mapped has a value, the mapped one has
pub some_there : {A B : Type 0} (f : A → B) (o : Option A) (p : Option B) → option_map f o ≡ p
    → is_some o ≡ true → is_some p ≡ true
some_there f None p e h = absurd (let g : ⊥ = cc in g)
some_there f (Some x) p e h = ap is_some (sym e)

-- where an option that was mapped has none, the mapped one is None
pub none_there : {A B : Type 0} (f : A → B) (o : Option A) (p : Option B) → option_map f o ≡ p
    → is_some o ≡ false → p ≡ None
none_there f None p e h = sym e
none_there f (Some x) p e h = absurd (let g : ⊥ = cc in g)

-- where a new table lacks nothing, its families are free
pub free_family : (n f : ℕ) → table_lack n f ≡ None → f + MOST_FAMILIES ≤ FAMILIES_END
free_family n f e = (table_room (record { tables = map.empty; next_number = n; next_family = f })
    e).1

-- a body that is refused alone
pub unfit_asked : (tables : Tables) (moment : ℕ) (ms : Members) (stop : Stop)
    → Tested {X = Unit {0}} (of_body ms) (Err stop) → IsToBeMadeOrRefused tables moment ms (Err stop)
unfit_asked tables moment ms (Refused r) h = (h.1, λ s same. create-unfit s moment ms r h.0)
unfit_asked tables moment ms (Fault f) h = h

-- what is asked stops the request
pub asked_stops : {file : ℕ} (tables : Tables) (disk : DiskState) (now : State → Type 0)
    (moment : ℕ) (ms : Members) (stop : Stop) → IsToBeMadeOrRefused tables moment ms (Err stop)
    → ((s : State) → Stands disk tables s → now s)
    → Carries file (λ s. create_table s moment ms) (Stands disk tables) now (Err stop)
asked_stops tables disk now moment ms (Refused r) h stays =
    refused_so (λ s. create_table s moment ms) (Stands disk tables) now r h.0
    (λ s stands. h.1 s (sym stands.catalog)) stays
asked_stops tables disk now moment ms (Fault f) h stays =
    faulted (λ s. create_table s moment ms) (Stands disk tables) now f h stays

-- no failure of the device is among what stops it
pub asked_unfailed : (P : Type 0) (tables : Tables) (moment : ℕ) (ms : Members) (stop : Stop)
    → IsToBeMadeOrRefused tables moment ms (Err stop) → IfFailed (Err stop) P
asked_unfailed P tables moment ms (Refused r) h = tt
asked_unfailed P tables moment ms (Fault f) h = unfailed_fault f P h

-- ---- the end of a CreateTable

-- what is made of a table to be made
pub to_be_made : (tables : Tables) (disk : DiskState) (moment : ℕ) (ms : Members) (d : TableSchema)
    → IsToBeMade tables moment ms d → (s : State) → Stands disk tables s
    → (create_table s moment ms ≡ creates s (description_of ms moment s.next_number s.next_family))
    × (table_lack s.next_number s.next_family ≡ None
    → d ≡ description_of ms moment s.next_number s.next_family)
to_be_made tables disk moment ms d h s stands = (
  create-made s moment ms h.body h.taken (catalog_of tables) (sym stands.catalog)
      (ap (λ n. is_some (map.get (catalog_of tables) n))
      (sym (name-described ms moment (next_write_of_tables tables) h.family d h.is)) ∙ ap is_some h.absent)
      h.few,
  λ free. h.is
      ∙ ap (λ n. description_of ms moment n h.family) stands.number
      ∙ ap (description_of ms moment s.next_number)
      (h.next ((λ i. table_lack (stands.number i) (stands.family i)) ∙ free) ∙ stands.family),
)

-- a table that is to be made is as a made table has to be
pub is_made : (tables : Tables) (moment : ℕ) (ms : Members) (d : TableSchema)
    → IsToBeMade tables moment ms d → IsMade d
is_made tables moment ms d h = subst IsMade (sym h.is)
    (made_is ms moment (next_write_of_tables tables) h.family h.taken)

-- a table that is to be made gets the next number
pub has_number : (tables : Tables) (moment : ℕ) (ms : Members) (d : TableSchema)
    → IsToBeMade tables moment ms d → d.number ≡ next_write_of_tables tables
has_number tables moment ms d h = number-described ms moment (next_write_of_tables tables) h.family d h.is

-- a table that is to be made gets the next family, where numbers and families aren't used up
pub has_family : (tables : Tables) (moment : ℕ) (ms : Members) (d : TableSchema)
    → IsToBeMade tables moment ms d
    → table_lack (next_write_of_tables tables) (next_family_of_tables tables) ≡ None → d.family ≡ next_family_of_tables tables
has_family tables moment ms d h free = family-described ms moment (next_write_of_tables tables) h.family d h.is
    ∙ h.next free

-- where the one write that makes a table lacks nothing, neither does the state
pub lacks_nothing : (s t : State) → lack_among a_table s (t ∷ []) ≡ None
    → table_lack s.next_number s.next_family ≡ None
lacks_nothing s t e = by (table_lack s.next_number s.next_family) e
  where
    by : (o : Option ℕ) → or_later o None ≡ None → o ≡ None
    by None e = refl
    by (Some n) e = absurd (let f : ⊥ = cc in f)

module _ (s t u : State) (now : State → Type 0)
    (same : table_lack s.next_number s.next_family ≡ None → t ≡ u) where
  -- where the first of the lacks is none, nothing is lacked
  nothing_lacked : (o : Option ℕ) → or_later o None ≡ None → o ≡ None
  nothing_lacked None e = refl
  nothing_lacked (Some n) e = absurd (let f : ⊥ = cc in f)

  -- tables that are alike are made alike
  pub made_alike : AreMade now a_table s (t ∷ []) → AreMade now a_table s (u ∷ [])
  made_alike h = record {
    state = subst now (same
        (nothing_lacked (table_lack s.next_number s.next_family) h.enough)) h.state;
    enough =
        h.enough;
  }

  -- where a number is lacked, it is before the write
  at_first : (o : Option ℕ) (n before : ℕ) → or_later o None
      ≡ Some (record { number = n; before = before }) → before ≡ 0
  at_first None n before e = absurd (let f : ⊥ = cc in f)
  at_first (Some m) n before e = sym (ap before_of e)
    where
      before_of : Option Lack → ℕ
      before_of None = 0
      before_of (Some lack) = lack.before

  -- and so it is with a file
  nothing_before : (file n before : ℕ) → AreLacking file a_table s (t ∷ []) n before → before ≡ 0
  nothing_before file n before (inl lack) =
      at_first (table_lack s.next_number s.next_family) n before lack
  nothing_before file n before (inr last) = last.0

  -- where tables are alike, making one breaks off as making the other does
  pub broken_alike : (file : ℕ) (f : TableFault) → BreakOff file now a_table s (t ∷ []) f
      → BreakOff file now a_table s (u ∷ []) f
  broken_alike file (Spent n) (before, lacks, h) =
      let first : before ≡ 0 = nothing_before file n before lacks in (
        before,
        lacks,
        subst (λ k. now (state_after k s (u ∷ []))) (sym first)
            (subst (λ k. now (state_after k s (t ∷ []))) first h),
      )
  broken_alike file (Damaged number at) h = absurd h
  broken_alike file (BadRow family key) h = absurd h
  broken_alike file Failed h = tt
  broken_alike file NoMemory h = tt

-- What is left is the same where both states are one unless something is lacked, and then no call of the disk was made.
pub left_alike : (before later : DiskState) (tables : Tables) (s : State) → Stands before tables s
    → (t u : State) → (table_lack s.next_number s.next_family ≡ None → t ≡ u)
    → (IsSome (table_lack (next_write_of_tables tables) (next_family_of_tables tables)) → later ≡ before)
    → Leaves before later s (t ∷ []) → Leaves before later s (u ∷ [])
left_alike before later tables s stands t u same lacking left =
    by_lack (table_lack s.next_number s.next_family) refl
  where
    known : table_lack (next_write_of_tables tables) (next_family_of_tables tables)
        ≡ table_lack s.next_number s.next_family
    known = λ i. table_lack (stands.number i) (stands.family i)

    by_lack : (o : Option ℕ) → table_lack s.next_number s.next_family ≡ o
        → Leaves before later s (u ∷ [])
    by_lack None e = subst (λ (x : State). Leaves before later s (x ∷ [])) (same e) left
    by_lack (Some n) e = leaves_nothing (λ r. refuses table_exists) tables before later s (u ∷ [])
        (lacking (subst IsSome (sym (known ∙ e)) refl)) stands
