-- What a user's write leaves at two moments: the same items, and changes of which none more is told to be of time to live. So it is of
-- outcomes, if it is where nothing refuses them.
use Rattle.std.proofs.Common.{◌≡◌, refl, sym, ap, subst, ◌∙◌, ℕ, Bool, true, false, true≢false, cond, is_eq, is_some, List, [], ◌∷◌, ◌++◌, append-nil, Option, Some, None, option_map, Result, Ok, Err, All, Contains}
use Rattle.std.specs.Prelude.{IfSome, if◌then◌else◌, codes, option_to_list}
use Rattle.std.specs.FinMap.{get-insert}
use Rattle.std.specs.FinMap as finite
use Rattle.std.specs.Option.{option_map_or}
use Rattle.std.specs.declared.cmp.Ordering.{Ordering}
use Rattle.std.specs.declared.cmp.Ordering.TheVariants.{Less, Equal, Greater}
use Rattle.std.proofs.lemmas.List.Elements.{All-push, All-weaker, All-contains_itself}
use Rattle.std.proofs.lemmas.Option.{same_Some}
use Rattle.serde_json.specs.Data.{Members}
use Rattle.alt_codec.specs.declared.writer.Writer.TheVariants.{User, Expiry}
use Rattle.alt_expr.specs.declared.cond.Cond.{Cond}
use Rattle.alt_schema.specs.declared.schema.TableSchema.{TableSchema}
use Rattle.alt_shape.specs.Refusals.{Answer, not_found, bad_key}
use Rattle.alt_value.specs.Members.{text_order}
use Rattle.alt_value.specs.Tree.{Pair}
use Rattle.alt_value.proofs.Texts.{text_total, text_apart}
use Rattle.alt_machine.specs.Changes.{change_left, with_change}
use Rattle.alt_machine.specs.Conditional.{meets_condition, asked, failed, if_met}
use Rattle.alt_machine.specs.declared.Expressions.{Expressions}
use Rattle.alt_machine.specs.declared.Sought.{Sought}
use Rattle.alt_machine.specs.Expressions.{Texts, words_given, expressions, given_at}
use Rattle.alt_machine.specs.Laws.{items_of, changes_of}
use Rattle.alt_machine.specs.Lists.{on_list, start_given}
use Rattle.alt_machine.specs.Members.{item_at, table_at, table_name}
use Rattle.alt_machine.specs.Ops.BatchWriteItem.{PlacedWrite, writes_of_by, writes_of_all_by}
use Rattle.alt_machine.specs.Outcomes.{Outcome, says, answer_or, unless_refused, with_found, last_state}
use Rattle.alt_machine.specs.Refusals.{first_answer, or_refused}
use Rattle.alt_machine.specs.Same.{is_same}
use Rattle.alt_machine.specs.Sources.{index_asked}
use Rattle.alt_machine.specs.State.{State, Table, Change}
use Rattle.alt_machine.specs.Targets.{on_table, on_item, of_length, member_of, place_in}
use Rattle.alt_machine.specs.Trimming.{kept}
use Rattle.alt_machine.specs.Writes.{after_item_by, item_writes_by, with_item, with_write_by}
use Rattle.alt_machine.proofs.Behind.{last_behind}
use Rattle.alt_machine.proofs.Chains.{found_is}
use Rattle.alt_machine.proofs.Lists as listed
use Rattle.alt_machine.proofs.Targets as target
use Rattle.alt_machine.proofs.Trimming.{kept_all}

-- texts that tie are one
pub one_text : (a b : List ℕ) → is_eq (text_order a b) ≡ true → a ≡ b
one_text a b e = text_apart a b (equal _ e)
  where
    equal : (o : Ordering) → is_eq o ≡ true → o ≡ Equal
    equal Less e = absurd (let f : ⊥ = cc in f)
    equal Equal e = refl
    equal Greater e = absurd (let f : ⊥ = cc in f)

-- ---- the changes of a user

-- the change that a user's write leaves is of a user
left_by_user : (n moment : ℕ) (old new : Option (List Pair))
    → IfSome (change_left n moment User old new) (λ (c : Change). c.by ≡ User)
left_by_user n moment old new = by (is_same old new)
  where
    by : (b : Bool) → IfSome (if b then None
        else Some (record { number = n; moment = moment; old = old; new = new; by = User }))
        (λ (c : Change). c.by ≡ User)
    by true = tt
    by false = refl

-- what holds of all changes and of each that is of a user, holds of all behind a user's
with_all : (P : Change → Type 0) → ((c : Change) → c.by ≡ User → P c) → (d : TableSchema) (moment : ℕ)
    (left : Option Change) (changes : List Change) → IfSome left (λ (c : Change). c.by ≡ User)
    → All P changes → All P (with_change d moment left changes)
with_all P user d moment left changes is all = by (is_some d.stream_family)
  where
    more : (o : Option Change) → IfSome o (λ (c : Change). c.by ≡ User)
        → All P (changes ++ option_to_list o)
    more None of = subst (All P) (sym (append-nil changes)) all
    more (Some c) of = All-push P changes c all (user c of)

    by : (b : Bool) → All P (if b then kept moment (changes ++ option_to_list left) else changes)
    by true = kept_all P moment (changes ++ option_to_list left) (more left is)
    by false = all

module _ (s : State) where
  -- a change of which it is told that time to live made it was there
  abbrev pub Was : List ℕ → Change → Type 0
  Was name c = c.by ≡ Expiry → Contains (changes_of s name) c

  -- one of a user isn't of time to live
  of_user : (name : List ℕ) (c : Change) → c.by ≡ User → Was name c
  of_user name c user expiry = absurd (let f : ⊥ = cc (user, expiry) in f)

  -- Two states have the same items, and each change of the first that is of time to live was there.
  pub record Agree (a b : State) : Type 0 where
    pub items : (name : List ℕ) → items_of a name ≡ items_of b name
    pub changes : (name : List ℕ) → All (Was name) (changes_of a name)

  -- the state agrees with itself
  pub own : Agree s s
  own = record {
    items = λ name. refl;
    changes = λ name. All-weaker (Contains (changes_of s name)) (Was name) (λ c within expiry. within)
        (changes_of s name) (All-contains_itself (changes_of s name));
  }

  -- ---- one write

  -- a table more, or another table of that name
  pub insert_agrees : (a b : State) (name : List ℕ) (t u : Table) (n m f g : ℕ) → Agree a b
      → t.items ≡ u.items → All (Was name) t.changes
      → Agree (record { tables = finite.insert a.tables name t; next_number = n; next_family = f })
      (record { tables = finite.insert b.tables name u; next_number = m; next_family = g })
  insert_agrees a b name t u n m f g agree same all = record {
    items = λ q. ap (option_map (λ (x : Table). x.items)) (get-insert text_total a.tables name t q)
        ∙ either q (is_eq (text_order q name))
        ∙ sym (ap (option_map (λ (x : Table). x.items)) (get-insert text_total b.tables name u q));
    changes = λ q. subst (λ (o : Option Table). All (Was q) (option_map_or (λ x. x.changes) o []))
        (sym (get-insert text_total a.tables name t q)) (all_of q (is_eq (text_order q name)) refl);
  }
    where
      either : (q : List ℕ) (here : Bool)
          → option_map (λ (x : Table). x.items) (cond here (Some t) (finite.get a.tables q))
          ≡ option_map (λ (x : Table). x.items) (cond here (Some u) (finite.get b.tables q))
      either q true = ap Some same
      either q false = agree.items q

      all_of : (q : List ℕ) (here : Bool) → is_eq (text_order q name) ≡ here
          → All (Was q) (option_map_or (λ (x : Table). x.changes)
          (cond here (Some t) (finite.get a.tables q)) [])
      all_of q true e = subst (λ n. All (Was n) t.changes) (sym (one_text q name e)) all
      all_of q false e = agree.changes q

  -- a user's write at a place
  pub written_agrees : (a b : State) (m n : ℕ) (name : List ℕ) (t u : Table) (place : List ℕ)
      (new : Option (List Pair)) → Agree a b → t.items ≡ u.items → All (Was name) t.changes
      → Agree (last_state a (item_writes_by a m User name t place new))
      (last_state b (item_writes_by b n User name u place new))
  written_agrees a b m n name t u place new agree same all =
      by (is_same (finite.get t.items place) new) (is_same (finite.get u.items place) new)
      (ap (λ items. is_same (finite.get items place) new) same)
    where
      left : State
      left = after_item_by a m User name t place new

      right : State
      right = after_item_by b n User name u place new

      by : (i j : Bool) → i ≡ j → Agree (last_state a (if i then [] else left ∷ []))
          (last_state b (if j then [] else right ∷ []))
      by true true e = agree
      by false false e = insert_agrees a b name (with_write_by a.next_number m User t place new)
          (with_write_by b.next_number n User u place new) _ _ _ _ agree
          (ap (λ items. with_item items place new) same)
          (with_all (Was name) (of_user name) t.description m _ t.changes
          (left_by_user a.next_number m (finite.get t.items place) new) all)
      by true false e = absurd (true≢false e)
      by false true e = absurd (true≢false (sym e))

  -- ---- those of a batch

  -- the changes of a table that is there
  pub of_found : (a : State) (name : List ℕ) (t : Table) → All (Was name) (changes_of a name)
      → finite.get a.tables name ≡ Some t → All (Was name) t.changes
  of_found a name t all there = subst
      (λ (o : Option Table). All (Was name) (option_map_or (λ x. x.changes) o [])) there all

  one_agrees : (a b : State) (m n : ℕ) (w : PlacedWrite) → Agree a b
      → Agree (last_state a (writes_of_by a m User w)) (last_state b (writes_of_by b n User w))
  one_agrees a b m n w agree = at (finite.get a.tables w.table) (finite.get b.tables w.table) refl
      (agree.items w.table)
    where
      at : (o p : Option Table) → finite.get a.tables w.table ≡ o
          → option_map (λ (t : Table). t.items) o ≡ option_map (λ (t : Table). t.items) p
          → Agree (last_state a (option_map_or
          (λ t. item_writes_by a m User w.table t w.place w.new) o []))
          (last_state b (option_map_or
          (λ t. item_writes_by b n User w.table t w.place w.new) p []))
      at None None there e = agree
      at (Some t) (Some u) there e = written_agrees a b m n w.table t u w.place w.new agree
          (same_Some t.items u.items e) (of_found a w.table t (agree.changes w.table) there)
      at None (Some u) there e = absurd (let f : ⊥ = cc in f)
      at (Some t) None there e = absurd (let f : ⊥ = cc in f)

  pub all_agree : (a b : State) (m n : ℕ) (ws : List PlacedWrite) → Agree a b
      → Agree (last_state a (writes_of_all_by a m User ws)) (last_state b (writes_of_all_by b n User ws))
  all_agree a b m n [] agree = agree
  all_agree a b m n (w ∷ ws) agree =
      let c : State = last_state a (writes_of_by a m User w) in
      let d : State = last_state b (writes_of_by b n User w) in
      subst (λ x. Agree x (last_state b (writes_of_all_by b n User (w ∷ ws))))
      (sym (last_behind a (writes_of_by a m User w) (writes_of_all_by c m User ws)))
      (subst (λ x. Agree (last_state c (writes_of_all_by c m User ws)) x)
      (sym (last_behind b (writes_of_by b n User w) (writes_of_all_by d n User ws)))
      (all_agree c d m n ws (one_agrees a b m n w agree)))

  -- ---- a request

  -- what two outcomes leave agrees
  abbrev pub Leave : Outcome → Outcome → Type 0
  Leave o p = Agree (last_state s o.atoms) (last_state s p.atoms)

  pub leave-unless : (tests : List (Option Answer)) (o p : Outcome) → Leave o p
      → Leave (unless_refused tests o) (unless_refused tests p)
  leave-unless tests o p h = by (first_answer tests)
    where
      by : (a : Option Answer) → Leave (answer_or a o) (answer_or a p)
      by None = h
      by (Some a) = own

  pub leave-found : {A : Type 0} (r : Result A Answer) (go on : A → Outcome)
      → ((x : A) → r ≡ Ok x → Leave (go x) (on x)) → Leave (with_found r go) (with_found r on)
  leave-found r go on h = by r refl
    where
      by : (q : Result _ Answer) → r ≡ q → Leave (with_found q go) (with_found q on)
      by (Ok x) e = h x e
      by (Err a) e = own

  pub leave-met : (condition : Option Cond) (ms : Members) (old : Option (List Pair)) (o p : Outcome)
      → Leave o p → Leave (if_met condition ms old o) (if_met condition ms old p)
  leave-met condition ms old o p h = by (meets_condition condition old)
    where
      refusal : Outcome
      refusal = says (failed (asked (codes "ReturnValuesOnConditionCheckFailure") ms old))

      by : (b : Bool) → Leave (if b then o else refusal) (if b then p else refusal)
      by true = h
      by false = own

  pub leave-on_table : (tests : List (Option Answer)) (ms : Members) (go on : Table → Outcome)
      → ((t : Table) → finite.get s.tables (table_name ms) ≡ Some t → Leave (go t) (on t))
      → Leave (on_table tests s ms go) (on_table tests s ms on)
  leave-on_table tests ms go on h =
      leave-unless tests _ _ (leave-found (table_at s ms) go on (λ t there.
      h t (found_is not_found (finite.get s.tables (table_name ms)) t there)))

  pub leave-on_item : (tests : List (Option Answer)) (sought : Sought) (texts : Texts) (ms : Members)
      (go on : Expressions → List Pair → Table → List ℕ → Outcome)
      → ((said : Expressions) (item : List Pair) (t : Table) (at : List ℕ)
      → finite.get s.tables (table_name ms) ≡ Some t → Leave (go said item t at) (on said item t at))
      → Leave (on_item tests sought texts s ms go) (on_item tests sought texts s ms on)
  leave-on_item tests sought texts ms go on h =
      leave-unless tests _ _ (
      leave-found (item_at (member_of sought) ms) (target.of_item tests sought texts s ms go)
      (target.of_item tests sought texts s ms on) (λ item read.
      leave-found (words_given texts ms) (target.of_words tests sought texts s ms go item)
      (target.of_words tests sought texts s ms on item) (λ g words.
      leave-found (table_at s ms) (target.in_table tests sought texts s ms go item g)
      (target.in_table tests sought texts s ms on item g) (λ t there.
      leave-found (expressions texts t.description ms g)
      (target.expressed tests sought texts s ms go item t)
      (target.expressed tests sought texts s ms on item t) (λ said says_so.
      leave-found (or_refused bad_key (place_in sought t.description item))
      (target.placed tests sought texts s ms go item t said)
      (target.placed tests sought texts s ms on item t said) (λ at stands.
      leave-unless (of_length t.description item) (go said item t at) (on said item t at)
      (h said item t at
      (found_is not_found (finite.get s.tables (table_name ms)) t there))))))))

  pub leave-on_list : (tests : List (Option Answer)) (texts : Texts) (ms : Members)
      (go : Expressions → Option (List Pair) → Table → Option ℕ → Outcome)
      → ((said : Expressions) (start : Option (List Pair)) (t : Table) (index : Option ℕ)
      → Leave (go said start t index) (go said start t index))
      → Leave (on_list tests texts s ms go) (on_list tests texts s ms go)
  leave-on_list tests texts ms go h =
      leave-unless tests _ _ (
      leave-found (given_at texts ms) (listed.of_words tests texts s ms go)
      (listed.of_words tests texts s ms go) (λ g words.
      leave-found (start_given texts ms) (listed.of_start tests texts s ms go g)
      (listed.of_start tests texts s ms go g) (λ start read.
      leave-found (table_at s ms) (listed.in_table tests texts s ms go g start)
      (listed.in_table tests texts s ms go g start) (λ t there.
      leave-found (index_asked t.description ms) (listed.of_index tests texts s ms go g start t)
      (listed.of_index tests texts s ms go g start t) (λ index asks.
      leave-found (expressions texts t.description ms g)
      (listed.expressed tests texts s ms go start t index)
      (listed.expressed tests texts s ms go start t index)
      (λ said says_so. h said start t index))))))
