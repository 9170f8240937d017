-- Deletions of expired items lead from a valid state to valid ones, and delete those items alone.
use Rattle.std.proofs.Common.{◌≡◌, refl, sym, ap, ◌∙◌, ℕ, Bool, true, false, cond, List, [], ◌∷◌, ◌++◌, map, Option, Some, None}
use Rattle.std.specs.Cmp.{first_so, second_so}
use Rattle.std.specs.Prelude.{◌&&◌, ◌||◌, if◌then◌else◌, option_and_then}
use Rattle.std.specs.List.{list_any}
use Rattle.std.specs.Ordering.{eq_by_cmp}
use Rattle.alt_codec.specs.declared.writer.Writer.TheVariants.{Expiry}
use Rattle.alt_value.specs.Members.{text_order}
use Rattle.alt_value.proofs.Texts.{text_total}
use Rattle.std.specs.FinMap as finite
use Rattle.std.specs.Option.{option_map_or}
use Rattle.alt_machine.specs.declared.Standing.{Standing}
use Rattle.alt_machine.specs.Expiry.{DeletesExpired, deletions, expiring, gone_at, is_at, item_at_place}
use Rattle.alt_machine.specs.Ops.BatchWriteItem.{writes_of_by, writes_of_all_by}
use Rattle.alt_machine.specs.Ops.ExpireItems.{expire_items}
use Rattle.alt_machine.specs.Outcomes.{a_number, last_state}
use Rattle.alt_machine.specs.Same.{is_same}
use Rattle.alt_machine.specs.State.{State, Table}
use Rattle.alt_machine.specs.Writes.{after_item_by, item_writes_by, with_write_by}
use Rattle.alt_machine.proofs.Behind.{last_behind}
use Rattle.alt_machine.proofs.Chains.{AreSteps, Steps, none_steps, first_step}
use Rattle.alt_machine.proofs.Lacks.{number_room}
use Rattle.alt_machine.proofs.Same.{same_is}
use Rattle.alt_machine.proofs.States.{after_item_valid}
use Rattle.alt_machine.proofs.Together.{Count, count-then, together_steps}
use Rattle.alt_value.proofs.TextTies.{one_text}

module _ (moment : ℕ) where
  -- the write that deletes an item, where it is there, is a step, and so are those behind it
  next_gone : (s : State) (e : Standing) (rest : State → List State)
      → ((r : State) → AreSteps a_number r (rest r))
      → AreSteps a_number s (writes_of_by s moment Expiry (gone_at e)
      ++ rest (last_state s (writes_of_by s moment Expiry (gone_at e))))
  next_gone s e rest behind = at (finite.get s.tables e.table) refl
    where
      made : Option Table → List State
      made o = option_map_or (λ t. item_writes_by s moment Expiry e.table t e.place None) o []

      at : (o : Option Table) → finite.get s.tables e.table ≡ o
          → AreSteps a_number s (made o ++ rest (last_state s (made o)))
      at None there = behind s
      at (Some t) there = by (is_same (finite.get t.items e.place) None) refl
        where
          after : State
          after = after_item_by s moment Expiry e.table t e.place None

          by : (b : Bool) → is_same (finite.get t.items e.place) None ≡ b
              → AreSteps a_number s ((if b then [] else after ∷ [])
              ++ rest (last_state s (if b then [] else after ∷ [])))
          by true same = behind s
          by false differ = first_step a_number s after (rest after) (λ v enough.
              after_item_valid s moment Expiry e.table t e.place None v (number_room s enough) there differ
              (λ item no. absurd (let f : ⊥ = cc in f))) (behind after)

  -- the writes that delete several are steps
  pub gone_steps : (s : State) (es : List Standing)
      → AreSteps a_number s (writes_of_all_by s moment Expiry (map gone_at es))
  gone_steps s [] = none_steps a_number s
  gone_steps s (e ∷ es) =
      next_gone s e (λ r. writes_of_all_by r moment Expiry (map gone_at es)) (λ r. gone_steps r es)

  -- each of them takes the next number
  one_count : (s : State) (e : Standing) → Count s (writes_of_by s moment Expiry (gone_at e))
  one_count s e = at (finite.get s.tables e.table)
    where
      at : (o : Option Table) → Count s (option_map_or
          (λ t. item_writes_by s moment Expiry e.table t e.place None) o [])
      at None = tt
      at (Some t) = by (is_same (finite.get t.items e.place) None)
        where
          by : (b : Bool) → Count s
              (if b then [] else after_item_by s moment Expiry e.table t e.place None ∷ [])
          by true = tt
          by false = (refl, tt)

  gone_count : (s : State) (es : List Standing)
      → Count s (writes_of_all_by s moment Expiry (map gone_at es))
  gone_count s [] = tt
  gone_count s (e ∷ es) = count-then s (writes_of_by s moment Expiry (gone_at e)) _ (one_count s e)
      (gone_count (last_state s (writes_of_by s moment Expiry (gone_at e))) es)

-- so together they lead from a valid state to a valid one
pub expire_steps : (s : State) (moment : ℕ) → Steps s (expire_items s moment)
unfolding expire_items
expire_steps s moment = together_steps s (deletions s moment)
    (gone_steps moment s (expiring s moment)) (gone_count moment s (expiring s moment))

-- ---- what they leave

-- what is none where a test holds
none_where : {A : Type 0} (b : Bool) (x : Option A) → (b ≡ true → x ≡ None)
    → x ≡ (if b then None else x)
none_where true x h = h refl
none_where false x h = refl

-- one test behind another
both_none : {A : Type 0} (a b : Bool) (x : Option A)
    → (if b then None else (if a then None else x)) ≡ (if a || b then None else x)
both_none true true x = refl
both_none true false x = refl
both_none false b x = refl

module _ (moment : ℕ) (name place : List ℕ) where
  -- one deletion takes the item at its place, and leaves the others
  one_gone : (s : State) (e : Standing)
      → item_at_place (last_state s (writes_of_by s moment Expiry (gone_at e))) name place
      ≡ (if is_at name place e then None else item_at_place s name place)
  one_gone s e = at (finite.get s.tables e.table) refl
    where
      made : Option Table → List State
      made o = option_map_or (λ t. item_writes_by s moment Expiry e.table t e.place None) o []

      -- where nothing stands at its place, nothing stood there
      stays : (o : Option Table) → finite.get s.tables e.table ≡ o
          → option_and_then (λ (t : Table). finite.get t.items e.place) o ≡ None
          → item_at_place s name place ≡ (if is_at name place e then None else item_at_place s name place)
      stays o there none = none_where (is_at name place e) (item_at_place s name place) (λ both.
          let same : eq_by_cmp text_order name e.table ≡ true =
          first_so (eq_by_cmp text_order name e.table) _ both in
          let also : eq_by_cmp text_order place e.place ≡ true =
          second_so (eq_by_cmp text_order name e.table) _ both in
          (λ j. item_at_place s (one_text name e.table same j) (one_text place e.place also j))
          ∙ ap (option_and_then (λ (t : Table). finite.get t.items e.place)) there ∙ none)

      at : (o : Option Table) → finite.get s.tables e.table ≡ o
          → item_at_place (last_state s (made o)) name place
          ≡ (if is_at name place e then None else item_at_place s name place)
      at None there = stays None there refl
      at (Some t) there = by (is_same (finite.get t.items e.place) None) refl
        where
          after : State
          after = after_item_by s moment Expiry e.table t e.place None

          left_items : Table
          left_items = with_write_by s.next_number moment Expiry t e.place None

          by_name : (b : Bool) → eq_by_cmp text_order name e.table ≡ b
              → option_and_then (λ (u : Table). finite.get u.items place)
              (cond b (Some left_items) (finite.get s.tables name))
              ≡ (if b && eq_by_cmp text_order place e.place then None else item_at_place s name place)
          by_name true same = finite.get-remove text_total t.items e.place place
              ∙ ap (cond (eq_by_cmp text_order place e.place) None)
              (sym (ap (λ n. option_and_then (λ (u : Table). finite.get u.items place)
              (finite.get s.tables n)) (one_text name e.table same)
              ∙ ap (option_and_then (λ (u : Table). finite.get u.items place)) there))
          by_name false other = refl

          by : (b : Bool) → is_same (finite.get t.items e.place) None ≡ b
              → item_at_place (last_state s (if b then [] else after ∷ [])) name place
              ≡ (if is_at name place e then None else item_at_place s name place)
          by true same = stays (Some t) there (same_is (finite.get t.items e.place) None same)
          by false differ =
              ap (option_and_then (λ (u : Table). finite.get u.items place))
              (finite.get-insert text_total s.tables e.table left_items name)
              ∙ by_name (eq_by_cmp text_order name e.table) refl

  -- so do several
  all_gone : (s : State) (es : List Standing)
      → item_at_place (last_state s (writes_of_all_by s moment Expiry (map gone_at es))) name place
      ≡ (if list_any (is_at name place) es then None else item_at_place s name place)
  all_gone s [] = refl
  all_gone s (e ∷ es) =
      let next : State = last_state s (writes_of_by s moment Expiry (gone_at e)) in
      ap (λ r. item_at_place r name place) (last_behind s (writes_of_by s moment Expiry (gone_at e))
      (writes_of_all_by next moment Expiry (map gone_at es)))
      ∙ all_gone next es
      ∙ ap (λ x. if list_any (is_at name place) es then None else x) (one_gone s e)
      ∙ both_none (is_at name place e) (list_any (is_at name place) es) (item_at_place s name place)

-- an ExpireItems deletes exactly the items that it names
pub deletes_expired : DeletesExpired
deletes_expired = λ s moment name place. all_gone moment name place s (expiring s moment)
