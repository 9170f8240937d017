-- What the list of the items that are due next knows of the items of tables, where tables and items come, go or change.
use Rattle.std.proofs.Common.{◌≡◌, refl, sym, ap, subst, ◌∙◌, ℕ, Bool, true, false, cond, List, [], ◌∷◌, Option, Some, None, IfSome, option_map, ◌≤◌, ◌^◌, arith}
use Rattle.std.specs.Prelude.{◌&&◌, if◌then◌else◌, option_and_then}
use Rattle.std.specs.FinMap as map
use Rattle.std.proofs.lemmas.Bool.{false≢true}
use Rattle.std.proofs.lemmas.Option.{same_Some}
use Rattle.std.specs.Option.{option_map_or}
use Rattle.std.specs.Ordering.{eq_by_cmp}
use Rattle.alt_cells.proofs.SameKeys.{one_key}
use Rattle.alt_codec.specs.declared.writer.Writer.{Writer}
use Rattle.alt_due.specs.Due.{CoversNothing, KeepsKnown, KnowsFrom, is_before}
use Rattle.alt_due.specs.Order.{spot_of}
use Rattle.alt_due.specs.declared.due.Due.{Due}
use Rattle.alt_machine.specs.Expiry.{is_expired, is_over}
use Rattle.alt_machine.specs.Ops.BatchWriteItem.{PlacedWrite, writes_of_by, writes_of_all_by}
use Rattle.alt_machine.specs.Ops.UpdateTable.{redescribed}
use Rattle.alt_machine.specs.Ops.UpdateTimeToLive.{timed}
use Rattle.alt_machine.specs.Outcomes.{last_state}
use Rattle.alt_machine.specs.Same.{is_same}
use Rattle.alt_machine.specs.State.{State, Table, Texts, descriptions, new_table}
use Rattle.alt_machine.specs.Writes.{after_item_by, item_writes_by, with_item, with_write_by}
use Rattle.alt_machine.proofs.Behind.{last_behind}
use Rattle.alt_machine.proofs.Descriptions.{get-descriptions}
use Rattle.alt_schema.specs.declared.schema.TableSchema.{TableSchema}
use Rattle.alt_tables.specs.Foreseen.{Foresees, ForeseesItem, ForeseesWritten, IsMomentFrom, IsMetFrom}
use Rattle.alt_tables.specs.Several.{Every}
use Rattle.alt_tables.proofs.Standing.{descriptions-stay}
use Rattle.alt_value.specs.Item.{at_name}
use Rattle.alt_value.specs.Members.{text_order}
use Rattle.alt_value.specs.Tree.{Pair}
use Rattle.alt_value.proofs.Texts.{text_total}

-- ---- another list

-- one that knows all that another knew
pub foresees_on : (tables : Texts Table) (old new : Due) → KeepsKnown old new → Foresees tables old
    → Foresees tables new
foresees_on tables old new keeps knows name place t item at there moment fits over =
    keeps moment _ (knows name place t item at there moment fits over)

-- the same of what a write leaves
pub written_on : (catalog : Texts TableSchema) (old new : Due) → KeepsKnown old new
    → (w : PlacedWrite) → ForeseesWritten catalog old w → ForeseesWritten catalog new w
written_on catalog old new keeps w told d at = by w.new (told d at)
  where
    by : (o : Option (List Pair)) → IfSome o (ForeseesItem d w.table w.place old)
        → IfSome o (ForeseesItem d w.table w.place new)
    by None h = tt
    by (Some item) h = λ moment fits over. keeps moment _ (h moment fits over)

-- one that covers nothing
pub foresees_nothing : (tables : Texts Table) (due : Due) → CoversNothing due → Foresees tables due
foresees_nothing tables due none name place t item at there moment fits over covered =
    absurd (false≢true (sym (ap (λ b. b && is_before due.end (spot_of name place)) (none moment))
    ∙ covered))

-- ---- other tables

-- the table of a name that was put there, or one from before
pub put_or_old : (tables : Texts Table) (name : List ℕ) (u : Table) (q : List ℕ) (t : Table)
    (P : Type 0) → map.get (map.insert tables name u) q ≡ Some t
    → (q ≡ name → u ≡ t → P) → (map.get tables q ≡ Some t → P) → P
put_or_old tables name u q t P at own old =
    by (eq_by_cmp text_order q name) refl (sym (map.get-insert text_total tables name u q) ∙ at)
  where
    by : (b : Bool) → eq_by_cmp text_order q name ≡ b → cond b (Some u) (map.get tables q) ≡ Some t
        → P
    by true e is = own (one_key q name e) (same_Some u t is)
    by false e is = old is

module _ (tables : Texts Table) (name : List ℕ) (due : Due) (knows : Foresees tables due) where
  -- with another table in the place of one, or one more
  pub foresees_put : (u : Table) → ((place : List ℕ) (item : List Pair)
      → map.get u.items place ≡ Some item → ForeseesItem u.description name place due item)
      → Foresees (map.insert tables name u) due
  foresees_put u own q place t item at there = put_or_old tables name u q t
      (ForeseesItem t.description q place due item) at
      (λ same is. subst (λ n. ForeseesItem t.description n place due item) (sym same)
      (subst (λ (v : Table). ForeseesItem v.description name place due item) is
      (own place item (ap (λ (v : Table). map.get v.items place) is ∙ there))))
      (λ old. knows q place t item old there)

  -- with an empty one more
  pub foresees_new : (d : TableSchema) → Foresees (map.insert tables name (new_table d)) due
  foresees_new d = foresees_put (new_table d) (λ place item at.
      absurd (let no : None ≡ Some item = sym (map.get-empty text_order place) ∙ at in
      let f : ⊥ = cc no in f))

  -- with one less
  pub foresees_gone : Foresees (map.remove tables name) due
  foresees_gone q place t item at there = by (eq_by_cmp text_order q name)
      (sym (map.get-remove text_total tables name q) ∙ at)
    where
      by : (b : Bool) → cond b None (map.get tables q) ≡ Some t
          → ForeseesItem t.description q place due item
      by true is = absurd (let no : None ≡ Some t = is in let f : ⊥ = cc no in f)
      by false is = knows q place t item is there

  -- with one whose items have no time to live
  pub foresees_untimed : (t : Table) → Foresees (map.insert tables name (timed None t)) due
  foresees_untimed t = foresees_put (timed None t) (λ place item at moment fits over.
      absurd (let no : false ≡ true = over in let f : ⊥ = cc no in f))

  -- with another description of one, with its time to live
  pub foresees_redescribed : (t : Table) → map.get tables name ≡ Some t → (e : TableSchema)
      → e.ttl ≡ t.description.ttl → Foresees (map.insert tables name (redescribed e t)) due
  foresees_redescribed t at e same = foresees_put (redescribed e t)
      (λ place item there moment fits over. knows name place t item at there moment fits
      (ap (λ o. option_map_or (is_over moment) (option_and_then (λ (n : List ℕ). at_name n item) o)
      false) (sym same) ∙ over))

  -- with one in which a place was written
  pub foresees_written : (number moment : ℕ) (writer : Writer) (t : Table) (place : List ℕ)
      (new : Option (List Pair)) → map.get tables name ≡ Some t
      → IfSome new (ForeseesItem t.description name place due)
      → Foresees (map.insert tables name (with_write_by number moment writer t place new)) due
  foresees_written number moment writer t place new at written =
      foresees_put (with_write_by number moment writer t place new) (λ q item there.
      by new written q item there)
    where
      by : (new : Option (List Pair)) → IfSome new (ForeseesItem t.description name place due)
          → (q : List ℕ) (item : List Pair)
          → map.get (with_item t.items place new) q ≡ Some item
          → ForeseesItem t.description name q due item
      by None h q item there = by_gone (eq_by_cmp text_order q place)
          (sym (map.get-remove text_total t.items place q) ∙ there)
        where
          by_gone : (b : Bool) → cond b None (map.get t.items q) ≡ Some item
              → ForeseesItem t.description name q due item
          by_gone true is = absurd (let no : None ≡ Some item = is in let f : ⊥ = cc no in f)
          by_gone false is = knows name q t item at is
      by (Some own) h q item there = by_put (eq_by_cmp text_order q place) refl
          (sym (map.get-insert text_total t.items place own q) ∙ there)
        where
          by_put : (b : Bool) → eq_by_cmp text_order q place ≡ b
              → cond b (Some own) (map.get t.items q) ≡ Some item
              → ForeseesItem t.description name q due item
          by_put true e is = subst (λ p. ForeseesItem t.description name p due item)
              (sym (one_key q place e))
              (subst (ForeseesItem t.description name place due) (same_Some own item is) h)
          by_put false e is = knows name q t item at is

-- ---- several writes

-- behind those of a state
pub foresees_all : (catalog : Texts TableSchema) (due : Due) (s : State) (moment : ℕ)
    (writer : Writer) (ws : List PlacedWrite) → catalog ≡ descriptions s.tables
    → Every (ForeseesWritten catalog due) ws → Foresees s.tables due
    → Foresees (last_state s (writes_of_all_by s moment writer ws)).tables due
foresees_all catalog due s moment writer [] same told knows = knows
foresees_all catalog due s moment writer (w ∷ ws) same told knows =
    subst (λ (r : State). Foresees r.tables due)
    (sym (last_behind s (writes_of_by s moment writer w)
    (writes_of_all_by (last_state s (writes_of_by s moment writer w)) moment writer ws)))
    (foresees_all catalog due (last_state s (writes_of_by s moment writer w)) moment writer ws
    (same ∙ sym (one (map.get s.tables w.table) refl).0) told.1
    (one (map.get s.tables w.table) refl).1)
  where
    -- behind one that writes or leaves what is there
    either : (t : Table) → map.get s.tables w.table ≡ Some t → (b : Bool)
        → (descriptions (last_state s (if b then [] else after_item_by s moment writer w.table t w.place w.new ∷ [])).tables
        ≡ descriptions s.tables)
        × Foresees (last_state s (if b then [] else after_item_by s moment writer w.table t w.place w.new ∷ [])).tables due
    either t at true = (refl, knows)
    either t at false = (
      descriptions-stay s.tables w.table t
          (with_write_by s.next_number moment writer t w.place w.new) at refl,
      foresees_written s.tables w.table due knows s.next_number moment writer t w.place w.new at
          (told.0 t.description (ap (λ (m : Texts TableSchema). map.get m w.table) same
          ∙ get-descriptions s.tables w.table
          ∙ ap (option_map (λ (v : Table). v.description)) at)),
    )

    one : (o : Option Table) → map.get s.tables w.table ≡ o
        → (descriptions (last_state s (writes_of_by s moment writer w)).tables
        ≡ descriptions s.tables)
        × Foresees (last_state s (writes_of_by s moment writer w)).tables due
    one None at = subst (λ (ts : List State). (descriptions (last_state s ts).tables
        ≡ descriptions s.tables) × Foresees (last_state s ts).tables due)
        (sym (ap (λ o. option_map_or (λ t. item_writes_by s moment writer w.table t w.place w.new)
        o []) at)) (refl, knows)
    one (Some t) at = subst (λ (ts : List State). (descriptions (last_state s ts).tables
        ≡ descriptions s.tables) × Foresees (last_state s ts).tables due)
        (sym (ap (λ o. option_map_or (λ t. item_writes_by s moment writer w.table t w.place w.new)
        o []) at)) (either t at (is_same (map.get t.items w.place) w.new))

-- ---- what a write notes

module _ (o : Option (List Pair)) (item : List Pair) (given : o ≡ Some item)
    (e d : TableSchema) (same : e ≡ d) (r : Option ℕ)
    (met : IsMetFrom (λ moment. is_expired e moment item) r) (name place : List ℕ) (due : Due) where
  met_then : IsMetFrom (λ moment. is_expired d moment item) r
  met_then = subst (λ (x : TableSchema). IsMetFrom (λ moment. is_expired x moment item) r) same met

  -- it is known of an item from the moment on that is noted
  pub told_some : (first : ℕ) → r ≡ Some first → KnowsFrom first (spot_of name place) due
      → IfSome o (ForeseesItem d name place due)
  told_some first is known = subst (λ x. IfSome x (ForeseesItem d name place due)) (sym given)
      (λ moment fits over. known moment
      (subst (λ x. IsMomentFrom x moment) is (met_then.from moment fits over)))

  -- and where there is none it never has expired
  pub told_none : r ≡ None → IfSome o (ForeseesItem d name place due)
  told_none is = subst (λ x. IfSome x (ForeseesItem d name place due)) (sym given)
      (λ moment fits over.
      let far : 2 ^ 64 ≤ moment = subst (λ x. IsMomentFrom x moment) is (met_then.from moment fits over) in
      absurd (omega (arith, far, fits)))
