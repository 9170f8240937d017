-- How many bytes the items of tables have at most, where tables and items come, go or change.
use Rattle.std.proofs.Common.{◌≡◌, ◌≤◌, refl, sym, ap, subst, ◌∙◌, ℕ, Bool, true, false, cond, List, [], ◌∷◌, Option, Some, None, IfSome, max, arith}
use Rattle.std.proofs.lemmas.Bool.{le-leb}
use Rattle.std.proofs.lemmas.Option.{same_Some}
use Rattle.std.specs.Prelude.{if◌then◌else◌, unwrap_or}
use Rattle.std.specs.FinMap as map
use Rattle.std.specs.Option.{option_map_or}
use Rattle.std.specs.Ordering.{eq_by_cmp}
use Rattle.alt_codec.specs.declared.writer.Writer.{Writer}
use Rattle.alt_machine.specs.Ops.BatchWriteItem.{PlacedWrite, writes_of_by, writes_of_all_by}
use Rattle.alt_machine.specs.Outcomes.{last_state}
use Rattle.alt_machine.specs.Same.{is_same}
use Rattle.alt_machine.specs.State.{State, Table, Texts, new_table}
use Rattle.alt_machine.specs.Valid.{IsValid}
use Rattle.alt_machine.specs.declared.TheConstants.{LARGEST_ITEM}
use Rattle.alt_machine.specs.Writes.{after_item_by, item_writes_by, with_item, with_write_by}
use Rattle.alt_machine.proofs.Behind.{last_behind}
use Rattle.alt_rowchanges.specs.OpeningSized.{AreSized}
use Rattle.alt_schema.specs.declared.schema.TableSchema.{TableSchema}
use Rattle.alt_tables.specs.Several.{Every}
use Rattle.alt_tables.specs.private.Foretold.{ItemFits, FitsWrite}
use Rattle.alt_tables.proofs.Foreseen.{put_or_old}
use Rattle.alt_value.specs.Members.{text_order}
use Rattle.alt_value.specs.Size.{item_size, within}
use Rattle.alt_value.specs.Tree.{Pair}
use Rattle.alt_value.proofs.Texts.{text_total}

-- something is so of each item
abbrev pub EachItem : (List Pair → Type 0) → Texts Table → Type 0
EachItem P tables = (name place : List ℕ) (t : Table) (item : List Pair)
    → map.get tables name ≡ Some t → map.get t.items place ≡ Some item → P item

-- ---- other tables

module _ (P : List Pair → Type 0) (tables : Texts Table) (name : List ℕ)
    (so : EachItem P tables) where
  -- with another table in the place of one, or one more
  each_put : (u : Table) → ((place : List ℕ) (item : List Pair) → map.get u.items place ≡ Some item
      → P item) → EachItem P (map.insert tables name u)
  each_put u own q place t item at there = put_or_old tables name u q t (P item) at
      (λ same is. own place item (ap (λ (v : Table). map.get v.items place) is ∙ there))
      (λ old. so q place t item old there)

  -- with an empty one more
  pub each_new : (d : TableSchema) → EachItem P (map.insert tables name (new_table d))
  each_new d = each_put (new_table d) (λ place item at.
      absurd (let no : None ≡ Some item = sym (map.get-empty text_order place) ∙ at in
      let f : ⊥ = cc no in f))

  -- with one less
  pub each_left : EachItem P (map.remove tables name)
  each_left q place t item at there = by (eq_by_cmp text_order q name)
      (sym (map.get-remove text_total tables name q) ∙ at)
    where
      by : (b : Bool) → cond b None (map.get tables q) ≡ Some t → P item
      by true is = absurd (let no : None ≡ Some t = is in let f : ⊥ = cc no in f)
      by false is = so q place t item is there

  -- with one of the same items in the place of one
  pub each_alike : (t u : Table) → map.get tables name ≡ Some t → u.items ≡ t.items
      → EachItem P (map.insert tables name u)
  each_alike t u at same = each_put u (λ place item there. so name place t item at
      (ap (λ (m : Texts (List Pair)). map.get m place) (sym same) ∙ there))

  -- with one in which a place was written
  pub each_written : (number moment : ℕ) (writer : Writer) (t : Table) (place : List ℕ)
      (new : Option (List Pair)) → map.get tables name ≡ Some t → IfSome new P
      → EachItem P (map.insert tables name (with_write_by number moment writer t place new))
  each_written number moment writer t place new at written =
      each_put (with_write_by number moment writer t place new)
      (λ q item there. by new written q item there)
    where
      by : (new : Option (List Pair)) → IfSome new P → (q : List ℕ) (item : List Pair)
          → map.get (with_item t.items place new) q ≡ Some item → P item
      by None h q item there = by_gone (eq_by_cmp text_order q place)
          (sym (map.get-remove text_total t.items place q) ∙ there)
        where
          by_gone : (b : Bool) → cond b None (map.get t.items q) ≡ Some item → P item
          by_gone true is = absurd (let no : None ≡ Some item = is in let f : ⊥ = cc no in f)
          by_gone false is = so name q t item at is
      by (Some own) h q item there = by_put (eq_by_cmp text_order q place)
          (sym (map.get-insert text_total t.items place own q) ∙ there)
        where
          by_put : (b : Bool) → cond b (Some own) (map.get t.items q) ≡ Some item → P item
          by_put true is = subst P (same_Some own item is) h
          by_put false is = so name q t item at is

-- what each of these leaves is so
abbrev AllLeave : (List Pair → Type 0) → List PlacedWrite → Type 0
AllLeave P ws = Every (λ (w : PlacedWrite). IfSome w.new P) ws

-- behind several writes
pub each_behind : (P : List Pair → Type 0) (s : State) (moment : ℕ) (writer : Writer)
    (ws : List PlacedWrite) → AllLeave P ws → EachItem P s.tables
    → EachItem P (last_state s (writes_of_all_by s moment writer ws)).tables
each_behind P s moment writer [] told so = so
each_behind P s moment writer (w ∷ ws) told so =
    subst (λ (r : State). EachItem P r.tables) (sym (last_behind s (writes_of_by s moment writer w)
    (writes_of_all_by (last_state s (writes_of_by s moment writer w)) moment writer ws)))
    (each_behind P (last_state s (writes_of_by s moment writer w)) moment writer ws told.1
    (one (map.get s.tables w.table) refl))
  where
    -- behind one that writes or leaves what is there
    either : (t : Table) → map.get s.tables w.table ≡ Some t → (b : Bool)
        → EachItem P (last_state s (if b then [] else after_item_by s moment writer w.table t w.place w.new ∷ [])).tables
    either t at true = so
    either t at false =
        each_written P s.tables w.table so s.next_number moment writer t w.place w.new at told.0

    one : (o : Option Table) → map.get s.tables w.table ≡ o
        → EachItem P (last_state s (writes_of_by s moment writer w)).tables
    one None at = subst (λ (ts : List State). EachItem P (last_state s ts).tables)
        (sym (ap (λ o. option_map_or (λ t. item_writes_by s moment writer w.table t w.place w.new)
        o []) at)) so
    one (Some t) at = subst (λ (ts : List State). EachItem P (last_state s ts).tables)
        (sym (ap (λ o. option_map_or (λ t. item_writes_by s moment writer w.table t w.place w.new)
        o []) at)) (either t at (is_same (map.get t.items w.place) w.new))

-- ---- how many bytes

-- one that has no more than one number has no more than a larger one
pub sized_up : (tables : Texts Table) (m n : ℕ) → m ≤ n → AreSized tables m → AreSized tables n
sized_up tables m n up sized name place t item at there =
    let h = sized name place t item at there in omega (arith, up, h)

pub fits_up : (m n : ℕ) → m ≤ n → (o : Option (List Pair)) → FitsWrite m o → FitsWrite n o
fits_up m n up None fits = tt
fits_up m n up (Some item) fits = λ may. let h = fits may in omega (arith, up, h)

-- each item fits where none is larger
pub fits_of : (tables : Texts Table) (m n : ℕ) → m ≤ n → AreSized tables m
    → EachItem (ItemFits n) tables
fits_of tables m n up sized name place t item at there may =
    sized_up tables m n up sized name place t item at there

-- and where each fits none is larger, since the items of a valid state have no more bytes than one may have
pub sized_valid : (s : State) → IsValid s → (most : ℕ) → EachItem (ItemFits most) s.tables
    → AreSized s.tables most
sized_valid s valid most fits name place t item at there = fits name place t item at there
    ((valid.tables name t at).items place item there).size

-- where the largest is the same it is as large
pub largest_is : (tables : Texts Table) (m n : ℕ) → n ≡ m → AreSized tables m → AreSized tables n
largest_is tables m n same sized = subst (AreSized tables) (sym same) sized

-- a size that is within a limit is told
pub size_told : (most n : ℕ) → n ≤ most → unwrap_or (within most n) most ≡ n
size_told most n h = rw (le-leb n most h) refl

-- what a write leaves fits the larger of two numbers
pub fits_larger : (o : Option (List Pair)) (item : List Pair) → o ≡ Some item → (before size new : ℕ)
    → (item_size item ≤ LARGEST_ITEM → size ≡ item_size item) → new ≡ max before size
    → FitsWrite new o
fits_larger o item given before size new is larger = subst (λ x. FitsWrite new x) (sym given)
    (λ may. let h = is may in grind (arith, h, larger))
