-- The key that is read from an item's row, column by column; and that it gives the item's place.
use Rattle.std.proofs.Common.{◌≡◌, ◌<◌, ◌≤◌, ◌+◌, ◌-◌, refl, sym, ap, subst, ◌∙◌, ℕ, zero, suc, Bool, true, false, cond, T, List, [], ◌∷◌, ◌++◌, map, length, get_or, take, Option, Some, None, option_map, option_and_then, nat_le, inl, inr, arith}
use Rattle.std.proofs.lemmas.Bool.{false≢true, cases_lt, le-leb, lt-leb}
use Rattle.std.proofs.lemmas.List.{length-map}
use Rattle.std.specs.Option.{option_map_or}
use Rattle.std.specs.Prelude.{◌&&◌}
use Rattle.std.specs.Ordering.{eq_by_cmp}
use Rattle.std.specs.FinMap.Entries.{is_sorted, find-put}
use Rattle.alt_base.proofs.Orderings.{is_eq-true}
use Rattle.alt_cells.specs.Keys.{key_cmp}
use Rattle.alt_fields.specs.Bytes.{IsShort}
use Rattle.alt_keyorder.specs.Place.{place_in_table, place_bytes}
use Rattle.alt_machine.specs.Keys.{if_key, key_value, place_beside, place_of, byte_count, is_key_value_within, key_fits}
use Rattle.alt_machine.specs.Valid.{deepest}
use Rattle.alt_schema.specs.Indexes.{is_key, of_range, longest_hash, longest_range}
use Rattle.alt_schema.specs.declared.schema.KeyAttr.{KeyAttr}
use Rattle.alt_schema.specs.declared.schema.TableSchema.{TableSchema}
use Rattle.alt_value.specs.Item.{at_name, with_pair}
use Rattle.alt_value.specs.Members.{text_order}
use Rattle.alt_value.specs.Size.{size, fields_depth, item_size, left_after, within}
use Rattle.alt_value.specs.Tree.{Tree, Pair, fields_of}
use Rattle.alt_value.specs.Values.{AreFields, fields_full}
use Rattle.alt_value.proofs.Budget.{left_short, left_on, enough, wanting}
use Rattle.alt_value.proofs.Texts.{text_total, text_apart}
use Rattle.alt_views.specs.ItemRows.{IsAttribute, IsReadItem, column_of}
use Rattle.alt_views.specs.OwnKeys.{HasKeyOf}
use Rattle.alt_views.specs.private.OwnKeys.{key_with_own_attribute, left_behind}
use Rattle.alt_views.proofs.Columns.{put_more, full_more, depth_more, rise_item}
use Rattle.alt_views.proofs.Keeping.{hash_is_key, range_is_key}

-- ---- budgets

-- what a difference that is none tells of it, and one that is there
pub over : (budget n : ℕ) → (n ≤ budget → ⊥) → None ≡ left_after budget n
over budget n larger = elim (cases_lt budget n) [
  | inl h ↦ sym (wanting budget n h)
  | inr h ↦ absurd (larger h)
]

pub under : (budget n left : ℕ) → (n ≤ budget) × (left ≡ budget - n) → Some left ≡ left_after budget n
under budget n left is = ap Some is.1 ∙ sym (enough budget n is.0)

-- a size that is within it, and one that isn't
inside : (budget n : ℕ) → n ≤ budget → within budget n ≡ Some n
inside budget n h = rw (le-leb n budget h) refl

outside : (budget n : ℕ) → budget < n → within budget n ≡ None
outside budget n h = rw (lt-leb n budget h) refl

-- a value that is within a budget leaves what is behind it
pub size_left : (left n size : ℕ) → Some size ≡ within left n
    → Some (left - size) ≡ left_after left n
size_left left n size e = elim (cases_lt left n) [
  | inl h ↦ let f : Some size ≡ None = e ∙ outside left n h in cc
  | inr h ↦
      let f : Some size ≡ Some n = e ∙ inside left n h in
      let same : size ≡ n = cc in
      ap (λ k. Some (left - k)) same ∙ sym (enough left n h)
]

-- and one that isn't leaves nothing
pub none_left : (left n : ℕ) → None ≡ within left n → None ≡ left_after left n
none_left left n e = elim (cases_lt left n) [
  | inl h ↦ sym (wanting left n h)
  | inr h ↦ let f : None ≡ Some n = e ∙ inside left n h in cc
]

-- ---- column by column

-- What was read of the first columns: the item that has them, what it leaves of a budget, and its key.
pub record IsReadTo (d : TableSchema) (most : ℕ) (es : List (List ℕ × List ℕ)) (k : ℕ) (key : List Pair) (left : Option ℕ) : Type 0 where
  pub item : List Pair
  pub columns : map column_of item ≡ take k es
  pub fields : AreFields (fields_of item)
  pub full : T (fields_full (fields_of item))
  pub depth : fields_depth (fields_of item) ≤ deepest
  pub less : left ≡ left_after most (item_size item)
  pub own : HasKeyOf d item key

-- nothing is taken off
whole : (n : ℕ) → n ≡ n - 0
whole n = omega arith

-- none of the columns
none_taken : (es : List (List ℕ × List ℕ)) → [] ≡ take 0 es
none_taken [] = refl
none_taken (e ∷ es) = refl

-- of none
pub none_read : (d : TableSchema) (most : ℕ) (es : List (List ℕ × List ℕ))
    → IsReadTo d most es 0 [] (Some most)
none_read d most es = record {
  item = [];
  columns = none_taken es;
  fields = tt;
  full = tt;
  depth = omega arith;
  less = ap Some (whole most) ∙ sym (enough most 0 (omega arith));
  own = λ name is. refl;
}

-- an attribute's name is a text, and its value a value
fields_more : (ps : List Pair) (p : Pair) → AreFields (fields_of ps) → IsAttribute p
    → AreFields (fields_of (ps ++ p ∷ []))
fields_more [] p h a = (a.name, a.value.0, tt)
fields_more (q ∷ ps) p h a = (h.0, h.1, fields_more ps p h.2 a)

-- an item is larger by an attribute more
size_more : (ps : List Pair) (p : Pair)
    → item_size (ps ++ p ∷ []) ≡ item_size ps + (length p.0 + size p.1)
size_more [] p = omega arith
size_more (q ∷ ps) p = let rest = size_more ps p in omega (arith, rest)

-- so less is left
left_more : (most s a : ℕ) (o : Option ℕ) → o ≡ left_after most s
    → option_and_then (λ n. left_after n a) o ≡ left_after most (s + a)
left_more most s a None e = left_short most s a e
left_more most s a (Some n) e = left_on most s a n e

module _ (d : TableSchema) (item key : List Pair) (p : Pair) (has : HasKeyOf d item key) where
  -- a key attribute is put into both
  pub has_put : HasKeyOf d (with_pair p.0 p.1 item) (with_pair p.0 p.1 key)
  has_put name is = find-put text_order text_total name p.0 p.1 key
      ∙ ap (cond (eq_by_cmp text_order name p.0) (Some p.1)) (has name is)
      ∙ sym (find-put text_order text_total name p.0 p.1 item)

  -- another one into the item alone
  pub has_passed : is_key d.hash d.range p.0 ≡ false → HasKeyOf d (with_pair p.0 p.1 item) key
  has_passed other name is = has name is
      ∙ sym (find-put text_order text_total name p.0 p.1 item
      ∙ ap (λ b. cond b (Some p.1) (at_name name item))
      (apart (eq_by_cmp text_order name p.0) refl))
    where
      apart : (b : Bool) → eq_by_cmp text_order name p.0 ≡ b
          → eq_by_cmp text_order name p.0 ≡ false
      apart false e = e
      apart true e = absurd (false≢true (sym other
          ∙ ap (is_key d.hash d.range)
          (sym (text_apart name p.0 (is_eq-true (text_order name p.0) e))) ∙ is))

  -- so the key stays that of the item
  pub has_more : (new : List Pair) → new ≡ key_with_own_attribute d p key
      → HasKeyOf d (with_pair p.0 p.1 item) new
  has_more new put = by (is_key d.hash d.range p.0) refl
    where
      by : (b : Bool) → is_key d.hash d.range p.0 ≡ b → HasKeyOf d (with_pair p.0 p.1 item) new
      by true e = subst (HasKeyOf d (with_pair p.0 p.1 item))
          (sym (put ∙ ap (λ c. cond c (with_pair p.0 p.1 key) key) e)) has_put
      by false e = subst (HasKeyOf d (with_pair p.0 p.1 item))
          (sym (put ∙ ap (λ c. cond c (with_pair p.0 p.1 key) key) e)) (has_passed e)

-- one column more was read
pub read_more : (d : TableSchema) (most : ℕ) (es : List (List ℕ × List ℕ)) (k : ℕ)
    (key new : List Pair) (left after : Option ℕ) (p : Pair) (e : List ℕ × List ℕ)
    → T (is_sorted key_cmp (([], []) ∷ es)) → k < length es → e ≡ get_or es k e
    → IsAttribute p → e ≡ column_of p → IsReadTo d most es k key left
    → after ≡ left_behind p left → new ≡ key_with_own_attribute d p key
    → IsReadTo d most es (k + 1) new after
read_more d most es k key new left after p e sorted within at attribute is so less put =
    let has : HasKeyOf d (with_pair p.0 p.1 so.item) new = has_more d so.item key p so.own new put in
    let more = put_more so.item (with_pair p.0 p.1 so.item) p es k e sorted within at so.columns is
    refl in
    record {
      item = so.item ++ p ∷ [];
      columns = ap (map column_of) (sym more.0) ∙ more.1;
      fields = fields_more so.item p so.fields attribute;
      full = full_more so.item p so.full attribute.value.1;
      depth = depth_more so.item p deepest so.depth attribute.depth;
      less = less ∙ left_more most (item_size so.item) (length p.0 + size p.1) left so.less
          ∙ ap (left_after most) (sym (size_more so.item p));
      own = subst (λ ps. HasKeyOf d ps new) more.0 has;
    }

-- so many columns are all
all_taken : (es : List (List ℕ × List ℕ)) (k : ℕ) → length es ≤ k → take k es ≡ es
all_taken [] zero h = refl
all_taken [] (suc k) h = refl
all_taken (e ∷ es) zero h = absurd (omega arith)
all_taken (e ∷ es) (suc k) h = ap (λ xs. e ∷ xs) (all_taken es k (omega arith))

-- once all columns are read they are those of the item
pub all_read : (d : TableSchema) (most : ℕ) (es : List (List ℕ × List ℕ)) (k : ℕ)
    (key : List Pair) (left : Option ℕ) → T (is_sorted key_cmp (([], []) ∷ es)) → IsShort es
    → length es ≤ k → (so : IsReadTo d most es k key left)
    → IsReadItem so.item × (es ≡ map column_of so.item)
all_read d most es k key left sorted short all so =
    let same : map column_of so.item ≡ es = so.columns ∙ all_taken es k all in
    let count : length so.item ≡ length es = sym (length-map so.item column_of) ∙ ap length same in (
      record {
        whole = (
          record {
            names = rise_item so.item
                (subst (λ x. T (is_sorted key_cmp (([], []) ∷ x))) (sym same) sorted);
            fields = so.fields;
            count = omega (arith, count, short);
          },
          so.full,
        );
        depth = so.depth;
      },
      sym same,
    )

-- where a budget isn't spent the item is no larger, and what is left tells how large it is; else it is larger
pub left_within : (most n left : ℕ) → Some left ≡ left_after most n
    → (n ≤ most) × (left + n ≡ most)
left_within most n left e = elim (cases_lt most n) [
  | inl h ↦
      let f : Some left ≡ None = e ∙ wanting most n h in
      absurd (let g : ⊥ = cc in g)
  | inr h ↦
      let f : Some left ≡ Some (most - n) = e ∙ enough most n h in
      let same : left ≡ most - n = cc in (h, omega arith)
]

pub none_within : (most n : ℕ) → None ≡ left_after most n → most < n
none_within most n e = elim (cases_lt most n) [
  | inl h ↦ h
  | inr h ↦
      let f : None ≡ Some (most - n) = e ∙ enough most n h in
      absurd (let g : ⊥ = cc in g)
]

-- ---- where it stands

module _ (d : TableSchema) (item key : List Pair) (has : HasKeyOf d item key) where
  value_same : (k : KeyAttr) → is_key d.hash d.range k.name ≡ true
      → key_value key k ≡ key_value item k
  value_same k is = ap (option_and_then (if_key k.kind)) (has k.name is)

  within_same : (most : ℕ) (k : KeyAttr) → is_key d.hash d.range k.name ≡ true
      → is_key_value_within most key k ≡ is_key_value_within most item k
  within_same most k is = ap (λ o. option_map_or (λ t. nat_le (byte_count t) most) o true)
      (has k.name is)

  hash_is : is_key d.hash d.range d.hash.name ≡ true
  hash_is = hash_is_key d.hash d.range

  range_is : (k : KeyAttr) → d.range ≡ Some k → is_key d.hash d.range k.name ≡ true
  range_is k e = subst (λ r. is_key d.hash r k.name ≡ true) (sym e) (range_is_key d.hash k)

  beside_same : (r : Option KeyAttr)
      → ((k : KeyAttr) → r ≡ Some k → is_key d.hash d.range k.name ≡ true) → (h : Tree)
      → place_beside key r h ≡ place_beside item r h
  beside_same None is h = refl
  beside_same (Some r) is h = ap (option_map (λ t. place_in_table h (Some t)))
      (value_same r (is r refl))

  by_hash : (o : Option Tree) → option_and_then (place_beside key d.range) o
      ≡ option_and_then (place_beside item d.range) o
  by_hash None = refl
  by_hash (Some h) = beside_same d.range range_is h

  -- a key gives the place of its item
  pub own_place : place_of d key ≡ place_of d item
  own_place = ap (option_map place_bytes)
      (ap (option_and_then (place_beside key d.range)) (value_same d.hash hash_is)
      ∙ by_hash (key_value item d.hash))

  range_fits : (r : Option KeyAttr)
      → ((k : KeyAttr) → r ≡ Some k → is_key d.hash d.range k.name ≡ true)
      → of_range (is_key_value_within longest_range key) true r
      ≡ of_range (is_key_value_within longest_range item) true r
  range_fits None is = refl
  range_fits (Some r) is = within_same longest_range r (is r refl)

  -- and is as long
  pub own_fits : key_fits d key ≡ key_fits d item
  own_fits = λ j. within_same longest_hash d.hash hash_is j && range_fits d.range range_is j
