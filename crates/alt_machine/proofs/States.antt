-- A valid state with a table more, a table less, or a table of other items is valid, where the numbers suffice.
use Rattle.std.proofs.Common.{◌≡◌, refl, sym, ap, subst, ◌∙◌, ℕ, ◌+◌, ◌-◌, ◌<◌, ◌≤◌, Bool, true, false, cond, is_some, List, [], ◌∷◌, ◌++◌, length, Option, Some, None, inl, inr, Contains, arith, true≢false}
use Rattle.std.specs.Prelude.{IfSome, if◌then◌else◌}
use Rattle.std.specs.FinMap.{len-insert, len-remove, len-empty}
use Rattle.std.specs.FinMap as map
use Rattle.std.proofs.lemmas.List.Elements.{All-nil, All-push, All-weaker}
use Rattle.std.proofs.lemmas.List.Quantifiers.{all_pairs_push}
use Rattle.alt_codec.specs.declared.writer.Writer.{Writer}
use Rattle.alt_schema.specs.Described.{IsNew}
use Rattle.alt_schema.specs.declared.schema.TableSchema.{TableSchema}
use Rattle.alt_value.specs.Members.{text_order}
use Rattle.alt_value.specs.Tree.{Pair}
use Rattle.alt_value.proofs.Texts.{text_total}
use Rattle.alt_machine.specs.declared.TheConstants.{NUMBERS_END, FAMILIES_END, MOST_FAMILIES, MOST_TABLES}
use Rattle.alt_machine.specs.Ops.CreateTable.{with_table}
use Rattle.alt_machine.specs.Ops.DeleteTable.{without_table}
use Rattle.alt_machine.specs.Changes.{with_change, trimmed_with}
use Rattle.alt_machine.specs.Same.{is_same}
use Rattle.alt_machine.specs.State.{State, Table, Change, start, new_table, families_of}
use Rattle.alt_machine.specs.Trimming.{kept, trimmed_at}
use Rattle.alt_machine.specs.Valid.{IsStored, IsChange, AreChanges, IsMade, IsTable, IsValid}
use Rattle.alt_machine.specs.Writes.{with_item, with_write_by, after_item_by}
use Rattle.alt_machine.proofs.Families.{families_few, families_within, families_differ, of_contained}
use Rattle.alt_machine.proofs.Same.{is_same-equal}
use Rattle.alt_machine.proofs.Looks.{at_insert, at_remove, not_there}
use Rattle.alt_machine.proofs.Trimming.{changes_trimmed}

-- the empty store
pub start_valid : IsValid start
start_valid = record {
  few = omega (arith, len-empty text_order Table);
  tables = λ name t e. absurd (not_there name t e);
  families = λ name other t u family e f h i. absurd (not_there name t e);
  next_number = (omega arith, omega arith);
  next_family = (omega arith, omega arith);
}

-- the changes of a table, where the next number is later
pub changes_later : (d : TableSchema) (n m z : ℕ) (changes : List Change) → n ≤ m
    → AreChanges d n z changes → AreChanges d m z changes
changes_later d n m z changes le h = record {
  each = All-weaker (IsChange d n) (IsChange d m) (λ (c : Change) is. record {
    number = omega (arith, is.number, le);
    differ = is.differ;
    place = is.place;
    old = is.old;
    new = is.new;
  }) changes h.each;
  rise = h.rise;
  above = h.above;
  trimmed_before = omega (arith, h.trimmed_before, le);
  none = h.none;
}

-- a new table has none
no_changes : (d : TableSchema) (n : ℕ) → 0 < n → AreChanges d n 0 []
no_changes d n some = record {
  each = All-nil (IsChange d n);
  rise = λ i j x lt within. absurd (omega (arith, within));
  above = All-nil (λ (c : Change). 0 < c.number);
  trimmed_before = some;
  none = λ e. (refl, refl);
}

-- one more, of the next number, before any is trimmed
pub changes_with : (d : TableSchema) (n z family : ℕ) (c : Change) (changes : List Change)
    → d.stream_family ≡ Some family → c.number ≡ n → IsChange d (n + 1) c
    → AreChanges d n z changes → AreChanges d (n + 1) z (changes ++ c ∷ [])
changes_with d n z family c changes f e is h =
    let later : AreChanges d (n + 1) z changes =
    changes_later d n (n + 1) z changes (omega arith) h in
    record {
      each = All-push (IsChange d (n + 1)) changes c later.each is;
      rise = all_pairs_push (λ (a b : Change). a.number < b.number) changes c h.rise
          (λ k x within. omega (arith, (h.each k x within).number, e));
      above = All-push (λ (x : Change). z < x.number) changes c h.above
          (omega (arith, h.trimmed_before, e));
      trimmed_before = later.trimmed_before;
      none = λ g. absurd (let k : ⊥ = cc (f, g) in k);
    }

-- and after
changes_more : (d : TableSchema) (n m z : ℕ) (c : Change) (changes : List Change) → c.number ≡ n
    → IsChange d (n + 1) c → AreChanges d n z changes
    → AreChanges d (n + 1) (trimmed_with d m (Some c) changes z) (with_change d m (Some c) changes)
changes_more d n m z c changes e is h = by d.stream_family refl
  where
    later : AreChanges d (n + 1) z changes
    later = changes_later d n (n + 1) z changes (omega arith) h

    by : (o : Option ℕ) → d.stream_family ≡ o
        → AreChanges d (n + 1) (cond (is_some o) (trimmed_at m z (changes ++ c ∷ [])) z)
        (cond (is_some o) (kept m (changes ++ c ∷ [])) changes)
    by None f = later
    by (Some family) f = changes_trimmed d (n + 1) z m family (changes ++ c ∷ []) f
        (changes_with d n z family c changes f e is h)

-- a table in a state with later numbers
pub table_later : (s r : State) (name : List ℕ) (t : Table) → s.next_number ≤ r.next_number
    → s.next_family ≤ r.next_family → IsTable s name t → IsTable r name t
table_later s r name t n f h = record {
  named = h.named;
  made = h.made;
  number = (h.number.0, omega (arith, h.number.1, n));
  families = λ k x within. let was = h.families k x within in (was.0, omega (arith, was.1, f));
  differ = h.differ;
  items = h.items;
  changes = changes_later t.description s.next_number r.next_number t.trimmed t.changes n
      h.changes;
}

-- a count that grows by one or stays has grown by one at most
one_more : (b : Bool) (n : ℕ) → cond b n (n + 1) ≤ n + 1
one_more true n = omega arith
one_more false n = omega arith

-- a count that falls by one or stays hasn't grown
one_less : (b : Bool) (n : ℕ) → cond b (n - 1) n ≤ n
one_less true n = omega arith
one_less false n = omega arith

-- where the name was there the count stays
pub same_count : (b : Bool) (n : ℕ) → b ≡ true → cond b n (n + 1) ≡ n
same_count true n e = refl
same_count false n e = absurd (let f : ⊥ = cc in f)

-- ---- a new table

module _ (s : State) (d : TableSchema) (v : IsValid s) (made : IsMade d) (new : IsNew d)
    (number : d.number ≡ s.next_number) (family : d.family ≡ s.next_family)
    (room : map.len s.tables < MOST_TABLES) (enough : (s.next_number < NUMBERS_END)
    × (s.next_family + MOST_FAMILIES ≤ FAMILIES_END)) where
  -- a table is made as one has to be, from a description whose number and first family are the next ones
  new_is : IsTable (with_table s d) d.name (new_table d)
  new_is = record {
    named = refl;
    made = made;
    number = (omega (arith, number, v.next_number.0), omega (arith, number));
    families = λ k x within.
        let is = families_within d new k x within in
        (omega (arith, is.0, family, v.next_family.0), omega (arith, is.1, family));
    differ = families_differ d new;
    items = λ place item e. absurd (not_there place item e);
    changes = no_changes d (s.next_number + 1) (omega arith);
  }

  -- no family of a table that was there is one of the new table's
  above_old : (name : List ℕ) (t : Table) (f : ℕ) → map.get s.tables name ≡ Some t
      → Contains (families_of t.description) f → Contains (families_of d) f → ⊥
  above_old name t f e h i =
      let old : (1 ≤ f) × (f < s.next_family) =
      of_contained (λ g. (1 ≤ g) × (g < s.next_family)) (families_of t.description) f
      (v.tables name t e).families h in
      let is : (d.family ≤ f) × (f < d.family + length (families_of d)) =
      of_contained (λ g. (d.family ≤ g) × (g < d.family + length (families_of d))) (families_of d) f
      (families_within d new) i in
      omega (arith, old.1, is.0, family)

  -- a valid state stays valid with a new table, where there is room for one more and for its numbers
  pub with_table_valid : IsValid (with_table s d)
  with_table_valid = record {
    few = omega (
      arith,
      len-insert text_total s.tables d.name (new_table d),
      one_more (map.contains_key s.tables d.name) (map.len s.tables),
      room,
    );
    tables = λ name t e. elim (at_insert s.tables d.name name t (new_table d) e) [
      | inl new ↦ subst (λ (u : Table). IsTable (with_table s d) name u) new.1
          (subst (λ n. IsTable (with_table s d) n (new_table d)) (sym new.0) new_is)
      | inr old ↦ table_later s (with_table s d) name t (omega arith) (omega arith)
          (v.tables name t old)
    ];
    families = λ name other t u f e g h i. elim (at_insert s.tables d.name name t (new_table d) e) [
      | inl new ↦ elim (at_insert s.tables d.name other u (new_table d) g) [
        | inl also ↦ new.0 ∙ sym also.0
        | inr old ↦ absurd (above_old other u f old i
            (subst (λ (w : Table). Contains (families_of w.description) f) (sym new.1) h))
      ]
      | inr old ↦ elim (at_insert s.tables d.name other u (new_table d) g) [
        | inl new ↦ absurd (above_old name t f old h
            (subst (λ (w : Table). Contains (families_of w.description) f) (sym new.1) i))
        | inr also ↦ v.families name other t u f old also h i
      ]
    ];
    next_number = (omega arith, omega (arith, enough.0));
    next_family = (omega (arith, v.next_family.0), omega (arith, enough.1, families_few d new));
  }

-- ---- a table less

-- a valid state stays valid without a table, where the next number is below the end
pub without_table_valid : (s : State) (name : List ℕ) → IsValid s → s.next_number < NUMBERS_END
    → IsValid (without_table s name)
without_table_valid s gone v room = record {
  few = omega (
    arith,
    len-remove text_total s.tables gone,
    one_less (map.contains_key s.tables gone) (map.len s.tables),
    v.few,
  );
  tables = λ name t e. table_later s (without_table s gone) name t (omega arith) (omega arith)
      (v.tables name t (at_remove s.tables gone name t e));
  families = λ name other t u f e g h i. v.families name other t u f
      (at_remove s.tables gone name t e) (at_remove s.tables gone other u g) h i;
  next_number = (omega arith, omega (arith, room));
  next_family = v.next_family;
}

-- ---- a table of other items

-- what stands there after an item was put, or taken out, is stored as it was
pub with_item_stored : (s : State) (name : List ℕ) (t : Table) (place : List ℕ)
    (new : Option (List Pair)) → IsValid s → map.get s.tables name ≡ Some t
    → ((item : List Pair) → new ≡ Some item → IsStored t.description place item)
    → (q : List ℕ) (item : List Pair) → map.get (with_item t.items place new) q ≡ Some item
    → IsStored t.description q item
with_item_stored s name t place None v there put q x e =
    (v.tables name t there).items q x (at_remove t.items place q x e)
with_item_stored s name t place (Some item) v there put q x e =
    elim (at_insert t.items place q x item e) [
      | inl new ↦ subst (λ i. IsStored t.description q i) new.1
          (subst (λ p. IsStored t.description p item) (sym new.0) (put item refl))
      | inr old ↦ (v.tables name t there).items q x old
    ]

-- what is stored where it is there
if_stored : (d : TableSchema) (place : List ℕ) (o : Option (List Pair))
    → ((item : List Pair) → o ≡ Some item → IsStored d place item) → IfSome o (IsStored d place)
if_stored d place None h = tt
if_stored d place (Some item) h = h item refl

module _ (s : State) (moment : ℕ) (writer : Writer) (name : List ℕ) (t : Table) (place : List ℕ)
    (new : Option (List Pair)) (v : IsValid s) (room : s.next_number < NUMBERS_END)
    (there : map.get s.tables name ≡ Some t)
    (differ : is_same (map.get t.items place) new ≡ false)
    (put : (item : List Pair) → new ≡ Some item → IsStored t.description place item) where
  abbrev r : State
  r = after_item_by s moment writer name t place new

  abbrev changed : Table
  changed = with_write_by s.next_number moment writer t place new

  -- the change of that write
  abbrev change : Change
  change = record {
    number = s.next_number;
    moment = moment;
    old = map.get t.items place;
    new = new;
    by = writer;
  }

  pub change_is : IsChange t.description (s.next_number + 1) change
  change_is = record {
    number = omega arith;
    differ = λ e. true≢false (sym (is_same-equal (map.get t.items place) new e) ∙ differ);
    place = place;
    old = if_stored t.description place (map.get t.items place)
        ((v.tables name t there).items place);
    new = if_stored t.description place new put;
  }

  -- the table that a write leaves is as one has to be, where what is put may be stored
  changed_is : IsTable r name changed
  changed_is =
      let old : IsTable s name t = v.tables name t there in
      record {
        named = old.named;
        made = old.made;
        number = (old.number.0, omega (arith, old.number.1));
        families = old.families;
        differ = old.differ;
        items = with_item_stored s name t place new v there put;
        changes = subst (λ b. AreChanges t.description (s.next_number + 1)
            (trimmed_with t.description moment (if b then None else Some change) t.changes t.trimmed)
            (with_change t.description moment (if b then None else Some change) t.changes))
            (sym differ)
            (changes_more t.description s.next_number moment t.trimmed change t.changes refl
            change_is old.changes);
      }

  -- a table of the same description was there
  was : (q : List ℕ) (u : Table) → map.get r.tables q ≡ Some u
      → (w : Table) × (map.get s.tables q ≡ Some w) × (w.description ≡ u.description)
  was q u e = elim (at_insert s.tables name q u changed e) [
    | inl new ↦ (t, ap (map.get s.tables) new.0 ∙ there, ap (λ (x : Table). x.description) new.1)
    | inr old ↦ (u, old, refl)
  ]

  -- a valid state stays valid with that table
  pub after_item_valid : IsValid r
  after_item_valid = record {
    few = omega (
      arith,
      len-insert text_total s.tables name changed,
      same_count (map.contains_key s.tables name) (map.len s.tables) (ap is_some there),
      v.few,
    );
    tables = λ q u e. elim (at_insert s.tables name q u changed e) [
      | inl new ↦ subst (λ (w : Table). IsTable r q w) new.1
          (subst (λ n. IsTable r n changed) (sym new.0) changed_is)
      | inr old ↦ table_later s r q u (omega arith) (omega arith) (v.tables q u old)
    ];
    families = λ q other u w f e g h i.
        let a = was q u e in
        let b = was other w g in
        v.families q other a.0 b.0 f a.1 b.1 (subst
        (λ (d : TableSchema). Contains (families_of d) f) (sym a.2) h)
        (subst (λ (d : TableSchema). Contains (families_of d) f) (sym b.2) i);
    next_number = (omega arith, omega (arith, room));
    next_family = v.next_family;
  }
