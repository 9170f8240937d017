-- The tree of entries asks of the keys what the entries do.
use Rattle.std.proofs.Common.{◌≡◌, refl, sym, ap, ◌∙◌, ℕ, ◌<◌, ◌≤◌, length, get_or, arith, Bool, true, false, ◌&&◌, List, [], ◌∷◌, map, Option, Some, None, rules}
use Rattle.std.specs.Prelude.{is_some, option_and_then, if◌then◌else◌}
use Rattle.std.specs.Str.{bytes_eq}
use Rattle.alt_value.specs.declared.attr.Attr.{Attr}
use Rattle.alt_value.specs.declared.kind.KeyKind.{KeyKind}
use Rattle.alt_value.specs.declared.kind.KeyKind.TheVariants as kind
use Rattle.alt_expr.specs.declared.path.PathPart.{PathPart}
use Rattle.alt_expr.specs.declared.cond.Comparison.{Comparison}
use Rattle.alt_expr.specs.declared.cond.Comparison.TheVariants as c
use Rattle.alt_expr.specs.declared.cond.Operand.{Operand}
use Rattle.alt_expr.specs.declared.cond.Cond.{Cond, out-Cond, the_lemmas}
use Rattle.alt_expr.specs.declared.cond.Cond.TheOpen.{Cond-F}
use Rattle.alt_expr.specs.declared.cond.Cond.TheVariants as cond
use Rattle.alt_expr.specs.KeyForm as k
use Rattle.alt_expr.specs.KeyForm.{Key, Ask, RangeTest, anything, compared, between, fronted, has_kind, ask_of_parts, or_else, ask_of}
use Rattle.alt_legacy.specs.declared.entry.Entry.{Entry}
use Rattle.alt_legacy.specs.declared.entry.Test.{Test}
use Rattle.alt_legacy.specs.declared.entry.Test.TheVariants as t
use Rattle.alt_legacy.specs.Answered.{IsBad}
use Rattle.alt_legacy.specs.declared.fault.LegacyFault.{LegacyFault}
use Rattle.alt_legacy.specs.declared.fault.LegacyFault.TheVariants as fault
use Rattle.alt_legacy.specs.Keys.{equal_value_of_kind, entry_hash_value, range_comparison_of_kind, range_front_of_kind, range_test_of_kind, entry_range_test, both_entries_asked, asked_by_entries, IsKeyCondition, IsNoKey}
use Rattle.alt_legacy.specs.Trees.{attribute_path, attribute_operand, given_operand, contains_value, tree_for, condition_of_entry, joined_condition}
use Rattle.alt_legacy.specs.Meets.{holds_of}
use Rattle.alt_legacy.proofs.Joined.{joined_holds}

-- ---- the tops of the trees

top_compare : (by : Comparison) (x y : Operand)
    → out-Cond (cond.Compare by x y) ≡ Cond-F.Compare by x y
top_compare by x y = search (rules, the_lemmas)

top_between : (x low high : Operand)
    → out-Cond (cond.Between x low high) ≡ Cond-F.Between x low high
top_between x low high = search (rules, the_lemmas)

top_among : (x : Operand) (ys : List Operand) → out-Cond (cond.Among x ys) ≡ Cond-F.Among x ys
top_among x ys = search (rules, the_lemmas)

top_exists : (p : List PathPart) → out-Cond (cond.Exists p) ≡ Cond-F.Exists p
top_exists p = search (rules, the_lemmas)

top_missing : (p : List PathPart) → out-Cond (cond.NotExists p) ≡ Cond-F.NotExists p
top_missing p = search (rules, the_lemmas)

top_contains : (x y : Operand) → out-Cond (cond.Contains x y) ≡ Cond-F.Contains x y
top_contains x y = search (rules, the_lemmas)

top_begins : (x y : Operand) → out-Cond (cond.BeginsWith x y) ≡ Cond-F.BeginsWith x y
top_begins x y = search (rules, the_lemmas)

top_not : (x : Cond) → out-Cond (cond.Not x) ≡ Cond-F.Not x
top_not x = search (rules, the_lemmas)

top_all : (xs : List Cond) → out-Cond (cond.All xs) ≡ Cond-F.All xs
top_all xs = search (rules, the_lemmas)

-- ---- the HASH attribute

-- nothing, whatever the name
nothing : {A : Type 0} (o : Option A) (b : Bool) → o ≡ (if b then o else o)
nothing o true = refl
nothing o false = refl

-- the value that a comparison asks for by EQ
abbrev asked_equal : Comparison → Option Attr → Option Attr
asked_equal c.Equal o = o
asked_equal by o = None

equal_kept : (by : Comparison) (b h : Bool) (v : Attr)
    → k.equal_value (if b then k.comparison_with_value by (if h then Some v else None) else None)
    ≡ (if b then asked_equal by (if h then Some v else None) else None)
equal_kept by false h v = refl
equal_kept c.Equal true true v = refl
equal_kept c.NotEqual true true v = refl
equal_kept c.Less true true v = refl
equal_kept c.LessEqual true true v = refl
equal_kept c.Greater true true v = refl
equal_kept c.GreaterEqual true true v = refl
equal_kept c.Equal true false v = refl
equal_kept c.NotEqual true false v = refl
equal_kept c.Less true false v = refl
equal_kept c.LessEqual true false v = refl
equal_kept c.Greater true false v = refl
equal_kept c.GreaterEqual true false v = refl

equal_asked : (j : KeyKind) (by : Comparison) (v : Attr)
    → asked_equal by (if has_kind j v then Some v else None) ≡ equal_value_of_kind j (t.Compares by v)
equal_asked j c.Equal v = refl
equal_asked j c.NotEqual v = refl
equal_asked j c.Less v = refl
equal_asked j c.LessEqual v = refl
equal_asked j c.Greater v = refl
equal_asked j c.GreaterEqual v = refl

-- what the tree of an entry asks of the HASH attribute
hash_same : (key : Key) (name : List ℕ) (test : Test)
    → k.hash_value key (tree_for name test)
    ≡ (if bytes_eq name key.name then equal_value_of_kind key.kind test else None)
hash_same key name (t.Compares by v) =
    ap (k.hash_at key) (top_compare by (attribute_operand name) (given_operand v))
    ∙ equal_kept by (bytes_eq name key.name) (has_kind key.kind v) v
    ∙ ap (λ (o : Option Attr). if bytes_eq name key.name then o else None) (equal_asked key.kind by v)
hash_same key name (t.Between low high) =
    ap (k.hash_at key) (top_between (attribute_operand name) (given_operand low) (given_operand high)) ∙ nothing None (bytes_eq name key.name)
hash_same key name (t.Among vs) =
    ap (k.hash_at key) (top_among (attribute_operand name) (map given_operand vs)) ∙ nothing None (bytes_eq name key.name)
hash_same key name t.There = ap (k.hash_at key) (top_exists (attribute_path name)) ∙ nothing None (bytes_eq name key.name)
hash_same key name t.Missing = ap (k.hash_at key) (top_missing (attribute_path name)) ∙ nothing None (bytes_eq name key.name)
hash_same key name (t.Has v) =
    ap (k.hash_at key) (top_contains (attribute_operand name) (given_operand v)) ∙ nothing None (bytes_eq name key.name)
hash_same key name (t.HasNot v) = ap (k.hash_at key)
    (top_all (cond.Exists (attribute_path name) ∷ cond.Not (contains_value name v) ∷ [])) ∙ nothing None (bytes_eq name key.name)
hash_same key name (t.Begins v) =
    ap (k.hash_at key) (top_begins (attribute_operand name) (given_operand v)) ∙ nothing None (bytes_eq name key.name)

-- ---- the RANGE attribute

-- the test that a comparison makes, but for NE
abbrev asked_range : Comparison → Bool → Attr → Option RangeTest
asked_range c.NotEqual h v = None
asked_range by h v = if h then Some (compared by v) else None

compared_kept : (by : Comparison) (b h : Bool) (v : Attr)
    → k.range_comparison (if b then k.comparison_with_value by (if h then Some v else None) else None)
    ≡ (if b then asked_range by h v else None)
compared_kept by false h v = refl
compared_kept c.Equal true true v = refl
compared_kept c.NotEqual true true v = refl
compared_kept c.Less true true v = refl
compared_kept c.LessEqual true true v = refl
compared_kept c.Greater true true v = refl
compared_kept c.GreaterEqual true true v = refl
compared_kept c.Equal true false v = refl
compared_kept c.NotEqual true false v = refl
compared_kept c.Less true false v = refl
compared_kept c.LessEqual true false v = refl
compared_kept c.Greater true false v = refl
compared_kept c.GreaterEqual true false v = refl

compared_asked : (j : KeyKind) (by : Comparison) (v : Attr)
    → asked_range by (has_kind j v) v ≡ range_comparison_of_kind j by v
compared_asked j c.Equal v = refl
compared_asked j c.NotEqual v = refl
compared_asked j c.Less v = refl
compared_asked j c.LessEqual v = refl
compared_asked j c.Greater v = refl
compared_asked j c.GreaterEqual v = refl

between_kept : (l h : Bool) (low high : Attr)
    → k.range_between (if l then Some low else None) (if h then Some high else None)
    ≡ (if l && h then Some (between low high) else None)
between_kept true true low high = refl
between_kept true false low high = refl
between_kept false true low high = refl
between_kept false false low high = refl

-- the front that a text or a binary may begin with
abbrev asked_front : KeyKind → Bool → Attr → Option RangeTest
asked_front kind.N h v = None
asked_front j h v = if h then Some (fronted v) else None

front_kept : (j : KeyKind) (h : Bool) (v : Attr)
    → k.range_front j (if h then Some v else None) ≡ asked_front j h v
front_kept kind.N h v = refl
front_kept kind.S true v = refl
front_kept kind.S false v = refl
front_kept kind.B true v = refl
front_kept kind.B false v = refl

front_asked : (j : KeyKind) (v : Attr) → asked_front j (has_kind j v) v ≡ range_front_of_kind j v
front_asked kind.N v = refl
front_asked kind.S v = refl
front_asked kind.B v = refl

-- what the tree of an entry asks of the RANGE attribute
range_same : (key : Key) (name : List ℕ) (test : Test)
    → k.range_test key (tree_for name test)
    ≡ (if bytes_eq name key.name then range_test_of_kind key.kind test else None)
range_same key name (t.Compares by v) =
    ap (k.range_at key) (top_compare by (attribute_operand name) (given_operand v))
    ∙ compared_kept by (bytes_eq name key.name) (has_kind key.kind v) v
    ∙ ap (λ (o : Option RangeTest). if bytes_eq name key.name then o else None)
    (compared_asked key.kind by v)
range_same key name (t.Between low high) =
    ap (k.range_at key) (top_between (attribute_operand name) (given_operand low) (given_operand high))
    ∙ ap (λ (o : Option RangeTest). if bytes_eq name key.name then o else None)
    (between_kept (has_kind key.kind low) (has_kind key.kind high) low high)
range_same key name (t.Among vs) =
    ap (k.range_at key) (top_among (attribute_operand name) (map given_operand vs)) ∙ nothing None (bytes_eq name key.name)
range_same key name t.There = ap (k.range_at key) (top_exists (attribute_path name)) ∙ nothing None (bytes_eq name key.name)
range_same key name t.Missing = ap (k.range_at key) (top_missing (attribute_path name)) ∙ nothing None (bytes_eq name key.name)
range_same key name (t.Has v) =
    ap (k.range_at key) (top_contains (attribute_operand name) (given_operand v)) ∙ nothing None (bytes_eq name key.name)
range_same key name (t.HasNot v) = ap (k.range_at key)
    (top_all (cond.Exists (attribute_path name) ∷ cond.Not (contains_value name v) ∷ [])) ∙ nothing None (bytes_eq name key.name)
range_same key name (t.Begins v) =
    ap (k.range_at key) (top_begins (attribute_operand name) (given_operand v))
    ∙ ap (λ (o : Option RangeTest). if bytes_eq name key.name then o else None)
    (front_kept key.kind (has_kind key.kind v) v ∙ front_asked key.kind v)

-- ---- the whole

both_same : (hash : Key) (range : Option Key) (d e : Entry)
    → k.both_asked hash range (condition_of_entry d) (condition_of_entry e) ≡ both_entries_asked hash range d e
both_same hash None d e = refl
both_same hash (Some range) d e =
    λ i. ask_of_parts (hash_same hash d.name d.test i) (range_same range e.name e.test i)

-- one entry alone asks what its tree does; AND of two conditions asks nothing where it is the tree of one entry
module _ (hash : Key) (range : Option Key) where
  alone : (name : List ℕ) (test : Test)
      → ask_of hash range (tree_for name test)
      ≡ ask_of_parts (if bytes_eq name hash.name then equal_value_of_kind hash.kind test else None) (Some anything)
  unfolding ask_of
  alone name (t.Compares by v) = ap (k.ask_at hash range) (top_compare by (attribute_operand name) (given_operand v))
      ∙ ap (λ (o : Option Attr). ask_of_parts o (Some anything))
      (equal_kept by (bytes_eq name hash.name) (has_kind hash.kind v) v
      ∙ ap (λ (o : Option Attr). if bytes_eq name hash.name then o else None)
      (equal_asked hash.kind by v))
  alone name (t.Between low high) =
      ap (k.ask_at hash range) (top_between (attribute_operand name) (given_operand low) (given_operand high))
      ∙ ap (λ (o : Option Attr). ask_of_parts o (Some anything)) (nothing None (bytes_eq name hash.name))
  alone name (t.Among vs) = ap (k.ask_at hash range) (top_among (attribute_operand name) (map given_operand vs))
      ∙ ap (λ (o : Option Attr). ask_of_parts o (Some anything)) (nothing None (bytes_eq name hash.name))
  alone name t.There = ap (k.ask_at hash range) (top_exists (attribute_path name))
      ∙ ap (λ (o : Option Attr). ask_of_parts o (Some anything)) (nothing None (bytes_eq name hash.name))
  alone name t.Missing = ap (k.ask_at hash range) (top_missing (attribute_path name))
      ∙ ap (λ (o : Option Attr). ask_of_parts o (Some anything)) (nothing None (bytes_eq name hash.name))
  alone name (t.Has v) = ap (k.ask_at hash range) (top_contains (attribute_operand name) (given_operand v))
      ∙ ap (λ (o : Option Attr). ask_of_parts o (Some anything)) (nothing None (bytes_eq name hash.name))
  alone name (t.HasNot v) =
      ap (k.ask_at hash range) (top_all (cond.Exists (attribute_path name) ∷ cond.Not (contains_value name v) ∷ []))
      ∙ no_two name v range
      ∙ ap (λ (o : Option Attr). ask_of_parts o (Some anything)) (nothing None (bytes_eq name hash.name))
    where
      -- neither of the two is on the HASH attribute
      no_two : (name : List ℕ) (v : Attr) (r : Option Key)
          → k.joined_ask hash r (cond.Exists (attribute_path name) ∷ cond.Not (contains_value name v) ∷ []) ≡ None
      no_two name v None = refl
      no_two name v (Some r) = λ i. or_else
          (ask_of_parts (k.hash_at hash (top_exists (attribute_path name) i)) (k.range_test r (cond.Not (contains_value name v))))
          (ask_of_parts (k.hash_at hash (top_not (contains_value name v) i)) (k.range_test r (cond.Exists (attribute_path name))))
  alone name (t.Begins v) = ap (k.ask_at hash range) (top_begins (attribute_operand name) (given_operand v))
      ∙ ap (λ (o : Option Attr). ask_of_parts o (Some anything)) (nothing None (bytes_eq name hash.name))

  two : (d e : Entry) → ask_of hash range (cond.All (condition_of_entry d ∷ condition_of_entry e ∷ []))
      ≡ or_else (both_entries_asked hash range d e) (both_entries_asked hash range e d)
  unfolding ask_of
  two d e = ap (k.ask_at hash range) (top_all (condition_of_entry d ∷ condition_of_entry e ∷ []))
      ∙ (λ i. or_else (both_same hash range d e i) (both_same hash range e d i))

  -- the condition of entries on the keys asks what they do
  pub joined_asks : (es : List Entry) (x : Cond) → is_some (asked_by_entries hash range es) ≡ true
      → joined_condition false (map condition_of_entry es) ≡ Some x → ask_of hash range x ≡ asked_by_entries hash range es
  joined_asks (e ∷ []) x is made =
      let same : condition_of_entry e ≡ x = cc in
      ap (ask_of hash range) (sym same) ∙ alone e.name e.test
  joined_asks (d ∷ e ∷ []) x is made =
      let same : cond.All (condition_of_entry d ∷ condition_of_entry e ∷ []) ≡ x = cc in
      ap (ask_of hash range) (sym same) ∙ two d e
  joined_asks [] x is made = absurd (cc)
  joined_asks (b ∷ d ∷ e ∷ es) x is made = absurd (cc)

  -- so it is their key condition
  -- the tree of entries asks what they do, also where that is nothing
  pub keys_asked : (es : List Entry)
      → option_and_then (ask_of hash range) (joined_condition false (map condition_of_entry es)) ≡ asked_by_entries hash range es
  unfolding ask_of
  keys_asked [] = refl
  keys_asked (e ∷ []) = alone e.name e.test
  keys_asked (d ∷ e ∷ []) = two d e
  keys_asked (d ∷ e ∷ f ∷ es) =
      ap (k.ask_at hash range) (top_all (condition_of_entry d ∷ condition_of_entry e ∷ condition_of_entry f ∷ map condition_of_entry es))

  pub is_key_condition : (meaning : Option (List Entry)) (es : List Entry) (x : Cond)
      → meaning ≡ Some es → is_some (asked_by_entries hash range es) ≡ true
      → Some x ≡ joined_condition false (map condition_of_entry es) → IsKeyCondition meaning hash range x
  is_key_condition meaning es x means is made = (
    es,
    means,
    record {
      is_key = is;
      same_ask = joined_asks es x is (sym made);
      same_items = λ item. ap (λ (o : Option Cond). holds_of o item) made
          ∙ joined_holds false es item;
    },
  )

-- ---- why entries are no key condition

-- a test that finds nothing
not_some : {A : Type 0} (o : Option A) → is_some o ≡ false → o ≡ None
not_some None e = refl
not_some (Some x) e = absurd (cc)

-- a member without a meaning is no key condition
pub bad_key : (meaning : Option (List Entry)) (hash : Key) (range : Option Key) (f : LegacyFault)
    → IsBad meaning f → IsNoKey meaning hash range f
bad_key meaning hash range fault.Bad h = (h (λ e. absurd (cc))).1
bad_key meaning hash range fault.NotKey h =
    let wrong : fault.NotKey ≡ fault.Bad = (h (λ e. absurd (cc))).0 in absurd (cc)
bad_key meaning hash range fault.NoMemory h = tt

-- entries that aren't on the keys
pub not_asked : (meaning : Option (List Entry)) (hash : Key) (range : Option Key) (es : List Entry)
    → meaning ≡ Some es → is_some (asked_by_entries hash range es) ≡ false
    → IsNoKey meaning hash range fault.NotKey
not_asked meaning hash range es means out = (es, means, not_some (asked_by_entries hash range es) out)

-- no entries
pub none_asked : (meaning : Option (List Entry)) (hash : Key) (range : Option Key)
    (es : List Entry) → meaning ≡ Some es → None ≡ joined_condition false (map condition_of_entry es)
    → IsNoKey meaning hash range fault.NotKey
none_asked meaning hash range [] means none = ([], means, refl)
none_asked meaning hash range (e ∷ []) means none = absurd (cc)
none_asked meaning hash range (d ∷ e ∷ es) means none = absurd (cc)

-- ---- which entries ask

-- both parts are asked where both are there
pub both_there : (o : Option Attr) (p : Option RangeTest) (b : Bool) → is_some o ≡ true
    → b ≡ is_some p → b ≡ is_some (ask_of_parts o p)
both_there None p b h k = absurd (cc)
both_there (Some v) None b h k = k
both_there (Some v) (Some test) b h k = k

-- two entries and no more
pub pair_of : (es : List Entry) (d e : Entry) → 2 ≤ length es → length es < 3
    → d ≡ get_or es 0 d → e ≡ get_or es 1 e → es ≡ d ∷ e ∷ []
pair_of [] d e h k m n = absurd (omega (arith, h))
pair_of (x ∷ []) d e h k m n = absurd (omega (arith, h))
pair_of (x ∷ y ∷ []) d e h k m n = λ i. sym m i ∷ sym n i ∷ []
pair_of (x ∷ y ∷ z ∷ zs) d e h k m n = absurd (omega (arith, k))

-- the first of two asks
first_told : (k m : Option Ask) (b : Bool) → b ≡ is_some k → b ≡ true → b ≡ is_some (or_else k m)
first_told None m b h t = absurd (cc)
first_told (Some a) m b h t = h

-- else the second
second_told : (k m : Option Ask) (a b : Bool) → a ≡ is_some k → a ≡ false → b ≡ is_some m
    → b ≡ is_some (or_else k m)
second_told None m a b h f n = n
second_told (Some x) m a b h f n = absurd (cc)

module _ (hash range : Key) (o : Option Key) (es : List Entry) (d e : Entry) (is : o ≡ Some range)
    (two : es ≡ d ∷ e ∷ []) where
  -- two entries ask in their order
  pub in_turn : (b : Bool) → b ≡ is_some (ask_of_parts (entry_hash_value hash d) (entry_range_test range e))
      → b ≡ true → b ≡ is_some (asked_by_entries hash o es)
  in_turn b h t = first_told (ask_of_parts (entry_hash_value hash d) (entry_range_test range e))
      (ask_of_parts (entry_hash_value hash e) (entry_range_test range d)) b h t
      ∙ sym (λ i. is_some (asked_by_entries hash (is i) (two i)))

  -- or in the other
  pub in_other_turn : (a b : Bool) → a ≡ is_some (ask_of_parts (entry_hash_value hash d) (entry_range_test range e))
      → a ≡ false → b ≡ is_some (ask_of_parts (entry_hash_value hash e) (entry_range_test range d))
      → b ≡ is_some (asked_by_entries hash o es)
  in_other_turn a b h f n = second_told (ask_of_parts (entry_hash_value hash d) (entry_range_test range e))
      (ask_of_parts (entry_hash_value hash e) (entry_range_test range d)) a b h f n
      ∙ sym (λ i. is_some (asked_by_entries hash (is i) (two i)))
