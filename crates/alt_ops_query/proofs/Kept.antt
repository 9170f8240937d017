-- The key of an item, put together from its attributes.
use Rattle.std.proofs.Common.{◌≡◌, refl, sym, ap, ◌∙◌, cond, ℕ, Bool, true, false, ◌||◌, T, List, [], ◌∷◌, Option, Some, None}
use Rattle.std.specs.FinMap.Entries.{find, is_sorted, where_key, find-put, find-where_key, is_sorted-put, is_sorted-where_key, same_entries}
use Rattle.std.specs.Str.{bytes_eq}
use Rattle.alt_cells.proofs.CellLaws.{key_total, key_exact}
use Rattle.alt_machine.specs.Lists.{key_attributes}
use Rattle.alt_machine.specs.Sources.{is_key_there}
use Rattle.alt_ops_query.specs.private.Replied.{with_attribute, with_key}
use Rattle.alt_schema.specs.Indexes.{is_key}
use Rattle.alt_schema.specs.declared.schema.IndexSchema.{IndexSchema}
use Rattle.alt_schema.specs.declared.schema.KeyAttr.{KeyAttr}
use Rattle.alt_schema.specs.declared.schema.TableSchema.{TableSchema}
use Rattle.std.proofs.lemmas.Slice.Eq.{bytes_eq-Decides}
use Rattle.alt_value.specs.Item.{IsItem, at_name}
use Rattle.alt_value.specs.Members.{text_order}
use Rattle.alt_value.specs.Tree.{Tree, Pair}
use Rattle.alt_value.proofs.NamedPairs.{none_at_empty}
use Rattle.alt_value.proofs.TextTies.{text_ties_turned}

-- ---- one attribute more

module _ (item : List Pair) (is_item : IsItem item) where
  -- of each name the key has what the item has, for names that pass
  abbrev KeepsWhere : (List ℕ → Bool) → List Pair → Type 0
  KeepsWhere p key = T (is_sorted text_order key)
      × ((q : List ℕ) → find text_order q key ≡ cond (p q) (find text_order q item) None)

  none_either : (b : Bool) (o : Option Tree) → o ≡ None → cond b o None ≡ o
  none_either true o e = refl
  none_either false o e = sym e

  -- with an attribute it has that of one name more
  kept_more : (name : List ℕ) (p : List ℕ → Bool) (key : List Pair) → KeepsWhere p key
      → KeepsWhere (λ q. bytes_eq name q || p q)
      (with_attribute name (at_name name item) key)
  kept_more name p key keeps = by name refl (at_name name item) refl
    where
      -- a name that isn't there adds nothing
      without : (q : List ℕ) → find text_order name item ≡ None → find text_order q key
          ≡ cond (bytes_eq name q || p q) (find text_order q item) None
      without q none = one (bytes_eq name q) refl
        where
          one : (b : Bool) → bytes_eq name q ≡ b
              → find text_order q key ≡ cond (b || p q) (find text_order q item) None
          one true same = keeps.1 q ∙ none_either (p q) (find text_order q item)
              (ap (λ n. find text_order n item) (sym ((bytes_eq-Decides name q).0 same)) ∙ none)
          one false other = keeps.1 q

      by : (n : List ℕ) → name ≡ n → (o : Option Tree) → at_name name item ≡ o
          → KeepsWhere (λ q. bytes_eq name q || p q) (with_attribute n o key)
      by [] is o at = (
        keeps.0,
        λ q. without q (ap (λ n. find text_order n item) is
            ∙ none_at_empty item is_item),
      )
      by (b ∷ bs) is None at = (keeps.0, λ q. without q at)
      by (b ∷ bs) is (Some t) at = (
        is_sorted-put text_order key_total (b ∷ bs) t key keeps.0,
        λ q. find-put text_order key_total q (b ∷ bs) t key
            ∙ ap (λ c. cond c (Some t) (find text_order q key))
            (text_ties_turned (b ∷ bs) q ∙ ap (λ n. bytes_eq n q) (sym is))
            ∙ two q (bytes_eq name q) refl,
      )
        where
          two : (q : List ℕ) (c : Bool) → bytes_eq name q ≡ c
              → cond c (Some t) (find text_order q key)
              ≡ cond (c || p q) (find text_order q item) None
          two q true same = sym (ap (λ n. find text_order n item)
              (sym ((bytes_eq-Decides name q).0 same)) ∙ at)
          two q false other = keeps.1 q

  -- two keys that have the same are one
  one_key : (p q : List ℕ → Bool) (a b : List Pair) → KeepsWhere p a → KeepsWhere q b
      → ((n : List ℕ) → p n ≡ q n) → a ≡ b
  one_key p q a b h k same = same_entries text_order key_total key_exact a b h.0 k.0
      (λ n. h.1 n ∙ ap (λ c. cond c (find text_order n item) None) (same n) ∙ sym (k.1 n))

  -- that of the item itself
  where_kept : (p : List ℕ → Bool) → KeepsWhere p (where_key text_order p item)
  where_kept p = (
    is_sorted-where_key text_order p item is_item.0,
    λ q. find-where_key text_order p q (λ x tie. ap p (sym (key_exact q x tie))) item,
  )

  or_false : (a : Bool) → (a || false) ≡ a
  or_false true = refl
  or_false false = refl

  same_test : (p q : List ℕ → Bool) (key : List Pair) → ((n : List ℕ) → p n ≡ q n)
      → KeepsWhere p key → KeepsWhere q key
  same_test p q key same keeps = (
    keeps.0,
    λ n. keeps.1 n ∙ ap (λ c. cond c (find text_order n item) None) (same n),
  )

  none_kept : KeepsWhere (λ q. false) []
  none_kept = (tt, λ q. refl)

  -- with the attributes of a key it has those of its names more
  kept_key : (hash : KeyAttr) (range : Option KeyAttr) (p : List ℕ → Bool) (key : List Pair)
      → KeepsWhere p key
      → KeepsWhere (λ q. is_key hash range q || p q) (with_key hash range item key)
  kept_key hash None p key keeps = same_test _ _ _ (λ q. ap (λ b. b || p q) (sym (or_false _)))
      (kept_more hash.name p key keeps)
  kept_key hash (Some range) p key keeps = same_test _ _ _
      (λ q. turn (bytes_eq range.name q) (bytes_eq hash.name q) (p q))
      (kept_more range.name _ _ (kept_more hash.name p key keeps))
    where
      turn : (a b c : Bool) → (a || (b || c)) ≡ ((b || a) || c)
      turn true true c = refl
      turn true false c = refl
      turn false true c = refl
      turn false false c = refl

  -- The key attributes of an item, put one after the other into an empty one: those of the table, and in an index those of its key too.
  pub key-table : (d : TableSchema) → with_key d.hash d.range item [] ≡ key_attributes d None item
  key-table d = one_key _ _ _ _ (kept_key d.hash d.range (λ q. false) [] none_kept)
      (where_kept (is_key_there d None)) (λ q. or_false _)

  -- the key attributes of the index put into those of the table are the key of an item of the index
  pub key-index : (d : TableSchema) (i : IndexSchema)
      → with_key i.hash i.range item (with_key d.hash d.range item [])
      ≡ key_attributes d (Some i) item
  key-index d i = one_key _ _ _ _ (kept_key i.hash i.range _ _
      (kept_key d.hash d.range (λ q. false) [] none_kept))
      (where_kept (is_key_there d (Some i)))
      (λ q. turn (is_key i.hash i.range q) (is_key d.hash d.range q))
    where
      turn : (a b : Bool) → (a || (b || false)) ≡ (b || a)
      turn true true = refl
      turn true false = refl
      turn false true = refl
      turn false false = refl
