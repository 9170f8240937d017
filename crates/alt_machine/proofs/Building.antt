-- The items of which an index is built: all of them where it is whole; and what they are after a write of one item.
use Rattle.std.proofs.Common.{◌≡◌, refl, sym, ap, ◌∙◌, ℕ, Bool, true, false, cond, List, Option, Some, None}
use Rattle.std.specs.FinMap as finite
use Rattle.std.specs.FinMap.Entries.{find-where_key, is_sorted-where_key, where_key}
use Rattle.std.specs.Ordering.{eq_by_cmp, is_eq}
use Rattle.std.specs.declared.cmp.Ordering.{Ordering}
use Rattle.std.specs.declared.cmp.Ordering.TheVariants.{Less, Equal, Greater}
use Rattle.alt_schema.specs.declared.schema.Built.{Built}
use Rattle.alt_schema.specs.declared.schema.Built.TheVariants.{Whole}
use Rattle.alt_schema.specs.declared.schema.TableSchema.{TableSchema}
use Rattle.alt_value.specs.Members.{text_order}
use Rattle.alt_value.specs.Tree.{Pair}
use Rattle.alt_value.proofs.Texts.{text_total, text_apart}
use Rattle.alt_machine.specs.Building.{built_part, reaches}
use Rattle.alt_machine.specs.State.{Texts}
use Rattle.alt_machine.specs.Writes.{with_item}

-- where an index is whole it is built of each item
pub built_part-whole : (d : TableSchema) (items : Texts (List Pair))
    → built_part d Whole items ≡ items
built_part-whole d items = finite.same_map text_total text_apart (built_part d Whole items) items
    (λ q. finite.get-from_sorted text_order
    (where_key text_order (reaches d Whole) (finite.entries items)) q
    (is_sorted-where_key text_order (reaches d Whole) (finite.entries items)
    (finite.entries_sorted items))
    ∙ find-where_key text_order (reaches d Whole) q (λ x same. refl) (finite.entries items)
    ∙ sym (finite.get-entries items q))

module _ (d : TableSchema) (built : Built) where
  -- what stands at a place among the items of which the index is built: what stands there, where the index is built so far
  pub get-built_part : (items : Texts (List Pair)) (q : List ℕ)
      → finite.get (built_part d built items) q
      ≡ cond (reaches d built q) (finite.get items q) None
  get-built_part items q =
      finite.get-from_sorted text_order
      (where_key text_order (reaches d built) (finite.entries items)) q
      (is_sorted-where_key text_order (reaches d built) (finite.entries items)
      (finite.entries_sorted items))
      ∙ find-where_key text_order (reaches d built) q
      (λ x same. ap (reaches d built) (sym (text_apart q x same))) (finite.entries items)
      ∙ ap (λ o. cond (reaches d built q) o None) (sym (finite.get-entries items q))

  get-with_item : (items : Texts (List Pair)) (place : List ℕ) (new : Option (List Pair))
      (q : List ℕ) → finite.get (with_item items place new) q
      ≡ cond (eq_by_cmp text_order q place) new (finite.get items q)
  get-with_item items place None q = finite.get-remove text_total items place q
  get-with_item items place (Some item) q = finite.get-insert text_total items place item q

  module _ (items : Texts (List Pair)) (place : List ℕ) (new : Option (List Pair)) where
    -- places that tie are one
    one_place : (q : List ℕ) → eq_by_cmp text_order q place ≡ true → q ≡ place
    one_place q e = text_apart q place (equal _ e)
      where
        equal : (o : Ordering) → is_eq o ≡ true → o ≡ Equal
        equal Less e = absurd (let f : ⊥ = cc in f)
        equal Equal e = refl
        equal Greater e = absurd (let f : ⊥ = cc in f)

    -- where it is built up to the place of the write, that writes among the items of which it is built
    pub built_part-reached : reaches d built place ≡ true → (q : List ℕ)
        → finite.get (built_part d built (with_item items place new)) q
        ≡ finite.get (with_item (built_part d built items) place new) q
    built_part-reached there q =
        get-built_part (with_item items place new) q
        ∙ ap (λ o. cond (reaches d built q) o None) (get-with_item items place new q)
        ∙ by (eq_by_cmp text_order q place) refl (reaches d built q) refl
        ∙ ap (cond (eq_by_cmp text_order q place) new) (sym (get-built_part items q))
        ∙ sym (get-with_item (built_part d built items) place new q)
      where
        by : (b : Bool) → eq_by_cmp text_order q place ≡ b → (c : Bool) → reaches d built q ≡ c
            → cond c (cond b new (finite.get items q)) None
            ≡ cond b new (cond c (finite.get items q) None)
        by true same true is = refl
        by true same false is = absurd (let f : false ≡ true =
            sym is ∙ ap (reaches d built) (one_place q same) ∙ there in let g : ⊥ = cc in g)
        by false other c is = refl

    -- else it changes none of them
    pub built_part-beyond : reaches d built place ≡ false → (q : List ℕ)
        → finite.get (built_part d built (with_item items place new)) q
        ≡ finite.get (built_part d built items) q
    built_part-beyond there q =
        get-built_part (with_item items place new) q
        ∙ ap (λ o. cond (reaches d built q) o None) (get-with_item items place new q)
        ∙ by (eq_by_cmp text_order q place) refl (reaches d built q) refl
        ∙ sym (get-built_part items q)
      where
        by : (b : Bool) → eq_by_cmp text_order q place ≡ b → (c : Bool) → reaches d built q ≡ c
            → cond c (cond b new (finite.get items q)) None ≡ cond c (finite.get items q) None
        by true same true is = absurd (let f : true ≡ false =
            sym is ∙ ap (reaches d built) (one_place q same) ∙ there in let g : ⊥ = cc in g)
        by true same false is = refl
        by false other c is = refl
