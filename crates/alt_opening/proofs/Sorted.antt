-- Lists of entries in order, and the finite maps that they stand for.
use Rattle.std.proofs.Common.{◌≡◌, refl, sym, ap, subst, ◌∙◌, ℕ, Bool, true, false, cond, not, T, List, length, None}
use Rattle.std.specs.FinMap.{insert, remove, from_sorted, len, len-entries, entries-from_sorted, entries-insert, get-from_sorted, get-remove, same_entries_map}
use Rattle.std.specs.FinMap.Entries.{find, put, where_key, is_sorted, is_sorted-put, is_sorted-where_key, find-where_key}
use Rattle.std.specs.Cmp.{alike_right, eq_by_cmp_equiv}
use Rattle.std.specs.Ordering.{is_eq, eq_by_cmp}
use Rattle.alt_machine.specs.State.{Texts}
use Rattle.alt_value.specs.Members.{text_order}
use Rattle.alt_value.proofs.Texts.{text_total}
use Rattle.alt_opening.proofs.Maps.{same_texts}

-- the other way round
cond-not : {A : Type 0} (b : Bool) (x y : A) → cond (not b) x y ≡ cond b y x
cond-not true x y = refl
cond-not false x y = refl

module _ {X : Type 0} where
  abbrev IsInOrder : List (List ℕ × X) → Type 0
  IsInOrder ps = T (is_sorted text_order ps)

  -- the map of such a list
  abbrev map_of : List (List ℕ × X) → Texts X
  map_of ps = from_sorted ps

  -- a map is as long as its entries
  pub len-map : (ps : List (List ℕ × X)) → IsInOrder ps → len (map_of ps) ≡ length ps
  len-map ps h = len-entries (map_of ps) ∙ ap length (entries-from_sorted text_order ps h)

  -- entries with one more rise
  pub put-in_order : (ps qs : List (List ℕ × X)) (name : List ℕ) (x : X) → IsInOrder ps
      → put text_order name x ps ≡ qs → IsInOrder qs
  put-in_order ps qs name x h e = subst IsInOrder e
      (is_sorted-put text_order text_total name x ps h)

  -- and are the map with it
  pub map-put : (ps qs : List (List ℕ × X)) (name : List ℕ) (x : X) → IsInOrder ps
      → put text_order name x ps ≡ qs
      → map_of qs ≡ insert (map_of ps) name x
  map-put ps qs name x h e = same_entries_map _ _ (
      entries-from_sorted text_order qs (put-in_order ps qs name x h e)
      ∙ sym e
      ∙ ap (put text_order name x) (sym (entries-from_sorted text_order ps h))
      ∙ sym (entries-insert text_total (map_of ps) name x))

  -- entries without one rise
  pub where_key-in_order : (ps qs : List (List ℕ × X)) (name : List ℕ) → IsInOrder ps
      → where_key text_order (λ x. not (eq_by_cmp text_order name x)) ps ≡ qs → IsInOrder qs
  where_key-in_order ps qs name h e = subst IsInOrder e
      (is_sorted-where_key text_order (λ x. not (eq_by_cmp text_order name x)) ps h)

  -- and are the map without it
  pub map-where_key : (ps qs : List (List ℕ × X)) (name : List ℕ) → IsInOrder ps
      → where_key text_order (λ x. not (eq_by_cmp text_order name x)) ps ≡ qs
      → map_of qs ≡ remove (map_of ps) name
  map-where_key ps qs name h e = same_texts _ _ (λ q.
      get-from_sorted text_order qs q (where_key-in_order ps qs name h e)
      ∙ ap (find text_order q) (sym e)
      ∙ find-where_key text_order (λ x. not (eq_by_cmp text_order name x)) q
      (λ x t. ap (λ r. not (is_eq r)) (sym (alike_right text_total q x name t))) ps
      ∙ cond-not (eq_by_cmp text_order name q) _ _
      ∙ ap (λ b. cond b None (find text_order q ps)) ((eq_by_cmp_equiv text_total).symm name q)
      ∙ sym (get-remove text_total (map_of ps) name q
      ∙ ap (cond (eq_by_cmp text_order q name) None) (get-from_sorted text_order ps q h)))
