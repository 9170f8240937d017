-- Rows as they are read one by one, and what is put of them.
use Rattle.std.proofs.Common.{◌≡◌, ◌<◌, refl, sym, ap, subst, ◌∙◌, ℕ, zero, suc, List, [], ◌∷◌, ◌++◌, map, length, get_or, Option, Some, None, All, append_assoc, arith, ◌+◌}
use Rattle.std.proofs.lemmas.List.{map-append}
use Rattle.std.proofs.lemmas.List.Elements.{All-head, All-tail, All-push}
use Rattle.alt_cells.specs.Changes.{Columns}
use Rattle.alt_schema.specs.declared.schema.IndexSchema.{IndexSchema}
use Rattle.alt_schema.specs.declared.schema.TableSchema.{TableSchema}
use Rattle.alt_views.specs.ItemRows.{IsReadItem, item_columns}
use Rattle.alt_rowchanges.specs.Pages.{AreItemsOf, AreKept, ArePut, AreChangesOf}
use Rattle.alt_views.specs.Read.{IsKeptAt}
use Rattle.alt_views.proofs.ItemRowLaws.{item_columns-one}
use Rattle.alt_value.specs.Tree.{Pair}
use Rattle.alt_machine.specs.State.{Change}
use Rattle.alt_opening.specs.StreamScans.{IsChangeAt}
use Rattle.alt_opening.proofs.StreamSteps.{one_change_at}
use Rattle.std.specs.List.{last_or}

-- ---- items

-- the item of one row more
pub put_more : (page : List (List ℕ × Columns)) (e : List ℕ × Columns) (item : List Pair)
    (old mid new : List (List Pair)) → ArePut page old mid → IsReadItem item
    → e.1 ≡ item_columns item → new ≡ mid ++ item ∷ [] → ArePut (page ++ e ∷ []) old new
put_more page e item old mid new so_far read row push = record {
  items = so_far.items ++ item ∷ [];
  are = record {
    read = All-push IsReadItem so_far.items item so_far.are.read read;
    rows = map-append (λ (x : List ℕ × Columns). x.1) page (e ∷ [])
        ∙ (λ i. so_far.are.rows i ++ row i ∷ [])
        ∙ sym (map-append item_columns so_far.items (item ∷ []));
  };
  put = push ∙ ap (λ items. items ++ item ∷ []) so_far.put
      ∙ append_assoc old so_far.items (item ∷ []);
}

-- what two lists begin with, and what follows
parts : {A : Type 0} (x y : A) (xs ys : List A) → x ∷ xs ≡ y ∷ ys → (x ≡ y) × (xs ≡ ys)
parts x y xs ys e = (cc, cc)

-- Of rows of items each is that of one which can be read.
pub item_at : (page : List (List ℕ × Columns)) (items : List (List Pair)) (k : ℕ)
    (e : List ℕ × Columns) → AreItemsOf page items → k < length page → e ≡ get_or page k e
    → (item : List Pair) × IsReadItem item × (e.1 ≡ item_columns item)
item_at page items k e are within is = by page items k are.read are.rows within is
  where
    by : (page : List (List ℕ × Columns)) (items : List (List Pair)) (k : ℕ)
        → All IsReadItem items → map (λ e. e.1) page ≡ map item_columns items → k < length page
        → e ≡ get_or page k e → (item : List Pair) × IsReadItem item × (e.1 ≡ item_columns item)
    by [] items k read rows within is = absurd (omega arith)
    by (x ∷ xs) [] k read rows within is =
        let no : x.1 ∷ map (λ e. e.1) xs ≡ [] = rows in absurd (cc no)
    by (x ∷ xs) (y ∷ ys) zero read rows within is = (
      y,
      All-head IsReadItem y ys read,
      ap (λ p. p.1) is ∙ (parts x.1 (item_columns y) _ _ rows).0,
    )
    by (x ∷ xs) (y ∷ ys) (suc k) read rows within is = by xs ys k
        (All-tail IsReadItem y ys read) (parts x.1 (item_columns y) _ _ rows).1 (omega arith) is

-- items with the same rows are the same
pub same_items : (a b : List (List Pair)) → All IsReadItem a → All IsReadItem b
    → map item_columns a ≡ map item_columns b → a ≡ b
same_items [] [] h k e = refl
same_items [] (y ∷ ys) h k e = let no : [] ≡ item_columns y ∷ map item_columns ys = e in
    absurd (cc no)
same_items (x ∷ xs) [] h k e = let no : item_columns x ∷ map item_columns xs ≡ [] = e in
    absurd (cc no)
same_items (x ∷ xs) (y ∷ ys) h k e =
    let both = parts (item_columns x) (item_columns y) (map item_columns xs) (map item_columns ys)
    e in
    let one = item_columns-one x y (All-head IsReadItem x xs h).whole
    (All-head IsReadItem y ys k).whole both.0 in
    let rest = same_items xs ys (All-tail IsReadItem x xs h) (All-tail IsReadItem y ys k) both.1 in
    λ i. one i ∷ rest i

-- ---- what an index keeps

-- what is kept at some rows and one more
record KeptMore (d : TableSchema) (i : IndexSchema) (page : List (List ℕ × Columns))
    (e : List ℕ × Columns) (items : List (List Pair)) : Type 0 where
  front : List (List Pair)
  item : List Pair
  are : items ≡ front ++ item ∷ []
  kept : AreKept d i page front
  last : IsKeptAt d i item e.0 e.1

kept_more : (d : TableSchema) (i : IndexSchema) (page : List (List ℕ × Columns))
    (e : List ℕ × Columns) (items : List (List Pair)) → AreKept d i (page ++ e ∷ []) items
    → KeptMore d i page e items
kept_more d i [] e [] kept = absurd kept
kept_more d i [] e (x ∷ []) kept =
    record { front = []; item = x; are = refl; kept = tt; last = kept.0 }
kept_more d i [] e (x ∷ y ∷ ys) kept = absurd kept.1
kept_more d i (p ∷ page) e [] kept = absurd kept
kept_more d i (p ∷ page) e (x ∷ xs) kept =
    let rest = kept_more d i page e xs kept.1 in
    record {
      front = x ∷ rest.front;
      item = rest.item;
      are = ap (λ items. x ∷ items) rest.are;
      kept = (kept.0, rest.kept);
      last = rest.last;
    }

-- what is kept at one row more is put behind what was
pub put_kept : (d : TableSchema) (i : IndexSchema) (page : List (List ℕ × Columns))
    (e : List ℕ × Columns) (item : List Pair) (old mid new : List (List Pair))
    → ((items : List (List Pair)) → AreKept d i page items → mid ≡ old ++ items)
    → ((kept : List Pair) → IsKeptAt d i kept e.0 e.1 → item ≡ kept) → new ≡ mid ++ item ∷ []
    → (items : List (List Pair)) → AreKept d i (page ++ e ∷ []) items → new ≡ old ++ items
put_kept d i page e item old mid new so_far reads push items kept =
    let more = kept_more d i page e items kept in
    push ∙ ap (λ put. put ++ item ∷ []) (so_far more.front more.kept)
    ∙ append_assoc old more.front (item ∷ [])
    ∙ ap (λ x. old ++ (more.front ++ x ∷ [])) (reads more.item more.last)
    ∙ ap (λ put. old ++ put) (sym more.are)

-- at each row something is kept
pub kept_row : (d : TableSchema) (i : IndexSchema) (page : List (List ℕ × Columns))
    (items : List (List Pair)) (k : ℕ) (e : List ℕ × Columns) → AreKept d i page items
    → k < length page → e ≡ get_or page k e → (item : List Pair) × IsKeptAt d i item e.0 e.1
kept_row d i [] items k e kept within is = absurd (omega (arith, within))
kept_row d i (p ∷ page) [] k e kept within is = absurd kept
kept_row d i (p ∷ page) (x ∷ xs) zero e kept within is =
    (x, subst (λ (q : List ℕ × Columns). IsKeptAt d i x q.0 q.1) (sym is) kept.0)
kept_row d i (p ∷ page) (x ∷ xs) (suc k) e kept within is =
    kept_row d i page xs k e kept.1 (omega (arith, within)) is

-- ---- changes

-- the change of one row more
pub changes_more : (page : List (List ℕ × Columns)) (e : List ℕ × Columns) (cs : List Change)
    (c : Change) → AreChangesOf page cs → IsChangeAt e.0 e.1 c
    → AreChangesOf (page ++ e ∷ []) (cs ++ c ∷ [])
changes_more [] e [] c are is = (is, tt)
changes_more [] e (d ∷ ds) c are is = absurd are
changes_more (p ∷ ps) e [] c are is = absurd are
changes_more (p ∷ ps) e (d ∷ ds) c are is = (are.0, changes_more ps e ds c are.1 is)

-- each row is that of a change
pub change_row_at : (page : List (List ℕ × Columns)) (cs : List Change) (k : ℕ)
    (e : List ℕ × Columns) → AreChangesOf page cs → k < length page → e ≡ get_or page k e
    → (c : Change) × IsChangeAt e.0 e.1 c
change_row_at [] cs k e are within is = absurd (omega (arith, within))
change_row_at (p ∷ ps) [] k e are within is = absurd are
change_row_at (p ∷ ps) (c ∷ cs) zero e are within is =
    (c, subst (λ (q : List ℕ × Columns). IsChangeAt q.0 q.1 c) (sym is) are.0)
change_row_at (p ∷ ps) (c ∷ cs) (suc k) e are within is =
    change_row_at ps cs k e are.1 (omega (arith, within)) is

-- so rows are those of one list
pub one_changes : (page : List (List ℕ × Columns)) (cs ds : List Change) → AreChangesOf page cs
    → AreChangesOf page ds → cs ≡ ds
one_changes [] [] [] p q = refl
one_changes [] [] (b ∷ ds) p q = absurd q
one_changes [] (a ∷ cs) ds p q = absurd p
one_changes (e ∷ es) [] ds p q = absurd p
one_changes (e ∷ es) (a ∷ cs) [] p q = absurd q
one_changes (e ∷ es) (a ∷ cs) (b ∷ ds) p q =
    let first = one_change_at e.0 e.1 a b p.0 q.0 in
    let rest = one_changes es cs ds p.1 q.1 in
    λ i. first i ∷ rest i

-- ---- places

-- the place of one row more is the last
pub last_row : (page : List (List ℕ × Columns)) (e : List ℕ × Columns)
    → Some e.0 ≡ last_or None (map (λ (x : List ℕ × Columns). x.0) (page ++ e ∷ []))
last_row page e = sym (by None page)
  where
    by : (o : Option (List ℕ)) (page : List (List ℕ × Columns))
        → last_or o (map (λ (x : List ℕ × Columns). x.0) (page ++ e ∷ [])) ≡ Some e.0
    by o [] = refl
    by o (x ∷ xs) = by (Some x.0) xs
