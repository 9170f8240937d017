-- What stands behind the first byte of cell bytes, kind by kind.
use Rattle.std.proofs.Common.{◌≡◌, refl, sym, ap, subst, ◌∙◌, ℕ, zero, suc, List, [], ◌∷◌, ◌++◌, length, drop, append_assoc}
use Rattle.std.specs.Prelude.{ℤ, Bool}
use Rattle.std.specs.List.{AllByRecursion, flat_map}
use Rattle.alt_base.proofs.Lists.{cons_rest, cons_first}
use Rattle.alt_decimal.specs.Spelled.{spelled}
use Rattle.alt_fields.specs.Field.{field}
use Rattle.alt_value.specs.CellBytes.{cell_bytes, counted, truth_byte, fields_bytes, numbers_bytes}
use Rattle.alt_value.specs.Tree.{Tree, S_tree, N_tree, B_tree, BOOL_tree, NULL_tree, SS_tree, NS_tree, BS_tree, L_tree, M_tree, Pair, trees_of, fields_of, elements, pairs}
use Rattle.alt_value.proofs.Trees.{elements-trees_of, pairs-fields_of, fields_of-pairs, trees_of-elements}
use Rattle.alt_cellbytes.specs.Places.{entry_bytes, IsMapEntry}
use Rattle.alt_cellbytes.specs.Values.{HasBytes, HaveBytes, FieldsHaveBytes}

-- ---- lists and maps, seen as lists

-- the elements of a list that has bytes have bytes
pub all_values : (ts : List Tree) → HaveBytes (trees_of ts) → AllByRecursion HasBytes ts
all_values [] h = tt
all_values (t ∷ ts) h = (h.0, all_values ts h.1)

-- and a list has bytes where they do
pub values_all : (ts : List Tree) → AllByRecursion HasBytes ts → HaveBytes (trees_of ts)
values_all [] h = tt
values_all (t ∷ ts) h = (h.0, values_all ts h.1)

-- the pairs of a map that has bytes are entries
pub all_entries : (ps : List Pair) → FieldsHaveBytes (fields_of ps) → AllByRecursion IsMapEntry ps
all_entries [] h = tt
all_entries (p ∷ ps) h = ((h.0, h.1), all_entries ps h.2)

-- and a map has bytes where they are
pub entries_all : (ps : List Pair) → AllByRecursion IsMapEntry ps → FieldsHaveBytes (fields_of ps)
entries_all [] h = tt
entries_all (p ∷ ps) h = (h.0.0, h.0.1, entries_all ps h.1)

-- ---- shapes

-- fields one behind another
pub fields_shape : (ss : List (List ℕ)) → fields_bytes ss ≡ flat_map field ss
fields_shape [] = refl
fields_shape (s ∷ ss) = ap (λ t. field s ++ t) (fields_shape ss)

-- and spelled numbers
pub numbers_shape : (zs : List ℤ) → numbers_bytes zs ≡ flat_map spelled zs
numbers_shape [] = refl
numbers_shape (z ∷ zs) = ap (λ t. spelled z ++ t) (numbers_shape zs)

-- elements and entries one behind another, behind the count
elements_shape : (ts : List Tree) → drop 9 (cell_bytes (L_tree (trees_of ts)))
    ≡ flat_map cell_bytes ts
elements_shape [] = refl
elements_shape (t ∷ ts) = ap (λ s. cell_bytes t ++ s) (elements_shape ts)

entries_shape : (ps : List Pair) → drop 9 (cell_bytes (M_tree (fields_of ps)))
    ≡ flat_map entry_bytes ps
entries_shape [] = refl
entries_shape (p ∷ ps) =
    ap (λ s. (field p.0 ++ cell_bytes p.1) ++ s) (entries_shape ps)

-- the bytes of a set of texts, with its members as a list
pub texts_bytes : (ss : List (List ℕ)) → cell_bytes (SS_tree ss)
    ≡ 6 ∷ (counted (length ss) ++ flat_map field ss)
texts_bytes ss = ap (λ s. 6 ∷ (counted (length ss) ++ s)) (fields_shape ss)

-- and those of a set of numbers
pub numbers_bytes-set : (zs : List ℤ) → cell_bytes (NS_tree zs)
    ≡ 7 ∷ (counted (length zs) ++ flat_map spelled zs)
numbers_bytes-set zs = ap (λ s. 7 ∷ (counted (length zs) ++ s)) (numbers_shape zs)

-- and those of a set of byte strings
pub binaries_bytes : (bs : List (List ℕ)) → cell_bytes (BS_tree bs)
    ≡ 8 ∷ (counted (length bs) ++ flat_map field bs)
binaries_bytes bs = ap (λ s. 8 ∷ (counted (length bs) ++ s)) (fields_shape bs)

-- the bytes of a list, with its elements as a list
pub list_bytes : (ts : List Tree) → cell_bytes (L_tree (trees_of ts))
    ≡ 9 ∷ (counted (length ts) ++ flat_map cell_bytes ts)
list_bytes ts =
    ap (λ s. 9 ∷ (counted (length (elements (trees_of ts))) ++ s)) (elements_shape ts)
    ∙ ap (λ us. 9 ∷ (counted (length us) ++ flat_map cell_bytes ts)) (elements-trees_of ts)

-- and those of a map, with its entries as a list
pub map_bytes : (ps : List Pair) → cell_bytes (M_tree (fields_of ps))
    ≡ 10 ∷ (counted (length ps) ++ flat_map entry_bytes ps)
map_bytes ps =
    ap (λ s. 10 ∷ (counted (length (pairs (fields_of ps))) ++ s)) (entries_shape ps)
    ∙ ap (λ qs. 10 ∷ (counted (length qs) ++ flat_map entry_bytes ps)) (pairs-fields_of ps)

-- ---- from the first byte to the kind

-- behind a set's, a list's or a map's first byte: its count, its members and what follows
abbrev pub behind_count : {K : Type 0} → (K → List ℕ) → List K → List ℕ → List ℕ
behind_count spell ks x = counted (length ks) ++ (flat_map spell ks ++ x)

-- the value whose cell bytes begin with this byte, and what stands behind it
abbrev pub KindIs : ℕ → Tree → List ℕ → List ℕ → Type 0
KindIs zero t more x = ⊥
KindIs (suc zero) t more x = (s : List ℕ) × (t ≡ S_tree s) × (more ≡ field s ++ x)
KindIs (suc (suc zero)) t more x = (z : ℤ) × (t ≡ N_tree z) × (more ≡ spelled z ++ x)
KindIs (suc (suc (suc zero))) t more x = (b : List ℕ) × (t ≡ B_tree b) × (more ≡ field b ++ x)
KindIs (suc (suc (suc (suc zero)))) t more x =
    (b : Bool) × (t ≡ BOOL_tree b) × (more ≡ truth_byte b ∷ x)
KindIs (suc (suc (suc (suc (suc zero))))) t more x = (t ≡ NULL_tree) × (more ≡ x)
KindIs (suc (suc (suc (suc (suc (suc zero)))))) t more x =
    (ss : List (List ℕ)) × (t ≡ SS_tree ss) × (more ≡ behind_count field ss x)
KindIs (suc (suc (suc (suc (suc (suc (suc zero))))))) t more x =
    (zs : List ℤ) × (t ≡ NS_tree zs) × (more ≡ behind_count spelled zs x)
KindIs (suc (suc (suc (suc (suc (suc (suc (suc zero)))))))) t more x =
    (bs : List (List ℕ)) × (t ≡ BS_tree bs) × (more ≡ behind_count field bs x)
KindIs (suc (suc (suc (suc (suc (suc (suc (suc (suc zero))))))))) t more x =
    (ts : List Tree) × (t ≡ L_tree (trees_of ts)) × (more ≡ behind_count cell_bytes ts x)
KindIs (suc (suc (suc (suc (suc (suc (suc (suc (suc (suc zero)))))))))) t more x =
    (ps : List Pair) × (t ≡ M_tree (fields_of ps)) × (more ≡ behind_count entry_bytes ps x)
KindIs (suc (suc (suc (suc (suc (suc (suc (suc (suc (suc (suc n))))))))))) t more x = ⊥

-- the kind that a first byte tells
at_kind : (k n : ℕ) (t : Tree) (more tail x : List ℕ) → k ∷ more ≡ n ∷ tail → KindIs n t more x
    → KindIs k t more x
at_kind k n t more tail x e h = subst (λ j. KindIs j t more x) (sym (cons_first k n more tail e)) h

counted_tail : (n : ℕ) (members bytes x : List ℕ) → members ≡ bytes
    → (counted n ++ members) ++ x ≡ counted n ++ (bytes ++ x)
counted_tail n members bytes x e = ap (λ s. (counted n ++ s) ++ x) e
    ∙ append_assoc (counted n) bytes x

-- by its first byte a value is of one kind
pub kind_of : (t : Tree) (k : ℕ) (more x : List ℕ) → k ∷ more ≡ cell_bytes t ++ x
    → KindIs k t more x
kind_of (S_tree s) k more x e = at_kind k 1 (S_tree s) more _ x e (s, refl, cons_rest k 1 more _ e)
kind_of (N_tree z) k more x e = at_kind k 2 (N_tree z) more _ x e (z, refl, cons_rest k 2 more _ e)
kind_of (B_tree b) k more x e = at_kind k 3 (B_tree b) more _ x e (b, refl, cons_rest k 3 more _ e)
kind_of (BOOL_tree b) k more x e =
    at_kind k 4 (BOOL_tree b) more _ x e (b, refl, cons_rest k 4 more _ e)
kind_of NULL_tree k more x e = at_kind k 5 NULL_tree more _ x e (refl, cons_rest k 5 more _ e)
kind_of (SS_tree ss) k more x e =
    at_kind k 6 (SS_tree ss) more _ x e (
      ss,
      refl,
      cons_rest k 6 more _ e
          ∙ counted_tail (length ss) _ _ x (fields_shape ss),
    )
kind_of (NS_tree zs) k more x e =
    at_kind k 7 (NS_tree zs) more _ x e (
      zs,
      refl,
      cons_rest k 7 more _ e
          ∙ counted_tail (length zs) _ _ x (numbers_shape zs),
    )
kind_of (BS_tree bs) k more x e =
    at_kind k 8 (BS_tree bs) more _ x e (
      bs,
      refl,
      cons_rest k 8 more _ e
          ∙ counted_tail (length bs) _ _ x (fields_shape bs),
    )
kind_of (L_tree ts) k more x e =
    let us = elements ts in
    let f : k ∷ more ≡ (9 ∷ (counted (length us) ++ flat_map cell_bytes us)) ++ x =
    e ∙ ap (λ vs. cell_bytes (L_tree vs) ++ x) (sym (trees_of-elements ts))
    ∙ ap (λ s. s ++ x) (list_bytes us) in
    at_kind k 9 (L_tree ts) more _ x f (
      us,
      ap L_tree (sym (trees_of-elements ts)),
      cons_rest k 9 more _ f
          ∙ append_assoc (counted (length us)) (flat_map cell_bytes us) x,
    )
kind_of (M_tree fs) k more x e =
    let ps = pairs fs in
    let f : k ∷ more ≡ (10 ∷ (counted (length ps) ++ flat_map entry_bytes ps)) ++ x =
    e ∙ ap (λ gs. cell_bytes (M_tree gs) ++ x) (sym (fields_of-pairs fs))
    ∙ ap (λ s. s ++ x) (map_bytes ps) in
    at_kind k 10 (M_tree fs) more _ x f (
      ps,
      ap M_tree (sym (fields_of-pairs fs)),
      cons_rest k 10 more _ f
          ∙ append_assoc (counted (length ps)) (flat_map entry_bytes ps) x,
    )

-- cell bytes are never nothing
pub not_nothing : (t : Tree) (x : List ℕ) → [] ≡ cell_bytes t ++ x → ⊥
not_nothing (S_tree s) x e = absurd (cc)
not_nothing (N_tree z) x e = absurd (cc)
not_nothing (B_tree b) x e = absurd (cc)
not_nothing (BOOL_tree b) x e = absurd (cc)
not_nothing NULL_tree x e = absurd (cc)
not_nothing (SS_tree ss) x e = absurd (cc)
not_nothing (NS_tree zs) x e = absurd (cc)
not_nothing (BS_tree bs) x e = absurd (cc)
not_nothing (L_tree ts) x e = absurd (cc)
not_nothing (M_tree fs) x e = absurd (cc)
