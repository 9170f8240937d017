-- Where bytes stop, no value stands.
use Rattle.std.proofs.Common.{◌≡◌, refl, sym, ap, subst, ◌∙◌, ℕ, zero, suc, ◌<◌, ◌≤◌, ◌^◌, ◌+◌, List, [], ◌∷◌, ◌++◌, length, inl, inr, arith, append_assoc, length-append}
use Rattle.std.specs.Prelude.{ℤ, Bool, true, false}
use Rattle.std.specs.List.{AllByRecursion, flat_map}
use Rattle.std.specs.Ordering.{int_cmp}
use Rattle.alt_decimal.specs.Number.{FitsDecimal}
use Rattle.alt_decimal.specs.Spelled.{spelled}
use Rattle.alt_fields.specs.Field.{field}
use Rattle.alt_value.specs.CellBytes.{cell_bytes, counted, truth_byte}
use Rattle.alt_value.specs.Item.{IsItem}
use Rattle.alt_value.specs.Size.{depth}
use Rattle.alt_value.specs.Members.{IsSet, text_order}
use Rattle.alt_value.specs.Tree.{Tree, NULL_tree, L_tree, M_tree, Pair, trees_of, fields_of}
use Rattle.alt_value.proofs.Texts.{text_total}
use Rattle.std.proofs.lemmas.Cmp.{int_cmp_total}
use Rattle.alt_base.proofs.Lists.{cons_first, all_among as here}
use Rattle.alt_cellbytes.specs.Places.{NoFittingField, NoFittingNumber, NoTruth, NoKind, NoMember, IsNextText, IsNextName, NoNextName, IsNested, TooDeep, IsMapEntry, AreMapEntries, entry_bytes, StopsHere, no_kind, no_text, no_number, no_binary, no_truth, no_count, empty_set, no_text_member, no_number_member, no_binary_member, no_name, Around, in_list, in_map, around_bytes, IsAround, all_around, ValueStops}
use Rattle.alt_fields.specs.Bytes.{IsShort}
use Rattle.alt_value.specs.Values.{IsText}
use Rattle.alt_cellbytes.specs.Values.{AreSetMembers, IsWholeSet, HasBytes}
use Rattle.alt_fields.proofs.Apart.{nothing, IsApart, further, all_map, number-apart, field-apart}
use Rattle.alt_cellbytes.proofs.Fields.{field-refuted, number-refuted, length-counted}
use Rattle.alt_cellbytes.proofs.Rising.{rising_front, item_front, item_other}
use Rattle.alt_value.proofs.Trees.{elements-trees_of, pairs-fields_of}
use Rattle.alt_cellbytes.proofs.Shapes.{KindIs, kind_of, behind_count, not_nothing, all_values, all_entries}
use Rattle.alt_cellbytes.proofs.Deep.{element_below, entry_below}
use Rattle.alt_cellbytes.proofs.Apart.{text_apart, binary_apart, number_apart, value_apart, pair_apart}

-- Where the members of a whole set, list or map stand, no fewer stop.
member-refuted : {K : Type 0} (spell : K → List ℕ) (P : K → Type 0) (Are : List K → Type 0)
    (NoNext : List K → List ℕ → ℕ → Type 0)
    → ((k : K) → P k → IsApart spell P k) → ((ks : List K) → Are ks → AllByRecursion P ks)
    → ((ks : List K) (l : K) (ms : List K) (more x : List ℕ) (left : ℕ) → Are (ks ++ l ∷ ms)
    → more ≡ spell l ++ x → NoNext ks more left → ⊥)
    → (ls : List K) (count : ℕ) (bytes x : List ℕ) (left : ℕ) → count ≡ length ls → Are ls
    → bytes ≡ flat_map spell ls ++ x
    → NoMember spell Are NoNext count bytes left → ⊥
member-refuted spell P Are NoNext apart each next ls count bytes x left n are is non =
    let t = further spell P non.done ls non.more x
    (all_map P (IsApart spell P) non.done apart (each non.done non.are)) (each ls are)
    (omega (arith, non.few, n)) (sym non.is ∙ is) in
    next non.done t.next t.others non.more _ left (subst Are t.is are) t.there non.stops

-- a member with those before it
snoc_is : {A : Type 0} (ks : List A) (l : A) (ms : List A) → ks ++ l ∷ ms ≡ (ks ++ l ∷ []) ++ ms
snoc_is ks l ms = sym (append_assoc ks (l ∷ []) ms)

-- the next member of a set can be the next
next_text : (ks : List (List ℕ)) (l : List ℕ) (ms : List (List ℕ)) (more x : List ℕ) (left : ℕ)
    → AreSetMembers IsText text_order (ks ++ l ∷ ms)
    → more ≡ field l ++ x → NoFittingField (IsNextText ks) more left → ⊥
next_text ks l ms more x left are is non =
    let t : IsText l = here IsText ks l ms are.0 in
    let rising : IsSet text_order (ks ++ l ∷ []) =
    rising_front text_order text_total (ks ++ l ∷ []) ms
    (subst (IsSet text_order) (snoc_is ks l ms) are.1) in
    field-refuted (IsNextText ks) more left non l x t.1 (t.0, rising) is

next_binary : (ks : List (List ℕ)) (l : List ℕ) (ms : List (List ℕ)) (more x : List ℕ) (left : ℕ)
    → AreSetMembers IsShort text_order (ks ++ l ∷ ms)
    → more ≡ field l ++ x → NoFittingField (λ b. IsSet text_order (ks ++ b ∷ [])) more left → ⊥
next_binary ks l ms more x left are is non =
    field-refuted (λ b. IsSet text_order (ks ++ b ∷ [])) more left non l x
    (here IsShort ks l ms are.0)
    (rising_front text_order text_total (ks ++ l ∷ []) ms
    (subst (IsSet text_order) (snoc_is ks l ms) are.1)) is

next_number : (ks : List ℤ) (l : ℤ) (ms : List ℤ) (more x : List ℕ) (left : ℕ)
    → AreSetMembers FitsDecimal int_cmp (ks ++ l ∷ ms)
    → more ≡ spelled l ++ x → NoFittingNumber (λ z. IsSet int_cmp (ks ++ z ∷ [])) more left → ⊥
next_number ks l ms more x left are is non =
    number-refuted _ more left non l x (here FitsDecimal ks l ms are.0)
    (rising_front int_cmp int_cmp_total (ks ++ l ∷ []) ms
    (subst (IsSet int_cmp) (snoc_is ks l ms) are.1)) is

-- and so can the next name of a map
pub next_name_of : (ks : List Pair) (l : Pair) (ms : List Pair) → AreMapEntries (ks ++ l ∷ ms)
    → IsMapEntry l × IsNextName ks l.0
next_name_of ks l ms are =
    let e : IsMapEntry l = here IsMapEntry ks l ms are.0 in (
      e,
      (
        e.0.0,
        item_other ks l.0 l.1 NULL_tree
            (item_front (ks ++ l ∷ []) ms (subst IsItem (snoc_is ks l ms) are.1)),
      ),
    )

next_name : (ks : List Pair) (l : Pair) (ms : List Pair) (more x : List ℕ) (left : ℕ)
    → AreMapEntries (ks ++ l ∷ ms)
    → more ≡ entry_bytes l ++ x → NoFittingField (IsNextName ks) more left → ⊥
next_name ks l ms more x left are is non =
    let e = next_name_of ks l ms are in
    field-refuted (IsNextName ks) more left non l.0 (cell_bytes l.1 ++ x) e.0.0.1 e.1
    (is ∙ append_assoc (field l.0) (cell_bytes l.1) x)

-- behind the first byte of a set, a list or a map a count stands
counted_kind : (kind : ℕ) (t : Tree) (more x : List ℕ) → 6 ≤ kind → KindIs kind t more x
    → (n : ℕ) × (rest : List ℕ) × (more ≡ counted n ++ rest)
counted_kind zero t more x lo k = absurd k
counted_kind (suc zero) t more x lo k = absurd (omega (arith, lo))
counted_kind (suc (suc zero)) t more x lo k = absurd (omega (arith, lo))
counted_kind (suc (suc (suc zero))) t more x lo k = absurd (omega (arith, lo))
counted_kind (suc (suc (suc (suc zero)))) t more x lo k = absurd (omega (arith, lo))
counted_kind (suc (suc (suc (suc (suc zero))))) t more x lo k = absurd (omega (arith, lo))
counted_kind (suc (suc (suc (suc (suc (suc zero)))))) t more x lo k = (length k.0, _, k.2)
counted_kind (suc (suc (suc (suc (suc (suc (suc zero))))))) t more x lo k = (length k.0, _, k.2)
counted_kind (suc (suc (suc (suc (suc (suc (suc (suc zero)))))))) t more x lo k =
    (length k.0, _, k.2)
counted_kind (suc (suc (suc (suc (suc (suc (suc (suc (suc zero))))))))) t more x lo k =
    (length k.0, _, k.2)
counted_kind (suc (suc (suc (suc (suc (suc (suc (suc (suc (suc zero)))))))))) t more x lo k =
    (length k.0, _, k.2)
counted_kind (suc (suc (suc (suc (suc (suc (suc (suc (suc (suc (suc n))))))))))) t more x lo k =
    absurd k

-- and the count of a set is above 0
set_kind : (kind : ℕ) (t : Tree) (more x : List ℕ) → 6 ≤ kind → kind ≤ 8 → HasBytes t
    → KindIs kind t more x
    → (n : ℕ) × (rest : List ℕ) × (0 < n) × (n < 2 ^ 64) × (more ≡ counted n ++ rest)
set_kind zero t more x lo hi v k = absurd k
set_kind (suc zero) t more x lo hi v k = absurd (omega (arith, lo))
set_kind (suc (suc zero)) t more x lo hi v k = absurd (omega (arith, lo))
set_kind (suc (suc (suc zero))) t more x lo hi v k = absurd (omega (arith, lo))
set_kind (suc (suc (suc (suc zero)))) t more x lo hi v k = absurd (omega (arith, lo))
set_kind (suc (suc (suc (suc (suc zero))))) t more x lo hi v k = absurd (omega (arith, lo))
set_kind (suc (suc (suc (suc (suc (suc zero)))))) t more x lo hi v k = let w =
    subst HasBytes k.1 v in (length k.0, _, w.0, w.1, k.2)
set_kind (suc (suc (suc (suc (suc (suc (suc zero))))))) t more x lo hi v k = let w =
    subst HasBytes k.1 v in (length k.0, _, w.0, w.1, k.2)
set_kind (suc (suc (suc (suc (suc (suc (suc (suc zero)))))))) t more x lo hi v k = let w =
    subst HasBytes k.1 v in (length k.0, _, w.0, w.1, k.2)
set_kind (suc (suc (suc (suc (suc (suc (suc (suc (suc n))))))))) t more x lo hi v k =
    absurd (omega (arith, hi))

-- other first bytes, and other truth bytes, are of no value
no_such_kind : (kind : ℕ) (t : Tree) (more x : List ℕ) → 10 < kind → KindIs kind t more x → ⊥
no_such_kind zero t more x lo k = absurd (omega (arith, lo))
no_such_kind (suc zero) t more x lo k = absurd (omega (arith, lo))
no_such_kind (suc (suc zero)) t more x lo k = absurd (omega (arith, lo))
no_such_kind (suc (suc (suc zero))) t more x lo k = absurd (omega (arith, lo))
no_such_kind (suc (suc (suc (suc zero)))) t more x lo k = absurd (omega (arith, lo))
no_such_kind (suc (suc (suc (suc (suc zero))))) t more x lo k = absurd (omega (arith, lo))
no_such_kind (suc (suc (suc (suc (suc (suc zero)))))) t more x lo k = absurd (omega (arith, lo))
no_such_kind (suc (suc (suc (suc (suc (suc (suc zero))))))) t more x lo k =
    absurd (omega (arith, lo))
no_such_kind (suc (suc (suc (suc (suc (suc (suc (suc zero)))))))) t more x lo k =
    absurd (omega (arith, lo))
no_such_kind (suc (suc (suc (suc (suc (suc (suc (suc (suc zero))))))))) t more x lo k =
    absurd (omega (arith, lo))
no_such_kind (suc (suc (suc (suc (suc (suc (suc (suc (suc (suc zero)))))))))) t more x lo k =
    absurd (omega (arith, lo))
no_such_kind (suc (suc (suc (suc (suc (suc (suc (suc (suc (suc (suc n))))))))))) t more x lo k = k

kindless : (bytes : List ℕ) (t : Tree) (x : List ℕ) → NoKind bytes → bytes ≡ cell_bytes t ++ x → ⊥
kindless [] t x non e = not_nothing t x e
kindless (b ∷ bytes) t x non e = elim non [
  | inl z ↦ subst (λ k. KindIs k t bytes x) z (kind_of t b bytes x e)
  | inr big ↦ no_such_kind b t bytes x big (kind_of t b bytes x e)
]

truthless : (more x : List ℕ) (b : Bool) → NoTruth more → more ≡ truth_byte b ∷ x → ⊥
truthless [] x b non e = nothing (truth_byte b) x e
truthless (c ∷ more) x true non e = omega (arith, non, cons_first c 1 more x e)
truthless (c ∷ more) x false non e = omega (arith, non, cons_first c 0 more x e)

-- the count that was told is that of the value
told_count : {K : Type 0} (spell : K → List ℕ) (ks : List K) (count : ℕ) (more x : List ℕ)
    → count < 2 ^ 64 → length ks < 2 ^ 64
    → counted count ++ more ≡ behind_count spell ks x
    → (count ≡ length ks) × (more ≡ flat_map spell ks ++ x)
told_count spell ks count more x m n e = number-apart count (length ks) more
    (flat_map spell ks ++ x) m n e

-- the pairs of a map that is a value
map_value : (ps : List Pair) → HasBytes (M_tree (fields_of ps))
    → (length ps < 2 ^ 64) × AreMapEntries ps
map_value ps v = (
  subst (λ qs. length qs < 2 ^ 64) (pairs-fields_of ps) v.0,
  (all_entries ps v.2, subst IsItem (pairs-fields_of ps) v.1),
)

-- the elements of a list that is a value
list_value : (ts : List Tree) → HasBytes (L_tree (trees_of ts))
    → (length ts < 2 ^ 64) × AllByRecursion HasBytes ts
list_value ts v = (subst (λ us. length us < 2 ^ 64) (elements-trees_of ts) v.0, all_values ts v.1)

here-refuted : (bytes : List ℕ) (left : ℕ) → StopsHere bytes left → (t : Tree) (x : List ℕ)
    → HasBytes t → bytes ≡ cell_bytes t ++ x → ⊥
here-refuted bytes left (no_kind non l) t x v e = kindless bytes t x non e
here-refuted bytes left (no_text more is non) t x v e =
    let k = kind_of t 1 more x (sym is ∙ e) in
    let w : IsText k.0 = subst HasBytes k.1 v in
    field-refuted _ more left non k.0 x w.1 w.0 k.2
here-refuted bytes left (no_number more is non) t x v e =
    let k = kind_of t 2 more x (sym is ∙ e) in
    number-refuted _ more left non k.0 x (subst HasBytes k.1 v) tt k.2
here-refuted bytes left (no_binary more is non) t x v e =
    let k = kind_of t 3 more x (sym is ∙ e) in
    field-refuted _ more left non k.0 x (subst HasBytes k.1 v) tt k.2
here-refuted bytes left (no_truth more is non l) t x v e =
    let k = kind_of t 4 more x (sym is ∙ e) in
    truthless more x k.0 non k.2
here-refuted bytes left (no_count kind more lo hi is non) t x v e =
    let k = counted_kind kind t more x lo (kind_of t kind more x (sym is ∙ e)) in
    omega (arith, non.0, ap length k.2, length-counted k.0 k.1)
here-refuted bytes left (empty_set kind more lo hi is l) t x v e =
    let k = set_kind kind t (counted 0 ++ more) x lo hi v
    (kind_of t kind (counted 0 ++ more) x (sym is ∙ e)) in
    let c = number-apart 0 k.0 more k.1 (omega arith) k.3 k.4 in
    omega (arith, c.0, k.2)
here-refuted bytes left (no_text_member count more small is non) t x v e =
    let k = kind_of t 6 (counted count ++ more) x (sym is ∙ e) in
    let w : IsWholeSet IsText text_order k.0 = subst HasBytes k.1 v in
    let c = told_count field k.0 count more x small w.1 k.2 in
    member-refuted field IsText (AreSetMembers IsText text_order) _ text_apart
    (λ ks h. h.0) next_text k.0 count more x left c.0 w.2 c.1 non
here-refuted bytes left (no_number_member count more small is non) t x v e =
    let k = kind_of t 7 (counted count ++ more) x (sym is ∙ e) in
    let w : IsWholeSet FitsDecimal int_cmp k.0 = subst HasBytes k.1 v in
    let c = told_count spelled k.0 count more x small w.1 k.2 in
    member-refuted spelled FitsDecimal (AreSetMembers FitsDecimal int_cmp) _ number_apart
    (λ ks h. h.0) next_number k.0 count more x left c.0 w.2 c.1 non
here-refuted bytes left (no_binary_member count more small is non) t x v e =
    let k = kind_of t 8 (counted count ++ more) x (sym is ∙ e) in
    let w : IsWholeSet IsShort text_order k.0 = subst HasBytes k.1 v in
    let c = told_count field k.0 count more x small w.1 k.2 in
    member-refuted field IsShort (AreSetMembers IsShort text_order) _ binary_apart
    (λ ks h. h.0) next_binary k.0 count more x left c.0 w.2 c.1 non
here-refuted bytes left (no_name count more small is non) t x v e =
    let k = kind_of t 10 (counted count ++ more) x (sym is ∙ e) in
    let w = map_value k.0 (subst HasBytes k.1 v) in
    let c = told_count entry_bytes k.0 count more x small w.0 k.2 in
    name-refuted k.0 count more x left c.0 w.1 c.1 non
  where
    name-refuted : (ls : List Pair) (count : ℕ) (bytes x : List ℕ) (left : ℕ) → count ≡ length ls
        → AreMapEntries ls → bytes ≡ flat_map entry_bytes ls ++ x → NoNextName count bytes left → ⊥
    name-refuted ls count bytes x left n are is non =
        member-refuted entry_bytes IsMapEntry AreMapEntries _ pair_apart
        (λ ks h. h.0) next_name ls count bytes x left n are is non

-- three pieces in front of a rest
behind : (a b c : List ℕ) (x y : List ℕ) → x ≡ (a ++ b) ++ c → x ≡ y → a ++ (b ++ c) ≡ y
behind a b c x y e f = sym (append_assoc a b c) ∙ sym e ∙ f

-- Where a value begins that is nested so deep at most, one begins at the place too, within what is open there, and no less is
-- left behind it: so what follows of that one holds.
around-next : {Q : Type 0} (around : List Around) (within bytes : List ℕ) (room least : ℕ)
    → ((t : Tree) (x : List ℕ) → HasBytes t → depth t ≤ room → least ≤ length x
    → within ≡ cell_bytes t ++ x → Q)
    → AllByRecursion IsAround around → bytes ≡ all_around around ++ within
    → (t : Tree) (x : List ℕ) → HasBytes t → depth t ≤ room + length around → least ≤ length x
    → bytes ≡ cell_bytes t ++ x → Q
around-next [] within bytes room least follows opened is t x v d b e =
    follows t x v (omega (arith, d)) b (sym is ∙ e)
around-next (in_list count ts ∷ around) within bytes room least follows opened is t x v d b e =
    let rest = all_around around ++ within in
    let f : 9 ∷ (counted count ++ (flat_map cell_bytes ts ++ rest)) ≡ cell_bytes t ++ x =
    ap (λ s. 9 ∷ s) (sym (append_assoc (counted count) (flat_map cell_bytes ts) rest))
    ∙ sym (append_assoc (around_bytes (in_list count ts)) (all_around around) within) ∙ sym is
    ∙ e in
    let k = kind_of t 9 _ x f in
    let w = list_value k.0 (subst HasBytes k.1 v) in
    let c = told_count cell_bytes k.0 count (flat_map cell_bytes ts ++ rest) x opened.0.0 w.0 k.2 in
    let g = further cell_bytes HasBytes ts k.0 rest x
    (all_map HasBytes (IsApart cell_bytes HasBytes) ts value_apart opened.0.2) w.1
    (omega (arith, opened.0.1, c.0)) c.1 in
    around-next around within rest room least follows opened.1 refl g.next
    (flat_map cell_bytes g.others ++ x)
    (here HasBytes ts g.next g.others (subst (AllByRecursion HasBytes) g.is w.1))
    (element_below t k.0 ts g.next g.others (room + length around) k.1 g.is (omega (arith, d)))
    (omega (arith, b, length-append (flat_map cell_bytes g.others) x)) g.there
around-next (in_map count ps name ∷ around) within bytes room least follows opened is t x v d b e =
    let rest = all_around around ++ within in
    let f : 10 ∷ (counted count ++ (flat_map entry_bytes ps ++ (field name ++ rest)))
    ≡ cell_bytes t ++ x =
    ap (λ s. 10 ∷ (counted count ++ s)) (sym (append_assoc (flat_map entry_bytes ps)
    (field name) rest))
    ∙ ap (λ s. 10 ∷ s) (sym (append_assoc (counted count)
    (flat_map entry_bytes ps ++ field name) rest))
    ∙ sym (append_assoc (around_bytes (in_map count ps name)) (all_around around) within) ∙ sym is
    ∙ e in
    let k = kind_of t 10 _ x f in
    let w = map_value k.0 (subst HasBytes k.1 v) in
    let c = told_count entry_bytes k.0 count (flat_map entry_bytes ps ++ (field name ++ rest)) x
    opened.0.0 w.0 k.2 in
    let g = further entry_bytes IsMapEntry ps k.0 (field name ++ rest) x
    (all_map IsMapEntry (IsApart entry_bytes IsMapEntry) ps pair_apart opened.0.2.0) w.1.0
    (omega (arith, opened.0.1, c.0)) c.1 in
    let p : IsMapEntry g.next = here IsMapEntry ps g.next g.others
    (subst (AllByRecursion IsMapEntry) g.is w.1.0) in
    let h = field-apart name g.next.0 rest _ opened.0.3 p.0.1
    (g.there ∙ append_assoc (field g.next.0) (cell_bytes g.next.1) _) in
    around-next around within rest room least follows opened.1 refl g.next.1
    (flat_map entry_bytes g.others ++ x) p.1
    (entry_below t k.0 ps g.next g.others (room + length around) k.1 g.is (omega (arith, d)))
    (omega (arith, b, length-append (flat_map entry_bytes g.others) x)) h.1

-- bytes that stop begin with no value's cell bytes
pub stops-refuted : (bytes : List ℕ) (left : ℕ) → ValueStops bytes left
    → (t : Tree) (x : List ℕ) → HasBytes t → bytes ≡ cell_bytes t ++ x → ⊥
stops-refuted bytes left s t x v e =
    around-next s.around s.here bytes (depth t) 0
    (λ u y w d b f. here-refuted s.here left s.stops u y w f)
    s.open_there s.is t x v (omega arith) (omega arith) e

-- a list or a map is nested at least once
nested-refuted : (within : List ℕ) → IsNested within → (t : Tree) (x : List ℕ) → depth t ≤ 0
    → within ≡ cell_bytes t ++ x → ⊥
nested-refuted [] n t x d e = n
nested-refuted (b ∷ within) n t x d e = elim n [
  | inl list ↦
      let k = kind_of t 9 within x (sym (ap (λ c. c ∷ within) list) ∙ e) in
      omega (arith, d, ap depth k.1)
  | inr map ↦
      let k = kind_of t 10 within x (sym (ap (λ c. c ∷ within) map) ∙ e) in
      omega (arith, d, ap depth k.1)
]

-- what is nested too deep begins with no value's cell bytes that isn't
pub deep-refuted : (most : ℕ) (bytes : List ℕ) (left : ℕ) → TooDeep most bytes left
    → (t : Tree) (x : List ℕ) → HasBytes t → depth t ≤ most → bytes ≡ cell_bytes t ++ x → ⊥
deep-refuted most bytes left s t x v d e =
    around-next s.around s.here bytes 0 0
    (λ u y w f b g. nested-refuted s.here s.stops.1 u y f g)
    s.open_there s.is t x v (omega (arith, d, s.stops.0)) (omega arith) e

-- what is nested too deep in a value begins before the value ends
pub deep-inside : (most : ℕ) (bytes : List ℕ) (left : ℕ) → TooDeep most bytes left
    → (t : Tree) (x : List ℕ) → HasBytes t → bytes ≡ cell_bytes t ++ x → length x ≤ left
deep-inside most bytes left s t x v e =
    around-next s.around s.here bytes (depth t) (length x)
    (λ u y w d b f. omega (arith, b, s.stops.2, ap length f, length-append (cell_bytes u) y))
    s.open_there s.is t x v (omega arith) (omega arith) e
