-- What is written is read back: kind by kind, where the parts are.
use Rattle.std.proofs.Common.{◌≡◌, refl, sym, ap, subst, ◌∙◌, ℕ, zero, suc, ◌+◌, ◌-◌, ◌<◌, ◌≤◌, Bool, false, T, List, [], ◌∷◌, ◌++◌, map, take, length, Some, None, Ok, Err, Result, arith, add-one, append_assoc}
use Rattle.std.specs.Prelude.{ℤ, slice_get, ◌==◌, IfOk}
use Rattle.std.specs.declared.cmp.Ordering.{Ordering}
use Rattle.std.specs.declared.cmp.Ordering.TheVariants.{Less, Greater}
use Rattle.std.specs.Ordering.{int_cmp}
use Rattle.std.specs.Cmp.{IsTotalOrder, int_cmp_total}
use Rattle.std.specs.FinMap.{IsAntisymmetric, int_cmp-IsAntisymmetric}
use Rattle.std.specs.FinMap.Entries.{below_all, is_sorted}
use Rattle.std.proofs.lemmas.List.Sorted.{IsPermutation-refl}
use Rattle.std.proofs.lemmas.Bool.{ne_eqb}
use Rattle.alt_base.proofs.Bools.{first_holds, second_holds}
use Rattle.alt_base.proofs.Lists.{take_whole}
use Rattle.alt_base.proofs.Orderings.{is_lt-holds}
use Rattle.base64.specs.Engines.{standard}
use Rattle.base64.specs.GeneralPurpose.{encode_of, decode_of, IsConsistent}
use Rattle.serde_json.specs.Data.{Data, string, array}
use Rattle.alt_decimal.specs.Printed.{printed}
use Rattle.alt_value.specs.Stands.{tree_of}
use Rattle.alt_value.specs.declared.attr.Attr.{Attr}
use Rattle.alt_value.specs.Item.{IsItem, with_pair}
use Rattle.alt_value.specs.Members.{IsSet, text_order, set_of}
use Rattle.alt_value.specs.Size.{elements_depth, fields_depth}
use Rattle.alt_value.specs.Tree.{Tree, S_tree, N_tree, B_tree, BOOL_tree, NULL_tree, SS_tree, NS_tree, BS_tree, L_tree, M_tree, Pair, trees_of, fields_of}
use Rattle.alt_value.proofs.Gathered.{set_of-rising}
use Rattle.alt_value.proofs.Places.{turned}
use Rattle.alt_value.proofs.Texts.{text_total, text_apart}
use Rattle.alt_codec.specs.declared.fault.ValueFault.{ValueFault}
use Rattle.alt_codec.specs.Reading.{value_in, elements_in, fields_in, if_room}
use Rattle.alt_value.specs.Values.{is_nonempty_set, elements_full, fields_full}
use Rattle.alt_codec.specs.Returning.{NumberReturns, BytesReturn, Returns, ItemReturns, Each}
use Rattle.alt_codec.specs.Scalars.{text_in, number_in, binary_in, or_bad_number, or_bad_base64}
use Rattle.alt_codec.specs.Sets.{sound, first_fault, told, members_in, then_sound, or_later_fault}
use Rattle.alt_codec.specs.Steps.{map_ok}
use Rattle.alt_codec.specs.Writing.{strings, json_of, json_items, json_members}

-- ---- kinds without parts

-- a text is read back
pub text_returns : (s : List ℕ) → Returns (S_tree s)
text_returns s room full fits = refl

-- a number, where its text is
pub number_returns : (z : ℤ) → NumberReturns z → Returns (N_tree z)
number_returns z h room full fits = ap (λ r. map_ok N_tree (or_bad_number r)) h

-- a binary, where its base64 is
pub bytes_return : (b : List ℕ) → BytesReturn b → Returns (B_tree b)
bytes_return b h room full fits = ap (λ r. map_ok B_tree (or_bad_base64 r)) h

-- a truth value
pub truth_returns : (b : Bool) → Returns (BOOL_tree b)
truth_returns b room full fits = refl

-- NULL
pub null_returns : Returns NULL_tree
null_returns room full fits = refl

-- ---- sets

module _ {K : Type 0} (read : Data → Result K ValueFault) (write : K → List ℕ) where
  abbrev IsRead : K → Type 0
  IsRead k = read (string (write k)) ≡ Ok k

  sound-written : (ks : List K) → Each IsRead ks → sound read (strings (map write ks)) ≡ ks
  sound-written [] h = refl
  sound-written (k ∷ ks) h = ap (λ r. then_sound r (sound read (strings (map write ks)))) h.0
      ∙ ap (λ l. k ∷ l) (sound-written ks h.1)

  first_fault-written : (ks : List K) → Each IsRead ks
      → first_fault read (strings (map write ks)) ≡ None
  first_fault-written [] h = refl
  first_fault-written (k ∷ ks) h = ap (λ r. or_later_fault r (first_fault read (strings (map write ks))))
      h.0 ∙ first_fault-written ks h.1

  module _ (R : K → K → Ordering) (o : IsTotalOrder R) (apart : IsAntisymmetric R) where
    members_in-written : (ks : List K) → IsSet R ks → Each IsRead ks → T (is_nonempty_set ks)
        → members_in R read (array (strings (map write ks))) ≡ Ok ks
    members_in-written [] rising h full = absurd full
    members_in-written (k ∷ ks) rising h full =
        ap (λ f. told (set_of R (sound read (strings (map write (k ∷ ks))))) f)
        (first_fault-written (k ∷ ks) h)
        ∙ ap (λ l. told (set_of R l) None) (sound-written (k ∷ ks) h)
        ∙ ap (λ s. told s None) (set_of-rising R o apart (k ∷ ks) (k ∷ ks)
        (IsPermutation-refl (k ∷ ks)) rising)

map-self : (ss : List (List ℕ)) → map (λ s. s) ss ≡ ss
map-self [] = refl
map-self (s ∷ ss) = ap (λ l. s ∷ l) (map-self ss)

texts-read : (ss : List (List ℕ)) → Each (λ s. text_in (string s) ≡ Ok s) ss
texts-read [] = tt
texts-read (s ∷ ss) = (refl, texts-read ss)

numbers-read : (zs : List ℤ) → Each NumberReturns zs
    → Each (λ z. number_in (string (printed z)) ≡ Ok z) zs
numbers-read [] h = tt
numbers-read (z ∷ zs) h = (ap or_bad_number h.0, numbers-read zs h.1)

binaries-read : (bs : List (List ℕ)) → Each BytesReturn bs
    → Each (λ b. binary_in (string (encode_of standard b)) ≡ Ok b) bs
binaries-read [] h = tt
binaries-read (b ∷ bs) h = (ap or_bad_base64 h.0, binaries-read bs h.1)

-- a set of texts
pub texts_return : (ss : List (List ℕ)) → IsSet text_order ss → Returns (SS_tree ss)
texts_return ss rising room full fits =
    ap (λ l. map_ok SS_tree (members_in text_order text_in (array (strings l)))) (sym (map-self ss))
    ∙ ap (map_ok SS_tree) (members_in-written text_in
    (λ s. s) text_order text_total text_apart ss rising (texts-read ss) full)

-- a set of numbers, where each is
pub numbers_return : (zs : List ℤ) → IsSet int_cmp zs → Each NumberReturns zs → Returns (NS_tree zs)
numbers_return zs rising h room full fits =
    ap (map_ok NS_tree) (members_in-written number_in printed int_cmp int_cmp_total
    int_cmp-IsAntisymmetric zs rising (numbers-read zs h) full)

-- a set of binaries, where each is
pub binaries_return : (bs : List (List ℕ)) → IsSet text_order bs → Each BytesReturn bs
    → Returns (BS_tree bs)
binaries_return bs rising h room full fits =
    ap (map_ok BS_tree) (members_in-written binary_in
    (encode_of standard) text_order text_total text_apart bs rising (binaries-read bs h) full)

-- ---- lists

-- where there is room, nothing is too deep
pub some_room : {A : Type 0} (room : ℕ) (r : Result A ValueFault) → 0 < room → if_room room r ≡ r
some_room room r h = rw (ne_eqb room 0 (λ z. omega (arith, z, h))) refl

-- the elements of a list are read back, where each is
elements_in-written : (ts : List Tree) → Each Returns ts → (room : ℕ)
    → T (elements_full (trees_of ts)) → elements_depth (trees_of ts) ≤ room
    → elements_in room (json_items (trees_of ts)) ≡ Ok ts
elements_in-written [] h room full fits = refl
elements_in-written (t ∷ ts) h room full fits =
    let here : value_in room (json_of t) ≡ Ok t =
    h.0 room (first_holds _ _ full) (omega (arith, fits)) in
    let there : elements_in room (json_items (trees_of ts)) ≡ Ok ts =
    elements_in-written ts h.1 room (second_holds _ _ full) (omega (arith, fits)) in
    rw (here, there) refl

-- a list, where each element is
pub list_returns : (ts : List Tree) → Each Returns ts → Returns (L_tree (trees_of ts))
list_returns ts h room full fits =
    some_room room (map_ok (λ us. L_tree (trees_of us))
    (elements_in (room - 1) (json_items (trees_of ts)))) (omega (arith, fits))
    ∙ ap (map_ok (λ us. L_tree (trees_of us)))
    (elements_in-written ts h (room - 1) full (omega (arith, fits)))

-- ---- items and maps

-- a name below all is below one of them
below_there : (x : List ℕ) (ps qs : List Pair) (p : Pair)
    → T (below_all text_order x (ps ++ p ∷ qs)) → text_order x p.0 ≡ Less
below_there x [] qs p h = is_lt-holds _ (first_holds _ _ h)
below_there x (r ∷ ps) qs p h = below_there x ps qs p (second_holds _ _ h)

-- a pair whose name is above those before it goes to the end
put-above : (ps qs : List Pair) (p : Pair) → T (is_sorted text_order (ps ++ p ∷ qs))
    → with_pair p.0 p.1 ps ≡ ps ++ p ∷ []
put-above [] qs p h = refl
put-above (r ∷ ps) qs p h =
    let above : text_order p.0 r.0 ≡ Greater =
    turned text_order text_total r.0 p.0 Less (below_there r.0 ps qs p (first_holds _ _ h)) in
    rw above (ap (λ l. r ∷ l) (put-above ps qs p (second_holds _ _ h)))

-- a name above the empty one isn't empty
named : (name : List ℕ) → text_order [] name ≡ Less → (length name == 0) ≡ false
named [] e = cc
named (b ∷ bs) e = ne_eqb (length (b ∷ bs)) 0 (λ z. omega (arith, z))

fields_in-written : (found ps : List Pair) → T (is_sorted text_order (found ++ ps))
    → T (below_all text_order [] ps) → Each (λ p. Returns p.1) ps
    → (room : ℕ) → T (fields_full (fields_of ps)) → fields_depth (fields_of ps) ≤ room
    → fields_in room found (json_members (fields_of ps)) ≡ Ok (found ++ ps)
fields_in-written found [] sorted names h room full fits = ap Ok (sym (append_nil found))
  where
    append_nil : (qs : List Pair) → qs ++ [] ≡ qs
    append_nil [] = refl
    append_nil (q ∷ qs) = ap (λ l. q ∷ l) (append_nil qs)
fields_in-written found (p ∷ ps) sorted names h room full fits =
    let here : value_in room (json_of p.1) ≡ Ok p.1 =
    h.0 room (first_holds _ _ full) (omega (arith, fits)) in
    let name : (length p.0 == 0) ≡ false = named p.0 (is_lt-holds _ (first_holds _ _ names)) in
    let put_last : with_pair p.0 p.1 found ≡ found ++ p ∷ [] = put-above found ps p sorted in
    let joined : (found ++ p ∷ []) ++ ps ≡ found ++ p ∷ ps = append_assoc found (p ∷ []) ps in
    let still : T (is_sorted text_order ((found ++ p ∷ []) ++ ps)) =
    subst (λ l. T (is_sorted text_order l)) (sym joined) sorted in
    let later : fields_depth (fields_of ps) ≤ room = omega (arith, fits) in
    let there : fields_in room (found ++ p ∷ []) (json_members (fields_of ps))
    ≡ Ok ((found ++ p ∷ []) ++ ps) =
    fields_in-written (found ++ p ∷ []) ps still (second_holds _ _ names) h.1 room
    (second_holds _ _ full) later in
    rw (name, here, put_last) (there ∙ ap Ok joined)

-- an item, where each value is
pub item_returns : (ps : List Pair) → IsItem ps → Each (λ p. Returns p.1) ps → ItemReturns ps
item_returns ps is h room full fits = fields_in-written [] ps is.0 is.1 h room full fits

-- a map, where its pairs are
pub map_returns : (ps : List Pair) → ItemReturns ps → Returns (M_tree (fields_of ps))
map_returns ps h room full fits =
    some_room room (map_ok (λ qs. M_tree (fields_of qs))
    (fields_in (room - 1) [] (json_members (fields_of ps)))) (omega (arith, fits))
    ∙ ap (map_ok (λ qs. M_tree (fields_of qs))) (h (room - 1) full (omega (arith, fits)))

-- the bytes of a text that was encoded
pub bytes_back : (text b : List ℕ) → text ≡ encode_of standard b
    → (IsConsistent standard → decode_of standard text ≡ Ok b) → BytesReturn b
bytes_back text b e h = ap (decode_of standard) (sym e) ∙ h refl

-- ---- each, one more

each-suc : {A : Type 0} (P : A → Type 0) (xs : List A) (i : ℕ) (x : A) → Each P (take i xs)
    → Some x ≡ slice_get xs i → P x → Each P (take (suc i) xs)
each-suc P [] i x h e p = absurd (let f : ⊥ = cc in f)
each-suc P (y ∷ xs) zero x h e p = let f : x ≡ y = cc in (subst P f p, tt)
each-suc P (y ∷ xs) (suc i) x h e p = (h.0, each-suc P xs i x h.1 e p)

-- of those before a place and the one there, so of those before the next
pub each_more : {A : Type 0} (P : A → Type 0) (xs : List A) (i : ℕ) (x : A) → Each P (take i xs)
    → Some x ≡ slice_get xs i → P x → Each P (take (i + 1) xs)
each_more P xs i x h e p = subst (λ j. Each P (take j xs)) (sym (add-one i))
    (each-suc P xs i x h e p)

-- of those before the end, so of all
pub each_whole : {A : Type 0} (P : A → Type 0) (xs : List A) (i : ℕ) → Each P (take i xs)
    → length xs ≤ i → Each P xs
each_whole P xs i h past = subst (Each P) (take_whole xs i past) h

-- where a value is read back, it is whatever was answered
pub when_ok : {A E : Type 0} (a b : Attr) (r : Result A E) → a ≡ b → Returns (tree_of b)
    → IfOk r (λ x. Returns (tree_of a))
when_ok a b (Ok x) e h = subst (λ (v : Attr). Returns (tree_of v)) (sym e) h
when_ok a b (Err f) e h = tt
