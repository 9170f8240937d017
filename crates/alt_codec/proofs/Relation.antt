-- The reader answers a value exactly where the JSON stands for it: what the JSON stands for is read.
use Rattle.std.proofs.Common.{◌≡◌, refl, sym, ap, subst, ◌∙◌, ℕ, suc, ◌-◌, true, List, [], ◌∷◌, length, Result, Ok, Err, IfOk, arith}
use Rattle.std.specs.Prelude.{ℤ, codes}
use Rattle.std.specs.Ordering.{int_cmp}
use Rattle.std.proofs.lemmas.Bool.{ne_eqb}
use Rattle.serde_json.specs.Data.{Data, null, boolean, number, string, array, object, Items, Members}
use Rattle.alt_decimal.specs.NumberText.{TextReadsAs}
use Rattle.alt_decimal.specs.declared.fault.NumberFault.{NumberFault}
use Rattle.alt_value.specs.Item.{with_pair}
use Rattle.alt_value.specs.Members.{text_order}
use Rattle.alt_value.specs.Tree.{Tree, N_tree, B_tree, SS_tree, NS_tree, BS_tree, L_tree, M_tree, Pair, trees_of, fields_of}
use Rattle.alt_codec.specs.declared.fault.ValueFault.{ValueFault}
use Rattle.alt_codec.specs.declared.fault.ValueFault.TheVariants as fault
use Rattle.alt_codec.specs.JsonOf.{IsTextOf, IsNumberOf, IsBinaryOf, with_more_pairs, JsonOf, is_text, is_number, is_binary, is_truth, is_none, is_texts, is_numbers, is_binaries, is_list, is_map, ElementsOf, no_elements, element_then, PairsOf, no_pairs, pair_then, ItemJsonOf, SendsNumber}
use Rattle.alt_codec.specs.Numbers.{number_of}
use Rattle.alt_codec.specs.Reading.{value_in, elements_in, fields_in, item_in}
use Rattle.alt_codec.specs.Scalars.{text_in, number_in, binary_in, or_bad_number, or_bad_base64}
use Rattle.alt_codec.specs.Steps.{and_then, map_ok}
use Rattle.alt_base.specs.declared.NoMemory.{NoMemory}
use Rattle.serde_json.specs.View.{view}
use Rattle.serde_json.specs.declared.value.Value.{Value}
use Rattle.alt_codec.specs.ReadBack.{StandsForValue}
use Rattle.alt_codec.specs.Returning.{Returns}
use Rattle.alt_codec.specs.Writing.{json_of}
use Rattle.alt_codec.proofs.Numbers.{reads, reads-number_of}
use Rattle.alt_codec.proofs.ReadBack.{some_room}
use Rattle.alt_codec.proofs.OneMember.{value_in-only, member_text, member_number, member_binary, text_member, number_member, binary_member, set-back}
use Rattle.alt_codec.proofs.ValuesThere.{pairs-there, less_room, value-there}

-- ---- what the JSON stands for is read

mutual
  -- what the JSON stands for is the reader's answer
  pub value-back : {room : ℕ} {d : Data} {t : Tree} → JsonOf room d t → value_in room d ≡ Ok t
  value-back (is_text room ms s o) = value_in-only room ms (codes "S") (string s) o
  value-back (is_number room ms text z o h) =
      value_in-only room ms (codes "N") (string text) o
      ∙ ap (λ r. map_ok N_tree (or_bad_number r)) (reads-number_of text (Ok z) h)
  value-back (is_binary room ms text b o h) =
      value_in-only room ms (codes "B") (string text) o
      ∙ ap (λ r. map_ok B_tree (or_bad_base64 r)) h
  value-back (is_truth room ms b o) = value_in-only room ms (codes "BOOL") (boolean b) o
  value-back (is_none room ms o) = value_in-only room ms (codes "NULL") (boolean true) o
  value-back (is_texts room ms ds ss o h) =
      value_in-only room ms (codes "SS") (array ds) o
      ∙ ap (map_ok SS_tree) (set-back text_order text_in IsTextOf member_text text_member ds ss
      h)
  value-back (is_numbers room ms ds zs o h) =
      value_in-only room ms (codes "NS") (array ds) o
      ∙ ap (map_ok NS_tree) (set-back int_cmp number_in IsNumberOf member_number number_member
      ds zs h)
  value-back (is_binaries room ms ds bs o h) =
      value_in-only room ms (codes "BS") (array ds) o
      ∙ ap (map_ok BS_tree) (set-back text_order binary_in IsBinaryOf member_binary
      binary_member ds bs h)
  value-back (is_list room ms ds ts o h) =
      value_in-only (suc room) ms (codes "L") (array ds) o
      ∙ some_room (suc room) (map_ok (λ us. L_tree (trees_of us)) (elements_in (suc room - 1) ds))
      (omega arith)
      ∙ ap (λ k. map_ok (λ us. L_tree (trees_of us)) (elements_in k ds)) (less_room room)
      ∙ ap (map_ok (λ us. L_tree (trees_of us))) (elements-back h)
  value-back (is_map room ms os ps o h) =
      value_in-only (suc room) ms (codes "M") (object os) o
      ∙ some_room (suc room) (map_ok (λ qs. M_tree (fields_of qs)) (fields_in (suc room - 1) [] os))
      (omega arith)
      ∙ ap (λ k. map_ok (λ qs. M_tree (fields_of qs)) (fields_in k [] os)) (less_room room)
      ∙ ap (map_ok (λ qs. M_tree (fields_of qs))) (pairs-back h [])

  -- so it is of elements and of pairs
  elements-back : {room : ℕ} {ds : Items} {ts : List Tree} → ElementsOf room ds ts
      → elements_in room ds ≡ Ok ts
  elements-back (no_elements room) = refl
  elements-back (element_then room d ds t ts j js) =
      ap (and_then (λ u. map_ok (λ us. u ∷ us) (elements_in room ds))) (value-back j)
      ∙ ap (map_ok (λ us. t ∷ us)) (elements-back js)

  pairs-back : {room : ℕ} {ms : Members} {ps : List Pair} → PairsOf room ms ps → (found : List Pair)
      → fields_in room found ms ≡ Ok (with_more_pairs found ps)
  pairs-back (no_pairs room) found = refl
  pairs-back (pair_then room name d ms t ps some j js) found =
      rw (ne_eqb (length name) 0 (λ z. omega (arith, z, some)))
      (ap (and_then (λ u. fields_in room (with_pair name u found) ms)) (value-back j)
      ∙ pairs-back js (with_pair name t found))

-- ---- items

-- and what is read as an item stands for that
pub item-there : (room : ℕ) (d : Data) (i : List Pair) → item_in room d ≡ Ok i → ItemJsonOf room d i
item-there room (object ms) i e =
    let r = pairs-there room (value-there room) [] ms i e in
    (ms, r.0, refl, r.1, r.2)
item-there room null i e = absurd (let h : ⊥ = cc in h)
item-there room (boolean b) i e = absurd (let h : ⊥ = cc in h)
item-there room (number n) i e = absurd (let h : ⊥ = cc in h)
item-there room (string s) i e = absurd (let h : ⊥ = cc in h)
item-there room (array ds) i e = absurd (let h : ⊥ = cc in h)

-- and is read where it does
pub item-back : (room : ℕ) (d : Data) (i : List Pair) → ItemJsonOf room d i → item_in room d ≡ Ok i
item-back room d i h = ap (item_in room) h.2 ∙ pairs-back h.3 [] ∙ ap Ok (sym h.4)

-- ---- what an answer says of the reader's call

-- what holds where there is an answer, at that answer
pub at_ok : {A : Type 0} (P : A → Type 0) (r : Result A ValueFault) (x : A) → r ≡ Ok x → IfOk r P
    → P x
at_ok P r x e h = subst (λ s. IfOk s P) e h

-- a fault is no value's answer, nor an item's
pub no_value : (d : Data) (f : ValueFault) → value_in 32 d ≡ Err f → (t : Tree) → JsonOf 32 d t → ⊥
no_value d f e t j = let g : Err f ≡ Ok t = sym e ∙ value-back j in cc

-- nor an item's
pub no_item : (d : Data) (f : ValueFault) → item_in 32 d ≡ Err f → (i : List Pair)
    → ItemJsonOf 32 d i → ⊥
no_item d f e i j = let g : Err f ≡ Ok i = sym e ∙ item-back 32 d i j in cc

-- what is written stands for the value
pub written_stands : (r : Result Value NoMemory) (t : Tree) → IfOk r (λ v. view v ≡ json_of t)
    → IfOk r (λ _. Returns t)
    → IfOk r (λ v. StandsForValue 32 (view v) t)
written_stands (Ok v) t is h = λ full fits. value-there 32 (view v) t
    (ap (value_in 32) is ∙ h 32 full fits)
written_stands (Err e) t is h = h

-- ---- the answer to a number

-- a number that was sent is told by its text alone
number_sent : (d : Data) (text : List ℕ) → SendsNumber d text
    → value_in 32 d ≡ map_ok N_tree (or_bad_number (number_of text))
number_sent d text s = ap (value_in 32) s.1 ∙ value_in-only 32 s.0 (codes "N") (string text) s.2

-- the number that was read, and the fault of a text that is none
as_number : (r : Result ℤ NumberFault) (t : Tree) → map_ok N_tree (or_bad_number r) ≡ Ok t
    → (z : ℤ) × (t ≡ N_tree z) × (r ≡ Ok z)
as_number (Ok z) t e = (z, cc, refl)
as_number (Err n) t e = absurd (let h : ⊥ = cc in h)

as_fault : (r : Result ℤ NumberFault) (f : ValueFault) → map_ok N_tree (or_bad_number r) ≡ Err f
    → (n : NumberFault) × (f ≡ fault.BadNumber n) × (r ≡ Err n)
as_fault (Ok z) f e = absurd (let h : ⊥ = cc in h)
as_fault (Err n) f e = (n, cc, refl)

-- by the grammar it is the number that the text denotes
pub number_read : (d : Data) (text : List ℕ) (t : Tree) → SendsNumber d text → value_in 32 d ≡ Ok t
    → (z : ℤ) × (t ≡ N_tree z) × TextReadsAs text (Ok z)
number_read d text t s e =
    let r = as_number (number_of text) t (sym (number_sent d text s) ∙ e) in
    (r.0, r.1, subst (TextReadsAs text) r.2 (reads text))

-- and else the fault is why it denotes none
pub number_refused : (d : Data) (text : List ℕ) (f : ValueFault) → SendsNumber d text
    → value_in 32 d ≡ Err f → (n : NumberFault) × (f ≡ fault.BadNumber n) × TextReadsAs text (Err n)
number_refused d text f s e =
    let r = as_fault (number_of text) f (sym (number_sent d text s) ∙ e) in
    (r.0, r.1, subst (TextReadsAs text) r.2 (reads text))
