-- Where an entry stands in its log.
use Rattle.std.proofs.Common.{◌≡◌, ◌<◌, ◌≤◌, ◌+◌, ◌-◌, ◌==◌, if◌then◌else◌, ℕ, zero, suc, List, [], ◌∷◌, ◌++◌, length, get_or, take, drop, refl, sym, ◌∙◌, ap, arith, append_assoc, length-append, length-drop}
use Rattle.std.proofs.lemmas.List.{append-nil, take_at, drop_at, take_all, drop_all}
use Rattle.std.specs.Int.{w64, to_be_bytes}
use Rattle.alt_base.proofs.Numbers.{choice_by_equal}
use Rattle.alt_disk.specs.Disk.{DiskState, Read, contents, bytes_or_none}
use Rattle.alt_gatelog.specs.Log.{header, framed, behind_gates, gates_from, gate_place}
use Rattle.alt_gatelog.specs.InHand.{ReadsAs}
use Rattle.alt_gatelog.specs.declared.form.Form.{Form}
use Rattle.alt_gatelog.proofs.Append.{length-framed, length-front, length-header}

-- each entry has a gate
pub length-gates : (at : ℕ) (entries : List (List ℕ))
    → length (gates_from at entries) ≡ length entries
length-gates at [] = refl
length-gates at (e ∷ entries) = ap (λ (n : ℕ). suc n) (length-gates (at + 9 + length e) entries)

-- an entry's bytes stand nine places behind its gate's
pub record EntryAt (bytes : List ℕ) (at : ℕ) (entry : List ℕ) : Type 0 where
  pub front : List ℕ
  pub more : List ℕ
  pub is : bytes ≡ front ++ (entry ++ more)
  pub place : length front ≡ at + 9

-- the first entry, with its gate and length counted to the front
first_split : (before entry behind rest : List ℕ)
    → before ++ ((1 ∷ framed entry ++ behind) ++ rest)
    ≡ (before ++ (1 ∷ to_be_bytes w64 (length entry))) ++ (entry ++ (behind ++ rest))
unfolding framed
first_split before entry behind rest = simp append_assoc

-- the entries behind it, with it counted to the front
next_split : (before entry behind rest : List ℕ)
    → before ++ ((1 ∷ framed entry ++ behind) ++ rest)
    ≡ (before ++ (1 ∷ framed entry)) ++ (behind ++ rest)
next_split before entry behind rest = simp append_assoc

-- each entry stands nine bytes behind its gate
entry_within : (at : ℕ) (entries : List (List ℕ)) (i : ℕ) (before rest : List ℕ)
    → i < length entries → length before ≡ at
    → EntryAt (before ++ (behind_gates entries ++ rest)) (get_or (gates_from at entries) i 0)
    (get_or entries i [])
entry_within at [] i before rest less size = absurd (omega (arith, less))
entry_within at (e ∷ entries) zero before rest less size = record {
  front = before ++ (1 ∷ to_be_bytes w64 (length e));
  more = behind_gates entries ++ rest;
  is = first_split before e (behind_gates entries) rest;
  place = omega (arith, size, length-append before (1 ∷ to_be_bytes w64 (length e)));
}
entry_within at (e ∷ entries) (suc i) before rest less size =
    let inner = entry_within (at + 9 + length e) entries i (before ++ (1 ∷ framed e)) rest
    (omega (arith, less)) (omega (
      arith,
      size,
      length-append before (1 ∷ framed e),
      length-framed e,
    )) in
    record {
      front = inner.front;
      more = inner.more;
      is =
          next_split before e (behind_gates entries) rest ∙ inner.is;
      place = inner.place;
    }

-- the gate behind an entry is that of the next
next_inner : (at : ℕ) (entries : List (List ℕ)) (i j : ℕ) → j ≡ i + 1 → j < length entries
    → get_or (gates_from at entries) j 0 ≡ get_or
    (gates_from at entries) i 0 + (9 + length (get_or entries i []))
next_inner at [] i j is less = absurd (omega (arith, less))
next_inner at (e ∷ []) i j is less = absurd (omega (arith, less, is))
next_inner at (e ∷ x ∷ entries) i zero is less = absurd (omega (arith, is))
next_inner at (e ∷ x ∷ entries) zero (suc zero) is less = omega arith
next_inner at (e ∷ x ∷ entries) zero (suc (suc j)) is less = absurd (omega (arith, is))
next_inner at (e ∷ x ∷ entries) (suc i) (suc j) is less =
    next_inner (at + 9 + length e) (x ∷ entries) i j (omega (arith, is)) (omega (arith, less))

-- or, behind the last, the closed gate
next_last : (at : ℕ) (entries : List (List ℕ)) (i : ℕ) → i + 1 ≡ length entries
    → at + length (behind_gates entries) ≡ get_or
    (gates_from at entries) i 0 + (9 + length (get_or entries i []))
next_last at [] i is = absurd (omega (arith, is))
next_last at (e ∷ []) zero is = omega (arith, length-append (framed e) [], length-framed e)
next_last at (e ∷ []) (suc i) is = absurd (omega (arith, is))
next_last at (e ∷ x ∷ entries) zero is = absurd (omega (arith, is))
next_last at (e ∷ x ∷ entries) (suc i) is =
    let inner = next_last (at + 9 + length e) (x ∷ entries) i (omega (arith, is)) in
    let size : at + length (1 ∷ framed e ++ behind_gates (x ∷ entries))
    ≡ (at + 9 + length e) + length (behind_gates (x ∷ entries)) =
    omega (arith, length-append (framed e) (behind_gates (x ∷ entries)), length-framed e) in
    size ∙ inner

-- a gate stands right behind the entries before its own
gate_behind : (at : ℕ) (entries : List (List ℕ)) (i : ℕ) → i < length entries
    → get_or (gates_from at entries) i 0 ≡ at + length (behind_gates (take i entries))
gate_behind at [] i less = absurd (omega (arith, less))
gate_behind at (e ∷ entries) zero less = omega arith
gate_behind at (e ∷ entries) (suc i) less =
    omega (
      arith,
      gate_behind (at + 9 + length e) entries i (omega (arith, less)),
      length-append (framed e) (behind_gates (take i entries)),
      length-framed e,
    )

module _ (form : Form) (s : DiskState) (f at : ℕ) (places : List ℕ) (entries : List (List ℕ))
    (reads : ReadsAs form s f at places entries) (i : ℕ) (less : i < length places) where
  within : i < length entries
  within = omega (arith, less, ap length reads.are_at, length-gates 8 entries)

  gate_is : get_or places i 0 ≡ get_or (gates_from 8 entries) i 0
  gate_is = ap (λ (l : List ℕ). get_or l i 0) reads.are_at

  -- an entry's gate stands where the list says
  pub place_is : get_or places i 0 ≡ gate_place entries i
  place_is = gate_is ∙ gate_behind 8 entries i within

  -- the gate behind an entry
  pub next_is : (if i + 1 == length places then at else get_or places (i + 1) 0)
      ≡ get_or places i 0 + (9 + length (get_or entries i []))
  next_is = choice_by_equal (i + 1) (length places) at (get_or places (i + 1) 0)
      (get_or places i 0 + (9 + length (get_or entries i [])))
      (λ last. let inner = next_last 8 entries i
      (omega (arith, last, ap length reads.are_at, length-gates 8 entries)) in
      omega (arith, inner, reads.is_at, length-front form entries, gate_is))
      (λ other.
      let inner = next_inner 8 entries i (i + 1) (let e : i + 1 ≡ i + 1 = refl in e)
      (omega (arith, other, within, ap length reads.are_at, length-gates 8 entries)) in
      ap (λ (l : List ℕ). get_or l (i + 1) 0) reads.are_at ∙ inner
      ∙ ap (λ (n : ℕ). n + (9 + length (get_or entries i []))) (sym gate_is))

  -- and the entry itself
  pub entry_is : EntryAt (contents s f) (get_or places i 0) (get_or entries i [])
  entry_is =
      let inner = entry_within 8 entries i (header form) (reads.gate ∷ reads.rest) within
      (length-header form) in
      record {
        front = inner.front;
        more = inner.more;
        is = ap bytes_or_none reads.file ∙ append_assoc (header form) (behind_gates entries)
            (reads.gate ∷ reads.rest) ∙ inner.is;
        place = inner.place ∙ ap (λ (n : ℕ). n + 9) (sym gate_is);
      }

-- a read of as many bytes as the entry has
module _ (bytes : List ℕ) (at : ℕ) (entry : List ℕ) (here : EntryAt bytes at entry)
    (old new : List ℕ) (count : ℕ) (read : Read bytes (at + 9) old new count)
    (size : length old ≡ length entry) where
  behind : drop (at + 9) bytes ≡ entry ++ here.more
  behind = ap (drop (at + 9)) here.is ∙ drop_at here.front (entry ++ here.more) (at + 9) here.place

  -- gives them all
  pub count_all : count ≡ length entry
  count_all = omega (
    arith,
    read.count_is,
    size,
    length-drop (at + 9) bytes,
    ap length behind,
    length-append entry here.more,
  )

  -- and gives the entry
  pub read_entry : length new ≡ length old → new ≡ entry
  read_entry kept = sym (take_all count new (omega (arith, count_all, kept, size))) ∙ read.front
      ∙ ap (take count) behind ∙ take_at entry here.more count (sym count_all)

-- bytes that were read behind others
pub read_behind : (size start : ℕ) (whole items old buf : List ℕ) → whole ≡ items
    → size ≡ length items → start ≡ length old → take start items ≡ old
    → length buf ≡ length items - start → start ≤ length items
    → take size (take start whole ++ (buf ++ drop (length whole - start) (drop start whole))
    ++ drop (length (take start whole ++ (buf
    ++ drop (length whole - start) (drop start whole)))) items) ≡ old ++ buf
read_behind size start whole items old buf same is_size is_start front is_buf le =
    let none : drop (length whole - start) (drop start whole) ≡ [] =
    drop_all (length whole - start) (drop start whole)
    (omega (arith, length-drop start whole)) in
    let first : take start whole ≡ old = ap (take start) same ∙ front in
    let inner : take start whole ++ (buf ++ drop (length whole - start) (drop start whole))
    ≡ old ++ buf = (λ i. first i ++ (buf ++ none i))
    ∙ ap (λ (l : List ℕ). old ++ l) (append-nil buf) in
    let long : length (old ++ buf) ≡ size = omega
    (arith, length-append old buf, is_start, is_buf, is_size, le) in
    (λ i. take size (inner i ++ drop (length (inner i)) items))
    ∙ ap (λ (l : List ℕ). take size ((old ++ buf) ++ l))
    (drop_all (length (old ++ buf)) items (omega (arith, long, is_size)))
    ∙ ap (take size) (append-nil (old ++ buf)) ∙ take_all size (old ++ buf) (omega (arith, long))
