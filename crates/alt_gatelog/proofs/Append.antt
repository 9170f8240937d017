-- What each call of an append leaves.
use Rattle.std.proofs.Common.{◌≡◌, ◌≢◌, ◌<◌, ◌+◌, ◌^◌, inl, inr, ℕ, zero, suc, true, List, [], ◌∷◌, ◌++◌, length, slice_index_or, take, drop, Option, Some, refl, sym, ◌∙◌, ap, subst, arith, append_assoc, length-append}
use Rattle.std.proofs.lemmas.Bool.{cases_eq}
use Rattle.std.proofs.lemmas.List.{append-nil, take_at}
use Rattle.std.proofs.Math.Seq.{drop-append-add}
use Rattle.std.proofs.lemmas.List.Elements.{All-append}
use Rattle.std.specs.List.{All, AllByRecursion}
use Rattle.std.specs.Int.{w64, to_be_bytes}
use Rattle.alt_disk.specs.Fates.{Fates, Fits, synced, wrote}
use Rattle.alt_disk.specs.Disk.{DiskState, IsSettled, now, overwritten, contents, bytes_or_none}
use Rattle.alt_disk.specs.Runs.{Run}
use Rattle.alt_disk.proofs.Runs.{run_weaker, run_then}
use Rattle.alt_disk.proofs.Settled.{settled_front, synced_settled}
use Rattle.alt_disk.proofs.Shapes.{gap_stays, synced_fits}
use Rattle.alt_gatelog.specs.Log.{header, framed, behind_gates, log_front, log_after, gates_from, IsLog, IsShortEntry, BeforeOrAfter}
use Rattle.alt_gatelog.specs.InHand.{ReadsAs, StandsAs, AroundWrite, Lasts}
use Rattle.alt_gatelog.specs.declared.form.Form.{Form}
use Rattle.alt_gatelog.specs.declared.form.Form.TheVariants.{One, Two}

-- the last of several entries stands behind the others
behind_push : (entries : List (List ℕ)) (entry rest : List ℕ)
    → behind_gates (entries ++ entry ∷ []) ++ rest
    ≡ behind_gates entries ++ (1 ∷ framed entry) ++ rest
behind_push [] entry rest = ap (λ (l : List ℕ). l ++ rest) (append-nil (1 ∷ framed entry))
behind_push (e ∷ entries) entry rest =
    let more = simp append_assoc at (behind_push entries entry rest) in
    simp append_assoc (ap (λ (l : List ℕ). 1 ∷ framed e ++ l) more)

-- an entry behind an open gate joins the list
pub front_push : (form : Form) (entries : List (List ℕ)) (entry rest : List ℕ)
    → log_front form (entries ++ entry ∷ []) ++ rest
    ≡ log_front form entries ++ (1 ∷ framed entry) ++ rest
front_push form entries entry rest =
    let more = simp append_assoc at (behind_push entries entry rest) in
    simp append_assoc (ap (λ (l : List ℕ). header form ++ l) more)

-- an entry has nine bytes before its own
pub length-framed : (entry : List ℕ) → length (framed entry) ≡ 8 + length entry
unfolding framed
length-framed entry = length-append (to_be_bytes w64 (length entry)) entry

-- and its frame has the next gate behind it
pub length-block : (entry : List ℕ) → length (framed entry ++ 0 ∷ []) ≡ length entry + 9
length-block entry =
    omega (arith, length-append (framed entry) (0 ∷ []), length-framed entry)

-- a header has eight bytes
pub length-header : (form : Form) → length (header form) ≡ 8
unfolding header
length-header One = refl
length-header Two = refl

-- and stands before the entries
pub length-front : (form : Form) (entries : List (List ℕ))
    → length (log_front form entries) ≡ 8 + length (behind_gates entries)
length-front form entries =
    omega (arith, length-append (header form) (behind_gates entries), length-header form)

-- all entries are short, with one more that is
pub short_push : (entries : List (List ℕ)) (entry : List ℕ) → AllByRecursion IsShortEntry entries
    → length entry < 2 ^ 64 → AllByRecursion IsShortEntry (entries ++ entry ∷ [])
short_push [] entry all short = (short, tt)
short_push (e ∷ entries) entry all short = (all.0, short_push entries entry all.1 short)

-- the gate of one entry more stands where the closed gate stood
pub gates_push : (at : ℕ) (entries : List (List ℕ)) (entry : List ℕ)
    → gates_from at (entries ++ entry ∷ []) ≡ gates_from at entries
    ++ (at + length (behind_gates entries)) ∷ []
gates_push at [] entry = ap (λ (n : ℕ). n ∷ []) (let e : at ≡ at + 0 = omega arith in e)
gates_push at (e ∷ entries) entry =
    let size : at + 9 + length e + length (behind_gates entries)
    ≡ at + length (1 ∷ framed e ++ behind_gates entries) =
    omega (arith, length-append (framed e) (behind_gates entries), length-framed e) in
    ap (λ (l : List ℕ). at ∷ l) (gates_push (at + 9 + length e) entries entry
    ∙ ap (λ (n : ℕ). gates_from (at + 9 + length e) entries ++ n ∷ []) size)

-- one small place
one_below : (at k d : ℕ) → at < 2 ^ 62 → k < 1 → slice_index_or (at ∷ []) k d < 2 ^ 62
one_below at zero d low less = low
one_below at (suc k) d low less = absurd (omega (arith, less))

-- all places are small, with one more that is
pub below_push : (places : List ℕ) (at : ℕ) → All (λ n. n < 2 ^ 62) places → at < 2 ^ 62
    → All (λ n. n < 2 ^ 62) (places ++ at ∷ [])
below_push places at all low = All-append (λ n. n < 2 ^ 62) places (at ∷ []) all
    (λ k d less. one_below at k d low less)

-- what a write right behind a front leaves
written_behind : (front back bytes : List ℕ) (at : ℕ) → at ≡ length front
    → overwritten (front ++ back) at bytes ≡ front ++ (bytes ++ drop (length bytes) back)
written_behind front back bytes at is =
    let here : take at (front ++ back) ≡ front = take_at front back at (sym is) in
    let there : drop (at + length bytes) (front ++ back) ≡ drop (length bytes) back =
    ap (λ (a : ℕ). drop (a + length bytes) (front ++ back)) is
    ∙ drop-append-add front back (length bytes) in
    (λ i. here i ++ bytes ++ there i) ∙ append_assoc front bytes (drop (length bytes) back)

-- the parts of a file around its gate, put together anew
regroup : (a : List ℕ) (x : ℕ) (b t r : List ℕ)
    → a ++ (x ∷ []) ++ (b ++ t) ++ r ≡ a ++ x ∷ (b ++ (t ++ r))
regroup a x b t r = simp append_assoc

-- and with the body as one
regroup_2 : (a : List ℕ) (x : ℕ) (b t r : List ℕ)
    → a ++ (x ∷ []) ++ (b ++ t) ++ r ≡ a ++ x ∷ ((b ++ t) ++ r)
regroup_2 a x b t r = simp append_assoc

module _ (form : Form) (s0 : DiskState) (f at : ℕ) (places : List ℕ) (entries : List (List ℕ))
    (entry : List ℕ) (short : length entry < 2 ^ 64)
    (reads : ReadsAs form s0 f at places entries) where
  abbrev P : ℕ → Option (List ℕ) → Type 0
  P = BeforeOrAfter form entries entry

  abbrev front : List ℕ
  front = log_front form entries

  -- what is written behind the gate
  abbrev body : List ℕ
  body = framed entry ++ 0 ∷ []

  abbrev tail : List ℕ
  tail = drop (length body) reads.rest

  before_log : (left : Option (List ℕ)) (gate : ℕ) (rest : List ℕ) → gate ≢ 1
      → left ≡ Some (front ++ gate ∷ rest) → IsLog form entries left
  before_log left gate rest closed is = record {
    gate = gate;
    closed = closed;
    rest = rest;
    is =
        is;
    lengths = reads.lengths;
  }

  after_log : (left : Option (List ℕ)) (rest : List ℕ)
      → left ≡ Some (log_front form (entries ++ entry ∷ []) ++ 0 ∷ rest)
      → IsLog form (entries ++ entry ∷ []) left
  after_log left rest is = record {
    gate = 0;
    closed = omega arith;
    rest = rest;
    is = is;
    lengths =
        short_push entries entry reads.lengths short;
  }

  -- before the call each image has the list as it was, where a stop left it so
  pub before_all : IsSettled s0 f → (t : ℕ) (left : Option (List ℕ)) → Fits (now s0 f) left
      → P t left
  before_all settled t left fits =
      inl (before_log left reads.gate reads.rest reads.closed (settled left fits ∙ reads.file))

  -- a file that reads is cut before its gate and behind it
  split : front ++ reads.gate ∷ reads.rest ≡ (front ++ reads.gate ∷ []) ++ reads.rest
  split = sym (append_assoc front (reads.gate ∷ []) reads.rest)

  behind_gate : at + 1 ≡ length (front ++ reads.gate ∷ [])
  behind_gate = omega (arith, reads.is_at, length-append front (reads.gate ∷ []))

  -- the closed gate stands in each outcome of the first write
  pub first_left : IsSettled s0 f → (t : ℕ) (left : Option (List ℕ))
      → AroundWrite s0 f (at + 1) (length body) t left
      → P t left
  first_left settled t left (inl fits) = before_all settled t left fits
  first_left settled t left (inr fits) =
      let stays = settled_front (front ++ reads.gate ∷ []) reads.rest (at + 1)
      (length body) behind_gate (now s0 f) (wrote (at + 1) (length body) (now s0 f)) true
      (λ old there. settled old there ∙ reads.file ∙ ap (λ (l : List ℕ). Some l) split)
      (inl refl) left fits in
      inl (before_log left reads.gate stays.2.rest reads.closed
      (stays.1 ∙ ap (λ (l : List ℕ). Some l)
      (stays.2.is ∙ append_assoc front (reads.gate ∷ []) stays.2.rest)))

  -- the file between the two writes
  abbrev pub staged : List ℕ
  staged = front ++ (reads.gate ∷ []) ++ (body ++ tail)

  -- the body written behind the gate makes the file as it is staged
  pub staged_is : overwritten (contents s0 f) (at + 1) body ≡ staged
  staged_is =
      ap (λ (l : List ℕ). overwritten l (at + 1) body) (ap bytes_or_none reads.file ∙ split)
      ∙ written_behind (front ++ reads.gate ∷ []) reads.rest body (at + 1) behind_gate

  -- the entry behind an open gate, and whatever follows
  whole_entry : (t : List ℕ) → front ++ 1 ∷ (body ++ t)
      ≡ log_front form (entries ++ entry ∷ []) ++ 0 ∷ t
  whole_entry t =
      ap (λ (l : List ℕ). front ++ 1 ∷ l) (append_assoc (framed entry) (0 ∷ []) t)
      ∙ sym (append_assoc front (1 ∷ framed entry) (0 ∷ t))
      ∙ sym (front_push form entries entry (0 ∷ t))

  gate_case : (t : ℕ) (left : Option (List ℕ)) (l : List ℕ) → left ≡ Some l → (gap : List ℕ)
      → length gap ≡ 1 → (rest : List ℕ) → l ≡ front ++ gap ++ (body ++ tail) ++ rest → P t left
  gate_case t left l is [] size rest whole = absurd (omega (arith, size))
  gate_case t left l is (x ∷ []) size rest whole = elim (cases_eq x 1) [
    | inl one ↦ inr (after_log left (tail ++ rest)
        (is ∙ ap (λ (l : List ℕ). Some l) (whole ∙ regroup front x body tail rest
        ∙ ap (λ (g : ℕ). front ++ g ∷ (body ++ (tail ++ rest))) one ∙ whole_entry (tail ++ rest))))
    | inr other ↦ inl (before_log left x ((body ++ tail) ++ rest) other
        (is ∙ ap (λ (l : List ℕ). Some l) (whole ∙ regroup_2 front x body tail rest)))
  ]
  gate_case t left l is (x ∷ y ∷ gap) size rest whole = absurd (omega (arith, size))

  staged_log : (t : ℕ) (left : Option (List ℕ)) → left ≡ Some staged → P t left
  staged_log t left is = inl (before_log left reads.gate (body ++ tail) reads.closed
      (is ∙ ap (λ (l : List ℕ). Some l) (append_assoc front (reads.gate ∷ []) (body ++ tail))))

  -- the entry stands whole in each outcome of the second
  pub second_left : (s1 : DiskState) → now s1 f ≡ synced staged → (t : ℕ) (left : Option (List ℕ))
      → AroundWrite s1 f at 1 t left → P t left
  second_left s1 kept t left (inl fits) = staged_log t left
      (synced_fits staged left (subst (λ (s : Fates). Fits s left) kept fits))
  second_left s1 kept t left (inr fits) =
      let stays = gap_stays front (reads.gate ∷ []) (body ++ tail) at 1 (now s1 f)
      (wrote at 1 (now s1 f)) true reads.is_at refl kept (inl refl) left fits in
      gate_case t left stays.0 stays.1 stays.2.gap stays.2.size stays.2.rest stays.2.is

  -- the file after both
  pub opened_is : (s1 : DiskState) → s1.file f ≡ Some staged
      → overwritten (contents s1 f) at (1 ∷ []) ≡ log_front form (entries ++ entry ∷ []) ++ 0 ∷ tail
  opened_is s1 was =
      let behind : List ℕ = (reads.gate ∷ []) ++ (body ++ tail) in
      let is_behind : contents s1 f ≡ front ++ behind =
      ap bytes_or_none was ∙ append_assoc front (reads.gate ∷ []) (body ++ tail) in
      ap (λ (l : List ℕ). overwritten l at (1 ∷ [])) is_behind
      ∙ written_behind front behind (1 ∷ []) at reads.is_at ∙ whole_entry tail

  -- the first two calls
  pub first_run : IsSettled s0 f → (s1 : DiskState)
      → Run s0 s1 f (AroundWrite s0 f (at + 1) (length body)) → Run s0 s1 f P
  first_run settled s1 run = run_weaker s0 s1 f P (AroundWrite s0 f (at + 1) (length body)) run
      (first_left settled)

  -- and the other two
  pub second_run : IsSettled s0 f → (s1 s2 : DiskState)
      → Run s0 s1 f (AroundWrite s0 f (at + 1) (length body)) → now s1 f ≡ synced staged
      → Run s1 s2 f (AroundWrite s1 f at 1) → Run s0 s2 f P
  second_run settled s1 s2 first kept second =
      run_then s0 s1 s2 f P (AroundWrite s1 f at 1) (first_run settled s1 first) second
      (second_left s1 kept)

  -- what the file then has
  pub after_is : log_front form (entries ++ entry ∷ []) ++ 0 ∷ tail
      ≡ log_after form entries entry reads.rest
  after_is = ap (λ (n : ℕ). log_front form (entries ++ entry ∷ []) ++ 0 ∷ drop n reads.rest)
      (let e : length body ≡ length entry + 9 =
      omega (arith, length-append (framed entry) (0 ∷ []), length-framed entry) in e)

  -- after all four the log has the entry
  pub stands_after : (s2 : DiskState) (next : ℕ) (new : List ℕ)
      → Lasts s2 f (log_front form (entries ++ entry ∷ []) ++ 0 ∷ tail)
      → next ≡ at + (length entry + 9) → new ≡ places ++ at ∷ []
      → StandsAs form s2 f next new (entries ++ entry ∷ [])
  stands_after s2 next new lasts is_next is_new = record {
    reads = record {
      gate = 0;
      closed = omega arith;
      rest = tail;
      file = lasts.file;
      lengths = short_push entries entry reads.lengths short;
      is_at = is_next ∙ longer;
      are_at = is_new ∙ (λ i. reads.are_at i ++ (reads.is_at ∙ length-front form entries) i ∷ [])
          ∙ sym (gates_push 8 entries entry);
    };
    settled = synced_settled s2 f (log_front form (entries ++ entry ∷ []) ++ 0 ∷ tail) lasts.file
        lasts.kept;
  }
    where
      longer : at + (length entry + 9) ≡ length (log_front form (entries ++ entry ∷ []))
      longer = omega (
        arith,
        reads.is_at,
        ap length (front_push form entries entry []),
        length-append (log_front form (entries ++ entry ∷ [])) [],
        length-append (front ++ (1 ∷ framed entry)) [],
        length-append front (1 ∷ framed entry),
        length-framed entry,
      )
