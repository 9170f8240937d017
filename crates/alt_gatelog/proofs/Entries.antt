-- The entries of a gated log as they are read, one after another.
use Rattle.std.proofs.Common.{◌≡◌, ◌<◌, ◌≤◌, ◌+◌, ◌^◌, inl, inr, ℕ, zero, suc, List, [], ◌∷◌, ◌++◌, length, get_or, take, drop, refl, sym, ◌∙◌, ap, arith, append_assoc, take-append-drop, length-drop, length-append}
use Rattle.std.proofs.lemmas.List.{append-nil, drop_more, drop-drop, length-take-le, length-take}
use Rattle.std.specs.Int.{w64, to_be_bytes, from_be_bytes}
use Rattle.std.specs.List.{AllByRecursion}
use Rattle.alt_gatelog.specs.Log.{framed, header, log_front, gates_from, IsCutEntry, IsShortEntry, ExplainsLog}
use Rattle.alt_gatelog.specs.Log.LogIsDamagedAt.{ends_inside}
use Rattle.alt_gatelog.specs.Parse.{HasEntry, IsCutAt}
use Rattle.alt_gatelog.specs.declared.fault.LogFault.{LogFault}
use Rattle.alt_gatelog.specs.declared.form.Form.{Form}
use Rattle.alt_gatelog.specs.declared.fault.LogFault.TheVariants.{Damaged, Failed, NoMemory}
use Rattle.alt_gatelog.proofs.Append.{front_push, gates_push, short_push, length-front, length-header}

-- a length and as many bytes are a framed entry
joins : (r number entry more : List ℕ) → r ≡ number ++ (entry ++ more)
    → number ≡ to_be_bytes w64 (length entry) → r ≡ framed entry ++ more
unfolding framed
joins r number entry more split is = split ∙ sym (append_assoc number entry more)
    ∙ ap (λ (l : List ℕ). (l ++ entry) ++ more) is

-- an open gate, a length and as many bytes are an entry
pub has_entry : (bytes : List ℕ) (at n : ℕ) → at < length bytes → get_or bytes at 0 ≡ 1
    → at + 9 + n ≤ length bytes → to_be_bytes w64 n ≡ take 8 (drop (at + 1) bytes)
    → HasEntry bytes at n
has_entry bytes at n low open_gate room number =
    let r : List ℕ = drop (at + 1) bytes in
    let entry : List ℕ = take n (drop 8 r) in
    let size : length entry ≡ n = length-take-le n (drop 8 r)
    (omega (arith, length-drop 8 r, length-drop (at + 1) bytes)) in
    let more : drop n (drop 8 r) ≡ drop (at + 9 + n) bytes =
    drop-drop n 8 r ∙ drop-drop (8 + n) (at + 1) bytes
    ∙ ap (λ (k : ℕ). drop k bytes) (omega arith) in
    let behind : drop 8 r ≡ entry ++ drop (at + 9 + n) bytes =
    sym (take-append-drop n (drop 8 r)) ∙ ap (λ (l : List ℕ). entry ++ l) more in
    let split : r ≡ take 8 r ++ (entry ++ drop (at + 9 + n) bytes) =
    sym (take-append-drop 8 r) ∙ ap (λ (l : List ℕ). take 8 r ++ l) behind in
    let joined = joins r (take 8 r) entry (drop (at + 9 + n) bytes) split
    (sym number ∙ ap (λ (k : ℕ). to_be_bytes w64 k) (sym size)) in
    record {
      entry = entry;
      size = size;
      is =
          drop_more bytes at 0 low ∙ (λ i. open_gate i ∷ joined i);
      room = room;
    }

-- the entries up to a place, and where their gates stand
pub record ReadSoFar (form : Form) (bytes : List ℕ) (at : ℕ) (places : List ℕ) : Type 0 where
  pub entries : List (List ℕ)
  pub is : bytes ≡ log_front form entries ++ drop at bytes
  pub place : at ≡ length (log_front form entries)
  pub within : at ≤ length bytes
  pub lengths : AllByRecursion IsShortEntry entries
  pub are_at : places ≡ gates_from 8 entries

-- one more
pub read_more : (form : Form) (bytes : List ℕ) (at n : ℕ) (places : List ℕ) → n < 2 ^ 64
    → ReadSoFar form bytes at places → HasEntry bytes at n
    → ReadSoFar form bytes (at + (9 + n)) (places ++ at ∷ [])
read_more form bytes at n places short so_far has =
    let more : List ℕ = drop (at + 9 + n) bytes in
    let entries = so_far.entries in
    let is : bytes ≡ log_front form (entries ++ has.entry ∷ []) ++ more =
    so_far.is ∙ ap (λ (l : List ℕ). log_front form entries ++ l) has.is
    ∙ sym (append_assoc (log_front form entries) (1 ∷ framed has.entry) more)
    ∙ sym (front_push form entries has.entry more) in
    let same : at + 9 + n ≡ at + (9 + n) = omega arith in
    record {
      entries = entries ++ has.entry ∷ [];
      is = is ∙ ap (λ (k : ℕ). log_front form (entries ++ has.entry ∷ []) ++ drop k bytes) same;
      place = omega (
        arith,
        ap length is,
        length-append
            (log_front form (entries ++ has.entry ∷ [])) more,
        length-drop (at + 9 + n) bytes,
        has.room,
      );
      within = omega (arith, has.room);
      lengths = short_push entries has.entry so_far.lengths (omega (arith, has.size, short));
      are_at = (λ i. so_far.are_at i ++ (so_far.place ∙ length-front form entries) i ∷ [])
          ∙ sym (gates_push 8 entries has.entry);
    }

-- none yet
pub read_start : (form : Form) (bytes : List ℕ) → take 8 bytes ≡ header form → 8 ≤ length bytes
    → ReadSoFar form bytes 8 []
read_start form bytes head long = record {
  entries = [];
  is = sym (take-append-drop 8 bytes) ∙ ap (λ (l : List ℕ). l ++ drop 8 bytes)
      (head ∙ sym (append-nil (header form)));
  place = let none : List (List ℕ) = [] in omega (arith, length-front form none);
  within = long;
  lengths = tt;
  are_at = refl;
}

-- the first nine bytes from a place on are none where nothing stands there
pub cut_empty : (ahead : List ℕ) → take 9 ahead ≡ [] → IsCutEntry ahead
cut_empty [] none = tt
cut_empty (b ∷ ahead) none = absurd (let empty : b ∷ take 8 ahead ≡ [] = none in cc empty)

-- fewer than nine bytes from an open gate on hold no length
pub cut_short : (ahead : List ℕ) → get_or ahead 0 0 ≡ 1 → length ahead < 9 → IsCutEntry ahead
cut_short [] gate short = tt
cut_short (b ∷ ahead) gate short = (gate, inl (omega (arith, short)))

-- and fewer than the length says no entry
pub cut_long : (ahead : List ℕ) (n : ℕ) → get_or ahead 0 0 ≡ 1
    → from_be_bytes w64 (take 8 (drop 1 ahead)) ≡ n → length ahead < 9 + n → IsCutEntry ahead
cut_long [] n gate number short = tt
cut_long (b ∷ ahead) n gate number short = (gate, inr (omega (arith, short, number)))

-- taking a number of bytes twice takes no fewer
take-twice : (n : ℕ) (l : List ℕ) → take n (take n l) ≡ take n l
take-twice zero l = refl
take-twice (suc n) [] = refl
take-twice (suc n) (b ∷ l) = ap (λ (m : List ℕ). b ∷ m) (take-twice n l)

-- the gate is among the first nine bytes
pub first_same : (ahead : List ℕ) → get_or (take 9 ahead) 0 0 ≡ get_or ahead 0 0
first_same [] = refl
first_same (b ∷ ahead) = refl

-- and so is the length
pub number_same : (ahead : List ℕ) → take 8 (drop 1 (take 9 ahead)) ≡ take 8 (drop 1 ahead)
number_same [] = refl
number_same (b ∷ ahead) = take-twice 8 ahead

-- a header is eight bytes long
pub header_long : (form : Form) (bytes : List ℕ) → take 8 bytes ≡ header form → 8 ≤ length bytes
header_long form bytes is = omega (arith, ap length is, length-header form, length-take 8 bytes)

-- where the bytes end too early behind whole entries they are damaged
pub cut_explains : (form : Form) (f at : ℕ) (bytes places : List ℕ) (fault : LogFault)
    → ReadSoFar form bytes at places → IsCutAt f at bytes fault → ExplainsLog f bytes fault
cut_explains form f at bytes places (Damaged file place) so_far cut = (
  cut.0,
  ends_inside form so_far.entries (drop at bytes) so_far.is so_far.lengths
      (cut.1 ∙ so_far.place) cut.2,
)
cut_explains form f at bytes places Failed so_far cut = tt
cut_explains form f at bytes places NoMemory so_far cut = tt
