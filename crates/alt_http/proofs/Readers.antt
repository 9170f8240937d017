-- The reading of a head byte by byte agrees with httparse's grammar: its fields, and the whole head.
use Rattle.std.proofs.Common.{◌≡◌, ◌<◌, ℕ, zero, suc, List, [], ◌∷◌, ◌++◌, length, Bool, true, false, cond, refl, sym, ap, subst, ◌∙◌, append_assoc, append-nil, arith, inl, inr, flat_map}
use Rattle.std.specs.Prelude.{◌==◌, ◌&&◌}
use Rattle.std.proofs.lemmas.List.{length-append}
use Rattle.std.proofs.lemmas.List.Elements.{All-nil}
use Rattle.httparse.specs.Grammar.{is_token_byte, is_value_byte, AllPass, LineEnd, crlf, lf, print_end, print_blank, Field, print_field}
use Rattle.httparse.specs.Pieces.{Piece, Begins, Then, Refutes, NotYet, Never, Completes, Stops, is_newline, Newline, Blank, Word, Method, Target, Version, Text, FieldLine, FieldLines, Section, RequestStart}
use Rattle.httparse.proofs.RunLemmas.{run_unique, run_unstopped}
use Rattle.httparse.proofs.PieceLemmas.{Refutes_by, Refutes_first, Refutes_next, NotYet_intro, Stops-FieldLine, Blank_deterministic, Method_deterministic, Target_deterministic, Version_deterministic, Name_deterministic, RequestStart_deterministic, colon_ends_token, Stops_value, FieldLines_push}
use Rattle.httparse.proofs.ReadLemmas.{FieldLine_row, FieldLine_done, BeginsLine_either, Section_after, Section_done}
use Rattle.httparse.proofs.OpenLemmas.{Completes_first, Completes_next, some_newline, some_target, some_version, some_text, some_section, letter_is_token, FieldLine_of_row, Section_after_lines, Section_of_line, line_blank}
use Rattle.alt_http.specs.Reading.{PartRead, got, short, never, by_read, then_read, read_end, read_blank, read_word, read_method, read_target, read_version, read_value, read_header_field, read_fields, read_start, read_head}
use Rattle.alt_http.proofs.LinePieces.{IsTail, tail_behind, Reads, IsFront, Reads-then, ReadsBlank, Reads-end, Newline_front, newline_cr, Reads-blank, all_push, Reads-word, Word_front}
use Rattle.alt_http.proofs.FirstLine.{Reads-method, Reads-target, Target_front, Reads-version, Version_front}

-- ---- a field

-- what isn't the end of the line isn't the end of the value
value_end : {M : List ℕ → Type 0} (value whole : List ℕ) (b : ℕ) (text : List ℕ)
    → AllPass is_value_byte value → is_value_byte b ≡ false → whole ≡ value ++ b ∷ text
    → Refutes M (Begins Newline) (b ∷ text) → Refutes M (Begins Text) whole
value_end value whole b text all stops e = Refutes_by (λ more h. (
  h.0.1,
  h.1,
  (run_unique is_value_byte value h.0.0 (b ∷ (text ++ more))
      (print_end h.0.1 ++ h.1) all h.2.0 stops (Stops_value h.0.1 h.1)
      (sym (append_assoc value (b ∷ text) more) ∙ ap (λ (l : List ℕ). l ++ more) (sym e)
      ∙ h.2.1)).1,
))

value_by : (value whole : List ℕ) (b : ℕ) (text : List ℕ) → AllPass is_value_byte value
    → is_value_byte b ≡ false → whole ≡ value ++ b ∷ text
    → (r : PartRead LineEnd) → Reads Newline (b ∷ text) r
    → Reads Text whole (by_read r (λ end rest. got (value, end) rest) short never)
value_by value whole b text all stops e (got end rest) read =
    (all, e ∙ ap (λ (l : List ℕ). value ++ l) read)
value_by value whole b text all stops e short read = (
  value_end value whole b text all stops e read.0,
  λ tail. let x = read.1 (tail_behind whole value (b ∷ text) e tail) in record {
    more = x.more;
    tree = (value, x.tree);
    reads = λ rest. (
      all,
      ap (λ (l : List ℕ). l ++ (x.more ++ rest)) e
          ∙ append_assoc value (b ∷ text) (x.more ++ rest)
          ∙ ap (λ (l : List ℕ). value ++ l) (x.reads rest),
    );
  },
)
value_by value whole b text all stops e never read = value_end value whole b text all stops e read

-- the value of a field is read as the grammar has it
pub Reads-value : (value whole text : List ℕ) → AllPass is_value_byte value → whole ≡ value ++ text
    → Reads Text whole (read_value value text)
unfolding read_value
Reads-value value whole [] all e =
    let same : whole ≡ value = e ∙ append-nil value in (
      NotYet_intro (λ h. run_unstopped is_value_byte h.0.0 (print_end h.0.1 ++ h.1)
          (subst (AllPass is_value_byte) (sym same ∙ h.2.1) all) (Stops_value h.0.1 h.1)),
      λ tail. record {
        more = 10 ∷ [];
        tree = (whole, lf);
        reads =
            λ rest. (subst (AllPass is_value_byte) (sym same) all, refl);
      },
    )
Reads-value value whole (b ∷ text) all e =
    by_byte (is_value_byte b) refl (λ passes. Reads-value (value ++ b ∷ []) whole text
    (all_push is_value_byte value b all passes) (e ∙ sym (append_assoc value (b ∷ []) text)))
  where
    by_byte : (x : Bool) → is_value_byte b ≡ x
        → (is_value_byte b ≡ true → Reads Text whole (read_value (value ++ b ∷ []) text))
        → Reads Text whole (cond x (read_value (value ++ b ∷ []) text)
        (by_read (read_end (b ∷ text)) (λ end rest. got (value, end) rest) short never))
    by_byte true is later = later is
    by_byte false is later = value_by value whole b text all is e (read_end (b ∷ text))
        (Reads-end (b ∷ text))

-- a line of a field is read by its name and its value
field_by : (text : List ℕ) (r : PartRead (List ℕ × (List ℕ × LineEnd)))
    → Reads (Then (Word is_token_byte 58) Text) text r
    → Reads FieldLine text (by_read r (λ f rest. got
    (record { name = f.0; raw = f.1.0; end = f.1.1 }) rest) short never)
field_by text (got f rest) read = FieldLine_done f.0 f.1.0 f.1.1 text read.0 rest read.1 read.2
field_by text short read = (FieldLine_row read.0, λ tail. FieldLine_of_row (read.1 tail))
field_by text never read = FieldLine_row read

-- a line of a field is read as the grammar has it
pub Reads-field : (text : List ℕ) → Reads FieldLine text (read_header_field text)
Reads-field text =
    field_by text (then_read (read_word is_token_byte 58 [] text) (read_value []))
    (Reads-then (Word is_token_byte 58) Text Name_deterministic
    (Word_front is_token_byte 58) some_text text (read_word is_token_byte 58 [] text)
    (read_value [])
    (Reads-word is_token_byte 58 65 colon_ends_token letter_is_token [] text text (All-nil _) refl)
    (λ rest. Reads-value [] rest rest (All-nil _) refl))

-- ---- the fields

-- where a line end is cut short, no field begins
short_end : (text : List ℕ) → read_end text ≡ short → Stops is_newline text → ⊥
short_end [] is stops = stops
short_end (b ∷ []) is stops = by_byte (b == 10) (b == 13) refl refl is
  where
    by_byte : (x y : Bool) → (b == 10) ≡ x → (b == 13) ≡ y
        → cond x (got lf []) (cond y short never) ≡ short → ⊥
    by_byte true y feed cr e = cc
    by_byte false true feed cr e = let no : true ≡ false = sym (newline_cr b cr) ∙ stops in cc
    by_byte false false feed cr e = cc
short_end (b ∷ c ∷ text) is stops = by_byte (b == 10) ((b == 13) && (c == 10)) is
  where
    by_byte : (x y : Bool) → cond x (got lf (c ∷ text)) (cond y (got crlf text) never) ≡ short → ⊥
    by_byte true y e = cc
    by_byte false true e = cc
    by_byte false false e = cc

no_field : (text : List ℕ) → read_end text ≡ short → NotYet (Begins FieldLine) text
no_field text is = NotYet_intro (λ h. short_end text is (Stops-FieldLine h.0 text h.1 h.2))

never_yet : {H : List ℕ → Type 0} {text : List ℕ} → Never H text → NotYet H text
never_yet never' = record { none = λ more empty h. never'.none more tt h }

-- a field takes a byte at least
field_shorter : (f : Field) (text rest : List ℕ) → FieldLine f text rest → length rest < length text
field_shorter f text rest h =
    let e = ap length h.1 in let n = length-append (print_field f) rest in
    let a = length-append (f.name ++ 58 ∷ f.raw) (print_end f.end) in
    let b = length-append f.name (58 ∷ f.raw) in omega (arith, e, n, a, b)

-- the fields, behind those that were read
pub Reads-fields : (n : ℕ) (fields : List Field) (whole text : List ℕ)
    → FieldLines fields whole text → length text < n
    → Reads Section whole (read_fields n fields text)
unfolding read_fields
Reads-fields zero fields whole text lines few = absurd (omega arith)
Reads-fields (suc n) fields whole text lines few =
    by_end (read_end text) refl (Reads-end text) (read_header_field text) (Reads-field text)
    (λ f rest read. Reads-fields n (fields ++ f ∷ []) whole rest
    (FieldLines_push fields f whole text rest lines read)
    (let h = field_shorter f text rest read in omega arith))
  where
    tail_of : IsTail whole → IsTail text
    tail_of tail = tail_behind whole (flat_map print_field fields) text lines.1 tail

    by_field : Never (Begins Newline) text → (q : PartRead Field) → Reads FieldLine text q
        → ((f : Field) (rest : List ℕ) → FieldLine f text rest
        → Reads Section whole (read_fields n (fields ++ f ∷ []) rest))
        → Reads Section whole (by_read q (λ f rest. read_fields n (fields ++ f ∷ []) rest) short
        never)
    by_field end (got f rest) read later = later f rest read
    by_field end short read later = (
      Section_after fields lines (BeginsLine_either (never_yet end) read.0),
      λ tail. Section_after_lines fields lines (Section_of_line (inr (read.1 (tail_of tail)))),
    )
    by_field end never read later = Section_after fields lines (BeginsLine_either end read)

    by_end : (r : PartRead LineEnd) → read_end text ≡ r → Reads Newline text r → (q : PartRead Field)
        → Reads FieldLine text q
        → ((f : Field) (rest : List ℕ) → FieldLine f text rest
        → Reads Section whole (read_fields n (fields ++ f ∷ []) rest))
        → Reads Section whole (by_read r (λ last rest. got (fields, last) rest) short
        (by_read q (λ f rest. read_fields n (fields ++ f ∷ []) rest) short never))
    by_end (got last rest) is read q field later =
        Section_done fields last whole text rest lines read
    by_end short is read q field later = (
      Section_after fields lines (BeginsLine_either read.0 (no_field text is)),
      λ tail. Section_after_lines fields lines (Section_of_line (inl (read.1 (tail_of tail)))),
    )
    by_end never is read q field later = by_field read q field later

-- ---- a head

then_front : {A B : Type 0} (G : Piece A) (H : Piece B) → IsFront G → IsFront H → IsFront (Then G H)
then_front G H g h ab text rest x =
    let first = g ab.0 text x.0 x.1 in let second = h ab.1 x.0 rest x.2 in (
      first.0 ++ second.0,
      first.1 ∙ ap (λ (l : List ℕ). first.0 ++ l) second.1
          ∙ sym (append_assoc first.0 second.0 rest),
    )

blank_front : IsFront Blank
blank_front ends text rest h = (print_blank ends, h.0)

rest_front : IsFront (Then Method (Then Target (Then Version Newline)))
rest_front = then_front Method _ (Word_front is_token_byte 32)
    (then_front Target _ Target_front (then_front Version Newline Version_front Newline_front))

-- the first line, and the empty ones before it, are a front of the bytes
pub Start_front : IsFront RequestStart
Start_front = then_front Blank _ blank_front rest_front

-- with nothing read, a version and the end of a line may come
some_end : Completes (Then Version Newline) []
some_end = Completes_first some_version some_newline

Reads-words : (text : List ℕ) → Reads (Then Method (Then Target (Then Version Newline))) text
    (then_read (read_method text) (λ b. then_read (read_target b)
    (λ c. then_read (read_version c) read_end)))
Reads-words text =
    Reads-then Method _ Method_deterministic (Word_front is_token_byte 32)
    (Completes_first some_target some_end) text (read_method text) _ (Reads-method text)
    (λ b. Reads-then Target _ Target_deterministic Target_front some_end b (read_target b) _
    (Reads-target b)
    (λ c. Reads-then Version Newline Version_deterministic Version_front some_newline c
    (read_version c) read_end (Reads-version c) Reads-end))

-- the first line behind the empty ones
start_by : (text : List ℕ) (r : PartRead (List LineEnd)) → ReadsBlank text r
    → Reads RequestStart text (then_read r (λ a. then_read (read_method a)
    (λ b. then_read (read_target b) (λ c. then_read (read_version c) read_end))))
start_by text (got ends rest) read =
    by_next (then_read (read_method rest) (λ b. then_read (read_target b)
    (λ c. then_read (read_version c) read_end))) (Reads-words rest)
  where
    by_next : (q : PartRead (List ℕ × (List ℕ × (ℕ × LineEnd))))
        → Reads (Then Method (Then Target (Then Version Newline))) rest q
        → Reads RequestStart text (by_read q (λ b behind. got (ends, b) behind) short never)
    by_next (got b behind) here = (rest, read, here)
    by_next short here = (
      Refutes_next (Then Method (Then Target (Then Version Newline))) Blank_deterministic {a = ends}
          read here.0,
      λ tail. Completes_next Blank_deterministic {a = ends} read
          (here.1 (tail_behind text (print_blank ends) rest read.0 tail)),
    )
    by_next never here = Refutes_next (Then Method (Then Target (Then Version Newline)))
        Blank_deterministic {a = ends} read here
start_by text short read = (
  Refutes_first Blank
      (Then Method (Then Target (Then Version Newline))) read.0,
  λ tail. line_blank (read.1 tail),
)
start_by text never read = Refutes_first Blank
    (Then Method (Then Target (Then Version Newline))) read

-- the first line, and the empty ones before it, are read as the grammar has them
pub Reads-start : (text : List ℕ) → Reads RequestStart text (read_start text)
unfolding read_start
Reads-start text = start_by text (read_blank [] text) (Reads-blank [] text text refl)

-- a head is read as the grammar has it
pub Reads-head : (text : List ℕ) → Reads (Then RequestStart Section) text (read_head text)
unfolding read_head
Reads-head text =
    Reads-then RequestStart Section RequestStart_deterministic Start_front some_section text
    (read_start text) (λ rest. read_fields (suc (length rest)) [] rest)
    (Reads-start text) (λ rest. Reads-fields (suc (length rest)) [] rest rest (All-nil _, refl)
    (omega arith))
