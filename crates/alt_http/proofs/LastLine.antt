-- The last line of what was read so far: what fields up to it are, and whether it is blank, by its last bytes.
use Rattle.std.proofs.Common.{◌≡◌, ◌≢◌, ◌<◌, ◌≤◌, ◌+◌, ◌-◌, ℕ, List, [], ◌∷◌, ◌++◌, length, get_or, true, false, refl, sym, ap, subst, ◌∙◌, append_assoc, append-nil, arith, codes, flat_map}
use Rattle.std.specs.Prelude.{All}
use Rattle.std.proofs.lemmas.List.Elements.{All-nil, All-cons, All-tail, All-head}
use Rattle.std.proofs.lemmas.List.{length-append, get_or-append-add}
use Rattle.httparse.specs.Grammar.{is_value_byte, AllPass, LineEnd, crlf, lf, print_end, print_blank, Field, print_field, IsField}
use Rattle.httparse.specs.Pieces.{is_newline, FieldLines}
use Rattle.httparse.proofs.GrammarLemmas.{cons-append}
use Rattle.std.proofs.lemmas.Bool.Decides.{nat_tests}
use Rattle.alt_http.specs.SoFar.{IsBlank, IsWithinFields, LastLineIsFilled}
use Rattle.alt_http.proofs.Readers.{Start_front}

-- ---- the last line of what was read

filled_behind : (p bytes : List ℕ) → LastLineIsFilled bytes → LastLineIsFilled (p ++ bytes)
filled_behind p bytes f = record {
  front = p ++ f.front;
  byte = f.byte;
  end = f.end;
  is = ap (λ (l : List ℕ). p ++ l) f.is ∙ sym
      (append_assoc p (f.front ++ f.byte ∷ []) (print_end f.end))
      ∙ ap (λ (l : List ℕ). l ++ print_end f.end) (sym (append_assoc p f.front (f.byte ∷ [])));
  other = f.other;
}

-- a line of a name and a value
raw_filled : (name raw : List ℕ) (end : LineEnd) → AllPass is_value_byte raw
    → LastLineIsFilled ((name ++ 58 ∷ raw) ++ print_end end)
raw_filled name [] end all = record { front = name; byte = 58; end = end; is = refl; other = refl }
raw_filled name (b ∷ raw) end all =
    subst LastLineIsFilled (ap (λ (l : List ℕ). l ++ print_end end) (append_assoc name (58 ∷ []) (b ∷ raw)))
    (last_filled (name ++ 58 ∷ []) b raw end all)
  where
    value_other : (n : ℕ) → is_value_byte n ≡ true → is_newline n ≡ false
    value_other n passes = grind (arith, nat_tests)

    last_filled : (front : List ℕ) (c : ℕ) (rest : List ℕ) (e : LineEnd)
        → AllPass is_value_byte (c ∷ rest) → LastLineIsFilled ((front ++ c ∷ rest) ++ print_end e)
    last_filled front c [] e all' = record {
      front = front;
      byte = c;
      end = e;
      is = refl;
      other =
          value_other c (All-head (λ v. is_value_byte v ≡ true) c [] all');
    }
    last_filled front c (d ∷ rest) e all' =
        subst LastLineIsFilled (ap (λ (l : List ℕ). l ++ print_end e)
        (append_assoc front (c ∷ []) (d ∷ rest)))
        (last_filled (front ++ c ∷ []) d rest e
        (All-tail (λ v. is_value_byte v ≡ true) c (d ∷ rest) all'))

fields_filled : (f : Field) (fields : List Field) → All IsField (f ∷ fields)
    → LastLineIsFilled (flat_map print_field (f ∷ fields))
fields_filled f [] all = subst LastLineIsFilled (sym (append-nil (print_field f)))
    (raw_filled f.name f.raw f.end (All-head IsField f [] all).raw)
fields_filled f (g ∷ fields) all = filled_behind (print_field f) (flat_map print_field (g ∷ fields))
    (fields_filled g fields (All-tail IsField f (g ∷ fields) all))

-- the last line of the first line and its fields isn't empty
pub within_filled : (bytes : List ℕ) → IsWithinFields bytes → LastLineIsFilled bytes
within_filled bytes within = by_fields within.fields within.lines
  where
    cut : (p : List ℕ) × (bytes ≡ p ++ within.middle)
    cut = Start_front within.start bytes within.middle within.reads

    digit : (m : ℕ) → m ≤ 1 → is_newline (48 + m) ≡ false
    digit m few = grind (arith, nat_tests)

    by_fields : (fields : List Field) → FieldLines fields within.middle [] → LastLineIsFilled bytes
    by_fields (f ∷ fields) lines =
        subst LastLineIsFilled (sym (cut.1 ∙ ap (λ (l : List ℕ). cut.0 ++ l)
        (lines.1 ∙ append-nil (flat_map print_field (f ∷ fields)))))
        (filled_behind cut.0 (flat_map print_field (f ∷ fields)) (fields_filled f fields lines.0))
    by_fields [] lines =
        let x = within.reads in
        let version = x.2.2.2.1 in
        let newline = x.2.2.2.2 in
        let last : x.2.2.2.0 ≡ print_end within.start.1.1.1.1 =
        newline ∙ ap (λ (l : List ℕ). print_end within.start.1.1.1.1 ++ l) lines.1
        ∙ append-nil (print_end within.start.1.1.1.1) in
        let blank = x.1.0 in
        let method = x.2.1.2 in
        let target = x.2.2.1.0.2 in
        let version_is = version.1 in
        let front = print_blank within.start.0
        ++ (within.start.1.0 ++ 32 ∷ (within.start.1.1.0 ++ 32 ∷ codes "HTTP/1.")) in
        record {
          front = front;
          byte = 48 + within.start.1.1.1.0;
          end = within.start.1.1.1.1;
          is = simp (append_assoc, cons-append) (cc (blank, method, target, version_is, last));
          other = digit within.start.1.1.1.0 version.0;
        }

-- ---- the test of the last line, by its last bytes

-- where the last byte stands that isn't of the line's end
pub record FilledAt (bytes : List ℕ) : Type 0 where
  pub some : 2 ≤ length bytes
  pub lone : get_or bytes (length bytes - 2) 0 ≢ 13
      → is_newline (get_or bytes (length bytes - 2) 0) ≡ false
  pub pair : get_or bytes (length bytes - 2) 0 ≡ 13
      → (3 ≤ length bytes) × (is_newline (get_or bytes (length bytes - 3) 0) ≡ false)

-- a line with a byte before its end is filled
filled_at : (front : List ℕ) (b : ℕ) (end : LineEnd) → is_newline b ≡ false
    → FilledAt ((front ++ b ∷ []) ++ print_end end)
filled_at front b lf other =
    let n = length-append (front ++ b ∷ []) (10 ∷ []) in
    let m = length-append front (b ∷ []) in
    let place : length ((front ++ b ∷ []) ++ 10 ∷ []) - 2 ≡ length front + 0 =
    omega (arith, n, m) in
    let here : get_or ((front ++ b ∷ []) ++ 10 ∷ []) (length ((front ++ b ∷ []) ++ 10 ∷ []) - 2) 0
    ≡ b =
    ap (λ (k : ℕ). get_or ((front ++ b ∷ []) ++ 10 ∷ []) k 0) place
    ∙ ap (λ (l : List ℕ). get_or l (length front + 0) 0) (append_assoc front (b ∷ []) (10 ∷ []))
    ∙ get_or-append-add front (b ∷ 10 ∷ []) 0 0 in record {
      some = omega (arith, n, m);
      lone = λ _. subst (λ (k : ℕ). is_newline k ≡ false) (sym here) other;
      pair = λ cr. let same : b ≡ 13 = sym here ∙ cr in
          let no_cr : is_newline 13 ≡ false = subst (λ (k : ℕ). is_newline k ≡ false) same other in
          cc;
    }
filled_at front b crlf other =
    let n = length-append (front ++ b ∷ []) (13 ∷ 10 ∷ []) in
    let m = length-append front (b ∷ []) in
    let second : length ((front ++ b ∷ []) ++ 13 ∷ 10 ∷ []) - 2 ≡ length front + 1 =
    omega (arith, n, m) in
    let first : length ((front ++ b ∷ []) ++ 13 ∷ 10 ∷ []) - 3 ≡ length front + 0 =
    omega (arith, n, m) in
    let cr : get_or ((front ++ b ∷ []) ++ 13 ∷ 10 ∷ [])
    (length ((front ++ b ∷ []) ++ 13 ∷ 10 ∷ []) - 2) 0 ≡ 13 =
    ap (λ (k : ℕ). get_or ((front ++ b ∷ []) ++ 13 ∷ 10 ∷ []) k 0) second
    ∙ ap (λ (l : List ℕ). get_or l (length front + 1) 0)
    (append_assoc front (b ∷ []) (13 ∷ 10 ∷ []))
    ∙ get_or-append-add front (b ∷ 13 ∷ 10 ∷ []) 1 0 in
    let here : get_or ((front ++ b ∷ []) ++ 13 ∷ 10 ∷ [])
    (length ((front ++ b ∷ []) ++ 13 ∷ 10 ∷ []) - 3) 0 ≡ b =
    ap (λ (k : ℕ). get_or ((front ++ b ∷ []) ++ 13 ∷ 10 ∷ []) k 0) first
    ∙ ap (λ (l : List ℕ). get_or l (length front + 0) 0)
    (append_assoc front (b ∷ []) (13 ∷ 10 ∷ []))
    ∙ get_or-append-add front (b ∷ 13 ∷ 10 ∷ []) 0 0 in record {
      some = omega (arith, n, m);
      lone = λ not_cr. absurd (not_cr cr);
      pair = λ _. (omega (arith, n, m), subst (λ (k : ℕ). is_newline k ≡ false) (sym here) other);
    }

-- bytes that are filled end so
pub filled_bytes : (bytes : List ℕ) → LastLineIsFilled bytes → FilledAt bytes
filled_bytes bytes f = subst FilledAt (sym f.is) (filled_at f.front f.byte f.end f.other)

-- each byte of empty lines is one of their ends
pub blank_bytes : (es : List LineEnd) → All (λ b. is_newline b ≡ true) (print_blank es)
blank_bytes [] = All-nil (λ b. is_newline b ≡ true)
blank_bytes (crlf ∷ es) = All-cons (λ b. is_newline b ≡ true) 13 (10 ∷ print_blank es) refl
    (All-cons (λ b. is_newline b ≡ true) 10 (print_blank es) refl (blank_bytes es))
blank_bytes (lf ∷ es) = All-cons (λ b. is_newline b ≡ true) 10 (print_blank es) refl
    (blank_bytes es)

-- each byte of empty lines is one of a line's end
pub blank_at : (bytes : List ℕ) (k : ℕ) → IsBlank bytes → k < length bytes
    → is_newline (get_or bytes k 0) ≡ true
blank_at bytes k blank below =
    let all : All (λ b. is_newline b ≡ true) bytes =
    subst (All (λ b. is_newline b ≡ true)) (sym blank.is) (blank_bytes blank.ends) in
    all k 0 below
