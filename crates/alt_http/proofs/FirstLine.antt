-- The reading of a head's first line agrees with httparse's grammar: method, target and version.
use Rattle.std.proofs.Common.{◌≡◌, ◌≢◌, ◌≤◌, ◌+◌, ℕ, List, [], ◌∷◌, ◌++◌, Bool, true, false, cond, refl, sym, ap, subst, ◌∙◌, arith, inl, inr, codes}
use Rattle.std.specs.Prelude.{◌==◌, ⊤}
use Rattle.std.specs.Str.{is_utf8}
use Rattle.std.proofs.lemmas.Str.{IsUtf8-from_is_utf8, is_utf8-from_IsUtf8}
use Rattle.std.proofs.lemmas.List.{append_cancel_left}
use Rattle.std.proofs.lemmas.List.Elements.{All-nil}
use Rattle.httparse.specs.Grammar.{is_token_byte, is_uri_byte, AllPass, print_version}
use Rattle.httparse.specs.Pieces.{Begins, Never, Completes, Bytes, Word, Method, Target, Version}
use Rattle.httparse.proofs.RunLemmas.{run_unstopped}
use Rattle.httparse.proofs.PieceLemmas.{Refutes_by, Never_intro, NotYet_intro, Word_deterministic, space_ends_token}
use Rattle.httparse.proofs.ReadLemmas.{Target_word, Version_bytes}
use Rattle.httparse.proofs.OpenLemmas.{some_bytes, some_target, letter_is_token, Version_after_bytes, Version_before_digit}
use Rattle.alt_http.specs.Reading.{PartRead, got, short, never, by_read, read_word, read_method, read_target, read_expected_bytes, read_minor, read_version}
use Rattle.alt_http.proofs.Fronts.{EndsInFeed}
use Rattle.alt_http.proofs.LinePieces.{IsTail, tail_behind, Reads, IsFront, Reads-word, Word_front, word_short}

-- the method is read as the grammar has it
pub Reads-method : (text : List ℕ) → Reads Method text (read_method text)
Reads-method text = Reads-word is_token_byte 32 65 space_ends_token letter_is_token [] text text
    (All-nil _) refl

-- bytes that end in a line feed don't end in a target
no_target_end : (text : List ℕ) → EndsInFeed text → AllPass is_uri_byte text → ⊥
no_target_end text ends all = run_unstopped is_uri_byte ends.line (10 ∷ [])
    (subst (AllPass is_uri_byte) ends.is all) refl

target_open : (text : List ℕ) → AllPass is_uri_byte text → IsTail text → Completes Target text
target_open text all (inl none) = subst (Completes Target) (sym none) some_target
target_open text all (inr ends) = absurd (no_target_end text ends all)

target_wrong : (text target rest : List ℕ) → Word is_uri_byte 32 target text rest
    → is_utf8 target ≡ false → Never (Begins Target) text
target_wrong text target rest read bad = Never_intro (λ more h.
    let same = (Word_deterministic is_uri_byte 32 refl).unique target h.0 (text ++ more)
    (rest ++ more) h.1 ((Word_deterministic is_uri_byte 32 refl).append target text rest more
    read) h.2.0 in
    let good : is_utf8 target ≡ true = ap is_utf8 same.0 ∙ is_utf8-from_IsUtf8 h.0 h.2.1 in cc)

-- a word that is a target where it is UTF-8
target_by : (text : List ℕ) (r : PartRead (List ℕ)) → (r ≡ short → AllPass is_uri_byte text)
    → Reads (Word is_uri_byte 32) text r
    → Reads Target text (by_read r (λ target rest. cond (is_utf8 target) (got target rest) never)
    short never)
target_by text (got target rest) all read = by_test (is_utf8 target) refl
  where
    by_test : (t : Bool) → is_utf8 target ≡ t → Reads Target text (cond t (got target rest) never)
    by_test true is = (read, IsUtf8-from_is_utf8 target is)
    by_test false is = target_wrong text target rest read is
target_by text short all read = (Target_word read.0, target_open text (all refl))
target_by text never all read = Target_word read

-- the target is read as the grammar has it
pub Reads-target : (text : List ℕ) → Reads Target text (read_target text)
Reads-target text =
    target_by text (read_word is_uri_byte 32 [] text)
    (word_short is_uri_byte 32 [] text (All-nil _))
    (Reads-word is_uri_byte 32 47 refl refl [] text text (All-nil _) refl)

-- the target is a front of the bytes
pub Target_front : IsFront Target
Target_front target text rest h = Word_front is_uri_byte 32 target text rest h.0

-- these bytes
bytes_more : (e b : ℕ) (wanted text : List ℕ) (r : PartRead ⊤) → b ≡ e → Reads (Bytes wanted) text r
    → Reads (Bytes (e ∷ wanted)) (b ∷ text) r
bytes_more e b wanted text (got t rest) same read = λ i. same i ∷ read i
bytes_more e b wanted text short same read = (
  Refutes_by (λ more h. (tt, h.1, cc)) read.0,
  λ tail. let x = read.1 (tail_behind (b ∷ text) (b ∷ []) text refl tail) in
      record { more = x.more; tree = tt; reads = λ rest i. same i ∷ x.reads rest i },
)
bytes_more e b wanted text never same read = Refutes_by (λ more h. (tt, h.1, cc)) read

-- bytes that are wanted are read as the grammar has them
pub Reads-bytes : (wanted text : List ℕ) → Reads (Bytes wanted) text (read_expected_bytes wanted text)
unfolding read_expected_bytes
Reads-bytes [] text = refl
Reads-bytes (e ∷ wanted) [] = (NotYet_intro (λ h. cc), λ tail. some_bytes (e ∷ wanted))
Reads-bytes (e ∷ wanted) (b ∷ text) = by_byte (b == e) refl
    (λ same. bytes_more e b wanted text (read_expected_bytes wanted text) same (Reads-bytes wanted text))
  where
    by_byte : (x : Bool) → (b == e) ≡ x → (b ≡ e
        → Reads (Bytes (e ∷ wanted)) (b ∷ text) (read_expected_bytes wanted text))
        → Reads (Bytes (e ∷ wanted)) (b ∷ text) (cond x (read_expected_bytes wanted text) never)
    by_byte true is later = let same : b ≡ e = grind arith in later same
    by_byte false is later = Never_intro (λ more h. let same : b ≡ e = cc in
        let other : b ≢ e = grind arith in other same)

-- the digit behind `HTTP/1.`
version_by : (text rest : List ℕ) → text ≡ codes "HTTP/1." ++ rest
    → Reads Version text (read_minor rest)
version_by text [] e = (
  NotYet_intro (λ h. let same = append_cancel_left (codes "HTTP/1.") [] ((48 + h.0) ∷ h.1)
      (sym e ∙ h.2.1) in cc),
  λ tail. Version_before_digit e refl,
)
version_by text (b ∷ rest) e = by_byte (b == 48) (b == 49) refl refl
  where
    other : (b == 48) ≡ false → (b == 49) ≡ false → (m : ℕ) → m ≤ 1 → b ≡ 48 + m → ⊥
    other x y m few same = let p : b ≢ 48 = grind arith in let q : b ≢ 49 = grind arith in
        omega arith

    by_byte : (x y : Bool) → (b == 48) ≡ x → (b == 49) ≡ y
        → Reads Version text (cond x (got 0 rest) (cond y (got 1 rest) never))
    by_byte true y is one = let same : b ≡ 48 = grind arith in
        (omega arith, e ∙ ap (λ (n : ℕ). codes "HTTP/1." ++ n ∷ rest) same)
    by_byte false true is one = let same : b ≡ 49 = grind arith in
        (omega arith, e ∙ ap (λ (n : ℕ). codes "HTTP/1." ++ n ∷ rest) same)
    by_byte false false is one = Never_intro (λ more h.
        let same = append_cancel_left (codes "HTTP/1.") (b ∷ (rest ++ more)) ((48 + h.0) ∷ h.1)
        (ap (λ (l : List ℕ). l ++ more) (sym e) ∙ h.2.1) in
        let first : b ≡ 48 + h.0 = cc in other is one h.0 h.2.0 first)

-- the version is read as the grammar has it
pub Reads-version : (text : List ℕ) → Reads Version text (read_version text)
Reads-version text = go (read_expected_bytes (codes "HTTP/1.") text) (Reads-bytes (codes "HTTP/1.") text)
  where
    go : (r : PartRead ⊤) → Reads (Bytes (codes "HTTP/1.")) text r
        → Reads Version text (by_read r (λ _ rest. read_minor rest) short never)
    go (got t rest) read = version_by text rest read
    go short read = (Version_bytes read.0, λ tail. Version_after_bytes (read.1 tail))
    go never read = Version_bytes read

-- the version is a front of the bytes
pub Version_front : IsFront Version
Version_front minor text rest h = (print_version minor, h.1)
