-- A file is a gated log of one list at most, and none where it is damaged.
use Rattle.std.proofs.Common.{◌≡◌, ◌≢◌, ◌<◌, ◌+◌, ◌^◌, ⊎_elim, ℕ, List, [], ◌∷◌, ◌++◌, length, take, drop, get_or, Option, Some, Result, Ok, Err, IfErr, refl, sym, ◌∙◌, ap, subst, arith, append_assoc, length-append}
use Rattle.std.proofs.lemmas.List.{take_at, drop_at}
use Rattle.std.proofs.lemmas.Nat.{from_be_bytes-to_be_bytes_8}
use Rattle.std.specs.Int.{w64, to_be_bytes, from_be_bytes}
use Rattle.std.specs.List.{AllByRecursion}
use Rattle.alt_gatelog.specs.Log.{header, framed, behind_gates, log_front, IsLog, IsShortEntry, IsCutEntry, LogIsDamagedAt, ExplainsLog}
use Rattle.alt_gatelog.specs.Log.LogIsDamagedAt.{no_header, ends_inside}
use Rattle.alt_gatelog.specs.Parse.{HasNoLog, HasNoHeader}
use Rattle.alt_gatelog.specs.declared.fault.LogFault.{LogFault}
use Rattle.alt_gatelog.specs.declared.fault.LogFault.TheVariants.{Damaged, Failed, NoMemory}
use Rattle.alt_gatelog.specs.declared.form.Form.{Form}
use Rattle.alt_gatelog.specs.declared.form.Form.TheVariants.{One, Two}
use Rattle.alt_gatelog.proofs.Append.{length-framed, length-header}

-- a framed entry is its length in eight bytes, and then itself
framed-front : (entry rest : List ℕ) → take 8 (framed entry ++ rest)
    ≡ to_be_bytes w64 (length entry)
unfolding framed
framed-front entry rest = ap (take 8) (append_assoc (to_be_bytes w64 (length entry)) entry rest)
    ∙ take_at (to_be_bytes w64 (length entry)) (entry ++ rest) 8 refl

framed-back : (entry rest : List ℕ) → drop 8 (framed entry ++ rest) ≡ entry ++ rest
unfolding framed
framed-back entry rest = ap (drop 8) (append_assoc (to_be_bytes w64 (length entry)) entry rest)
    ∙ drop_at (to_be_bytes w64 (length entry)) (entry ++ rest) 8 refl

-- its length can be read off
length_read : (entry rest : List ℕ) → length entry < 2 ^ 64
    → from_be_bytes w64 (take 8 (framed entry ++ rest)) ≡ length entry
length_read entry rest short = ap (from_be_bytes w64) (framed-front entry rest)
    ∙ from_be_bytes-to_be_bytes_8 (length entry) short

-- two framed entries that begin alike have one length
same_length : (a b rest more : List ℕ) → length a < 2 ^ 64 → length b < 2 ^ 64
    → framed a ++ rest ≡ framed b ++ more → length a ≡ length b
same_length a b rest more short_a short_b same =
    sym (length_read a rest short_a) ∙ ap (λ (l : List ℕ). from_be_bytes w64 (take 8 l)) same
    ∙ length_read b more short_b

-- so two entries that begin alike are one
same_entry : (a b rest more : List ℕ) → length a < 2 ^ 64 → length b < 2 ^ 64
    → framed a ++ rest ≡ framed b ++ more → (a ≡ b) × (rest ≡ more)
same_entry a b rest more short_a short_b same =
    let size : length a ≡ length b = same_length a b rest more short_a short_b same in
    let bodies : a ++ rest ≡ b ++ more = sym (framed-back a rest) ∙ ap (drop 8) same
    ∙ framed-back b more in (
      sym (take_at a rest (length a) refl) ∙ ap (take (length a)) bodies
          ∙ take_at b more (length a) (sym size),
      sym (drop_at a rest (length a) refl) ∙ ap (drop (length a)) bodies
          ∙ drop_at b more (length a) (sym size),
    )

-- no whole entry begins here
abbrev NoEntry : List ℕ → Type 0
NoEntry bytes = (entry rest : List ℕ) → length entry < 2 ^ 64 → bytes ≡ (1 ∷ framed entry) ++ rest
    → ⊥

-- behind a closed gate there is no entry
closed_none : (gate : ℕ) (rest : List ℕ) → gate ≢ 1 → NoEntry (gate ∷ rest)
closed_none gate rest closed entry more short same =
    closed (let first : gate ∷ rest ≡ 1 ∷ (framed entry ++ more) = same in cc first)

-- nor where the bytes end inside of one
cut_none : (bytes : List ℕ) → IsCutEntry bytes → NoEntry bytes
cut_none [] cut entry more short same = let none : [] ≡ 1 ∷ (framed entry ++ more) = same in cc none
cut_none (gate ∷ rest) cut entry more short same =
    let whole : gate ∷ rest ≡ 1 ∷ (framed entry ++ more) = same in
    let rest_is : rest ≡ framed entry ++ more = cc whole in
    let size : length rest ≡ 8 + length entry + length more =
    omega (arith, ap length rest_is, length-append (framed entry) more, length-framed entry) in
    ⊎_elim
    (λ (few : length rest < 8). omega (arith, few, size))
    (λ (fewer : length rest < 8 + from_be_bytes w64 (take 8 rest)).
    let number : from_be_bytes w64 (take 8 rest) ≡ length entry =
    ap (λ (l : List ℕ). from_be_bytes w64 (take 8 l)) rest_is ∙ length_read entry more short in
    omega (arith, fewer, size, number))
    cut.1

-- two lists of entries with no entry behind them that begin alike are one
same_entries : (a b : List (List ℕ)) (rest more : List ℕ) → AllByRecursion IsShortEntry a
    → AllByRecursion IsShortEntry b → NoEntry rest → NoEntry more
    → behind_gates a ++ rest ≡ behind_gates b ++ more → (a ≡ b) × (rest ≡ more)
same_entries [] [] rest more short_a short_b none_a none_b same = (refl, same)
same_entries [] (y ∷ b) rest more short_a short_b none_a none_b same =
    absurd (none_a y (behind_gates b ++ more) short_b.0
    (same ∙ append_assoc (1 ∷ framed y) (behind_gates b) more))
same_entries (x ∷ a) [] rest more short_a short_b none_a none_b same =
    absurd (none_b x (behind_gates a ++ rest) short_a.0
    (sym same ∙ append_assoc (1 ∷ framed x) (behind_gates a) rest))
same_entries (x ∷ a) (y ∷ b) rest more short_a short_b none_a none_b same =
    let lists : 1 ∷ (framed x ++ (behind_gates a ++ rest))
    ≡ 1 ∷ (framed y ++ (behind_gates b ++ more)) =
    sym (append_assoc (1 ∷ framed x) (behind_gates a) rest) ∙ same
    ∙ append_assoc (1 ∷ framed y) (behind_gates b) more in
    let tails : framed x ++ (behind_gates a ++ rest) ≡ framed y ++ (behind_gates b ++ more) =
    cc lists in
    let first = same_entry x y (behind_gates a ++ rest)
    (behind_gates b ++ more) short_a.0 short_b.0 tails in
    let others = same_entries a b rest more short_a.1 short_b.1 none_a none_b first.1 in
    ((λ i. first.0 i ∷ others.0 i), others.1)

-- what stands behind the header
behind_header : (form : Form) (entries : List (List ℕ)) (rest : List ℕ)
    → drop 8 (log_front form entries ++ rest) ≡ behind_gates entries ++ rest
behind_header form entries rest =
    ap (drop 8) (append_assoc (header form) (behind_gates entries) rest)
    ∙ drop_at (header form) (behind_gates entries ++ rest) 8 (length-header form)

-- two logs that begin alike have one list
same_fronts : (form : Form) (a b : List (List ℕ)) (rest more : List ℕ)
    → AllByRecursion IsShortEntry a → AllByRecursion IsShortEntry b → NoEntry rest → NoEntry more
    → log_front form a ++ rest ≡ log_front form b ++ more → (a ≡ b) × (rest ≡ more)
same_fronts form a b rest more short_a short_b none_a none_b same =
    same_entries a b rest more short_a short_b none_a none_b
    (sym (behind_header form a rest) ∙ ap (drop 8) same ∙ behind_header form b more)

-- a file is a gated log of one list
pub one_list : (form : Form) (file : Option (List ℕ)) (a b : List (List ℕ))
    → IsLog form a file → IsLog form b file → a ≡ b
one_list form file a b first second =
    let bytes : Some (log_front form a ++ first.gate ∷ first.rest)
    ≡ Some (log_front form b ++ second.gate ∷ second.rest) = sym first.is ∙ second.is in
    (same_fronts form a b (first.gate ∷ first.rest)
    (second.gate ∷ second.rest) first.lengths second.lengths
    (closed_none first.gate first.rest first.closed)
    (closed_none second.gate second.rest second.closed)
    (let inner : log_front form a ++ first.gate ∷ first.rest
    ≡ log_front form b ++ second.gate ∷ second.rest = cc bytes in inner)).0

-- a log begins with the header
header_there : (form : Form) (entries : List (List ℕ)) (rest : List ℕ)
    → take 8 (log_front form entries ++ rest) ≡ header form
header_there form entries rest =
    ap (take 8) (append_assoc (header form) (behind_gates entries) rest)
    ∙ take_at (header form) (behind_gates entries ++ rest) 8 (length-header form)

-- the last bytes of the headers differ
two_ends : header One ≡ header Two → ⊥
unfolding header
two_ends same =
    let last : 49 ≡ 50 = ap (λ (l : List ℕ). get_or l 7 0) same in omega (arith, last)

-- two forms have two headers
header_form : (form other : Form) → header form ≡ header other → form ≡ other
unfolding header
header_form One One same = refl
header_form One Two same = absurd (two_ends same)
header_form Two One same = absurd (two_ends (sym same))
header_form Two Two same = refl

-- so logs that begin alike are of one form
front_form : (form other : Form) (a b : List (List ℕ)) (rest more : List ℕ)
    → log_front form a ++ rest ≡ log_front other b ++ more → form ≡ other
front_form form other a b rest more same = header_form form other
    (sym (header_there form a rest) ∙ ap (take 8) same ∙ header_there other b more)

-- and a file is a log of one form
pub one_form : (form other : Form) (file : Option (List ℕ)) (a b : List (List ℕ))
    → IsLog form a file → IsLog other b file → form ≡ other
one_form form other file a b first second =
    let bytes : Some (log_front form a ++ first.gate ∷ first.rest)
    ≡ Some (log_front other b ++ second.gate ∷ second.rest) = sym first.is ∙ second.is in
    front_form form other a b (first.gate ∷ first.rest) (second.gate ∷ second.rest)
    (let inner : log_front form a ++ first.gate ∷ first.rest
    ≡ log_front other b ++ second.gate ∷ second.rest = cc bytes in inner)

-- no closed gate is an open one
log_cut : (gate : ℕ) (rest : List ℕ) → gate ≢ 1 → IsCutEntry (gate ∷ rest) → ⊥
log_cut gate rest closed cut = closed cut.0

-- where bytes end inside of an entry of a log of one form they are no log of it
cut_no_log : (form : Form) (bytes : List ℕ) (entries read : List (List ℕ))
    (gate : ℕ) (behind rest : List ℕ) → gate ≢ 1 → AllByRecursion IsShortEntry entries
    → AllByRecursion IsShortEntry read → bytes ≡ log_front form entries ++ gate ∷ behind
    → bytes ≡ log_front form read ++ rest → IsCutEntry rest → ⊥
cut_no_log form bytes entries read gate behind rest closed short lengths whole is cut =
    let same = same_fronts form entries read (gate ∷ behind) rest short lengths
    (closed_none gate behind closed) (cut_none rest cut) (sym whole ∙ is) in
    log_cut gate behind closed (subst IsCutEntry (sym same.1) cut)

-- damaged bytes are none
pub damaged_no_log : (at : ℕ) (bytes : List ℕ) → LogIsDamagedAt at bytes → (form : Form)
    (entries : List (List ℕ)) → IsLog form entries (Some bytes) → ⊥
damaged_no_log at bytes (no_header is none) form entries log =
    let whole : Some bytes ≡ Some (log_front form entries ++ log.gate ∷ log.rest) = log.is in
    let inner : bytes ≡ log_front form entries ++ log.gate ∷ log.rest = cc whole in
    none form (ap (take 8) inner ∙ header_there form entries (log.gate ∷ log.rest))
damaged_no_log at bytes (ends_inside other read rest is lengths place cut) form entries log =
    let whole : Some bytes ≡ Some (log_front form entries ++ log.gate ∷ log.rest) = log.is in
    let inner : bytes ≡ log_front form entries ++ log.gate ∷ log.rest = cc whole in
    let same : form ≡ other = front_form form other entries read (log.gate ∷ log.rest) rest
    (sym inner ∙ is) in
    cut_no_log form bytes entries read log.gate log.rest rest log.closed log.lengths lengths inner
    (subst (λ (x : Form). bytes ≡ log_front x read ++ rest) (sym same) is) cut

-- so a fault that names damage says that there is no log
pub explains_none : (f : ℕ) (bytes : List ℕ) (fault : LogFault) → ExplainsLog f bytes fault
    → HasNoLog bytes fault
explains_none f bytes (Damaged file at) explained = damaged_no_log at bytes explained.1
explains_none f bytes Failed explained = tt
explains_none f bytes NoMemory explained = tt

-- and so does one that misses the header
pub no_header_none : (f : ℕ) (bytes : List ℕ) (fault : LogFault) → HasNoHeader f bytes fault
    → HasNoLog bytes fault
no_header_none f bytes (Damaged file at) missing =
    damaged_no_log at bytes (no_header missing.1 missing.2)
no_header_none f bytes Failed missing = tt
no_header_none f bytes NoMemory missing = tt

-- whatever follows from a fault
pub if_err : {T E : Type 0} (r : Result T E) (P Q : E → Type 0) → ((e : E) → P e → Q e) → IfErr r P
    → IfErr r Q
if_err (Ok x) P Q leads err = tt
if_err (Err e) P Q leads err = leads e err
