-- What is answered for bytes: the refusals of a head in their order, else what it says of the
-- request (docs/formats/http.md).
use Rattle.std.specs.Prelude.{◌≡◌, ◌≤◌, ◌<◌, ℕ, Bool, true, not, ◌||◌, ◌==◌, List, [], ◌∷◌, ◌++◌, length, map, Option, None, Some, if◌then◌else◌, nat_lt, codes}
use Rattle.std.specs.List.{list_any}
use Rattle.std.specs.Str.{bytes_eq}
use Rattle.std.specs.Str.Parse.{digits_value}
use Rattle.httparse.specs.Grammar.{RequestHead, print_request}
use Rattle.httparse.specs.Spans.{name_and_value}
use Rattle.alt_http.specs.Fields.{Header, is_word, values_named, first_field_value}
use Rattle.alt_http.specs.Heads.{most_of_head, HasHead, NeverBecomesHead, CanGoOn}
use Rattle.alt_http.specs.Lengths.{is_other_length}
use Rattle.alt_http.specs.declared.outcome.Scan.{Scan}
use Rattle.alt_http.specs.declared.outcome.Scan.TheVariants.{More, Refused, Head}

-- the parts of a head that count: how many bytes it has, the words of its first line, and its
-- fields
pub record Parts : Type 0 where
  pub size : ℕ
  pub method : List ℕ
  pub target : List ℕ
  pub minor : ℕ
  pub fields : List Header

-- those of a head of the grammar
abbrev pub parts_of : RequestHead → Parts
parts_of h = record {
  size = length (print_request h);
  method = h.method;
  target = h.target;
  minor = h.minor;
  fields = map name_and_value h.fields;
}

-- some field with this name has a value that passes
abbrev pub has_value : List ℕ → (List ℕ → Bool) → Parts → Bool
has_value name passes p = list_any passes (values_named name p.fields)

-- the longest body that is taken: 16 MB
abbrev pub most_of_body : ℕ
most_of_body = 16777216

-- The refusals by the lengths that the fields give: none is there, one is no number or another
-- than the first, or it is over the limit.
abbrev pub length_refusal : List (List ℕ) → Option ℕ
length_refusal [] = Some 7
length_refusal (v ∷ vs) =
    if list_any (is_other_length v) (v ∷ vs) then Some 8
    else (if nat_lt most_of_body (digits_value 10 v) then Some 9 else None)

-- the first refusal of a head that applies
abbrev pub head_refusal : Parts → Option ℕ
head_refusal p =
    if has_value (codes "transfer-encoding") (λ v. true) p then Some 3
    else (if not (bytes_eq p.method (codes "POST")) then Some 4
    else (if not (bytes_eq p.target (codes "/")) then Some 5
    else (if has_value (codes "content-encoding") (λ v. not (is_word (codes "identity") v)) p
    then Some 6
    else length_refusal (values_named (codes "content-length") p.fields))))

-- the length of the body, where the head isn't refused
abbrev pub body_length : List (List ℕ) → ℕ
body_length [] = 0
body_length (v ∷ vs) = digits_value 10 v

-- the reply is to say that the connection closes
abbrev pub is_closing : Parts → Bool
is_closing p = p.minor == 0 || has_value (codes "connection") (is_word (codes "close")) p

-- a head that isn't refused, with a body of this length
abbrev pub taken_head_of : ℕ → Parts → Scan
taken_head_of length p =
    Head p.size (first_field_value (values_named (codes "x-amz-target") p.fields)) length
    (has_value (codes "expect") (is_word (codes "100-continue")) p) (is_closing p)

-- what is answered for a head that is refused so, or isn't
abbrev pub answer_to_head : Parts → Option ℕ → Scan
answer_to_head p (Some n) = Refused n
answer_to_head p None = taken_head_of (body_length (values_named (codes "content-length") p.fields)) p

-- what is answered for a head
abbrev pub judged_head : Parts → Scan
judged_head p = answer_to_head p (head_refusal p)

-- What is answered for bytes: by the head at their front; else 1 where they are bad, 2 where a
-- head would have too many bytes, and else that more are needed.
pub data IsScan (bytes : List ℕ) (scan : Scan) : Type 0 where
  by_head : (h : RequestHead) → HasHead bytes h → scan ≡ judged_head (parts_of h)
      → IsScan bytes scan
  by_bad : NeverBecomesHead bytes → scan ≡ Refused 1 → IsScan bytes scan
  by_size : CanGoOn bytes → most_of_head ≤ length bytes → scan ≡ Refused 2
      → IsScan bytes scan
  by_more : CanGoOn bytes → length bytes < most_of_head → scan ≡ More → IsScan bytes scan

-- a refusal and a head stay the answer, whatever bytes come behind
abbrev pub ScanStays : List ℕ → Scan → Type 0
ScanStays bytes More = Unit {0}
ScanStays bytes (Refused n) = (more : List ℕ) → IsScan (bytes ++ more) (Refused n)
ScanStays bytes (Head taken target body expect close) =
    (more : List ℕ) → IsScan (bytes ++ more) (Head taken target body expect close)

-- a head has a byte or more, and all of them are there
abbrev pub LiesIn : List ℕ → Scan → Type 0
LiesIn bytes More = Unit {0}
LiesIn bytes (Refused n) = Unit {0}
LiesIn bytes (Head taken target body expect close) = (0 < taken) × (taken ≤ length bytes)
