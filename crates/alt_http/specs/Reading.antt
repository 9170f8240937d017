-- A head read from the front of bytes, byte by byte. Each part is read, or the bytes end before
-- it does, or it never will be; what the parts are says httparse's grammar, with which this
-- reading is proved to agree.
use Rattle.std.specs.Prelude.{ℕ, zero, suc, Bool, ◌&&◌, ◌||◌, ◌==◌, List, [], ◌∷◌, ◌++◌, length, if◌then◌else◌, nat_lt, codes, ⊤}
use Rattle.std.specs.Str.{is_utf8}
use Rattle.httparse.specs.Grammar.{is_token_byte, is_uri_byte, is_value_byte, LineEnd, crlf, lf, Field, RequestHead}
use Rattle.alt_http.specs.Heads.{window, most_of_head}
use Rattle.alt_http.specs.Judged.{parts_of, judged_head}
use Rattle.alt_http.specs.declared.outcome.Scan.{Scan}
use Rattle.alt_http.specs.declared.outcome.Scan.TheVariants.{More, Refused}

-- a part and the bytes behind it; or the bytes are too short for it; or it can't stand there,
-- whatever follows
pub data PartRead (A : Type 0) : Type 0 where
  got : A → List ℕ → PartRead A
  short : PartRead A
  never : PartRead A

-- one thing by what was read
abbrev pub by_read : {A B : Type 0} → PartRead A → (A → List ℕ → B) → B → B → B
by_read (got a rest) f if_short if_never = f a rest
by_read short f if_short if_never = if_short
by_read never f if_short if_never = if_never

-- go on with what was read and what is behind it
abbrev pub read_and_then : {A B : Type 0} → PartRead A → (A → List ℕ → PartRead B) → PartRead B
read_and_then r f = by_read r f short never

-- one part and then another
abbrev pub then_read : {A B : Type 0} → PartRead A → (List ℕ → PartRead B) → PartRead (A × B)
then_read r f = read_and_then r (λ a rest. read_and_then (f rest) (λ b behind. got (a, b) behind))

-- CR LF, or LF alone
abbrev pub read_end : List ℕ → PartRead LineEnd
read_end [] = short
read_end (b ∷ []) = if b == 10 then got lf [] else (if b == 13 then short else never)
read_end (b ∷ c ∷ bytes) =
    if b == 10 then got lf (c ∷ bytes)
    else (if (b == 13) && (c == 10) then got crlf bytes else never)

-- the empty lines before the first line, behind those that were read
unfoldable pub read_blank : List LineEnd → List ℕ → PartRead (List LineEnd)
read_blank ends [] = short
read_blank ends (b ∷ []) =
    if b == 10 then short else (if b == 13 then short else got ends (b ∷ []))
read_blank ends (b ∷ c ∷ bytes) =
    if b == 10 then read_blank (ends ++ lf ∷ []) (c ∷ bytes)
    else (if b == 13 then (if c == 10 then read_blank (ends ++ crlf ∷ []) bytes else never)
    else got ends (b ∷ c ∷ bytes))

-- one or more bytes that pass, behind those that were read, and the byte that stops them
unfoldable pub read_word : (ℕ → Bool) → ℕ → List ℕ → List ℕ → PartRead (List ℕ)
read_word passes stop word [] = short
read_word passes stop word (b ∷ bytes) =
    if passes b then read_word passes stop (word ++ b ∷ []) bytes
    else (if (b == stop) && nat_lt 0 (length word) then got word bytes else never)

-- a method, and the space behind it
abbrev pub read_method : List ℕ → PartRead (List ℕ)
read_method bytes = read_word is_token_byte 32 [] bytes

-- a target, which is UTF-8, and the space behind it
abbrev pub read_target : List ℕ → PartRead (List ℕ)
read_target bytes =
    read_and_then (read_word is_uri_byte 32 [] bytes)
    (λ target rest. if is_utf8 target then got target rest else never)

-- these bytes
unfoldable pub read_expected_bytes : List ℕ → List ℕ → PartRead ⊤
read_expected_bytes [] bytes = got tt bytes
read_expected_bytes (e ∷ wanted) [] = short
read_expected_bytes (e ∷ wanted) (b ∷ bytes) = if b == e then read_expected_bytes wanted bytes else never

-- the digit of the version
abbrev pub read_minor : List ℕ → PartRead ℕ
read_minor [] = short
read_minor (b ∷ bytes) = if b == 48 then got 0 bytes else (if b == 49 then got 1 bytes else never)

-- HTTP/1.0 or HTTP/1.1
abbrev pub read_version : List ℕ → PartRead ℕ
read_version bytes = read_and_then (read_expected_bytes (codes "HTTP/1.") bytes) (λ _ rest. read_minor rest)

-- the bytes of a value, behind those that were read, and the end of its line
unfoldable pub read_value : List ℕ → List ℕ → PartRead (List ℕ × LineEnd)
read_value value [] = short
read_value value (b ∷ bytes) =
    if is_value_byte b then read_value (value ++ b ∷ []) bytes
    else read_and_then (read_end (b ∷ bytes)) (λ end rest. got (value, end) rest)

-- a line of a name, a colon and a value
abbrev pub read_header_field : List ℕ → PartRead Field
read_header_field bytes =
    read_and_then (then_read (read_word is_token_byte 58 [] bytes) (read_value []))
    (λ f rest. got (record { name = f.0; raw = f.1.0; end = f.1.1 }) rest)

-- the lines of fields up to the empty line, behind those that were read; there are fewer than so
-- many bytes
unfoldable pub read_fields : ℕ → List Field → List ℕ → PartRead (List Field × LineEnd)
read_fields zero fields bytes = never
read_fields (suc n) fields bytes =
    by_read (read_end bytes) (λ last rest. got (fields, last) rest) short
    (by_read (read_header_field bytes) (λ f rest. read_fields n (fields ++ f ∷ []) rest) short never)

-- the empty lines, the first line and the fields
abbrev pub Lines : Type 0
Lines = (List LineEnd × (List ℕ × (List ℕ × (ℕ × LineEnd)))) × (List Field × LineEnd)

-- a first line behind its empty lines
unfoldable pub read_start : List ℕ → PartRead (List LineEnd × (List ℕ × (List ℕ × (ℕ × LineEnd))))
read_start bytes =
    then_read (read_blank [] bytes) (λ a. then_read (read_method a) (λ b.
    then_read (read_target b) (λ c. then_read (read_version c) read_end)))

-- a head
unfoldable pub read_head : List ℕ → PartRead Lines
read_head bytes = then_read (read_start bytes) (λ rest. read_fields (suc (length rest)) [] rest)

-- the head of these lines
abbrev pub head_of : Lines → RequestHead
head_of t = record {
  blank = t.0.0;
  method = t.0.1.0;
  target = t.0.1.1.0;
  minor = t.0.1.1.1.0;
  line_end = t.0.1.1.1.1;
  fields = t.1.0;
  last = t.1.1;
}

-- the longest front that ends in a line feed, or nothing
unfoldable pub front_to_line_feed : List ℕ → List ℕ
front_to_line_feed [] = []
front_to_line_feed (b ∷ bytes) =
    if (b == 10) || nat_lt 0 (length (front_to_line_feed bytes)) then b ∷ front_to_line_feed bytes else []

-- What is answered for bytes, as a function. Only the longest front that ends in a line feed is
-- read, since a head ends in one.
unfoldable pub scan_of : List ℕ → Scan
scan_of bytes =
    by_read (read_head (front_to_line_feed (window bytes))) (λ t rest. judged_head (parts_of (head_of t)))
    (if nat_lt (length bytes) most_of_head then More else Refused 2) (Refused 1)
