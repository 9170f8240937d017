-- What the program's own values of a connection stand for.
use Rattle.std.specs.Prelude.{ℕ, List, Bool, Option}
use Rattle.alt_http.specs.declared.outcome.Scan.{Scan}
use Rattle.alt_http.specs.declared.outcome.Scan.TheVariants.{More, Refused, Head}
use Rattle.alt_talks.specs.Talks.{Scanned, unread, bad, good, Head as TalkHead}

-- a head of these parts
abbrev pub head_of_parts : ℕ → Option (List ℕ) → ℕ → Bool → Bool → TalkHead
head_of_parts taken target length expect close = record {
  taken = taken;
  target = target;
  length = length;
  expect = expect;
  close = close;
}

-- what a scan found
abbrev pub scanned : Scan → Scanned
scanned More = unread
scanned (Refused k) = bad k
scanned (Head taken target length expect close) = good (head_of_parts taken target length expect close)
