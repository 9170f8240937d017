-- What is known of bytes of which some were read before. Private contracts alone cite it.
use Rattle.std.specs.Prelude.{◌≡◌, ◌≤◌, ℕ, Bool, true, false, List, length, take, Option, IfSome}
use Rattle.alt_http.specs.Reading.{scan_of}
use Rattle.alt_http.specs.declared.outcome.Scan.{Scan}
use Rattle.alt_http.specs.declared.outcome.Scan.TheVariants.{More, Refused, Head}
use Rattle.alt_talks.specs.declared.front.Head.{Head as CodeHead}

-- a head as a scan tells it
abbrev pub scan_in : CodeHead → Scan
scan_in h = Head h.taken h.target h.length h.expect h.close

-- a scan that found no whole head yet
abbrev pub is_more : Scan → Bool
is_more More = true
is_more (Refused n) = false
is_more (Head taken target length expect close) = false

-- so many of the bytes had no whole head, and this one stands in front of all of them, if it is there
pub record HeadIsScanned (bytes : List ℕ) (seen : ℕ) (head : Option CodeHead) : Type 0 where
  pub within : seen ≤ length bytes
  pub more : scan_of (take seen bytes) ≡ More
  pub found : IfSome head (λ h. scan_of bytes ≡ scan_in h)
