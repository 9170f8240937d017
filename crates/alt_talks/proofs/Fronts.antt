-- What is known of bytes of which some were read before.
use Rattle.std.proofs.Common.{◌≡◌, ap, ◌∙◌, ◌≤◌, ◌++◌, ℕ, List, length, Option, Some, None, IfSome, arith, length-append}
use Rattle.std.proofs.lemmas.List.{take-append-le}
use Rattle.alt_http.specs.Reading.{scan_of}
use Rattle.alt_http.proofs.Answering.{scan_of-nothing, scan_of-head}
use Rattle.alt_talks.specs.private.HeadViews.{HeadIsScanned, scan_in}
use Rattle.alt_talks.specs.declared.front.Head.{Head}

-- none of them were read
pub nothing_read : (bytes : List ℕ) → HeadIsScanned bytes 0 None
nothing_read bytes = record {
  within = least (length bytes);
  more = scan_of-nothing;
  found = tt;
}
  where
    least : (n : ℕ) → 0 ≤ n
    least n = omega arith

-- more bytes change nothing of it
pub more_read : (bytes more : List ℕ) (seen : ℕ) (head : Option Head) → HeadIsScanned bytes seen head
    → HeadIsScanned (bytes ++ more) seen head
more_read bytes more seen head h = record {
  within = (let l = length-append bytes more in omega (arith, h.within, l));
  more = ap scan_of (take-append-le seen bytes more h.within) ∙ h.more;
  found = still head h.found;
}
  where
    still : (o : Option Head) → IfSome o (λ x. scan_of bytes ≡ scan_in x)
        → IfSome o (λ x. scan_of (bytes ++ more) ≡ scan_in x)
    still None f = tt
    still (Some x) f = scan_of-head bytes more x.taken x.target x.length x.expect x.close f
