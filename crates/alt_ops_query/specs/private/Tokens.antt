-- The tokens of a segment.
use Rattle.std.specs.Prelude.{ℕ, ◌+◌, ◌-◌, ◌*◌, ◌/◌, ◌^◌, nat_lt, if◌then◌else◌, List, Option, Some, None}
use Rattle.std.specs.Int.{w64, to_be_bytes}
use Rattle.alt_machine.specs.Ops.Scan as machine
use Rattle.alt_ops_query.specs.declared.scanning.Segment.{Segment}

-- the segment, as the machine has it
abbrev pub machine_segment : Segment → machine.Segment
machine_segment s = record { number = s.number; total = s.total }

-- the least number that, times the count of segments and divided by 2 ^ 64, is at least that of a segment
abbrev pub first_token : ℕ → ℕ → ℕ
first_token number total = (number * 2 ^ 64 + (total - 1)) / total

-- where the places with a token begin
abbrev pub token_bytes : ℕ → List ℕ
token_bytes token = to_be_bytes w64 token

-- where the places below a token end; none has a token of 2 ^ 64 or more
abbrev pub end_token : ℕ → Option (List ℕ)
end_token token = if nat_lt token (2 ^ 64) then Some (token_bytes token) else None
