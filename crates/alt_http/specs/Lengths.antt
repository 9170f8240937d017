-- Numbers that are written in digits.
use Rattle.std.specs.Prelude.{ℕ, Bool, not, ◌&&◌, ◌||◌, ◌==◌, List, [], ◌∷◌, length, if◌then◌else◌, nat_lt}
use Rattle.std.specs.List.{list_all}
use Rattle.std.specs.Char.{is_ascii_digit}
use Rattle.std.specs.Str.{bytes_eq}

-- one digit or more, and nothing else
abbrev pub is_length : List ℕ → Bool
is_length text = nat_lt 0 (length text) && list_all is_ascii_digit text

-- the digits from the first on that isn't 0
abbrev pub without_zeros : List ℕ → List ℕ
without_zeros [] = []
without_zeros (b ∷ text) = if b == 48 then without_zeros text else b ∷ text

-- the text is no number, or another one; `3` and `03` are the same
abbrev pub is_other_length : List ℕ → List ℕ → Bool
is_other_length first text =
    not (is_length text) || not (bytes_eq (without_zeros text) (without_zeros first))
