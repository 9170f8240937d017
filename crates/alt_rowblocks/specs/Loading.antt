-- One block, as it is read.
use Rattle.std.specs.Prelude.{◌≡◌, ℕ, ◌+◌, ◌-◌, ◌==◌, if◌then◌else◌, List, [], length, take, drop, get_or, T}
use Rattle.std.specs.FinMap.Entries.{is_sorted}
use Rattle.alt_cells.specs.Keys.{key_cmp}
use Rattle.alt_rowblocks.specs.Format.{Entry, Mark, block_bytes, IsHeldBlock}

-- the place of a block
abbrev pub place_at : List Mark → ℕ → ℕ
place_at marks i = (get_or marks i (0, [])).0

-- and the place behind it
abbrev pub next_place : List Mark → ℕ → ℕ → ℕ
next_place marks end i = if i + 1 == length marks then end else place_at marks (i + 1)

-- from the place of a block up to the next one stand the bytes of these rows
pub record LoadedAt (bytes : List ℕ) (marks : List Mark) (end i : ℕ) (b : List Entry) : Type 0 where
  pub size : next_place marks end i - place_at marks i ≡ length (block_bytes b)
  pub there : take (length (block_bytes b)) (drop (place_at marks i) bytes) ≡ block_bytes b
  pub held : IsHeldBlock b
  pub rising : T (is_sorted key_cmp b)
