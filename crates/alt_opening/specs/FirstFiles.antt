-- Which file work makes first once a store is opened.
use Rattle.std.specs.Prelude.{◌≤◌, ◌+◌, ℕ, List, Option}
use Rattle.alt_engine.specs.HandRecovery.{IsNextFile}
use Rattle.alt_manifest.specs.declared.version.Version.{Version}

-- Once files with this version are opened, it is the next file, or the one behind it, where the first write makes a segment before.
pub record IsFirstFile (v : Version) (files : ℕ → Option (List ℕ)) (first : ℕ) : Type 0 where
  pub next : ℕ
  pub is : IsNextFile v files next
  pub least : next ≤ first
  pub most : first ≤ next + 1
