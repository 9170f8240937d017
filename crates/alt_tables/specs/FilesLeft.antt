-- How many numbers of files work takes, and that none is left for it.
use Rattle.std.specs.Prelude.{◌≡◌, ◌+◌, ◌*◌, ℕ, List, Option}
use Rattle.alt_rowchanges.specs.OpeningEngineWorking.{IsNeeded}
use Rattle.alt_rowchanges.specs.OpeningEngineDeclaredTask.{Task}
use Rattle.alt_rowchanges.specs.OpeningHandFaults.{told_by_engine}
use Rattle.alt_rowchanges.specs.OpeningHandDeclaredEngineFault.{EngineFault}
use Rattle.alt_layout.specs.Fresh.{versions_file}
use Rattle.alt_machine.specs.declared.TheConstants.{MOST_FAMILIES, MOST_TABLES}
use Rattle.alt_manifest.specs.Versions.{HasVersion}
use Rattle.alt_manifest.specs.declared.version.Version.{Version}
use Rattle.alt_rowchanges.specs.OpeningFirstFiles.{IsFirstFile}
use Rattle.alt_rowchanges.specs.Faults.{told_by_tables}
use Rattle.alt_tables.specs.Stands.{live_of}
use Rattle.alt_rowchanges.specs.declared.faults.TableFault.{TableFault}
use Rattle.alt_tables.specs.declared.tables.Tables.{Tables}

-- As many numbers as one task takes at most with a write before it: one for each family of the most tables, one for that of the catalog, one for the
-- log, and one for the segment that the first write may make.
abbrev pub most_files : ℕ
most_files = MOST_TABLES * MOST_FAMILIES + 3

-- Where a task tells a spent number, the files that it had to make went beyond file 2^32 - 1, which is never given out. The engine says which these are.
pub record LacksFile (task : Task) (t : Tables) (fault : TableFault) : Type 0 where
  pub given : EngineFault
  pub same : told_by_tables fault ≡ told_by_engine given
  pub needed : IsNeeded task (live_of t) t.engine given

-- The number of the first file that work makes once these files were opened: it is past all of them, and not below that of the last version.
abbrev pub IsFirstGiven : (ℕ → Option (List ℕ)) → ℕ → Type 0
IsFirstGiven files first = (v : Version) → HasVersion v (files versions_file)
    → IsFirstFile v files first
