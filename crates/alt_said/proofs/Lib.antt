pub mod OlderSaid
pub mod Passed
pub mod Said
pub mod Stated
pub use Rattle.alt_tables.proofs.Behind as TablesBehind
pub use Rattle.alt_tables.proofs.Foreseen as TablesForeseen
pub use Rattle.alt_tables.proofs.Left as TablesLeft
pub use Rattle.alt_tables.proofs.Looking as TablesLooking
pub use Rattle.alt_tables.proofs.OpeningNextRow as TablesOpeningNextRow
pub use Rattle.alt_tables.proofs.OpeningOneColumn as TablesOpeningOneColumn
pub use Rattle.alt_tables.proofs.OpeningOneState as TablesOpeningOneState
pub use Rattle.alt_tables.proofs.Standing as TablesStanding
pub use Rattle.alt_tables.proofs.AlterLaws as TablesAlterLaws
pub use Rattle.alt_tables.proofs.Each as TablesEach
