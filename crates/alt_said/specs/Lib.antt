pub mod Older
pub mod Steps
pub mod Words
pub use Rattle.alt_tables.specs.Altering as TablesAltering
pub use Rattle.alt_tables.specs.Built as TablesBuilt
pub use Rattle.alt_tables.specs.Faults as TablesFaults
pub use Rattle.alt_tables.specs.Foreseen as TablesForeseen
pub use Rattle.alt_tables.specs.Found as TablesFound
pub use Rattle.alt_tables.specs.Images as TablesImages
pub use Rattle.alt_tables.specs.Looking as TablesLooking
pub use Rattle.alt_tables.specs.OpeningDeclaredTrimmed as TablesOpeningDeclaredTrimmed
pub use Rattle.alt_tables.specs.OpeningOrder as TablesOpeningOrder
pub use Rattle.alt_tables.specs.OpeningTrimmed as TablesOpeningTrimmed
pub use Rattle.alt_tables.specs.Reading as TablesReading
pub use Rattle.alt_tables.specs.Several as TablesSeveral
pub use Rattle.alt_tables.specs.Stands as TablesStands
pub use Rattle.alt_tables.specs.DeclaredTableFault as TablesDeclaredTableFault
pub use Rattle.alt_tables.specs.declared.finding.Found as TablesDeclaredFound
pub use Rattle.alt_tables.specs.declared.several.ItemChange as TablesDeclaredItemChange
pub use Rattle.alt_tables.specs.declared.tables.Tables as TablesDeclaredTables
