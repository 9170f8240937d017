pub mod CatalogRows
pub mod Families
pub mod Good
pub mod ItemTests
pub mod StreamRows
pub mod private
pub use Rattle.alt_changes.specs.ChangeRows
pub use Rattle.alt_changes.specs.TrimRows
pub use Rattle.alt_schemabytes.specs.Held
pub use Rattle.alt_views.specs.IndexRows
pub use Rattle.alt_views.specs.ItemRows
pub use Rattle.alt_views.specs.Read
pub use Rattle.alt_views.specs.declared.indexed.IndexRow as DeclaredIndexRow
