pub mod Draft
pub mod Members
pub mod Words
pub mod Checks
pub mod Reading
-- What a schema is.
pub use Rattle.mi_catalog.specs.Shape
pub use Rattle.mi_catalog.specs.Kinds
pub use Rattle.mi_catalog.specs.Fits
pub use Rattle.mi_catalog.specs.Rules
pub use Rattle.mi_catalog.specs.Accounts
