pub mod EditList
pub mod Binding
pub mod EditOrder
pub mod Edits
pub mod FirstTable
pub mod Keys
pub mod Labels
pub mod Output
pub mod Replies
pub mod ReplyJson
pub mod Text
pub mod Values
-- What a line asks.
pub use Rattle.mi_request.specs.Commands
pub use Rattle.mi_request.specs.Lines
-- What a row is as JSON.
pub use Rattle.mi_rows.specs.Rows
-- What a command fits.
pub use Rattle.mi_catalog.specs.Shape
pub use Rattle.mi_catalog.specs.Fitting
