-- To be read in this order.
pub mod State
pub mod Opening
pub mod Cells
pub mod EditCells
pub mod CallResults
pub mod Asked
pub mod Calls
pub mod Shown
pub mod LookUps
pub mod Named
pub mod Cursors
pub mod Pages
pub mod AsLines
pub mod Looked
