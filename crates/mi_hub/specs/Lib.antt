-- To be read in this order.
pub mod Ended
pub mod Lines
pub mod Served
pub mod Connections
pub mod Run
pub mod OneLine
pub mod Drive
pub mod Watching
pub mod ConnectionTurn
pub mod IoNotes
pub mod LineLaws
pub mod RunLaws
pub mod Places
-- How a line is answered, and who holds open sessions.
pub use Rattle.mi_commands.specs.Asked
pub use Rattle.mi_commands.specs.Holder
pub use Rattle.mi_commands.specs.Performed
pub use Rattle.mi_commands.specs.Answer
