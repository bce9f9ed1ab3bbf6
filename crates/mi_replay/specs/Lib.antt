-- To be read in this order.
pub mod Journal
pub mod Replayed
pub mod ReplayLaws
pub mod RunActs
pub mod UndoneBytes
pub mod Examples
-- What a run does, whole step by step.
pub use Rattle.mi_commands.specs.Acts
