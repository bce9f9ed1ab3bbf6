pub mod Handle
pub mod OptionalId
