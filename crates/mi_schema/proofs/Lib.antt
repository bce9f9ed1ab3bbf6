pub mod ListLaws
pub mod DocumentLaws
pub mod CheckLaws
pub mod TextLaws
