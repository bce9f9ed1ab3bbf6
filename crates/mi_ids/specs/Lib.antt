pub mod Back
pub mod IdMap
pub mod Pages
