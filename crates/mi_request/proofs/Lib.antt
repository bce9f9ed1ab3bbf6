pub mod FlatLemmas
pub mod FormLemmas
pub mod ObjectLemmas
pub mod ParsingLemmas
pub mod ShortLemmas
pub mod WordLemmas
