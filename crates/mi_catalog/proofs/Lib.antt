pub mod RuleLaws
pub mod KindLaws
pub mod KeyLemmas
