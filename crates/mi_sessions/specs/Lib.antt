pub mod LookUps
-- What the clauses of the trait are said in.
pub use Rattle.mi_catalog.specs.Fitting
pub use Rattle.mi_model.specs.Table
pub use Rattle.mi_model.specs.LookUp
pub use Rattle.mi_model.specs.Walk
pub use Rattle.mi_model.specs.Database
pub use Rattle.mi_model.specs.DatabaseChange
