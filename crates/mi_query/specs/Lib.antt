pub mod Pages
-- What the clauses of the calls are said in.
pub use Rattle.mi_sessions.specs.Fitting
pub use Rattle.mi_sessions.specs.LookUps
pub use Rattle.mi_model.specs.Table
pub use Rattle.mi_model.specs.LookUp
pub use Rattle.mi_model.specs.Page
pub use Rattle.mi_model.specs.Database
