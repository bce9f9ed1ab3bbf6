-- What a contract sees of a `Counted`: the pool, and how many links were read of it.
use Rattle.std.specs.Prelude.{ℕ, refl}
use Rattle.std.specs.Coded.{Coded, code_by, coded×, coded_ℕ}
use Rattle.mi_node.specs.Pool.{Pooled, pooled_code}

pub record CountedPool (T : Type 0) : Type 0 where
  pub pool : Pooled T
  pub reads : ℕ

abbrev pub counted_code : {T : Type 0} → Coded T → Coded (CountedPool T)
counted_code {T} t = code_by (Pooled T × ℕ) (coded× (pooled_code t) coded_ℕ) (λ c. (c.pool, c.reads)) (λ p. record { pool = p.0; reads = p.1 }) (λ _. refl)
