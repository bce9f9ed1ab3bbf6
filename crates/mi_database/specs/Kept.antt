-- The rows that stay in memory for the open sessions, as the journal has them.
use Rattle.std.specs.Prelude.{◌≡◌, ◌==◌, ℕ, ◌+◌, ◌≤◌, if◌then◌else◌, List, [], ◌∷◌, ◌++◌, map, slice_index_or}
use Rattle.std.specs.Option.{is_some}
use Rattle.std.specs.declared.option.Option.TheVariants.{None, Some}
use Rattle.std.specs.declared.result.Result.{Result}
use Rattle.std.specs.declared.result.Result.TheVariants.{Ok, Err}
use Rattle.mi_value.specs.declared.refusal.Refusal.{Refusal}
use Rattle.mi_value.specs.declared.refusal.Refusal.TheVariants.{Memory}
use Rattle.mi_model.specs.Table.{has, times}
use Rattle.mi_model.specs.Database.{table_of}
use Rattle.mi_model.specs.Run.{Command}
use Rattle.mi_model.specs.Footprint.{KeptRows, kept_after, kept_more}
use Rattle.mi_container.specs.Data.{node_of, kept_of}
use Rattle.mi_container.specs.Data as plain
use Rattle.mi_database.specs.Journal.{data_at, kept_in}
use Rattle.mi_value.specs.declared.value.Value.{Value}
use Rattle.mi_database.specs.Keyed.{keyed}
use Rattle.mi_database.specs.LinkedData.{LinkedData, meaning}

-- for each session the table and id of each row whose node an inverse keeps
abbrev pub kept_rows : LinkedData → KeptRows
kept_rows h = map kept_in h.journal

-- with the rows of a key beside those of the newest session
abbrev pub kept_with : ℕ → ℕ → List Value → LinkedData → KeptRows
kept_with n x key h = kept_more (map (λ id. (n, id)) (keyed n x key (meaning h))) (kept_rows h)

abbrev pub KeptRefused : Command → Refusal → LinkedData → LinkedData → Type 0
KeptRefused c Memory old new = kept_rows new ≡ kept_rows old
KeptRefused c e old new = kept_rows new ≡ kept_after c (meaning old) (kept_rows old)

-- they move as the definition says; refused for memory they stay
abbrev pub KeptAfter : {A : Type 0} → Command → Result A Refusal → LinkedData → LinkedData → Type 0
KeptAfter c (Ok v) old new = kept_rows new ≡ kept_after c (meaning old) (kept_rows old)
KeptAfter c (Err e) old new = KeptRefused c e old new

-- the ids of one table among kept rows
abbrev pub ids_in : ℕ → List (ℕ × ℕ) → List ℕ
ids_in n [] = []
ids_in n (r ∷ rows) = if r.0 == n then r.1 ∷ ids_in n rows else ids_in n rows

-- and of all sessions
abbrev pub ids_at : ℕ → KeptRows → List ℕ
ids_at n [] = []
ids_at n (rows ∷ older) = ids_at n older ++ ids_in n rows

-- the ids in the nodes of a table's pool
abbrev pub held_at : LinkedData → ℕ → List ℕ
held_at h n = slice_index_or h.held n []

-- the nodes of a table's pool are its rows and those kept for the sessions, each once, and none is both; and what is kept in the data is kept for them
pub record NodesAreKept (h : LinkedData) (n : ℕ) : Type 0 where
  pub held : (a : ℕ) → times a (held_at h n) ≡ (if has (table_of (meaning h) n) a then 1 else 0) + times a (ids_at n (kept_rows h))
  pub once : (a : ℕ) → times a (held_at h n) ≤ 1
  pub kept : (a : ℕ) → times a (ids_at n (kept_rows h)) ≡ (if is_some (kept_of (data_at h.datas n).kept a) then 1 else 0)
  pub gone : (e : ℕ) (k : plain.Kept) → kept_of (data_at h.datas n).kept e ≡ Some k → node_of (data_at h.datas n).rows e ≡ None
