-- no id so far has the rank
use Rattle.std.proofs.Common.{ℕ, ◌≢◌, ◌<◌, get_or}
use Rattle.mi_model.specs.LookUp as look
use Rattle.mi_plain.proofs.table.PlainTable.nth.Given as goal

abbrev pub invariant-loop-id : goal.invariant-loop-id
invariant-loop-id l = (k : ℕ) → k < l.id-index → look.rank l.schema l.self l.x (get_or l.ids k 0) ≢ l.n
