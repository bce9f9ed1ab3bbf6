-- It stands beside the list, where nobody was.
use Rattle.std.proofs.Common.{◌≡◌, inr, None, sym, ◌∙◌}
use Rattle.mi_serving.proofs.OverflowLemmas.{free_none, less_not}
use Rattle.mi_serving.proofs.overflow.Overflow.keep.Goals as goal
use Rattle.mi_serving.proofs.overflow.Overflow.keep.Goals.{then-turns-lt-MOST_TURNS, else-turns-lt-MOST_TURNS}

pub returns-else-not-is_free : goal.returns-else-not-is_free
returns-else-not-is_free c =
    let none : c.args.self.now.beside.client ≡ None = elim c.if-turns-lt-MOST_TURNS.branch [
      | then-turns-lt-MOST_TURNS w ↦ absurd (less_not _ _ w.if-turns-lt-MOST_TURNS.true (sym w.value-is ∙ c.if-not-is_free.false))
      | else-turns-lt-MOST_TURNS w ↦ free_none w.is_free.result c.args.self.now.beside.client w.is_free.ensures (sym w.value-is ∙ c.if-not-is_free.false)
    ] in
    let push_client = c.push_client.ensures in
    inr (c.requires, (none, push_client.0, push_client.1, push_client.2, push_client.3, push_client.4))
