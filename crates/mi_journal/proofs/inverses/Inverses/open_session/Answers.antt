-- a session that is opened takes nothing of what entries take
use Rattle.std.proofs.Common.{◌∙◌, ap}
use Rattle.std.specs.VecDeque.{deque_capacity}
use Rattle.mi_journal.specs.Stored.{Stored}
use Rattle.mi_journal.proofs.MemoryLemmas.{sized, open_keeps}
use Rattle.mi_journal.proofs.inverses.Inverses.open_session.Goals as goal

pub returns-clause-rings : goal.returns-clause-rings
returns-clause-rings c =
    let a = c.self.inside in
    let j = c.open_session in
    ap (λ n. sized n (deque_capacity a.records) (deque_capacity a.places))
    (open_keeps a.entries.sessions j.new.self.sessions a.entries.changes j.new.self.changes j.ensures.sessions j.ensures.changes)
    ∙ ap (λ (v : Stored). v.rings) c.self.view_is
