-- The sessions are undone, and then the connection goes away.
use Rattle.std.proofs.Common.{◌≡◌, ◌∷◌, ◌++◌, [], Some, sym, ap, subst}
use Rattle.mi_hub.specs.Run.{HubState}
use Rattle.mi_durable.specs.Durable.{holder_conn}
use Rattle.mi_durable.specs.Durable.{hub_of}
use Rattle.mi_clients.specs.Steps.{goes}
use Rattle.mi_clients.proofs.StepLemmas.{makes_then, leaves_makes}
use Rattle.mi_clients.proofs.ServedLemmas.{undos_none, none_join, goes_none_given, goes_others, goes_asks_none}
use Rattle.mi_clients.proofs.UndoneLemmas.{gone_leaves, gone_same}
use Rattle.mi_clients.proofs.asking.disconnect.Goals as goal

pub returns-clause-goes : goal.returns-clause-goes
returns-clause-goes g c =
    let undone = c.in_ok-undo_all.ensures.undoes in
    let last = goes c.args.conn ∷ [] in (
      undone.0 ++ last,
      none_join undone.0 last (undos_none c.args.conn undone.0 undone.1) (goes_none_given c.args.conn),
      makes_then undone.0 last _ (hub_of c.undo_all.new.durable) _ _ _ _ undone.2
          (leaves_makes c.args.conn _ _ _ _ c.leave.ensures.done c.leave.ensures.journal),
      goes_others c.args.conn undone.0 undone.1,
      goes_asks_none c.args.conn undone.0 undone.1,
    )

pub returns-clause-left : goal.returns-clause-left
returns-clause-left g c = λ some.
    gone_leaves c.args.conn (hub_of c.args.durable.now) (hub_of c.undo_all.new.durable) (hub_of c.leave.new.self) (c.in_ok-undo_all.ensures.left some)
    c.leave.ensures.done

pub returns-clause-still : goal.returns-clause-still
returns-clause-still g c = λ no.
    subst (λ (s : HubState). (hub_of c.leave.new.self).held ≡ s.held) (ap hub_of (c.undo_all.ensures.still no))
    (gone_same c.args.conn (hub_of c.undo_all.new.durable) (hub_of c.leave.new.self)
    (subst (λ (s : HubState). ¬ (holder_conn s.held.holder ≡ Some c.args.conn)) (sym (ap hub_of (c.undo_all.ensures.still no))) no)
    c.leave.ensures.done)
