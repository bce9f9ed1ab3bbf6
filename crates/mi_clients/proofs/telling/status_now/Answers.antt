-- The status is that of this hub, these connections and this journal.
use Rattle.std.proofs.Common.{◌≡◌, sym, subst}
use Rattle.std.specs.Prelude.{IfSome}
use Rattle.std.specs.String.{string_bytes}
use Rattle.mi_durable.specs.Durable.{hub_of, log_of}
use Rattle.mi_log.specs.declared.log.LogState.{LogState}
use Rattle.mi_clients.specs.Status.{IsStateOf, TellsStatus}
use Rattle.mi_clients.proofs.TellLemmas.{told_some_of}
use Rattle.mi_clients.proofs.telling.status_now.Goals as goal

pub returns : goal.returns
returns g c =
    let clients = c.args.clients.now in
    let hub = hub_of c.args.durable.now in
    let log = log_of c.args.durable.now in
    let state = subst (λ l. IsStateOf (g.L.Log.appended l) (g.L.Log.synced l) (g.L.Log.lacks_room l) (g.L.Log.room_left l) (g.L.Log.segment l) c.state.result) c.log.ensures
    (c.state.ensures.full, c.state.ensures.room, c.state.ensures.segment, c.state.ensures.bytes, c.state.ensures.synced) in
    subst (λ o. IfSome o (λ line. (j : LogState)
    × IsStateOf (g.L.Log.appended log) (g.L.Log.synced log) (g.L.Log.lacks_room log) (g.L.Log.room_left log) (g.L.Log.segment log) j
    × TellsStatus clients hub j c.args.seconds (string_bytes line)))
    (sym c.ok.ensures.value)
    (told_some_of _ _ c.status_line.result c.status_line.ensures (λ line is.
    (c.state.result, state, subst (λ s. TellsStatus clients s c.state.result c.args.seconds (string_bytes line)) c.hub.ensures is)))
