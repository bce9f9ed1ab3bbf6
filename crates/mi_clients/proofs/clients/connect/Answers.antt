-- Who comes stands behind the others; who is refused changes nothing.
use Rattle.std.proofs.Common.{◌∷◌, [], refl, sym, subst}
use Rattle.std.proofs.lemmas.Result.{on_ok_weaker}
use Rattle.std.proofs.KnownBytes.{Keeps-refl}
use Rattle.std.specs.Io.KnownBytes.{Keeps}
use Rattle.mi_durable.specs.Durable.{hub_of, log_of}
use Rattle.mi_clients.specs.Steps.{comes}
use Rattle.mi_clients.specs.Clients.{ids, Attends, Joins, IsNoneOf, Admits}
use Rattle.mi_clients.proofs.StepLemmas.{comes_makes, makes_none, makes_kept}
use Rattle.mi_clients.proofs.ClientsLemmas.{attends_more, none_of_attended}
use Rattle.mi_clients.proofs.ServedLemmas.{if_ok_with, nothing_given, nothing_asked, comes_none_given, joins_none, joins_one, only_none, only_others}
use Rattle.mi_clients.proofs.clients.connect.Goals as goal

pub returns-in-Ok-clause-comes : goal.returns-in-Ok-clause-comes
returns-in-Ok-clause-comes g c =
    let kept = subst (λ l. Keeps (g.L.Log.appended (log_of c.args.durable.now)) (g.L.Log.appended l)) (sym c.attach.ensures.log) (Keeps-refl _) in
    let clients = c.args.clients.now.items in
    let none = none_of_attended c.args.conn (ids clients) (hub_of c.args.durable.now) (hub_of c.attach.new.self) c.requires.attends c.in-Ok.ensures.ok in
    let new = subst (λ k. IsNoneOf k (ids clients)) (sym c.new.ensures.conn) none in
    on_ok_weaker c.push_client.result (λ items. (
      comes c.args.conn ∷ [],
      comes_none_given c.args.conn,
      subst (Joins clients) (sym items) (joins_one clients c.new.result (c.new.ensures.open, c.new.ensures.none.0, c.new.ensures.none.1, new, c.new.ensures.first, c.new.ensures.lines, c.new.ensures.since)),
      comes_makes c.args.conn (hub_of c.args.durable.now) (hub_of c.attach.new.self) _ _ c.in-Ok.ensures.ok kept,
      only_others c.args.conn (comes c.args.conn ∷ []) (ids clients) (λ k other. (other, tt)) none,
      λ k. refl,
    )) c.push_client.ensures.seated

pub returns-in-Ok-clause-admits : goal.returns-in-Ok-clause-admits
returns-in-Ok-clause-admits g c =
    let clients = c.args.clients.now.items in
    let new = subst (λ k. IsNoneOf k (ids clients)) (sym c.new.ensures.conn)
    (none_of_attended c.args.conn (ids clients) (hub_of c.args.durable.now) (hub_of c.attach.new.self) c.requires.attends c.in-Ok.ensures.ok) in
    if_ok_with c.push_client.result (λ admission is items.
    subst (Admits c.args.conn c.args.stream (hub_of c.args.durable.now) (hub_of c.attach.new.self) clients c.push_client.new.clients.items) (sym is)
    (c.new.result, items, c.new.ensures.conn, c.new.ensures.stream, (c.new.ensures.open, c.new.ensures.none.0, c.new.ensures.none.1, new, c.new.ensures.first, c.new.ensures.lines, c.new.ensures.since)))
    c.push_client.ensures.says c.push_client.ensures.seated

pub returns-in-Ok-clause-attends : goal.returns-in-Ok-clause-attends
returns-in-Ok-clause-attends g c =
    on_ok_weaker c.push_client.result (λ items.
    subst (λ clients. Attends (ids clients) (hub_of c.attach.new.self).attached) (sym items)
    (attends_more c.args.clients.now.items c.new.result c.args.conn (hub_of c.args.durable.now) (hub_of c.attach.new.self)
    c.requires.attends c.new.ensures.conn c.in-Ok.ensures.ok)) c.push_client.ensures.seated

pub returns-in-Err-clause-comes : goal.returns-in-Err-clause-comes
returns-in-Err-clause-comes g c =
    let kept = subst (λ l. Keeps (g.L.Log.appended (log_of c.args.durable.now)) (g.L.Log.appended l)) (sym c.attach.ensures.log) (Keeps-refl _) in (
      [],
      nothing_given,
      joins_none c.args.clients.now.items,
      makes_kept [] _ (hub_of c.args.durable.now) (hub_of c.attach.new.self) _ _ _ (makes_none _ _ _ (Keeps-refl _)) c.in-Err.ensures.refused.1 kept,
      only_none (ids c.args.clients.now.items),
      nothing_asked,
    )
