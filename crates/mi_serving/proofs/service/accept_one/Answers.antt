-- Where none has come nothing is done.
use Rattle.std.proofs.Common.{[], arith, ◌+◌}
use Rattle.mi_serving.specs.Link.{link_fd}
use Rattle.mi_clients.proofs.StreamLemmas.{streams_none}
use Rattle.mi_serving.proofs.TurnLemmas.{known_after, same_after, refused_for}
use Rattle.std.proofs.KnownBytes.{Keeps-refl}
use Rattle.mi_clients.specs.Clients.{ids}
use Rattle.mi_clients.proofs.StepLemmas.{makes_none}
use Rattle.mi_clients.proofs.ServedLemmas.{nothing_given, nothing_asked, joins_none, only_none}
use Rattle.mi_serving.proofs.service.accept_one.Goals as goal

pub returns-in-None-clause-comes : goal.returns-in-None-clause-comes
returns-in-None-clause-comes g c = ([], nothing_given, joins_none c.args.clients.now.items, makes_none _ _ _ (Keeps-refl _), only_none (ids c.args.clients.now.items), nothing_asked)

pub returns-in-None-clause-same : goal.returns-in-None-clause-same
returns-in-None-clause-same g c = streams_none link_fd c.args.last.now c.args.clients.now.items

pub returns-in_ok-admission-in-Some-clause-known : goal.returns-in_ok-admission-in-Some-clause-known
returns-in_ok-admission-in-Some-clause-known g c =
    known_after link_fd c.args.last.now (c.args.last.now + 1) (omega arith) _ _ _ c.args.clients.now.items c.connect.new.clients.items c.requires.known
    c.in_ok-admission-in-Some.admission c.in_ok-admission-in-Some.ensures.admits

pub returns-in_ok-admission-in-Some-clause-same : goal.returns-in_ok-admission-in-Some-clause-same
returns-in_ok-admission-in-Some-clause-same g c =
    same_after link_fd c.args.last.now (c.args.last.now + 1) (omega arith) _ _ _ c.args.clients.now.items c.connect.new.clients.items
    c.in_ok-admission-in-Some.admission c.in_ok-admission-in-Some.ensures.admits

pub returns-in_ok-admission-in-Some-clause-refused : goal.returns-in_ok-admission-in-Some-clause-refused
returns-in_ok-admission-in-Some-clause-refused g c =
    refused_for link_fd c.args.last.now (c.args.last.now + 1) (omega arith) _ _ _ c.args.clients.now.items c.connect.new.clients.items c.requires.attends
    c.requires.known c.requires.room c.in_ok-admission-in-Some.admission c.in_ok-admission-in-Some.ensures.admits
