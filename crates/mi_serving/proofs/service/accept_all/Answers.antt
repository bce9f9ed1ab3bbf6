-- One connection more.
use Rattle.std.proofs.Common.{◌++◌, [], arith}
use Rattle.mi_serving.specs.Link.{link_fd}
use Rattle.mi_clients.proofs.StreamLemmas.{streams_none, streams_then}
use Rattle.std.proofs.KnownBytes.{Keeps-refl}
use Rattle.mi_durable.specs.Durable.{hub_of}
use Rattle.mi_clients.specs.Clients.{ids}
use Rattle.mi_clients.proofs.StepLemmas.{makes_none, makes_then}
use Rattle.mi_clients.proofs.ServedLemmas.{nothing_given, nothing_asked, none_join, quiet_join, joins_none, joins_then, only_none, all_only_then, only_before}
use Rattle.mi_serving.proofs.service.accept_all.Goals as goal

pub places-init : goal.places-init
places-init g c = record {
  attends = c.requires.attends;
  known = c.requires.known;
  rises = omega arith;
  same = streams_none link_fd c.args.last.now c.args.clients.now.items;
  settled = c.requires.settled;
  steps = [];
  none = nothing_given;
  quiet = nothing_asked;
  joins = joins_none c.args.clients.now.items;
  only = only_none (ids c.args.clients.now.items);
  makes = makes_none _ _ _ (Keeps-refl _);
}

pub places-preserved : goal.places-preserved
places-preserved g c =
    let before = c.places.invariant in
    let one = c.in_ok-accept_one.ensures.comes in record {
      attends = c.in_ok-accept_one.ensures.attends;
      known = c.in_ok-accept_one.ensures.known;
      rises = omega (arith, before.rises, c.in_ok-accept_one.ensures.rises);
      same = streams_then link_fd c.args.last.now c.places.last c.args.clients.now.items c.places.clients.items c.accept_one.new.clients.items before.rises
          before.same c.in_ok-accept_one.ensures.same;
      settled = c.in_ok-accept_one.ensures.settled;
      steps = before.steps ++ one.0;
      none = none_join before.steps one.0 before.none one.1;
      quiet = quiet_join before.steps one.0 before.quiet one.5;
      joins = joins_then c.args.clients.now.items c.places.clients.items c.accept_one.new.clients.items before.joins one.2;
      only = all_only_then before.steps one.0 (ids c.args.clients.now.items) before.only
          (only_before one.0 c.args.clients.now.items c.places.clients.items before.joins one.4);
      makes = makes_then before.steps one.0 _ (hub_of c.places.durable) _ _ _ _ before.makes one.3;
    }

pub returns-then-len-ge-MAX_CONNECTIONS-clause-known : goal.returns-then-len-ge-MAX_CONNECTIONS-clause-known
returns-then-len-ge-MAX_CONNECTIONS-clause-known g c = c.places.invariant.known

pub returns-then-len-ge-MAX_CONNECTIONS-clause-rises : goal.returns-then-len-ge-MAX_CONNECTIONS-clause-rises
returns-then-len-ge-MAX_CONNECTIONS-clause-rises g c = c.places.invariant.rises

pub returns-then-len-ge-MAX_CONNECTIONS-clause-same : goal.returns-then-len-ge-MAX_CONNECTIONS-clause-same
returns-then-len-ge-MAX_CONNECTIONS-clause-same g c = c.places.invariant.same

pub accept_one-requires-clause-known : goal.accept_one-requires-clause-known
accept_one-requires-clause-known g c = c.places.invariant.known

pub returns-in_err-accept_one-clause-rises : goal.returns-in_err-accept_one-clause-rises
returns-in_err-accept_one-clause-rises g c = omega (arith, c.places.invariant.rises, c.accept_one.ensures.rises)

pub returns-clause-known : goal.returns-clause-known
returns-clause-known g c = c.places.invariant.known

pub returns-clause-rises : goal.returns-clause-rises
returns-clause-rises g c = c.places.invariant.rises

pub returns-clause-same : goal.returns-clause-same
returns-clause-same g c = c.places.invariant.same

pub accept_one-requires-clause-own : goal.accept_one-requires-clause-own
accept_one-requires-clause-own g c = omega (arith, c.requires.own, c.places.invariant.rises)
