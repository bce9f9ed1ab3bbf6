-- The kept node comes back to where it remembers, and the data are those before.
use Rattle.std.proofs.Common.{false, ap, sym, ◌∙◌, subst}
use Rattle.std.specs.declared.option.Option.TheVariants.{None}
use Rattle.mi_container.specs.Backs.{row_seen}
use Rattle.mi_multi.specs.Multi.{IsMulti, plain_of}
use Rattle.mi_multi.proofs.AnswerLemmas.{kept_there, back_meets, back_is, back_data}
use Rattle.mi_multi.proofs.TakeBackEraseLemmas.{can_back, back_seen, back_multi}
use Rattle.mi_multi.proofs.SecretLemmas.{secrets_kept}
use Rattle.mi_multi.proofs.multi.MultiIndex.take_back_erased.Goals as goal

pub put_back-requires-clause-held : goal.put_back-requires-clause-held
put_back-requires-clause-held c =
    let there = kept_there c.self.inside c.args.self.now c.self.view_is (row_seen c.args.row) c.requires.ready.0 in
    (c.self.invariant.held c.args.row.id (record { node = c.args.row.node; live = false }) there).held

pub put_back-requires-clause-places : goal.put_back-requires-clause-places
put_back-requires-clause-places c =
    let i = c.self.inside in let w = c.args.self.now in let r = row_seen c.args.row in
    record {
      rss = c.self.invariant.rss;
      stand = c.self.invariant.stand;
      can = can_back i.schema i.ids.entries i.nodes.pool i.nodes.pool i.nodes.structures.items i.nodes.structures.items i.next i.arrivals c.self.invariant
          c.args.row.id c.args.row.node (kept_there i w c.self.view_is r c.requires.ready.0) (back_meets i w c.self.view_is r None c.requires.ready)
          (back_data i w c.self.view_is r None c.requires.ready.0 c.requires.before);
    }

pub invariant_of-self : goal.invariant_of-self
invariant_of-self c =
    let i = c.self.inside in let w = c.args.self.now in let r = row_seen c.args.row in
    subst (λ q. IsMulti i.schema q c.put_back.new.self.pool c.put_back.new.self.structures.items i.next i.arrivals) (sym c.revive.ensures.entries)
    (back_multi i.schema i.ids.entries i.nodes.pool c.put_back.new.self.pool i.nodes.structures.items c.put_back.new.self.structures.items
    i.next i.arrivals c.self.invariant c.args.row.id c.args.row.node (kept_there i w c.self.view_is r c.requires.ready.0)
    (back_meets i w c.self.view_is r None c.requires.ready) (back_data i w c.self.view_is r None c.requires.ready.0 c.requires.before)
    c.put_back.ensures.like c.put_back.ensures.pass)

pub returns-clause-plain : goal.returns-clause-plain
returns-clause-plain c =
    let i = c.self.inside in let w = c.args.self.now in let r = row_seen c.args.row in
    ap (λ q. plain_of i.schema q c.put_back.new.self.pool c.put_back.new.self.structures.items i.next i.arrivals) c.revive.ensures.entries
    ∙ back_seen i.schema i.ids.entries i.nodes.pool c.put_back.new.self.pool i.nodes.structures.items c.put_back.new.self.structures.items
    i.next i.arrivals c.self.invariant c.args.row.id c.args.row.node (kept_there i w c.self.view_is r c.requires.ready.0)
    (back_meets i w c.self.view_is r None c.requires.ready) (back_data i w c.self.view_is r None c.requires.ready.0 c.requires.before)
    c.put_back.ensures.like c.put_back.ensures.pass
    ∙ back_is i w c.self.view_is r None c.requires.ready.0

pub returns-clause-secrets : goal.returns-clause-secrets
returns-clause-secrets c = secrets_kept c.self.inside c.self.view_is _ c.put_back.ensures.like
