-- The node leaves every index and is freed, and the data are those before.
use Rattle.std.proofs.Common.{◌≡◌, ◌-◌, map, ap, sym, ◌∙◌, subst}
use Rattle.mi_container.specs.Data.{Data, IsData}
use Rattle.mi_container.specs.Inverse.{taken_back}
use Rattle.mi_container.specs.Inverse.Inverse.{Inserted}
use Rattle.mi_container.specs.Backs.{row_seen}
use Rattle.mi_multi.specs.Multi.{IsMulti, plain_of}
use Rattle.mi_multi.specs.Seen.{Seen, secret_in}
use Rattle.mi_multi.proofs.EraseLemmas.{can_leave}
use Rattle.mi_multi.proofs.TakeBackInsertLemmas.{live_there, still_held, back_seen, back_multi}
use Rattle.mi_multi.proofs.SecretLemmas.{secrets_kept}
use Rattle.mi_multi.proofs.multi.MultiIndex.take_back_inserted.Goals as goal

pub take_out-requires : goal.take_out-requires
take_out-requires c =
    let i = c.self.inside in
    record {
      rss = c.self.invariant.rss;
      stand = c.self.invariant.stand;
      can = can_leave i.schema i.ids.entries i.nodes.pool i.nodes.structures.items i.next i.arrivals c.self.invariant
          c.args.row.id c.args.row.node (live_there i c.args.self.now c.self.view_is (row_seen c.args.row) c.requires.ready.0);
    }

pub free-freed-requires : goal.free-freed-requires
free-freed-requires c =
    let i = c.self.inside in let there = live_there i c.args.self.now c.self.view_is (row_seen c.args.row) c.requires.ready.0 in
    record {
      held = still_held i.schema i.ids.entries i.nodes.pool c.take_out.new.self.pool i.nodes.structures.items c.take_out.new.self.structures.items
          i.next i.arrivals c.self.invariant c.args.row.id c.args.row.node there c.take_out.ensures.like c.take_out.ensures.pass;
    }

pub invariant_of-self : goal.invariant_of-self
invariant_of-self c =
    let i = c.self.inside in let there = live_there i c.args.self.now c.self.view_is (row_seen c.args.row) c.requires.ready.0 in
    let before = subst (λ (w : Seen). IsData w.shape (taken_back (Inserted (row_seen c.args.row)) w.plain)) (sym c.self.view_is) c.requires.before in
    let f = c.free-freed.ensures in let pool = c.free-freed.new.self.pool in let items = c.free-freed.new.self.structures.items in
    subst (λ w. IsMulti i.schema w pool items (i.next - 1) (i.arrivals - 1)) (sym c.remove.ensures.entries)
    (back_multi i.schema i.ids.entries i.nodes.pool c.take_out.new.self.pool i.nodes.structures.items c.take_out.new.self.structures.items
    i.next i.arrivals c.self.invariant c.args.row.id c.args.row.node there c.take_out.ensures.like c.take_out.ensures.pass
    pool items f.pool (ap (λ v. v.items) f.structures) f.stand before)

pub returns-clause-plain : goal.returns-clause-plain
returns-clause-plain c =
    let i = c.self.inside in let there = live_there i c.args.self.now c.self.view_is (row_seen c.args.row) c.requires.ready.0 in
    let f = c.free-freed.ensures in let pool = c.free-freed.new.self.pool in let items = c.free-freed.new.self.structures.items in
    let new : Data = plain_of i.schema c.remove.new.self.entries pool items (i.next - 1) (i.arrivals - 1) in
    subst (λ (w : Seen). new ≡ taken_back (Inserted (row_seen c.args.row)) w.plain) c.self.view_is
    (ap (λ w. plain_of i.schema w pool items (i.next - 1) (i.arrivals - 1)) c.remove.ensures.entries
    ∙ back_seen i.schema i.ids.entries i.nodes.pool c.take_out.new.self.pool i.nodes.structures.items c.take_out.new.self.structures.items
    i.next i.arrivals c.self.invariant c.args.row.id c.args.row.node there c.take_out.ensures.like c.take_out.ensures.pass
    pool items f.pool (ap (λ v. v.items) f.structures) f.stand)

pub returns-clause-secrets : goal.returns-clause-secrets
returns-clause-secrets c = ap (λ v. map secret_in v.items) c.free-freed.ensures.structures ∙ secrets_kept c.self.inside c.self.view_is _ c.take_out.ensures.like
