-- The row's node stands before the named one, and the data are those of the move.
use Rattle.std.proofs.Common.{◌≡◌, ℕ, true, sym, subst}
use Rattle.std.specs.FinMap.{get}
use Rattle.std.specs.Option.{option_map}
use Rattle.std.specs.declared.option.Option.{Option}
use Rattle.std.specs.declared.option.Option.TheVariants.{Some}
use Rattle.mi_container.specs.Data.{Data, IsData, order_at}
use Rattle.mi_container.specs.Inverse.{RowRef, taken_back}
use Rattle.mi_container.specs.Inverse.Inverse.{Relocated}
use Rattle.mi_container.specs.Fits.{HasOwnList}
use Rattle.mi_container.specs.Backs.{row_seen}
use Rattle.mi_multi.specs.Multi.{plain_of}
use Rattle.mi_multi.specs.Seen.{Seen, seen_of}
use Rattle.mi_multi.proofs.TakeBackInsertLemmas.{live_there}
use Rattle.mi_multi.proofs.RelocateLemmas.{IsOtherNode, other_node, can_move, moved_seen, moved_multi}
use Rattle.mi_multi.proofs.SecretLemmas.{secrets_kept}
use Rattle.mi_multi.proofs.multi.MultiIndex.stand_before.Goals.{After-node_of}
use Rattle.mi_multi.proofs.multi.MultiIndex.stand_before.Goals as goal

module _ (c : After-node_of) where
  -- the row is live, in its node
  there : get c.self.inside.ids.entries c.args.row.id ≡ Some (record { node = c.args.row.node; live = true })
  there = live_there c.self.inside c.args.self.now c.self.view_is (row_seen c.args.row) c.requires.ready.0

  -- the index has a list of its own
  listed : HasOwnList (order_at (seen_of c.self.inside).plain.orders c.args.index)
  listed = subst (λ (w : Seen). HasOwnList (order_at w.plain.orders c.args.index)) (sym c.self.view_is) c.requires.ready.2

  -- the row behind it, if one is named, is another
  abbrev behind : Option ℕ
  behind = option_map (λ (p : RowRef). p.id) (option_map row_seen c.args.behind)

  other : IsOtherNode c.self.inside.ids.entries c.args.row.id behind c.node_of.result
  other = subst (IsOtherNode c.self.inside.ids.entries c.args.row.id behind) (sym c.node_of.ensures)
      (other_node c.self.inside c.args.self.now c.self.view_is c.args.row.id c.args.behind c.requires.ready.1)

pub relocate-requires : goal.relocate-requires
relocate-requires c =
    let i = c.self.inside in let o = (goal.at.relocate-requires c).After-node_of in
    record {
      rss = c.self.invariant.rss;
      stand = c.self.invariant.stand;
      can = can_move i.schema i.ids.entries i.nodes.pool i.nodes.structures.items i.next i.arrivals c.self.invariant
          c.args.row.id c.args.row.node (there o) c.args.index (listed o) (behind o) c.node_of.result (other o);
    }

pub invariant_of-self : goal.invariant_of-self
invariant_of-self c =
    let i = c.self.inside in let o = (goal.at.invariant_of-self c).After-node_of in
    moved_multi i.schema i.ids.entries i.nodes.pool i.nodes.structures.items i.next i.arrivals c.self.invariant
    c.args.row.id c.args.row.node (there o) c.args.index (listed o) (behind o) c.node_of.result (other o)
    c.relocate.new.self.pool c.relocate.new.self.structures.items c.relocate.ensures.like c.relocate.ensures.pass
    (subst (λ (w : Seen). IsData w.shape (taken_back (Relocated c.args.index (row_seen c.args.row) (option_map row_seen c.args.behind)) w.plain))
    (sym c.self.view_is) c.requires.before)

pub returns-clause-plain : goal.returns-clause-plain
returns-clause-plain c =
    let i = c.self.inside in let o = (goal.at.returns-clause-plain c).After-node_of in
    let new : Data = plain_of i.schema i.ids.entries c.relocate.new.self.pool c.relocate.new.self.structures.items i.next i.arrivals in
    subst (λ (w : Seen). new ≡ taken_back (Relocated c.args.index (row_seen c.args.row) (option_map row_seen c.args.behind)) w.plain) c.self.view_is
    (moved_seen i.schema i.ids.entries i.nodes.pool i.nodes.structures.items i.next i.arrivals c.self.invariant
    c.args.row.id c.args.row.node (there o) c.args.index (listed o) (behind o) c.node_of.result (other o)
    c.relocate.new.self.pool c.relocate.new.self.structures.items c.relocate.ensures.like c.relocate.ensures.pass)

pub returns-clause-secrets : goal.returns-clause-secrets
returns-clause-secrets c = secrets_kept c.self.inside c.self.view_is _ c.relocate.ensures.like
