-- The node gets its old record and its old places, and the data are those before.
use Rattle.std.proofs.Common.{◌≡◌, ◌-◌, true, Some, map, sym, ◌∙◌, subst}
use Rattle.mi_order.specs.declared.stored.Stored.{Stored}
use Rattle.mi_index.specs.Pass.{AllCan}
use Rattle.mi_index.specs.Rekeying.{returning_to, returned_to, IsRekeyed}
use Rattle.mi_container.specs.Data.{Data, IsData}
use Rattle.mi_container.specs.Inverse.{Inverse, taken_back}
use Rattle.mi_container.specs.Inverse.Inverse.{Put}
use Rattle.mi_container.specs.Fits.{Ready}
use Rattle.mi_container.specs.Backs.{row_seen}
use Rattle.mi_multi.specs.Multi.{plain_of}
use Rattle.mi_multi.specs.Seen.{Seen}
use Rattle.mi_multi.specs.Restored.{old_seen, to_place}
use Rattle.std.specs.FinMap.{get}
use Rattle.std.specs.Option.{option_map}
use Rattle.mi_multi.proofs.TakeBackInsertLemmas.{live_there}
use Rattle.mi_multi.proofs.OldRecordPlaceLemmas.{taken_as_kept, can_move_back}
use Rattle.mi_multi.proofs.TakeBackPutLemmas.{unput_seen, unput_multi}
use Rattle.mi_multi.proofs.SecretLemmas.{secrets_kept}
use Rattle.mi_multi.proofs.multi.MultiIndex.take_back_put.Goals.{After-as_slice, After-rekey_back-put}
use Rattle.mi_multi.proofs.multi.MultiIndex.take_back_put.Goals as goal

module _ (c : After-as_slice) where
  -- what is taken back, and the data before that
  abbrev put : Inverse
  put = Put (row_seen c.args.row) (old_seen c.args.old c.args.places.now.items)

  abbrev data_now : Data
  data_now = plain_of c.self.inside.schema c.self.inside.ids.entries c.self.inside.nodes.pool c.self.inside.nodes.structures.items
      c.self.inside.next c.self.inside.arrivals

  -- the node's value then
  abbrev restored : Stored
  restored = record { id = c.args.row.id; row = c.args.old }

  ready : Ready put data_now
  ready = subst (λ (w : Seen). Ready put w.plain) (sym c.self.view_is) c.requires.ready

  before : IsData c.self.inside.schema (taken_back put data_now)
  before = subst (λ (w : Seen). IsData w.shape (taken_back put w.plain)) (sym c.self.view_is) c.requires.before

  -- the row is live, in its node
  there : get c.self.inside.ids.entries c.args.row.id ≡ Some (record { node = c.args.row.node; live = true })
  there = live_there c.self.inside c.args.self.now c.self.view_is (row_seen c.args.row) c.requires.ready.0

  -- and may go back to each old place
  can : AllCan (returning_to c.as_slice.result.now c.args.row.node restored) c.self.inside.nodes.structures.items 0
      c.self.inside.nodes.pool c.self.invariant.rss
  can = let i = c.self.inside in let given = c.as_slice.ensures.value ∙ sym (taken_as_kept c.args.places.now.items) in
      subst (λ q. AllCan (returning_to q c.args.row.node restored) i.nodes.structures.items 0 i.nodes.pool c.self.invariant.rss) (sym given)
      (can_move_back i.schema i.ids.entries i.nodes.pool i.nodes.structures.items i.next i.arrivals c.self.invariant
      c.args.row.id c.args.row.node there (old_seen c.args.old c.args.places.now.items) ready.2 before)

pub rekey_back-put-requires-clause-held : goal.rekey_back-put-requires-clause-held
rekey_back-put-requires-clause-held c =
    let there = there (goal.at.rekey_back-put-requires-clause-held c).After-as_slice in
    (c.self.invariant.held c.args.row.id (record { node = c.args.row.node; live = true }) there).held

pub rekey_back-put-requires-clause-places : goal.rekey_back-put-requires-clause-places
rekey_back-put-requires-clause-places c = record {
  rss = c.self.invariant.rss;
  stand = c.self.invariant.stand;
  can = can (goal.at.rekey_back-put-requires-clause-places c).After-as_slice;
}

module _ (c : After-rekey_back-put) (all : AllCan (returning_to c.as_slice.result.now c.args.row.node (record { id = c.args.row.id; row = c.args.old }))
    c.self.inside.nodes.structures.items 0 c.self.inside.nodes.pool c.self.invariant.rss) where
  -- the node stands again where its old places say
  done : IsRekeyed (returned_to (map (option_map to_place) (old_seen c.args.old c.args.places.now.items).places) c.args.row.node) c.args.row.node
      (record { id = c.args.row.id; row = c.args.old }) c.self.inside.nodes.structures.items c.rekey_back-put.new.self.structures.items
      c.self.inside.nodes.pool c.rekey_back-put.new.self.pool c.self.invariant.rss
  done = let i = c.self.inside in
      subst (λ q. IsRekeyed (returned_to q c.args.row.node) c.args.row.node (record { id = c.args.row.id; row = c.args.old }) i.nodes.structures.items
      c.rekey_back-put.new.self.structures.items i.nodes.pool c.rekey_back-put.new.self.pool c.self.invariant.rss)
      (c.as_slice.ensures.value ∙ sym (taken_as_kept c.args.places.now.items)) (c.rekey_back-put.ensures.rekeyed c.self.invariant.rss c.self.invariant.stand all)

pub invariant_of-self : goal.invariant_of-self
invariant_of-self c =
    let i = c.self.inside in let o = goal.at.invariant_of-self c in let f = o.After-as_slice in
    unput_multi i.schema i.ids.entries i.nodes.pool c.rekey_back-put.new.self.pool i.nodes.structures.items
    c.rekey_back-put.new.self.structures.items i.next i.arrivals c.self.invariant c.args.row.id c.args.row.node (there f)
    (old_seen c.args.old c.args.places.now.items) (ready f).2 (before f) c.rekey_back-put.ensures.like (done o.After-rekey_back-put (can f))

pub returns-clause-plain : goal.returns-clause-plain
returns-clause-plain c =
    let i = c.self.inside in let o = goal.at.returns-clause-plain c in let f = o.After-as_slice in
    let new : Data = plain_of i.schema i.ids.entries c.rekey_back-put.new.self.pool c.rekey_back-put.new.self.structures.items i.next (i.arrivals - 1) in
    subst (λ (w : Seen). new ≡ taken_back (put f) w.plain) c.self.view_is
    (unput_seen i.schema i.ids.entries i.nodes.pool c.rekey_back-put.new.self.pool i.nodes.structures.items
    c.rekey_back-put.new.self.structures.items i.next i.arrivals c.self.invariant c.args.row.id c.args.row.node (there f)
    (old_seen c.args.old c.args.places.now.items) (ready f).2 (before f) c.rekey_back-put.ensures.like (done o.After-rekey_back-put (can f)))

pub returns-clause-secrets : goal.returns-clause-secrets
returns-clause-secrets c = secrets_kept c.self.inside c.self.view_is _ c.rekey_back-put.ensures.like
