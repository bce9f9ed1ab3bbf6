-- The new node comes into every index with its stamp, and the data are those with the row.
use Rattle.std.proofs.Common.{◌≡◌, ◌+◌, ◌^◌, ◌≤◌, IfSome, true, refl, ap, sym, ◌∙◌, subst, arith}
use Rattle.std.specs.FinMap.{insert, len}
use Rattle.std.specs.declared.option.Option.TheVariants.{None}
use Rattle.mi_model.specs.Verdict.{insert_refusal}
use Rattle.mi_order.specs.declared.stored.Stored.{Stored}
use Rattle.mi_index.specs.Pass.{AllCan}
use Rattle.mi_index.specs.Inserting.{coming_in}
use Rattle.mi_container.specs.Asked.{IsSequenced}
use Rattle.mi_container.specs.Data.{Data, as_table}
use Rattle.mi_container.specs.Run.{PlaceFits}
use Rattle.mi_container.specs.Makes.{MakesInsert}
use Rattle.mi_container.specs.Inverse.Inverse.{Inserted}
use Rattle.mi_multi.specs.Before.{node_before}
use Rattle.mi_multi.specs.Multi.{IsMulti, plain_of}
use Rattle.mi_multi.specs.Seen.{Seen, seen_of}
use Rattle.mi_multi.proofs.AcceptLemmas.{Accepted, accepted, rises, place_fits, before_is}
use Rattle.mi_multi.proofs.InsertLemmas.{IsBefore, can_come}
use Rattle.mi_multi.proofs.InsertedLemmas.{come_seen, come_multi, unnamed}
use Rattle.mi_multi.proofs.RoomLemmas.{grown_seen, grown_multi}
use Rattle.mi_multi.proofs.SecretLemmas.{secrets_kept}
use Rattle.mi_multi.proofs.multi.MultiIndex.insert_accepted.Goals.{After-node_at-place}
use Rattle.mi_multi.proofs.multi.MultiIndex.insert_accepted.Goals as goal

module _ (c : After-node_at-place) where
  -- the new node's value
  abbrev value : Stored
  value = record { id = c.self.inside.next; row = c.args.row }

  -- no rule refuses it
  allowed : Accepted c.self.inside.schema c.args.before c.args.row (as_table (seen_of c.self.inside).plain)
  allowed = let i = c.self.inside in accepted i.schema c.args.before c.args.row (as_table (seen_of i).plain)
      (subst (λ (w : Seen). insert_refusal w.shape c.args.before c.args.row (as_table w.plain) ≡ None) (sym c.self.view_is) c.requires.accepted)

  -- the node before which it comes is that of the row that was named
  there : IsBefore c.self.inside.ids.entries c.args.before c.node_at-place.result
  there = let i = c.self.inside in
      subst (IsBefore i.ids.entries c.args.before)
      (sym (c.node_at-place.ensures ∙ ap (λ w. node_before w c.args.before) c.make_room.ensures.entries))
      (before_is i.schema i.ids.entries i.nodes.pool i.nodes.structures.items i.next i.arrivals c.args.before allowed.there)

  -- it can come in
  can : AllCan (coming_in value c.self.inside.arrivals c.node_at-place.result) c.self.inside.nodes.structures.items 0 c.self.inside.nodes.pool
      c.self.invariant.rss
  can = let i = c.self.inside in
      can_come i.schema i.ids.entries i.nodes.pool i.nodes.structures.items i.next i.arrivals c.self.invariant
      value refl c.args.before c.node_at-place.result there

  -- the index that was named, if one was, has a list of its own
  fits : PlaceFits c.args.before (plain_of c.self.inside.schema c.self.inside.ids.entries c.self.inside.nodes.pool
      c.self.inside.nodes.structures.items c.self.inside.next c.self.inside.arrivals).orders
  fits = let i = c.self.inside in
      place_fits i.schema i.ids.entries i.nodes.pool i.nodes.structures.items i.next i.arrivals c.args.before
      (subst (λ (w : Seen). IfSome c.args.before (λ p. IsSequenced w.shape p.0)) (sym c.self.view_is) c.requires.before)

pub link_in-requires : goal.link_in-requires
link_in-requires c = record {
  room = record { rss = c.self.invariant.rss; stand = c.self.invariant.stand; can = can (goal.at.link_in-requires c).After-node_at-place };
}

pub invariant_of-self-in-Ok-link_in : goal.invariant_of-self-in-Ok-link_in
invariant_of-self-in-Ok-link_in c =
    let i = c.self.inside in let is = c.self.invariant in let f = (goal.at.invariant_of-self-in-Ok-link_in c).After-node_at-place in
    let r = c.in-Ok-link_in.node in
    let came = c.in-Ok-link_in.ensures.ok is.rss is.stand (can f) in
    let entries = c.insert.ensures.entries ∙ ap (λ w. insert w i.next (record { node = r; live = true })) c.make_room.ensures.entries in
    let few : len i.ids.entries + 1 ≤ 2 ^ 31 =
    (let l : c.len.result ≡ len i.ids.entries = c.len.ensures in let k = c.if-len-ge-MOST_NODES.false in omega (arith, k)) in
    subst (λ w. IsMulti i.schema w c.link_in.new.self.pool c.link_in.new.self.structures.items (i.next + 1) (i.arrivals + 1)) (sym entries)
    (come_multi i.schema i.ids.entries i.nodes.pool c.link_in.new.self.pool i.nodes.structures.items c.link_in.new.self.structures.items
    i.next i.arrivals is (value f) refl c.args.before c.node_at-place.result (there f) r c.link_in.ensures.like came
    (rises i.next _ is.next_fits (allowed f).next) (rises i.arrivals _ is.arrivals_fit (allowed f).arrivals) few (fits f) (allowed f).alone)

pub invariant_of-self-in-Err : goal.invariant_of-self-in-Err
invariant_of-self-in-Err c =
    let i = c.self.inside in
    let is = c.self.invariant in
    subst (λ w. IsMulti i.schema w c.link_in.new.self.pool c.link_in.new.self.structures.items i.next i.arrivals) (sym c.make_room.ensures.entries)
    (grown_multi i.schema i.ids.entries i.nodes.pool c.link_in.new.self.pool i.nodes.structures.items
    c.link_in.new.self.structures.items i.next i.arrivals is c.link_in.ensures.like c.in-Err.ensures.err)

pub returns-in-Ok-link_in-clause-made : goal.returns-in-Ok-link_in-clause-made
returns-in-Ok-link_in-clause-made c =
    let i = c.self.inside in let is = c.self.invariant in let f = (goal.at.returns-in-Ok-link_in-clause-made c).After-node_at-place in
    let r = c.in-Ok-link_in.node in
    let came = c.in-Ok-link_in.ensures.ok is.rss is.stand (can f) in
    let entries = c.insert.ensures.entries ∙ ap (λ w. insert w i.next (record { node = r; live = true })) c.make_room.ensures.entries in
    let new : Data = plain_of i.schema c.insert.new.self.entries c.link_in.new.self.pool c.link_in.new.self.structures.items (i.next + 1) (i.arrivals + 1) in
    subst (λ (w : Seen). MakesInsert w.shape c.args.before c.args.row w.plain (Inserted (record { id = i.next; at = r })) new) c.self.view_is (
      r,
      record {
        allowed = (
          fits f,
          unnamed i.schema i.ids.entries i.nodes.pool c.link_in.new.self.pool i.nodes.structures.items c.link_in.new.self.structures.items
              i.next i.arrivals is (value f) refl c.args.before c.node_at-place.result (there f) r c.link_in.ensures.like came,
          (allowed f).alone,
        );
        changed_data = ap (λ w. plain_of i.schema w c.link_in.new.self.pool c.link_in.new.self.structures.items (i.next + 1) (i.arrivals + 1)) entries
            ∙ come_seen i.schema i.ids.entries i.nodes.pool c.link_in.new.self.pool i.nodes.structures.items c.link_in.new.self.structures.items
            i.next i.arrivals is (value f) refl c.args.before c.node_at-place.result (there f) r c.link_in.ensures.like came;
        inverse = refl;
      },
    )

pub returns-in-Err-clause-refused : goal.returns-in-Err-clause-refused
returns-in-Err-clause-refused c =
    let i = c.self.inside in
    let is = c.self.invariant in
    let new : Data = plain_of i.schema c.make_room.new.self.entries c.link_in.new.self.pool c.link_in.new.self.structures.items i.next i.arrivals in
    subst (λ (w : Seen). new ≡ w.plain) c.self.view_is
    (ap (λ w. plain_of i.schema w c.link_in.new.self.pool c.link_in.new.self.structures.items i.next i.arrivals) c.make_room.ensures.entries
    ∙ grown_seen i.schema i.ids.entries i.nodes.pool c.link_in.new.self.pool i.nodes.structures.items
    c.link_in.new.self.structures.items i.next i.arrivals is c.link_in.ensures.like c.in-Err.ensures.err)

pub returns-in-Ok-link_in-clause-secrets : goal.returns-in-Ok-link_in-clause-secrets
returns-in-Ok-link_in-clause-secrets c = secrets_kept c.self.inside c.self.view_is _ c.link_in.ensures.like

pub returns-in-Err-clause-secrets : goal.returns-in-Err-clause-secrets
returns-in-Err-clause-secrets c = secrets_kept c.self.inside c.self.view_is _ c.link_in.ensures.like
