-- The row's node leaves every index and is kept; the data are those without the row.
use Rattle.std.proofs.Common.{◌≡◌, ap, sym, ◌∙◌, subst}
use Rattle.std.specs.declared.option.Option.TheVariants.{None}
use Rattle.std.specs.declared.result.Result.TheVariants.{Ok, Err}
use Rattle.mi_value.specs.declared.refusal.Refusal.TheVariants.{NoId}
use Rattle.mi_model.specs.Verdict.{erase_outcome}
use Rattle.mi_container.specs.Data.{Data, as_table}
use Rattle.mi_container.specs.Changes.{erased}
use Rattle.mi_container.specs.Inverse.Inverse.{Erased}
use Rattle.mi_container.specs.Makes.{Makes}
use Rattle.mi_container.specs.Run.Change.{Erase}
use Rattle.mi_ids.specs.IdMap.{live_node}
use Rattle.mi_multi.specs.Multi.{IsMulti, plain_of}
use Rattle.mi_multi.specs.Seen.{Seen, seen_of}
use Rattle.mi_multi.proofs.AnswerLemmas.{live_is, erase_refused, erase_made, erase_meets}
use Rattle.mi_multi.proofs.EraseLemmas.{can_leave, erased_seen, erased_multi}
use Rattle.mi_multi.proofs.SecretLemmas.{secrets_kept}
use Rattle.mi_multi.proofs.multi.MultiIndex.erase_for.Goals as goal

pub returns-in_default-clause-outcome : goal.returns-in_default-clause-outcome
returns-in_default-clause-outcome c =
    let i = c.self.inside in
    let none_ : live_node i.ids.entries c.args.id ≡ None = sym c.live.ensures ∙ c.in_default.is in
    subst (λ (w : Seen). ((erase_outcome c.args.id (as_table w.plain)).0 ≡ Err NoId) × (as_table w.plain ≡ (erase_outcome c.args.id (as_table w.plain)).1))
    c.self.view_is
    (erase_refused i.schema i.ids.entries i.nodes.pool i.nodes.structures.items i.next i.arrivals c.args.id none_)

pub take_out-requires : goal.take_out-requires
take_out-requires c =
    let i = c.self.inside in
    let is = c.self.invariant in
    let there = live_is i.ids.entries c.args.id c.in-Some.node (sym c.live.ensures ∙ c.in-Some.is) in
    record {
      rss = is.rss;
      stand = is.stand;
      can = can_leave i.schema i.ids.entries i.nodes.pool i.nodes.structures.items i.next i.arrivals is c.args.id c.in-Some.node there;
    }

pub invariant_of-self : goal.invariant_of-self
invariant_of-self c =
    let i = c.self.inside in
    let there = live_is i.ids.entries c.args.id c.in-Some.node (sym c.live.ensures ∙ c.in-Some.is) in
    subst (λ w. IsMulti i.schema w c.take_out.new.self.pool c.take_out.new.self.structures.items i.next i.arrivals) (sym c.keep.ensures.entries)
    (erased_multi i.schema i.ids.entries i.nodes.pool c.take_out.new.self.pool i.nodes.structures.items c.take_out.new.self.structures.items
    i.next i.arrivals c.self.invariant c.args.id c.in-Some.node there c.take_out.ensures.like c.take_out.ensures.pass)

-- the data after it
now_is : (c : goal.After-keep)
    → plain_of c.self.inside.schema c.keep.new.self.entries c.take_out.new.self.pool
    c.take_out.new.self.structures.items c.self.inside.next c.self.inside.arrivals
    ≡ erased c.args.id (seen_of c.self.inside).plain
now_is c =
    let i = c.self.inside in
    let there = live_is i.ids.entries c.args.id c.in-Some.node (sym c.live.ensures ∙ c.in-Some.is) in
    ap (λ w. plain_of i.schema w c.take_out.new.self.pool c.take_out.new.self.structures.items i.next i.arrivals) c.keep.ensures.entries
    ∙ erased_seen i.schema i.ids.entries i.nodes.pool c.take_out.new.self.pool i.nodes.structures.items c.take_out.new.self.structures.items
    i.next i.arrivals c.self.invariant c.args.id c.in-Some.node there c.take_out.ensures.like c.take_out.ensures.pass

pub returns-clause-outcome : goal.returns-clause-outcome
returns-clause-outcome c =
    let i = c.self.inside in
    let new : Data = plain_of i.schema c.keep.new.self.entries c.take_out.new.self.pool c.take_out.new.self.structures.items i.next i.arrivals in
    subst (λ (w : Seen). ((erase_outcome c.args.id (as_table w.plain)).0 ≡ Ok tt) × (as_table new ≡ (erase_outcome c.args.id (as_table w.plain)).1))
    c.self.view_is
    (erase_meets i.schema i.ids.entries i.nodes.pool i.nodes.structures.items i.next i.arrivals
    c.args.id c.in-Some.node new (sym c.live.ensures ∙ c.in-Some.is) (now_is c))

pub returns-clause-made : goal.returns-clause-made
returns-clause-made c =
    let i = c.self.inside in
    let new : Data = plain_of i.schema c.keep.new.self.entries c.take_out.new.self.pool c.take_out.new.self.structures.items i.next i.arrivals in
    λ ps. subst (λ (w : Seen). Makes w.shape (Erase c.args.id c.args.why) w.plain (Erased (record { id = c.args.id; at = c.in-Some.node }) c.args.why) new)
    c.self.view_is
    (erase_made i.schema i.ids.entries i.nodes.pool i.nodes.structures.items i.next i.arrivals
    c.args.id c.args.why c.in-Some.node new (sym c.live.ensures ∙ c.in-Some.is) (now_is c))

pub returns-clause-secrets : goal.returns-clause-secrets
returns-clause-secrets c = secrets_kept c.self.inside c.self.view_is _ c.take_out.ensures.like
