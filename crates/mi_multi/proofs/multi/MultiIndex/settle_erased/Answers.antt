-- The kept node is freed, and no row, place or stamp changes.
use Rattle.std.proofs.Common.{◌≡◌, false, map, ap, sym, ◌∙◌, subst}
use Rattle.std.specs.declared.option.Option.TheVariants.{None}
use Rattle.mi_container.specs.Data.{Data}
use Rattle.mi_container.specs.Inverse.{settled}
use Rattle.mi_container.specs.Inverse.Inverse.{Erased}
use Rattle.mi_container.specs.Backs.{row_seen}
use Rattle.mi_multi.specs.Multi.{IsMulti, plain_of}
use Rattle.mi_multi.specs.Seen.{Seen, secret_in}
use Rattle.mi_multi.proofs.AnswerLemmas.{kept_there}
use Rattle.mi_multi.proofs.SettleLemmas.{given_seen, given_multi}
use Rattle.mi_multi.proofs.multi.MultiIndex.settle_erased.Goals as goal

pub free-freed-requires : goal.free-freed-requires
free-freed-requires c =
    let there = kept_there c.self.inside c.args.self.now c.self.view_is (row_seen c.args.row) c.requires in
    record { held = (c.self.invariant.held c.args.row.id (record { node = c.args.row.node; live = false }) there).held }

pub invariant_of-self : goal.invariant_of-self
invariant_of-self c =
    let i = c.self.inside in let there = kept_there i c.args.self.now c.self.view_is (row_seen c.args.row) c.requires in
    let f = c.free-freed.ensures in let pool = c.free-freed.new.self.pool in let items = c.free-freed.new.self.structures.items in
    subst (λ w. IsMulti i.schema w pool items i.next i.arrivals) (sym c.remove.ensures.entries)
    (given_multi i.schema i.ids.entries i.nodes.pool i.nodes.structures.items i.next i.arrivals c.self.invariant
    c.args.row.id c.args.row.node there pool items f.pool (ap (λ v. v.items) f.structures) f.stand)

pub returns-clause-plain : goal.returns-clause-plain
returns-clause-plain c =
    let i = c.self.inside in let there = kept_there i c.args.self.now c.self.view_is (row_seen c.args.row) c.requires in
    let f = c.free-freed.ensures in let pool = c.free-freed.new.self.pool in let items = c.free-freed.new.self.structures.items in
    let new : Data = plain_of i.schema c.remove.new.self.entries pool items i.next i.arrivals in
    subst (λ (w : Seen). new ≡ settled (Erased (row_seen c.args.row) None) w.plain) c.self.view_is
    (ap (λ w. plain_of i.schema w pool items i.next i.arrivals) c.remove.ensures.entries
    ∙ given_seen i.schema i.ids.entries i.nodes.pool i.nodes.structures.items i.next i.arrivals c.self.invariant
    c.args.row.id c.args.row.node there pool items f.pool (ap (λ v. v.items) f.structures) f.stand)

pub returns-clause-secrets : goal.returns-clause-secrets
returns-clause-secrets c = ap (λ v. map secret_in v.items) c.free-freed.ensures.structures ∙ ap (λ (w : Seen). w.secrets) c.self.view_is
