-- The record of the live node of an id is the row's.
use Rattle.std.proofs.Common.{◌≡◌, true, sym, ◌∙◌, subst}
use Rattle.std.specs.declared.option.Option.TheVariants.{None, Some}
use Rattle.mi_model.specs.Table.{get as get_row}
use Rattle.mi_container.specs.Data.{as_table}
use Rattle.mi_multi.specs.Seen.{Seen}
use Rattle.mi_multi.proofs.AnswerLemmas.{live_is, no_record, record_of}
use Rattle.mi_multi.proofs.multi.MultiIndex.get.Goals as goal

pub returns-in_default-clause-record : goal.returns-in_default-clause-record
returns-in_default-clause-record c =
    let i = c.self.inside in
    subst (λ (w : Seen). None ≡ get_row (as_table w.plain) c.args.id) c.self.view_is
    (sym (no_record i.schema i.ids.entries i.nodes.pool i.nodes.structures.items i.next i.arrivals c.args.id (sym c.live.ensures ∙ c.in_default.is)))

pub value-requires : goal.value-requires
value-requires c =
    let i = c.self.inside in
    let there = live_is i.ids.entries c.args.id c.in-Some.node (sym c.live.ensures ∙ c.in-Some.is) in
    (c.self.invariant.held c.args.id (record { node = c.in-Some.node; live = true }) there).held

pub returns-clause-record : goal.returns-clause-record
returns-clause-record c =
    let i = c.self.inside in
    subst (λ (w : Seen). Some c.value.result.now.row ≡ get_row (as_table w.plain) c.args.id) c.self.view_is
    (sym (record_of i.schema i.ids.entries i.nodes.pool i.nodes.structures.items i.next i.arrivals
    c.args.id c.in-Some.node c.value.result.now (sym c.live.ensures ∙ c.in-Some.is) c.value.ensures))
