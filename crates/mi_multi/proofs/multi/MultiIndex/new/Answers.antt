-- Empty indexes over an empty pool stand for the data of an empty table.
use Rattle.std.proofs.Common.{sym, ◌∙◌, subst}
use Rattle.mi_index.specs.Opened.{IsOpened}
use Rattle.mi_multi.specs.Multi.{IsMulti, plain_of}
use Rattle.mi_multi.proofs.OpeningLemmas.{opened_seen, opened_multi, opened_keys}
use Rattle.mi_multi.proofs.HeldLemmas.{opened_held}
use Rattle.mi_multi.proofs.multi.MultiIndex.new.Goals as goal

pub invariant_of-result : goal.invariant_of-result
invariant_of-result c =
    let s = c.args.schema in
    let opened : IsOpened c.args.secret s c.in_ok-nodes.nodes.pool c.in_ok-nodes.nodes.structures.items = rw c.in_ok-nodes.was at c.new.ensures in
    let made = opened_multi c.args.secret s c.new-2.result.entries c.in_ok-nodes.nodes.pool
    c.in_ok-nodes.nodes.structures.items c.keeps_rules.ensures c.new-2.ensures opened in
    subst (λ a. IsMulti s c.new-2.result.entries c.in_ok-nodes.nodes.pool c.in_ok-nodes.nodes.structures.items c.first_id-next.result a)
    (sym c.first_arrival-arrivals.ensures.value)
    (subst (λ n. IsMulti s c.new-2.result.entries c.in_ok-nodes.nodes.pool c.in_ok-nodes.nodes.structures.items n s.first_arrival)
    (sym c.first_id-next.ensures.value) made)

pub returns-clause-plain : goal.returns-clause-plain
returns-clause-plain c =
    let s = c.args.schema in
    let opened : IsOpened c.args.secret s c.in_ok-nodes.nodes.pool c.in_ok-nodes.nodes.structures.items = rw c.in_ok-nodes.was at c.new.ensures in
    let next = c.first_id-next.ensures.value in
    let arrivals = c.first_arrival-arrivals.ensures.value in
    (λ i. plain_of s c.new-2.result.entries c.in_ok-nodes.nodes.pool c.in_ok-nodes.nodes.structures.items (next i) (arrivals i))
    ∙ opened_seen c.args.secret s c.new-2.result.entries c.in_ok-nodes.nodes.pool c.in_ok-nodes.nodes.structures.items c.keeps_rules.ensures c.new-2.ensures opened

pub returns-clause-held : goal.returns-clause-held
returns-clause-held c =
    let s = c.args.schema in
    let opened : IsOpened c.args.secret s c.in_ok-nodes.nodes.pool c.in_ok-nodes.nodes.structures.items = rw c.in_ok-nodes.was at c.new.ensures in
    opened_held c.args.secret s c.in_ok-nodes.nodes.pool c.in_ok-nodes.nodes.structures.items opened

pub returns-clause-secrets : goal.returns-clause-secrets
returns-clause-secrets c =
    let s = c.args.schema in
    let opened : IsOpened c.args.secret s c.in_ok-nodes.nodes.pool c.in_ok-nodes.nodes.structures.items = rw c.in_ok-nodes.was at c.new.ensures in
    opened_keys c.args.secret s c.in_ok-nodes.nodes.pool c.in_ok-nodes.nodes.structures.items opened
