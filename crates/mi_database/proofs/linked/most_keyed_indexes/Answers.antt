-- one table more has been looked at
use Rattle.std.proofs.Common.{◌≡◌, ◌∙◌, true, length, ap, subst, arith}
use Rattle.mi_catalog.specs.Shape.{Shape}
use Rattle.mi_catalog.specs.Rules.{is_schema}
use Rattle.mi_database.specs.Most.{keyed_count, OneHas}
use Rattle.mi_database.proofs.MostLemmas.{counted_up, one_more_has}
use Rattle.std.specs.Ordering.{ord_max, nat_cmp}
use Rattle.mi_database.proofs.linked.most_keyed_indexes.Goals as goal

pub loop-n-preserved : goal.loop-n-preserved
loop-n-preserved c =
    let there = c.table-table.ensures in
    let kept = subst (λ (s : Shape). is_schema s ≡ true) there c.keeps_rules.ensures in
    let count = c.keyed_indexes.ensures ∙ ap (λ (s : Shape). keyed_count s.indexes) there in
    let more = c.max-most.ensures ∙ ap (ord_max nat_cmp c.loop-n.most) count in (
      counted_up c.args.catalog.now c.loop-n.n c.loop-n.most c.max-most.result c.loop-n.invariant.0 kept more,
      one_more_has c.args.catalog.now c.loop-n.n c.loop-n.most c.max-most.result c.loop-n.invariant.1 more,
    )

pub returns-clause-some : goal.returns-clause-some
returns-clause-some c =
    let last = c.loop-n.auto.n-end in
    let end = c.table_count-n-end.ensures in
    let done = c.loop-n-test.false in
    let all : c.loop-n.n ≡ length c.args.catalog.now.tables = omega (arith, last, end, done) in
    subst (λ k. OneHas k c.loop-n.most c.args.catalog.now) all c.loop-n.invariant.1
