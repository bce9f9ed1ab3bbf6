-- what a catalog opens with
use Rattle.std.proofs.Common.{sym, subst}
use Rattle.mi_database.specs.Most.{AllHaveAtMost}
use Rattle.mi_database.proofs.OpeningLemmas.{opened_at, opened_state}
use Rattle.mi_database.proofs.linked.Linked.new.Goals as goal

pub invariant_of-result : goal.invariant_of-result
invariant_of-result g c = (
  opened_at c.args.catalog _ _ c.new.result.sessions c.first_revision-revision.result
      c.keeps_rules.ensures c.in_ok-containers.ensures.shapes c.in_ok-containers.ensures.datas c.new.ensures.sessions c.first_revision-revision.ensures.value
      c.first_revision-revision.ensures.within,
  subst (λ m. AllHaveAtMost m c.args.catalog) (sym c.new.ensures.most) c.most_keyed_indexes-most.ensures.all,
)

pub returns-clause-state : goal.returns-clause-state
returns-clause-state g c =
    opened_state c.args.catalog _ c.new.result.sessions c.first_revision-revision.result
    c.in_ok-containers.ensures.datas c.new.ensures.sessions c.first_revision-revision.ensures.value
