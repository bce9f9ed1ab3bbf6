-- So are all.
use Rattle.std.proofs.Common.{◌≡◌, map, length, arith}
use Rattle.mi_model.specs.Table.{ListsEach}
use Rattle.mi_container.specs.Data.{as_table}
use Rattle.mi_container.proofs.RestoreLemmas.{each_list}
use Rattle.mi_multi.proofs.RestoringLemmas.{long_given}
use Rattle.mi_multi.proofs.multi.MultiIndex.check_lists.Goals as goal

pub returns-clause-each : goal.returns-clause-each
returns-clause-each c =
    each_list (ListsEach (as_table c.args.self.now.plain)) (map (λ v. v.items) c.args.lists.now)
    (λ x l. c.loop-index.invariant.each x (let g = long_given c.args.lists.now in let f = c.loop-index-test.false in omega (arith, g, f, l)))

pub returns-clause-counts : goal.returns-clause-counts
returns-clause-counts c =
    each_list (λ q. length q ≡ length c.args.ids.now) (map (λ v. v.items) c.args.lists.now)
    (λ x l. c.loop-index.invariant.long x (let g = long_given c.args.lists.now in let f = c.loop-index-test.false in omega (arith, g, f, l)))
