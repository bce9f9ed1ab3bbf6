-- What is left of a walk is a walk.
use Rattle.std.proofs.Common.{drop, ◌∙◌}
use Rattle.test_storage.proofs.StockLemmas.{walk_held}
use Rattle.test_storage.proofs.tests.trees.stock.three_of.Goals as goal

pub next-second-requires : goal.next-second-requires
next-second-requires c = let w = c.requires.walk in (w.0, drop 1 w.1, c.next-first.ensures.walk w.0 w.1 w.2)

pub next-third-requires : goal.next-third-requires
next-third-requires c =
    let w = c.requires.walk in (w.0, drop 1 (drop 1 w.1), c.next-second.ensures.walk w.0 (drop 1 w.1) (c.next-first.ensures.walk w.0 w.1 w.2))

pub id_of-requires : goal.id_of-requires
id_of-requires c =
    let w = c.requires.walk in
    walk_held c.args.pool.now c.args.read.now.pool c.args.walk.now w.0 w.1 c.next-first.result w.2 c.requires.pool (c.next-first.ensures.node w.0 w.1 w.2)

pub id_of-requires-2 : goal.id_of-requires-2
id_of-requires-2 c =
    let w = c.requires.walk in let us = drop 1 w.1 in let one = c.next-first.ensures.walk w.0 w.1 w.2 in
    walk_held c.args.pool.now c.next-first.new.p.pool c.next-first.new.self w.0 us c.next-second.result
    one (c.next-first.ensures.pool ∙ c.requires.pool) (c.next-second.ensures.node w.0 us one)

pub id_of-requires-3 : goal.id_of-requires-3
id_of-requires-3 c =
    let w = c.requires.walk in let us = drop 1 w.1 in let one = c.next-first.ensures.walk w.0 w.1 w.2 in let two = c.next-second.ensures.walk w.0 us one in
    walk_held c.args.pool.now c.next-second.new.p.pool c.next-second.new.self w.0 (drop 1 us) c.next-third.result two
    (c.next-second.ensures.pool ∙ c.next-first.ensures.pool ∙ c.requires.pool) (c.next-third.ensures.node w.0 (drop 1 us) two)
