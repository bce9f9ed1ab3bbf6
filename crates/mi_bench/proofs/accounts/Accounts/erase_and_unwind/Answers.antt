-- the erase that was just made can be taken back
use Rattle.mi_container.specs.Backs.{places_seen}
use Rattle.mi_bench.proofs.UndoneLemmas.{erase_back}
use Rattle.mi_bench.proofs.accounts.Accounts.erase_and_unwind.Goals as goal

pub unwind-requires-clause-ready : goal.unwind-requires-clause-ready
unwind-requires-clause-ready c =
    let was = c.args.self.now.rows in
    (erase_back was.shape c.erase.new.self.shape c.args.id was.plain _ c.erase.new.self.plain
    c.keeps_rules.ensures c.erase.ensures.shape (c.in-Ok.ensures.made (places_seen c.args.self.now.laid.items))).0

pub unwind-requires-clause-before : goal.unwind-requires-clause-before
unwind-requires-clause-before c =
    let was = c.args.self.now.rows in
    (erase_back was.shape c.erase.new.self.shape c.args.id was.plain _ c.erase.new.self.plain
    c.keeps_rules.ensures c.erase.ensures.shape (c.in-Ok.ensures.made (places_seen c.args.self.now.laid.items))).1
