-- the ids that are left, from the best so far on, say what all say
use Rattle.std.proofs.Common.{◌≡◌, not, drop, IsTrue, IfSome}
use Rattle.std.specs.declared.option.Option.TheVariants.{None}
use Rattle.mi_model.specs.Table.{has, list_of}
use Rattle.mi_plain.specs.Boundary.{order_in, is_before}
use Rattle.mi_plain.proofs.PassLemmas.{first_kept}
use Rattle.mi_plain.proofs.table.PlainTable.first_past.Given as goal

abbrev pub invariant-loop-i : goal.invariant-loop-i
invariant-loop-i l =
    record {
      left : first_kept (order_in l.index l.self) (λ a. not (is_before l.index l.self (list_of l.self l.x) l.key l.boundary a)) l.best (drop l.i l.ids)
          ≡ first_kept (order_in l.index l.self) (λ a. not (is_before l.index l.self (list_of l.self l.x) l.key l.boundary a)) None l.ids;
      there : IfSome l.best (λ b. IsTrue (has l.self b));
    }
