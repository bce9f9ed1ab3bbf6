-- No places are no nodes.
use Rattle.std.proofs.Common.{◌≤◌, sym, subst, length, arith, ◌∙◌}
use Rattle.mi_node.specs.Seen.{seen, IsSound}
use Rattle.mi_node.proofs.MapLemmas.{seen-none, sound-none}
use Rattle.mi_node.proofs.SpareLemmas.{listed-none}
use Rattle.mi_node.proofs.storage.Storage.new.Goals as goal

pub returns-clause-nodes : goal.returns-clause-nodes
returns-clause-nodes g c =
    let cs = c.new-2.result.items in (λ i. seen c.args.slots cs (c.new.ensures i) (c.new-3.ensures i)) ∙ seen-none c.args.slots cs

pub returns-clause-sound : goal.returns-clause-sound
returns-clause-sound g c =
    let cs = c.new-2.result.items in let n = c.args.slots in let none = c.new-2.ensures.items in (
      subst (λ m. IsSound n cs c.new.result m) (sym c.new-3.ensures)
          (sound-none n cs c.new.result (subst (λ xs. length xs ≤ n) (sym none) (omega arith)) c.new.ensures),
      listed-none c.new.result c.new-3.result.marks _ c.new-3.ensures,
    )
