-- The bits that are taken are those of that neighbour.
use Rattle.std.proofs.Common.{◌≡◌, ℕ, Bool, true, false, cond, refl, ap, ◌∙◌}
use Rattle.mi_node.specs.Cells.{ref_in}
use Rattle.mi_node.proofs.cell.Cell.neighbour.Goals as goal

taken : (b : Bool) (x y : ℕ) → ref_in (cond b x y) ≡ cond b (ref_in x) (ref_in y)
taken true x y = refl
taken false x y = refl

pub returns : goal.returns
returns c = c.ref_of.ensures ∙ ap ref_in c.bits.ensures ∙ taken c.args.back c.args.self.back c.args.self.forth
