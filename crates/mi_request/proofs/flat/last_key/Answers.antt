-- The array stands in front of the brace.
use Rattle.std.proofs.Common.{refl, sym, ap, ◌∙◌, arith, Some}
use Rattle.serde_json.specs.Data.{array}
use Rattle.mi_request.proofs.flat.last_key.Goals as goal

pub returns-then-take_close : goal.returns-then-take_close
returns-then-take_close c = (
  c.pass_one.new.tokens,
  c.in_ok-pass_one.ensures 125 (omega arith) ∙ ap (λ xs. Some (array xs, c.pass_one.new.tokens)) (sym c.new-key.ensures),
  c.if-take_close.ensures refl,
)
