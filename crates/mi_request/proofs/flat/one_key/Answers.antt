-- The array is the value behind the name, and the end of the text behind that.
use Rattle.std.proofs.Common.{Some, codes, refl, sym, ap, ◌∙◌, arith}
use Rattle.json.specs.Print.{escape_byte}
use Rattle.serde_json.specs.Data.{array}
use Rattle.mi_request.proofs.flat.one_key.Goals as goal

pub returns-then-take_end : goal.returns-then-take_end
unfolding escape_byte
returns-then-take_end c = (
  c.pass_one.new.tokens,
  (
    c.take_key.new.self,
    c.if-not-take_key.ensures (codes "key") refl refl,
    c.in_ok-pass_one.ensures 126 (omega arith) ∙ ap (λ xs. Some (array xs, c.pass_one.new.tokens)) (sym c.new-key.ensures),
  ),
  c.if-take_end.ensures refl,
)
