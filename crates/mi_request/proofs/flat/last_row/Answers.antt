-- The object is the value behind the name, and the end of the text behind that.
use Rattle.std.proofs.Common.{Some, codes, refl, sym, ap, ◌∙◌}
use Rattle.json.specs.Print.{escape_byte}
use Rattle.serde_json.specs.Data.{object}
use Rattle.mi_request.proofs.flat.last_row.Goals as goal

pub returns-then-take_end : goal.returns-then-take_end
unfolding escape_byte
returns-then-take_end c = (
  c.pass_object.new.tokens,
  (
    c.take_key.new.self,
    c.if-not-take_key.ensures (codes "row") refl refl,
    c.in_ok-pass_object.ensures ∙ ap (λ ms. Some (object ms, c.pass_object.new.tokens)) (sym c.new-row.ensures),
  ),
  c.if-take_end.ensures refl,
)
