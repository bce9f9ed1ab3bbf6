-- The object is the value behind the name, or there is none.
use Rattle.std.proofs.Common.{Some, None, refl, sym, ap, ◌∙◌}
use Rattle.serde_json.specs.Data.{object}
use Rattle.mi_request.proofs.flat.edits.Goals as goal

pub returns-then-not-take_key : goal.returns-then-not-take_key
returns-then-not-take_key g c s is plain = (None, c.if-not-take_key.ensures s is plain, ap Some (sym c.new.ensures))

pub returns : goal.returns
returns g c s is plain = (
  Some (object c.new-2.result),
  (
    c.take_key.new.self,
    c.if-not-take_key.ensures s is plain,
    c.in_ok-pass_object.ensures ∙ ap (λ ms. Some (object ms, c.pass_object.new.tokens)) (sym c.new-2.ensures),
  ),
  refl,
)
