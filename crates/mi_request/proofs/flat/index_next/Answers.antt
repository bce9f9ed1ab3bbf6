-- The text is the value behind the name.
use Rattle.std.proofs.Common.{Some, codes, refl, sym, ap, ◌∙◌}
use Rattle.json.specs.Json.{value}
use Rattle.json.specs.Print.{escape_byte}
use Rattle.json.proofs.Grammar.{value_is}
use Rattle.serde_json.specs.Data.{string}
use Rattle.serde_json.specs.Read.{of_json, converted}
use Rattle.mi_request.proofs.flat.index_next.Goals as goal

pub returns : goal.returns
unfolding escape_byte
returns c = (
  c.take_key.new.self,
  c.if-not-take_key.ensures (codes "index") refl refl,
  ap (converted of_json) (ap (value 126) c.in_ok-take_text.ensures ∙ value_is 126 _) ∙ ap (λ n. Some (string n, c.take_text.new.self)) (sym c.new.ensures),
)
