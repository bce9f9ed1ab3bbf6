-- The object has this one member.
use Rattle.std.proofs.Common.{refl, sym, ap, ◌∙◌}
use Rattle.json.specs.Json.{read_key}
use Rattle.serde_json.specs.Data.{array}
use Rattle.mi_request.proofs.FlatLemmas.{one_member}
use Rattle.mi_request.proofs.flat.one_end.Goals as goal

pub returns-then-take_key : goal.returns-then-take_key
returns-then-take_key g c w o is plain other same =
    let l = c.in_ok-last_key.ensures in (
      tt,
      one_member w _ c.take_object.new.self c.take_key.new.self l.0 _ (array c.in_ok-last_key.field-0) (c.if-not-take_object.ensures refl)
          (c.if-take_key.ensures w is plain) l.1 l.2,
    )

pub returns : goal.returns
returns g c w o is plain other same =
    let l = c.in_ok-last_key-2.ensures in (
      tt,
      one_member o _ c.take_object.new.self c.take_key-2.new.self l.0 _ (array c.in_ok-last_key-2.field-0) (c.if-not-take_object.ensures refl)
          (ap read_key (sym (c.if-take_key.ensures w is plain)) ∙ c.if-not-take_key.ensures o other same) l.1 l.2,
    )
