-- The item stands between the brackets, and no other.
use Rattle.std.proofs.Common.{◌≡◌, ◌-◌, ◌∷◌, Some, length, refl, sym, ap, ◌∙◌, arith}
use Rattle.json.specs.Json.{parse_map, items, value}
use Rattle.json.specs.Token.{begin_array}
use Rattle.json.proofs.Grammar.{value-begin_array}
use Rattle.serde_json.specs.Data.{array, item}
use Rattle.serde_json.specs.Read.{of_json, converted}
use Rattle.mi_tokens.specs.Meaning.{meaning, items_meaning}
use Rattle.mi_tokens.specs.Tokens.{token_of}
use Rattle.mi_tokens.proofs.ReadingLemmas.{converted_some, converted-array, item_read, items_over}
use Rattle.mi_tokens.proofs.TokenLemmas.{value_no_end}
use Rattle.mi_tokens.proofs.pass.pass_one.Goals as goal

pub returns : goal.returns
returns c depth some =
    let p = value (depth - 1) in
    let t = c.take_array.new.self in
    let u = c.next.new.self in
    let v = c.in_ok-item.item in
    let first : c.args.tokens.now ≡ begin_array ∷ t = c.if-not-take_array.ensures refl in
    let second : t ≡ token_of c.in_ok-next.field-0 ∷ u = c.in_ok-next.ensures in
    let read : converted of_json (p t) ≡ Some (meaning v, u) = ap (λ ts. converted of_json (p ts)) second ∙ c.in_ok-item.ensures (depth - 1) u in
    let found = converted_some of_json (p t) (meaning v) u read in
    let opened = ap (converted of_json) (ap (value depth) first ∙ value-begin_array depth t (omega (arith, some)))
    ∙ converted-array (items p (length t) t) in
    let turn = item_read p (length t) t u (meaning v) (omega (arith, ap length second)) (value_no_end (depth - 1) t u found.0 found.1) read in
    let end = items_over p (length t - 1) u c.take_end_array.new.self (omega (arith, ap length second)) c.if-not-take_end_array.ensures in
    opened ∙ ap (parse_map array) (turn ∙ ap (parse_map (item (meaning v))) end) ∙ ap (λ xs. Some (array (items_meaning xs), c.take_end_array.new.self)) (sym c.in-Ok.ensures)
