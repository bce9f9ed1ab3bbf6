-- Two parts that are ASCII make a whole that is.
use Rattle.std.proofs.Common.{◌≡◌, ◌-◌, length, take, drop, take_all, length-drop, sym, subst, arith}
use Rattle.std.proofs.lemmas.Bool.{MatchBool-at_true}
use Rattle.std.proofs.lemmas.List.{length-take-le, take-append-drop}
use Rattle.std.proofs.lemmas.Str.{IsAscii-append}
use Rattle.std.specs.Str.{IsAscii}
use Rattle.mi_request.proofs.text.is_ascii.Goals as goal

pub slice_bounds-is_ascii-end : goal.slice_bounds-is_ascii-end
slice_bounds-is_ascii-end c = sym (length-take-le 64 c.args.bytes.now (omega (arith, c.if-bytes-le-BLOCK.false)))

pub returns-then-is_ascii : goal.returns-then-is_ascii
returns-then-is_ascii c is =
    let t = c.args.bytes.now in
    let rest : take (length t - 64) (drop 64 t) ≡ drop 64 t = take_all _ (drop 64 t) (omega (arith, length-drop 64 t)) in
    let back : IsAscii (drop 64 t) = subst IsAscii rest (MatchBool-at_true _ _ is c.is_ascii-then-is_ascii.ensures.cases) in
    subst IsAscii (take-append-drop 64 t) (IsAscii-append _ _ c.if-is_ascii.ensures.cases back)
