-- What makes a line of a text, by its last byte and its length.
use Rattle.std.proofs.Common.{◌≡◌, ◌<◌, length, nat_eq, false, arith}
use Rattle.mi_value.specs.declared.limits.TheConstants.{MAX_LINE}
use Rattle.mi_clients.proofs.InputLemmas.{ends_nothing, ends_plainly, ends_long, ends_with_return}
use Rattle.mi_clients.proofs.lines.closing.Goals as goal

pub returns-in_default : goal.returns-in_default
returns-in_default c = ends_nothing c.args.waiting.now c.in_default.ensures.cases

pub returns-then-last-ne13 : goal.returns-then-last-ne13
returns-then-last-ne13 c =
    let other : nat_eq c.in-Some.last.now 13 ≡ false = grind (arith, c.if-last-ne13.true) in
    ends_plainly c.args.waiting.now c.in-Some.field-0-1.now c.in-Some.last.now c.requires c.in-Some.ensures.cases.0 other

pub returns-then-waiting-gt-MAX_LINE : goal.returns-then-waiting-gt-MAX_LINE
returns-then-waiting-gt-MAX_LINE c =
    let long : MAX_LINE < length c.args.waiting.now = grind (arith, c.if-waiting-gt-MAX_LINE.true) in
    ends_long c.args.waiting.now c.requires long

pub returns : goal.returns
returns c =
    let fits : length c.args.waiting.now < MAX_LINE = grind (arith, c.if-waiting-gt-MAX_LINE.false, c.if-waiting-eq-MAX_LINE.false) in
    ends_with_return c.args.waiting.now c.requires fits
