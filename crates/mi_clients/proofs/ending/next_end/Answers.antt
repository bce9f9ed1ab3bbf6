-- The first of which something is noted.
use Rattle.std.proofs.Common.{◌≡◌, ◌<◌, ◌+◌, ◌∙◌, rules, sym, ap, subst, length, true, slice_set, arith}
use Rattle.std.specs.Prelude.{is_some}
use Rattle.mi_clients.specs.Ending.{forgotten, TakesEnd}
use Rattle.mi_clients.proofs.EndingLemmas.{NoneTo, none_more, none_all, none_noted, takes_first, same_place, found_end}
use Rattle.mi_clients.proofs.ending.next_end.Goals as goal

pub clients-preserved : goal.clients-preserved
clients-preserved g c =
    let before = c.clients.invariant in
    let clients = c.clients.clients.items in
    let len : c.args.clients.now.len ≡ length c.args.clients.now.items = search rules in
    let within : c.clients.i < length clients = omega (arith, c.clients-test.true, c.len-i-end.ensures, len, ap length before.same) in
    let none = none_noted c.index.result.now.ends (sym c.if-is_some.ensures) in
    let there = ap (λ (x : _). x.ends) (sym c.index.ensures) ∙ none in record {
      same = before.same;
      none = subst (NoneTo (c.clients.i + 1)) before.same (none_more c.clients.i clients c.index.result.now within there (subst (NoneTo c.clients.i) (sym before.same) before.none));
    }

pub returns : goal.returns
returns g c =
    let before = c.clients.invariant in
    let len : c.args.clients.now.len ≡ length c.args.clients.now.items = search rules in
    (before.same, none_all c.clients.i c.args.clients.now.items (omega (arith, c.clients-test.false, c.len-i-end.ensures, len)) before.none)

pub returns-then-is_some : goal.returns-then-is_some
returns-then-is_some g c =
    let before = c.clients.invariant in
    let clients = c.clients.clients.items in
    let at = c.index_mut.result.now in
    let len : c.args.clients.now.len ≡ length c.args.clients.now.items = search rules in
    let within : c.clients.i < length clients = omega (arith, c.clients-test.true, c.len-i-end.ensures, len, ap length before.same) in
    let seen = c.index.result.now in
    let one : at ≡ seen = c.index_mut.ensures.value ∙ same_place c.clients.i clients at seen within ∙ sym c.index.ensures in
    let is : is_some at.ends ≡ true = ap (λ (x : _). is_some x.ends) one ∙ sym c.if-is_some.ensures in
    found_end _ _ c.take_end.result at.ends c.take_end.ensures.taken is (λ n noted.
    subst (λ l. TakesEnd n l (slice_set clients c.clients.i c.take_end.new.self)) before.same
    (takes_first n c.clients.i clients at c.take_end.new.self within (subst (NoneTo c.clients.i) (sym before.same) before.none)
    (ap (λ (x : _). x.ends) (sym c.index_mut.ensures.value) ∙ noted) (c.take_end.ensures.same ∙ ap forgotten c.index_mut.ensures.value)))
