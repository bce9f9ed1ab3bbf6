-- The turns so far are a run by turns, and the first fault among them is kept.
use Rattle.std.proofs.Common.{◌≡◌, ◌<◌, ◌∷◌, ◌++◌, [], length, sym, ap, ◌∙◌, subst, arith, rules, length-append}
use Rattle.std.specs.Result.{result_and}
use Rattle.std.specs.VecDeque.{deque_len}
use Rattle.mi_hub.specs.ConnectionTurn.{outcome}
use Rattle.mi_program.specs.Turns.{client_ids, with_turn}
use Rattle.mi_program.proofs.TurnLemmas.{serves_next, turns_next, fault_more, noted_more, not_turns, no_clients, none_left, not_zero, is_zero}
use Rattle.mi_program.proofs.listener.serve_all.Goals as goal

pub returns-then-is_empty-clause-none : goal.returns-then-is_empty-clause-none
returns-then-is_empty-clause-none g c =
    let before = c.turns.invariant in
    let last = c.next_turn.ensures.turn in
    let len : deque_len c.next_turn.new.row ≡ length c.next_turn.new.row.items = search rules in
    let none : length c.next_turn.new.row.items ≡ 0 = sym len ∙ is_zero _ c.is_empty.result c.is_empty.ensures c.if-is_empty.true in
    none_left (client_ids c.next_turn.new.row.items) _ (serves_next g.S.Read.remaining g.S.Write.contents last.0 _ last.4 _ last.2 last.3 last.1
    c.turns.hub c.next_turn.new.hub before.served last.5 last.6 last.7 last.8)
    (ap (λ row. length (client_ids row)) (no_clients c.next_turn.new.row.items none))

pub returns-then-is_empty-clause-served : goal.returns-then-is_empty-clause-served
returns-then-is_empty-clause-served g c = λ _.
    let before = c.turns.invariant in
    let last = c.next_turn.ensures.turn in
    let len : deque_len c.next_turn.new.row ≡ length c.next_turn.new.row.items = search rules in
    let none : length c.next_turn.new.row.items ≡ 0 = sym len ∙ is_zero _ c.is_empty.result c.is_empty.ensures c.if-is_empty.true in (
      before.turns ++ last.0 ∷ [],
      turns_next g.S.Read.remaining g.S.Write.contents before.turns last.0 _ _ last.4 [] last.2 last.3 last.1 c.args.hub.now c.turns.hub c.next_turn.new.hub
          before.made last.5 last.6 last.7 (sym (no_clients c.next_turn.new.row.items none) ∙ last.8),
      c.and-first.ensures ∙ ap (λ first. result_and first c.next_turn.result) before.first
          ∙ ap (result_and _) last.9 ∙ sym (fault_more before.turns last.0),
      last.10 ∙ ap (with_turn (outcome last.0)) before.noted ∙ sym (noted_more before.turns last.0 _),
    )

pub returns-then-is_empty-clause-turns : goal.returns-then-is_empty-clause-turns
returns-then-is_empty-clause-turns g c = λ is.
    let before = c.turns.invariant in
    let last = c.next_turn.ensures.turn in
    absurd (not_turns (before.turns ++ last.0 ∷ [])
    (fault_more before.turns last.0 ∙ sym (ap (result_and _) last.9)
    ∙ sym (ap (λ first. result_and first c.next_turn.result) before.first) ∙ sym c.and-first.ensures ∙ is))

pub turns-preserved : goal.turns-preserved
turns-preserved g c =
    let before = c.turns.invariant in
    let last = c.next_turn.ensures.turn in
    let len : deque_len c.next_turn.new.row ≡ length c.next_turn.new.row.items = search rules in record {
      turns = before.turns ++ last.0 ∷ [];
      made = turns_next g.S.Read.remaining g.S.Write.contents before.turns last.0 _ _ last.4 _ last.2 last.3 last.1 c.args.hub.now c.turns.hub
          c.next_turn.new.hub before.made last.5 last.6 last.7 last.8;
      count = omega (arith, length-append before.turns (last.0 ∷ []), before.count);
      first = c.and-first.ensures ∙ ap (λ first. result_and first c.next_turn.result) before.first
          ∙ ap (result_and _) last.9 ∙ sym (fault_more before.turns last.0);
      noted = last.10 ∙ ap (with_turn (outcome last.0)) before.noted ∙ sym (noted_more before.turns last.0 _);
      sound = c.next_turn.ensures.sound;
      some = subst (λ n. 0 < n) len (not_zero _ c.is_empty.result c.is_empty.ensures c.if-is_empty.false);
      served = serves_next g.S.Read.remaining g.S.Write.contents last.0 _ last.4 _ last.2 last.3 last.1 c.turns.hub c.next_turn.new.hub
          before.served last.5 last.6 last.7 last.8;
    }
