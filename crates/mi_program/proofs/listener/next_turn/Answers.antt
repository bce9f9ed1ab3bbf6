-- The first of the row takes its turn, and goes behind the others or is let go.
use Rattle.std.proofs.Common.{◌≡◌, [], ◌∷◌, ◌++◌, Ok, Err, sym, ap, ◌∙◌, subst, rules}
use Rattle.std.proofs.lemmas.Result.{err_from_is_err_and}
use Rattle.mi_program.specs.Turns.{AllSound, turn_fault}
use Rattle.mi_program.proofs.TurnLemmas.{sound_last, stays_open, has_ended, has_broken, turn_taken}
use Rattle.mi_program.proofs.listener.next_turn.Goals as goal

pub returns-then-branch-clause-sound : goal.returns-then-branch-clause-sound
returns-then-branch-clause-sound g c =
    let first : c.args.row.now.items ≡ c.unwrap-client.result ∷ c.pop_front.new.self.items = search rules in
    let items : c.push_back.new.self.items ≡ c.pop_front.new.self.items ++ c.client_turn.new.client ∷ [] = search rules in
    let rest = (subst AllSound first c.requires.sound).1 in
    subst AllSound (sym items) (sound_last c.pop_front.new.self.items c.client_turn.new.client rest c.in_ok-client_turn.ensures.sound)

pub returns-then-branch-clause-turn : goal.returns-then-branch-clause-turn
returns-then-branch-clause-turn g c =
    let first : c.args.row.now.items ≡ c.unwrap-client.result ∷ c.pop_front.new.self.items = search rules in
    let items : c.push_back.new.self.items ≡ c.pop_front.new.self.items ++ c.client_turn.new.client ∷ [] = search rules in
    turn_taken g.S.Read.remaining g.S.Write.contents _ _ _ _ _ _ _ _ _ _ _ first c.client_turn.ensures.turn c.client_turn.ensures.noted
    (λ turn is. let still = sym (c.in_ok-client_turn.was ∙ ap Ok c.if-branch.true) ∙ is in (items ∙ sym (stays_open turn _ _ still), ap turn_fault still))

pub returns-else-branch-clause-turn : goal.returns-else-branch-clause-turn
returns-else-branch-clause-turn g c =
    let first : c.args.row.now.items ≡ c.unwrap-client.result ∷ c.pop_front.new.self.items = search rules in
    turn_taken g.S.Read.remaining g.S.Write.contents _ _ _ _ _ _ _ _ _ _ _ first c.client_turn.ensures.turn c.client_turn.ensures.noted
    (λ turn is. let closed = sym (c.in_ok-client_turn.was ∙ ap Ok c.if-branch.false) ∙ is in (sym (has_ended turn _ _ closed), ap turn_fault closed))

pub returns-in_err-client_turn-clause-turn : goal.returns-in_err-client_turn-clause-turn
returns-in_err-client_turn-clause-turn g c =
    let first : c.args.row.now.items ≡ c.unwrap-client.result ∷ c.pop_front.new.self.items = search rules in
    let p = err_from_is_err_and c.from_residual.result c.from_residual.ensures.1 in
    turn_taken g.S.Read.remaining g.S.Write.contents _ _ _ _ _ _ _ _ _ _ _ first c.client_turn.ensures.turn c.client_turn.ensures.noted
    (λ turn is. let broken = sym c.in_err-client_turn.was ∙ is in (sym (has_broken turn _ _ _ broken), p.1 ∙ ap Err p.2 ∙ ap turn_fault broken))
