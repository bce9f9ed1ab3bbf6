-- What has come is served by turns from there.
use Rattle.std.proofs.Common.{Err, [], ap, refl, sym, subst, ◌∙◌, inl, inr}
use Rattle.mi_hub.proofs.PieceLemmas.{same_err}
use Rattle.mi_hub.specs.Run.{HubState}
use Rattle.mi_program.specs.Turns.{client_ids, ByTurns}
use Rattle.mi_program.proofs.TurnLemmas.{some_come, serves_come, accept_turns, memory_turns, not_accept, not_memory}
use Rattle.mi_program.proofs.listener.serve_clients.Goals as goal

pub accept_all-requires : goal.accept_all-requires
accept_all-requires g c = c.requires.none

pub serve_all-requires-clause-some : goal.serve_all-requires-clause-some
serve_all-requires-clause-some g c = some_come c.in-Ok.row.items c.args.clients c.in-Ok.ensures.ok.0.numbered c.requires.clients

pub serve_all-requires-clause-sound : goal.serve_all-requires-clause-sound
serve_all-requires-clause-sound g c = c.in-Ok.ensures.ok.0.sound

pub serve_all-requires-clause-served : goal.serve_all-requires-clause-served
serve_all-requires-clause-served g c =
    let come = c.in-Ok.ensures.ok in
    serves_come (client_ids c.in-Ok.row.items) c.args.clients c.args.hub.now c.accept_all.new.hub come.0.numbered come.1

pub returns-in-Ok-clause-served : goal.returns-in-Ok-clause-served
returns-in-Ok-clause-served g c = λ _ _ not_turns.
    let come = c.in-Ok.ensures.ok in
    let done = c.serve_all.ensures.served not_turns in
    let turned = λ (s : HubState). ByTurns g.L.Stream.Read.remaining g.L.Stream.Write.contents c.in-Ok.row.items s
    done.0 [] c.serve_all.new.hub in
    (c.in-Ok.row.items, done.0, come.0, subst turned come.1 done.1, done.2, done.3)

pub returns-in-Ok-clause-turns : goal.returns-in-Ok-clause-turns
returns-in-Ok-clause-turns g c = λ is.
    let come = c.in-Ok.ensures.ok in
    let done = c.serve_all.ensures.turns is in
    let turned = λ (s : HubState). ByTurns g.L.Stream.Read.remaining g.L.Stream.Write.contents c.in-Ok.row.items s
    done.0 done.1 done.2 in
    (c.in-Ok.row.items, done.0, done.1, done.2, come.0, subst turned come.1 done.3, done.4, done.5)

pub returns-in-Ok-clause-unserved : goal.returns-in-Ok-clause-unserved
returns-in-Ok-clause-unserved g c = λ early. elim early [
  | inl is ↦
      let done = c.serve_all.ensures.served (λ k. accept_turns (sym is ∙ k)) in
      absurd (not_accept done.0 (sym done.2 ∙ is))
  | inr is ↦
      let done = c.serve_all.ensures.served (λ k. memory_turns (sym is ∙ k)) in
      absurd (not_memory done.0 (sym done.2 ∙ is))
]

pub returns-in-Err-clause-served : goal.returns-in-Err-clause-served
returns-in-Err-clause-served g c = λ not_accepted no_memory _. elim c.in-Err.ensures.no_other [
  | inl is ↦ absurd (not_accepted (ap Err (same_err is)))
  | inr is ↦ absurd (no_memory (ap Err (same_err is)))
]

pub returns-in-Err-clause-turns : goal.returns-in-Err-clause-turns
returns-in-Err-clause-turns g c = λ is. elim c.in-Err.ensures.no_other [
  | inl early ↦ absurd (accept_turns (sym (ap Err (same_err early)) ∙ is))
  | inr early ↦ absurd (memory_turns (sym (ap Err (same_err early)) ∙ is))
]

pub returns-in-Err-clause-none : goal.returns-in-Err-clause-none
returns-in-Err-clause-none g c = c.in-Err.ensures.none

pub returns-in-Ok-clause-none : goal.returns-in-Ok-clause-none
returns-in-Ok-clause-none g c = c.serve_all.ensures.none

pub returns-in-Err-clause-unserved : goal.returns-in-Err-clause-unserved
returns-in-Err-clause-unserved g c = λ _. refl

pub returns-in-Ok-clause-unturned : goal.returns-in-Ok-clause-unturned
returns-in-Ok-clause-unturned g c = λ early _. elim early [
  | inl is ↦
      let done = c.serve_all.ensures.served (λ k. accept_turns (sym is ∙ k)) in
      absurd (not_accept done.0 (sym done.2 ∙ is))
  | inr is ↦
      let done = c.serve_all.ensures.served (λ k. memory_turns (sym is ∙ k)) in
      absurd (not_memory done.0 (sym done.2 ∙ is))
]

pub returns-in-Err-clause-unturned : goal.returns-in-Err-clause-unturned
returns-in-Err-clause-unturned g c = λ _ nobody. c.in-Err.ensures.unserved nobody
