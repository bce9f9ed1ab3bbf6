-- A fault of reading or writing is that of a turn, which was noted.
use Rattle.std.proofs.Common.{sym, ap, ◌∙◌}
use Rattle.mi_hub.specs.IoNotes.{reads_fail, writes_fail}
use Rattle.mi_program.proofs.TurnLemmas.{read_noted, write_noted, none_noted, read_accept, read_memory, read_turns}
use Rattle.mi_program.proofs.TurnLemmas.{write_accept, write_memory, write_turns, ok_accept, ok_memory, ok_turns, on_ok}
use Rattle.mi_program.proofs.listener.serve_listener.Goals as goal

pub returns-clause-read : goal.returns-clause-read
returns-clause-read g c = λ is.
    let done = c.serve_clients-served.ensures.served (λ k. read_accept (sym is ∙ k)) (λ k. read_memory (sym is ∙ k)) (λ k. read_turns (sym is ∙ k)) in
    ap reads_fail done.5 ∙ read_noted done.1 c.args.errors.now (sym done.4 ∙ is)

pub returns-clause-write : goal.returns-clause-write
returns-clause-write g c = λ is.
    let done = c.serve_clients-served.ensures.served (λ k. write_accept (sym is ∙ k)) (λ k. write_memory (sym is ∙ k)) (λ k. write_turns (sym is ∙ k)) in
    ap writes_fail done.5 ∙ write_noted done.1 c.args.errors.now (sym done.4 ∙ is)

pub returns-clause-sound : goal.returns-clause-sound
returns-clause-sound g c = on_ok _ _ (λ is.
    let done = c.serve_clients-served.ensures.served (λ k. ok_accept (sym is ∙ k)) (λ k. ok_memory (sym is ∙ k)) (λ k. ok_turns (sym is ∙ k)) in
    done.5 ∙ none_noted done.1 c.args.errors.now (sym done.4 ∙ is))

pub returns-clause-served : goal.returns-clause-served
returns-clause-served g c = c.serve_clients-served.ensures.served

pub returns-clause-turns : goal.returns-clause-turns
returns-clause-turns g c = c.serve_clients-served.ensures.turns

pub returns-clause-unserved : goal.returns-clause-unserved
returns-clause-unserved g c = c.serve_clients-served.ensures.unserved

pub returns-clause-unturned : goal.returns-clause-unturned
returns-clause-unturned g c = c.serve_clients-served.ensures.unturned

pub returns-clause-none : goal.returns-clause-none
returns-clause-none g c = c.serve_clients-served.ensures.none

pub returns-clause-nobody : goal.returns-clause-nobody
returns-clause-nobody g c = c.nobody_holds.ensures
