-- The one connection comes, and then what is served is what `serve_stream` says.
use Rattle.std.proofs.Common.{◌≡◌, ◌⊎◌, [], ◌∷◌, Err, true, false, sym, ap, ◌∙◌, subst}
use Rattle.std.specs.Io.KnownBytes.{IsAtEnd}
use Rattle.mi_hub.specs.Run.{piece, close, cut, AllDone, Failed, Unflushed, FaultAtLast}
use Rattle.mi_hub.specs.Watching.{watched, has_failed, flush_failed}
use Rattle.mi_hub.specs.declared.fault.ServeFault.TheVariants as serving
use Rattle.mi_hub.proofs.PieceLemmas.{same_err}
use Rattle.mi_program.proofs.ServingLemmas.{has_come, was}
use Rattle.mi_program.proofs.serve.serve.Goals as goal

pub returns-in-Ok-serve_stream-clause-ok : goal.returns-in-Ok-serve_stream-clause-ok
returns-in-Ok-serve_stream-clause-ok g c =
    let p = c.in-Ok-serve_stream.ensures.ok in let new = c.serve_stream.new.hub in
    let come = has_come _ _ _ c.new-hub.ensures c.in-Ok.ensures.ok in
    (p.0, p.1, new, p.2, p.3, p.4, c.in-Ok-serve_stream.ensures.flushed, subst (λ s. AllDone s (piece 1 p.0 ∷ close 1 ∷ []) p.1 new) come p.5)

pub returns-clause-read : goal.returns-clause-read
returns-clause-read g c = λ is.
    let fault = ap Err (was c.in-Err.fault serving.Read (sym c.of_serving.ensures.is ∙ same_err is)) in
    let p = c.in-Err.ensures.read fault in let new = c.serve_stream.new.hub in
    let done = subst (λ s. AllDone s (piece 1 p.0 ∷ cut 1 ∷ []) p.1 new) (has_come _ _ _ c.new-hub.ensures c.in-Ok.ensures.ok) p.4 in
    (p.0, p.1, new, p.2, p.3, done, c.in-Err.ensures.read_failed fault)

pub returns-clause-turns : goal.returns-clause-turns
returns-clause-turns g c = λ is.
    let p = c.in-Err.ensures.turns (ap Err (was c.in-Err.fault serving.Turns (sym c.of_serving.ensures.is ∙ same_err is))) in
    let come = has_come _ _ _ c.new-hub.ensures c.in-Ok.ensures.ok in let new = c.serve_stream.new.hub in
    (p.0, p.1, new, p.2, p.3, p.4, subst (λ s. AllDone s (piece 1 p.0 ∷ cut 1 ∷ []) p.1 new) come p.5)

pub returns-clause-write : goal.returns-clause-write
returns-clause-write g c = λ is.
    let fault = ap Err (was c.in-Err.fault serving.Write (sym c.of_serving.ensures.is ∙ same_err is)) in
    let p = c.in-Err.ensures.write fault in let new = c.serve_stream.new.hub in (
      p.0,
      p.1,
      p.2,
      new,
      p.3,
      p.4,
      p.5,
      subst
          (λ s. FaultAtLast Failed (IsAtEnd (g.R.Read.remaining (watched c.serve_stream.new.reader))) s 1 p.0 p.1 p.2 new
          ⊎ ((has_failed c.args.writer.now ≡ false → flush_failed c.serve_stream.new.writer ≡ true)
          × FaultAtLast Unflushed (IsAtEnd (g.R.Read.remaining (watched c.serve_stream.new.reader))) s 1 p.0 p.1 p.2 new))
          (has_come _ _ _ c.new-hub.ensures c.in-Ok.ensures.ok) p.6,
      (c.in-Err.ensures.write_failed fault).0,
    )
