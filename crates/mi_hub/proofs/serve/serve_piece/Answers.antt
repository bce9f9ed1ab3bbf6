-- The lines that were asked so far are those that end before the place that is reached.
use Rattle.std.proofs.Common.{[], ◌++◌, refl, ◌∙◌}
use Rattle.std.proofs.lemmas.Result.{err_from_is_err_and}
use Rattle.std.proofs.KnownBytes.{Appends-nil, Appends-trans}
use Rattle.mi_hub.proofs.ServedLemmas.{served_none, so_far_more, so_far_cut, so_far_all, so_far_rest}
use Rattle.mi_hub.proofs.serve.serve_piece.Goals as goal

pub lines-init : goal.lines-init
lines-init g c = record {
  out = [];
  written = Appends-nil _;
  so_far = record { done = []; served = served_none _ _; lines = refl; kept = refl };
  sound = refl;
}

pub returns-in_err-serve_ended-clause-err : goal.returns-in_err-serve_ended-clause-err
returns-in_err-serve_ended-clause-err g c =
    let p = err_from_is_err_and c.from_residual.result c.from_residual.ensures.1 in
    let cut = c.in_err-serve_ended.ensures.err in
    rw p.1 (
      c.lines.invariant.out ++ cut.0,
      Appends-trans _ _ _ _ _ c.lines.invariant.written cut.1,
      so_far_cut _ _ _ c.lines.invariant.so_far c.in-Some.ensures.0 c.in-Some.ensures.1 cut.2,
    )

pub lines-preserved : goal.lines-preserved
lines-preserved g c =
    let more = c.in_ok-serve_ended.ensures.ok in record {
      out = c.lines.invariant.out ++ more.0;
      written = Appends-trans _ _ _ _ _ c.lines.invariant.written more.1;
      so_far = rw c.in_ok-serve_ended.ensures.rest (so_far_more _ _ _ c.lines.invariant.so_far c.in-Some.ensures.0 c.in-Some.ensures.1 more.2);
      sound = c.in_ok-serve_ended.ensures.sound ∙ c.lines.invariant.sound;
    }

pub returns-clause-ok : goal.returns-clause-ok
returns-clause-ok g c = (c.lines.invariant.out, c.lines.invariant.written, so_far_all _ c.lines.invariant.so_far c.in_default.ensures)

pub returns-clause-rest : goal.returns-clause-rest
returns-clause-rest g c = c.fill.ensures ∙ so_far_rest _ c.lines.invariant.so_far c.in_default.ensures
