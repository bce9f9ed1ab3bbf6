-- The words are refused, or what is done by their options is the end that is answered.
use Rattle.std.proofs.Common.{refl}
use Rattle.std.specs.Prelude.{map}
use Rattle.mi_program.specs.Ending.{refused, ending_of}
use Rattle.mi_program.proofs.EndingLemmas.{called_by, performed_ends}
use Rattle.mi_program.proofs.program.run.Goals as goal

pub returns-in-Ok : goal.returns-in-Ok
returns-in-Ok g c =
    let called = called_by (map g.S.AsStr.text c.args.words.now) c.in-Ok.options c.in-Ok.ensures.ok in (
      ending_of c.perform_buffered.result,
      c.conclude.ensures.status,
      c.conclude.ensures.told,
      performed_ends _ _ g.O.Write.contents _ _ _ c.in-Ok.options called _ _ _ _ c.perform_buffered.result c.perform_buffered.ensures,
    )

pub returns-in-Err : goal.returns-in-Err
returns-in-Err g c = (refused c.in-Err.fault, c.refuse.ensures.status, c.refuse.ensures.told, (c.in-Err.ensures.refused, (refl, refl)))
