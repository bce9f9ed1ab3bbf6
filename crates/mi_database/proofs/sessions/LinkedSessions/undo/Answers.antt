-- Without an open session nothing changes; else the newest ends as it began.
use Rattle.std.proofs.Common.{rules, arith}
use Rattle.std.proofs.lemmas.Grind.{common_steps}
use Rattle.mi_database.proofs.sessions.LinkedSessions.undo.Goals as goal

pub returns-then-depth-eq0-clause-answer : goal.returns-then-depth-eq0-clause-answer
returns-then-depth-eq0-clause-answer g c = grind (arith, common_steps)

pub returns-then-depth-eq0-clause-state : goal.returns-then-depth-eq0-clause-state
returns-then-depth-eq0-clause-state g c = grind (arith, common_steps)

pub returns-then-depth-eq0-clause-depth : goal.returns-then-depth-eq0-clause-depth
returns-then-depth-eq0-clause-depth g c = search rules

pub returns-then-depth-eq0-clause-footprint : goal.returns-then-depth-eq0-clause-footprint
returns-then-depth-eq0-clause-footprint g c = grind (arith, common_steps)

pub returns-clause-depth : goal.returns-clause-depth
returns-clause-depth g c = search rules

pub returns-clause-footprint : goal.returns-clause-footprint
returns-clause-footprint g c = search rules

pub returns-clause-state : goal.returns-clause-state
returns-clause-state g c = search rules
