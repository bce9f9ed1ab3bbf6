-- The bytes are this one line.
use Rattle.std.proofs.Common.{ap, ◌∙◌}
use Rattle.mi_replay.specs.Replayed.{replayed}
use Rattle.mi_front.proofs.UndoneLemmas.{undo_all_whole, undo_all_lines}
use Rattle.mi_front.proofs.front.undo_open.Goals as goal

pub replay_line-requires-clause-whole : goal.replay_line-requires-clause-whole
replay_line-requires-clause-whole g c = undo_all_whole

pub returns-in-Ok-clause-undone : goal.returns-in-Ok-clause-undone
returns-in-Ok-clause-undone g c = c.in-Ok.ensures.ok ∙ ap (λ ls. replayed ls c.args.hub.now.held) undo_all_lines
