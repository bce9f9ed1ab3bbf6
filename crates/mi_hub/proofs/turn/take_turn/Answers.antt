-- A piece is fed, no bytes are the end, and a failed read is a cut.
use Rattle.std.proofs.Common.{[], refl}
use Rattle.std.proofs.KnownBytes.{Appends-nil}
use Rattle.mi_hub.specs.ConnectionTurn.{unread}
use Rattle.mi_hub.proofs.PieceLemmas.{cut_done}
use Rattle.mi_hub.proofs.TurnLemmas.{never_read, not_read}
use Rattle.mi_hub.proofs.turn.take_turn.Goals as goal

pub returns-then-is_empty-clause-read : goal.returns-then-is_empty-clause-read
returns-then-is_empty-clause-read g c = not_read _ _ _ _ c.in-Some.is c.close_at_end.ensures.write

pub returns-then-is_empty-clause-unread : goal.returns-then-is_empty-clause-unread
returns-then-is_empty-clause-unread g c = λ is. absurd (never_read _ _ c.close_at_end.ensures.write is)

pub returns-else-is_empty-clause-read : goal.returns-else-is_empty-clause-read
returns-else-is_empty-clause-read g c = not_read _ _ _ _ c.in-Some.is c.feed_piece.ensures.write

pub returns-else-is_empty-clause-unread : goal.returns-else-is_empty-clause-unread
returns-else-is_empty-clause-unread g c = λ is. absurd (never_read _ _ c.feed_piece.ensures.write is)

pub returns-in-None-clause-turn : goal.returns-in-None-clause-turn
returns-in-None-clause-turn g c = (
  unread c.args.conn,
  [],
  refl,
  rw c.in-None.is,
  refl,
  Appends-nil _,
  tt,
  cut_done _ _ _ _ c.cut.ensures.ok c.cut.ensures.not_attached c.cut.ensures.refused c.requires.attached,
)
