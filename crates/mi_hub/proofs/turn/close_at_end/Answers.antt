-- The close is done, or a write failed in it, or the flush behind it.
use Rattle.std.proofs.Common.{◌∙◌, refl}
use Rattle.std.proofs.KnownBytes.{Appends-kept}
use Rattle.mi_hub.specs.ConnectionTurn.{ended, unended, unflushed_end}
use Rattle.mi_hub.proofs.PieceLemmas.{write_of}
use Rattle.mi_hub.proofs.turn.close_at_end.Goals as goal

pub returns-in-Ok-flush-clause-turn : goal.returns-in-Ok-flush-clause-turn
returns-in-Ok-flush-clause-turn g c =
    let done = c.in-Ok.ensures.ok in
    (ended c.args.conn, done.0, refl, refl, refl, Appends-kept _ _ _ done.0 done.1 c.in-Ok-flush.ensures.bytes, tt, done.2)

pub returns-in-Err-flush-clause-turn : goal.returns-in-Err-flush-clause-turn
returns-in-Err-flush-clause-turn g c =
    let done = c.in-Ok.ensures.ok in (
      unflushed_end c.args.conn,
      done.0,
      refl,
      refl,
      refl,
      Appends-kept _ _ _ done.0 done.1 c.in-Err-flush.ensures.bytes,
      λ was. c.in-Err-flush.ensures.told (c.in-Ok.ensures.sound ∙ was),
      done.2,
    )

pub returns-in-Err-clause-turn : goal.returns-in-Err-clause-turn
returns-in-Err-clause-turn g c =
    write_of _ _ _ c.requires c.in-Err.ensures.no_other c.in-Err.ensures.not_attached.0 (λ is.
    let cut = c.in-Err.ensures.write is in
    (unended c.args.conn, cut.0, refl, refl, refl, cut.1, tt, cut.2))
