-- The piece is done, or a write failed in it, or the flush behind it.
use Rattle.std.proofs.Common.{◌∙◌, refl}
use Rattle.std.proofs.KnownBytes.{Appends-kept}
use Rattle.mi_hub.specs.ConnectionTurn.{fed, unanswered, unflushed}
use Rattle.mi_hub.proofs.PieceLemmas.{cut_done, piece_cut, still_attached, write_of}
use Rattle.mi_hub.proofs.turn.feed_piece.Goals as goal

pub returns-in-Ok-flush-clause-turn : goal.returns-in-Ok-flush-clause-turn
returns-in-Ok-flush-clause-turn g c =
    let done = c.in-Ok.ensures.ok in
    (fed c.args.conn c.args.bytes.now, done.0, refl, refl, refl, Appends-kept _ _ _ done.0 done.1 c.in-Ok-flush.ensures.bytes, tt, (done.2, c.requires.piece))

pub returns-in-Err-flush-clause-turn : goal.returns-in-Err-flush-clause-turn
returns-in-Err-flush-clause-turn g c =
    let done = c.in-Ok.ensures.ok in
    let gone = cut_done _ _ _ _ c.cut.ensures.ok c.cut.ensures.not_attached c.cut.ensures.refused (still_attached _ _ _ _ _ done.2) in (
      unflushed c.args.conn c.args.bytes.now,
      done.0,
      refl,
      refl,
      refl,
      Appends-kept _ _ _ done.0 done.1 c.in-Err-flush.ensures.bytes,
      λ was. c.in-Err-flush.ensures.told (c.in-Ok.ensures.sound ∙ was),
      (piece_cut c.args.conn c.args.bytes.now done.0 c.args.hub.now c.feed.new.self c.cut.new.self done.2 gone, c.requires.piece),
    )

pub returns-in-Err-clause-turn : goal.returns-in-Err-clause-turn
returns-in-Err-clause-turn g c =
    write_of _ _ _ c.requires.attached c.in-Err.ensures.no_other c.in-Err.ensures.not_attached.0 (λ is.
    let cut = c.in-Err.ensures.write is in
    (unanswered c.args.conn c.args.bytes.now, cut.0, refl, refl, refl, cut.1, tt, (cut.2, c.requires.piece)))
