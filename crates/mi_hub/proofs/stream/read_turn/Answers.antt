-- A turn reads one piece, or finds the end, and what it made is a turn of the definitions.
use Rattle.std.proofs.Common.{◌<◌, ◌∙◌, [], length, None, refl, sym, subst, arith}
use Rattle.std.proofs.KnownBytes.{Consumes-kept, Consumes-nil}
use Rattle.mi_hub.specs.ConnectionTurn.{Gave}
use Rattle.mi_hub.proofs.TurnLemmas.{gave_read, or_true}
use Rattle.mi_hub.proofs.stream.read_turn.Goals as goal

pub returns-in-Ok-clause-turn : goal.returns-in-Ok-clause-turn
returns-in-Ok-clause-turn g c =
    let made = c.take_turn.ensures.turn in
    let room : 0 < length c.read.new.buf = omega (arith, c.requires.room, c.read.auto.buf) in
    let gave = gave_read g.R.Read.remaining c.args.reader.now c.read.new.self _ c.read.new.buf
    c.in-Ok.n refl c.in-Ok.ensures.bound.0 room c.in-Ok.ensures.bytes in
    (made.0, made.1, made.2, made.4, subst (Gave g.R.Read.remaining c.args.reader.now c.read.new.self) (sym made.3) gave, made.5, made.6, made.7)

pub returns-in-Err-clause-turn : goal.returns-in-Err-clause-turn
returns-in-Err-clause-turn g c =
    let made = c.take_turn-in-Err.ensures.turn in
    let gave : Gave g.R.Read.remaining c.args.reader.now c.read.new.self None =
    (Consumes-kept _ _ _ [] (Consumes-nil _) c.in-Err.ensures.bytes, c.in-Err.ensures.failed ∙ or_true _) in
    (made.0, made.1, made.2, made.4, subst (Gave g.R.Read.remaining c.args.reader.now c.read.new.self) (sym made.3) gave, made.5, made.6, made.7)
