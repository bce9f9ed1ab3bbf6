-- Connections that send nothing. Where the holder may be silent for 30 seconds and the others for 600, one that came or sent something until
-- second 100 is given up at second 131 if it holds sessions, and else at second 701.
use Rattle.std.specs.Prelude.{◌≡◌, ◌⊎◌, ◌+◌, ◌<◌, ◌==◌, ℕ, List, Option, Some, None, false, IsTrue, IsFalse, if◌then◌else◌}
use Rattle.std.specs.List.{AllZip}
use Rattle.mi_clients.specs.Client.{WantsBytes}
use Rattle.mi_clients.specs.declared.client.Client.{Client}
use Rattle.mi_clients.specs.declared.client.Phase.TheVariants.{Broken}
use Rattle.mi_clients.specs.declared.silence.Limits.{Limits}

-- how many seconds this connection may be silent: the holder of sessions, or another one
abbrev pub limit_of : Limits → Option ℕ → ℕ → Option ℕ
limit_of limits None conn = limits.idle
limit_of limits (Some holder) conn = if holder == conn then limits.hold else limits.idle

-- more seconds than these lie between the two; without a limit they never do
abbrev pub HasPassed : Option ℕ → ℕ → ℕ → Type 0
HasPassed None since now = ⊥
HasPassed (Some most) since now = since + most < now

-- It has sent nothing for more seconds than it may: it isn't broken yet, and isn't to be read, since a read may give something.
abbrev pub IsSilent : {S : Type 0} → Option ℕ → ℕ → Client S → Type 0
IsSilent limit now c = ¬ (c.phase ≡ Broken) × ¬ WantsBytes c × HasPassed limit c.heard_at now

-- a piece of it has come, which is noted under this second, and nothing else of it is another
abbrev pub IsNoted : {S : Type 0} → ℕ → Client S → Client S → Type 0
IsNoted now old new = new ≡ record old { has_come = false; heard_at = now }

-- it is broken, and nothing else of it is another
abbrev pub IsGivenUp : {S : Type 0} → Client S → Client S → Type 0
IsGivenUp old new = (new.phase ≡ Broken) × (new.input ≡ old.input) × (new.has_lines ≡ old.has_lines)
    × (new ≡ record old { input = new.input; phase = new.phase; has_lines = new.has_lines; lines = new.lines; all_asked = new.all_asked })

-- What becomes of a connection at this second: it is noted where a piece has come; else it is given up where it is silent, and where it isn't
-- it is as it was.
abbrev pub IsJudged : {S : Type 0} → Option ℕ → ℕ → Client S → Client S → Type 0
IsJudged limit now old new =
    (IsTrue old.has_come × IsNoted now old new)
    ⊎ (IsFalse old.has_come × ((IsSilent limit now old × IsGivenUp old new) ⊎ (¬ IsSilent limit now old × (new ≡ old))))

-- so is each of a list judged, where this connection holds sessions
abbrev pub EachJudged : {S : Type 0} → Limits → Option ℕ → ℕ → List (Client S) → List (Client S) → Type 0
EachJudged limits holder now olds news = AllZip (λ old new. IsJudged (limit_of limits holder old.conn) now old new) olds news
