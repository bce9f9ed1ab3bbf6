-- What a run does to the database that is shared, one whole step at a time: a connection asks a line, or it goes away. Connection 1 starts
-- a session and breaks off: asks 1 (text "{\"cmd\":\"start\"}") "{\"ok\":true,\"revision\":1}", leaves 1.
use Rattle.std.specs.Prelude.{◌≡◌, ℕ, List, [], ◌∷◌}
use Rattle.mi_commands.specs.Asked.{Asked}
use Rattle.mi_commands.specs.Answer.{MayGive}
use Rattle.mi_commands.specs.Holder.{HeldDatabase, released}

-- a connection asks a line and is given a reply; or it goes away, whether it is closed or cut
pub data Act : Type 0 where
  asks : ℕ → Asked → List ℕ → Act
  leaves : ℕ → Act

-- From old, the act is done, and new is left: a line is answered as it may be, and with a connection go the sessions that it holds.
abbrev pub Acts : HeldDatabase → Act → HeldDatabase → Type 0
Acts old (asks conn line reply) new = MayGive conn old line reply new
Acts old (leaves conn) new = new ≡ released conn old

-- From old, these acts are done one after another, and new is left.
abbrev pub AllActs : HeldDatabase → List Act → HeldDatabase → Type 0
AllActs old [] new = new ≡ old
AllActs old (act ∷ acts) new = (mid : HeldDatabase) × Acts old act mid × AllActs mid acts new
