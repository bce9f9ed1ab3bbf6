-- Which lines wait for the journal's room, and what they are told where there is none. With one session open `{"cmd":"start"}` waits, and
-- `{"cmd":"undo"}` and `{"cmd":"size"}` don't.
use Rattle.std.specs.Prelude.{◌≡◌, ◌⊎◌, ◌+◌, ◌*◌, ℕ, List, [], ◌∷◌, ◌++◌, length, Bool, true, false, not, ◌&&◌, nat_le, codes, Result, Ok, Err}
use Rattle.mi_value.specs.declared.refusal.Refusal.{Refusal}
use Rattle.mi_value.specs.declared.limits.TheConstants.{MAX_LINE, MAX_SESSIONS}
use Rattle.mi_request.specs.Commands.{keeps_out}
use Rattle.mi_request.specs.Lines.{command_line}
use Rattle.mi_request.specs.declared.request.Request.{Request}
use Rattle.mi_request.specs.declared.request.Request.TheVariants as request
use Rattle.mi_request.specs.declared.request.SessionCommand.TheVariants as session
use Rattle.mi_hub.specs.Served.{with_newline}
use Rattle.mi_replay.specs.Replayed.{memory_reply}
use Rattle.mi_durable.specs.declared.room.TheConstants.{SHORT_UNDO}

-- the reply to a line that waits for room
abbrev pub room_line : List ℕ
room_line = codes "{\"error\":\"journal\",\"ok\":false}\n"

-- for how many bytes room is left behind a change: for undoing the most sessions, each by a short line
abbrev pub undo_room : ℕ
undo_room = SHORT_UNDO * MAX_SESSIONS

-- How much room is there where a log lacks none: for the longest line with its newline, and for undoing behind it. It is the same for each line.
abbrev pub change_room : ℕ
change_room = undo_room + (MAX_LINE + 1)

-- whether a request undoes sessions, where some are open
abbrev pub undoes_some : ℕ → Request → Bool
undoes_some depth (request.Session session.Undo) = nat_le 1 depth
undoes_some depth (request.Session session.UndoAll) = nat_le 1 depth
undoes_some depth r = false

-- A change waits for room, but for an undo of an open session, whose line isn't longer than the room that is kept for it.
abbrev pub waits : ℕ → ℕ → Result Request Refusal → Bool
waits depth len (Ok r) = keeps_out r && not (undoes_some depth r && nat_le len SHORT_UNDO)
waits depth len (Err e) = false

-- whether a line of this text waits for room, where so many sessions are open; one that is too long asks for nothing
abbrev pub waits_for_room : ℕ → List ℕ → Bool
waits_for_room depth text = nat_le (length text) MAX_LINE && waits depth (length text + 1) (command_line text)

-- no line of these bytes waits for room
abbrev pub NeedsNoRoom : ℕ → List ℕ → Type 0
NeedsNoRoom depth line = (text : List ℕ) → line ≡ text ++ 10 ∷ [] → waits_for_room depth text ≡ false

-- A line is turned away, and this is its reply: it waits for room, or memory for reading it was refused.
abbrev pub IsTurnedAway : ℕ → List ℕ → List ℕ → Type 0
IsTurnedAway depth line out =
    ((out ≡ room_line) × (text : List ℕ) × (line ≡ text ++ 10 ∷ []) × (waits_for_room depth text ≡ true)) ⊎ (out ≡ with_newline memory_reply)
