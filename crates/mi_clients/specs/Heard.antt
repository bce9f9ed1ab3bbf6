-- What of the bytes of a connection is heard: all, but of one that begins as no command does the first line alone. A browser lets each web page
-- send requests to a port.
-- "POST / HTTP/1.1⏎Host: here⏎⏎undo⏎" is heard as "POST / HTTP/1.1⏎", and "{⏎POST⏎undo⏎" whole.
use Rattle.std.specs.Prelude.{ℕ, List, [], ◌∷◌, Bool, false, not, ◌==◌, ◌&&◌, ◌||◌, if◌then◌else◌}
use Rattle.mi_hub.specs.Ended.{ended, if_none}

-- The bytes begin neither with an object of JSON nor with a blank: so does each request of HTTP, whatever its method, and each hello of TLS. The
-- first byte decides: a page chooses how long its path is, and of an over-long line only the beginning is kept.
abbrev pub is_foreign : List ℕ → Bool
is_foreign [] = false
is_foreign (b ∷ bs) = not (b == 123 || b == 32 || b == 9 || b == 10 || b == 13)

-- what stands up to and with the first newline; where there is no newline it is all
abbrev pub first_line : List ℕ → List ℕ
first_line [] = []
first_line (b ∷ bs) = if b == 10 then b ∷ [] else b ∷ first_line bs

-- What of these bytes is heard; `first` says that the first line of their connection begins with them.
abbrev pub heard : Bool → List ℕ → List ℕ
heard first bytes = if first && is_foreign bytes then first_line bytes else bytes

-- whether that line isn't whole behind them, so that it begins with the bytes that are to come
abbrev pub still_first : Bool → List ℕ → Bool
still_first first bytes = if_none (ended bytes) first false

-- whether nothing behind them is heard: that line is whole, and no command begins so
abbrev pub is_last : Bool → List ℕ → Bool
is_last first bytes = if_none (ended bytes) false (first && is_foreign bytes)
