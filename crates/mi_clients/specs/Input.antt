-- What a connection has sent and wasn't asked yet: of "get⏎undo⏎sta", of which "get⏎" was asked, "undo⏎sta".
use Rattle.std.specs.Prelude.{ℕ, ◌+◌, ◌-◌, ◌^◌, min, List, [], ◌∷◌, drop, ◌==◌, if◌then◌else◌}
use Rattle.mi_clients.specs.declared.input.Input.{Input}

abbrev pub waiting : Input → List ℕ
waiting i = drop i.asked i.bytes.items

-- the bytes that it keeps: those that weren't asked, and maybe some in front of them that were
abbrev pub kept : Input → List ℕ
kept i = i.bytes.items

-- what a count of lines is behind one more, as far as 64 bits count
abbrev pub after_line : ℕ → ℕ
after_line n = min (n + 1) (2 ^ 64 - 1)

-- what it is behind the lines of these bytes: behind "get⏎undo⏎" two more
abbrev pub count_on : ℕ → List ℕ → ℕ
count_on n [] = n
count_on n (b ∷ bs) = count_on (if b == 10 then after_line n else n) bs
