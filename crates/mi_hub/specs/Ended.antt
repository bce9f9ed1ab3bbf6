-- How newlines cut bytes into texts: "ab⏎c⏎d" has the ended texts "ab" and "c", and after its last newline stands "d".
use Rattle.std.specs.Prelude.{ℕ, List, [], ◌∷◌, ◌==◌, if◌then◌else◌}

-- a byte in front of the first text; where no newline ends a text there is none
abbrev pub put_front : ℕ → List (List ℕ) → List (List ℕ)
put_front b [] = []
put_front b (t ∷ ts) = (b ∷ t) ∷ ts

-- the texts that newlines end, in order, each without its newline
unfoldable pub ended : List ℕ → List (List ℕ)
ended [] = []
ended (b ∷ bs) = if b == 10 then [] ∷ ended bs else put_front b (ended bs)

-- the first where there is no text, else the second
abbrev pub if_none : {A : Type 0} → List (List ℕ) → A → A → A
if_none [] x y = x
if_none (t ∷ ts) x y = y

-- what stands after the last newline; where there is no newline it is all
unfoldable pub after_newlines : List ℕ → List ℕ
after_newlines [] = []
after_newlines (b ∷ bs) = if_none (ended (b ∷ bs)) (b ∷ bs) (after_newlines bs)
