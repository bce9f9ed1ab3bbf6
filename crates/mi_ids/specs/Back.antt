-- What takes a change of the ids back.
use Rattle.std.specs.Prelude.{◌≡◌, ℕ, true, false, Some, None}
use Rattle.std.specs.Ordering.{nat_cmp}
use Rattle.std.specs.FinMap.{FinMap, get, insert, remove}
use Rattle.mi_ids.specs.IdMap.{with_live}
use Rattle.mi_ids.specs.declared.entry.IdEntry.{IdEntry}

-- an id that was put in, where it wasn't there, is taken out
abbrev pub InsertIsTakenBack : Type 0
InsertIsTakenBack = (m : FinMap nat_cmp IdEntry) (k : ℕ) (e : IdEntry) → get m k ≡ None → remove (insert m k e) k ≡ m

-- an id that was live, and is kept, is revived
abbrev pub KeepIsTakenBack : Type 0
KeepIsTakenBack = (m : FinMap nat_cmp IdEntry) (k : ℕ) (e : IdEntry) → get m k ≡ Some e → e.live ≡ true → with_live (with_live m k false) k true ≡ m
