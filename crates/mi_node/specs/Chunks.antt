-- Chunks as one list.
use Rattle.std.specs.Prelude.{◌≡◌, ◌≤◌, ℕ, List, [], ◌∷◌, ◌++◌, length}
use Rattle.mi_node.specs.declared.chunk.Chunk.{Chunk}

-- what a chunk has
abbrev pub in_chunk : {E : Type 0} → Chunk E → List E
in_chunk c = c.row.items

module _ {C E : Type 0} (items : C → List E) where
  abbrev pub flat : List C → List E
  flat [] = []
  flat (c ∷ cs) = items c ++ flat cs

  abbrev pub AreFull : ℕ → List C → Type 0
  AreFull n [] = Unit {0}
  AreFull n (c ∷ cs) = (length (items c) ≡ n) × AreFull n cs

  pub record IsChunked (cs : List C) : Type 0 where
    pub full : AreFull 1024 cs
    pub few : length cs ≤ 2097152
