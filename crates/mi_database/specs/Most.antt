-- How many indexes with keys tables have: so many old places a put has at most.
use Rattle.std.specs.Prelude.{◌≡◌, ◌⊎◌, ℕ, ◌+◌, ◌<◌, ◌≤◌, List, [], ◌∷◌, length}
use Rattle.mi_value.specs.declared.compare.KeyPart.{KeyPart}
use Rattle.mi_catalog.specs.declared.index.Index.{Index}
use Rattle.mi_catalog.specs.Shape.{CatalogShape, schema_at}

-- an index has keys of its own if it has parts: `id` has none, nor has a sequenced one
abbrev pub key_of : List KeyPart → ℕ
key_of [] = 0
key_of (p ∷ ps) = 1

-- how many have
abbrev pub keyed_count : List Index → ℕ
keyed_count [] = 0
keyed_count (i ∷ is) = key_of i.parts + keyed_count is

-- at most so many, and the number of each is a byte
abbrev pub HasAtMost : ℕ → List Index → Type 0
HasAtMost most is = (keyed_count is ≤ most) × (length is ≤ 256)

-- in each table of a catalog
abbrev pub AllHaveAtMost : ℕ → CatalogShape → Type 0
AllHaveAtMost most c = (n : ℕ) → n < length c.tables → HasAtMost most (schema_at c n).indexes

-- one of the first k tables has just so many, or it is 0
abbrev pub OneHas : ℕ → ℕ → CatalogShape → Type 0
OneHas k most c = (most ≡ 0) ⊎ ((n : ℕ) × (n < k) × (most ≡ keyed_count (schema_at c n).indexes))

-- so of all tables
abbrev pub SomeHas : ℕ → CatalogShape → Type 0
SomeHas most c = OneHas (length c.tables) most c
