-- What a handle is: the address of an engine, whose block may be freed there.
use Rattle.std.specs.Prelude.{◌≡◌, ◌⊎◌, ℕ, zero, suc, List, Ok, Err}
use base.Fml.{Fml, feq}
use denote.RawPtr.{Ptr, null_ptr}
use Rattle.libc.specs.Heap.{chunk}
use Rattle.std_alloc.specs.Box.Ownership.{box_owns}
use Rattle.mi_embed.specs.State.{EngineState}
use Rattle.mi_embed.specs.Opening.{status_of, IsOpened}
use Rattle.mi_embed.specs.declared.fault.OpenFault.{OpenFault}
use Rattle.mi_embed.specs.contracts.engine.Engine.{the_row}

-- The engine lies there, and its block may be freed.
abbrev pub engine_at : Ptr → EngineState → Fml
engine_at at engine = box_owns chunk the_row at engine

-- what a status and an address are: the engine lies there where the status is 0, and else the address is null
abbrev pub engine_where : ℕ → Ptr → EngineState → Fml
engine_where zero at engine = engine_at at engine
engine_where (suc n) at engine = feq Ptr at null_ptr

-- Of opening this text the status tells: 0 of the engine that it opens, or the number of why it opens nothing.
abbrev pub TellsOpening : List ℕ → ℕ → EngineState → Type 0
TellsOpening text status engine =
    ((status ≡ 0) × IsOpened text (Ok engine)) ⊎ ((fault : OpenFault) × (status ≡ status_of fault) × IsOpened text (Err fault))
