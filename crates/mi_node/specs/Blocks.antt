-- What a `Block` owns, at any element type R.
--     places_type         the memory of a chunk's places
--     owned_block t R p        the right, t's, to free the block at p that is its places
use base.Fml.{Fml}
use mir.Syntax.{Ty, ty_array}
use mir.Raw.{raw}
use denote.RattleType.{RattleType}
use denote.Memory.{lone}
use denote.RawPtr.{Ptr, in_block}

abbrev pub places_type : RattleType → Ty
places_type R = raw (ty_array (lone R.mir) 1024)

abbrev pub owned_block : (Ty → Ptr → Fml) → RattleType → Ptr → Fml
owned_block t R p = in_block p (t (places_type R) p)
