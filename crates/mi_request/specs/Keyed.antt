-- The table of commands over a key of an index: the name of each, and the request that it is with its members.
use Rattle.std.specs.Prelude.{ℕ, List, Option, codes}
use Rattle.serde_json.specs.Data.{Items}
use Rattle.mi_request.specs.declared.keyed.KeyCommand.{KeyCommand}
use Rattle.mi_request.specs.declared.keyed.KeyCommand.TheVariants as keyed
use Rattle.mi_request.specs.declared.request.ChangeRequest.TheVariants as change
use Rattle.mi_request.specs.declared.request.KeyLookUpRequest.TheVariants as by_key
use Rattle.mi_request.specs.declared.request.Request.{Request}
use Rattle.mi_request.specs.declared.request.Request.TheVariants as request

-- the name of each
abbrev pub key_name : KeyCommand → List ℕ
key_name keyed.EraseKey = codes "erase_key"
key_name keyed.Find = codes "find"
key_name keyed.Count = codes "count"
key_name keyed.LowerRank = codes "lower_rank"
key_name keyed.UpperRank = codes "upper_rank"

-- the request that each is
abbrev pub asked_key : KeyCommand → Option (List ℕ) → List ℕ → Items → Request
asked_key keyed.EraseKey table index key = request.Change table (change.EraseKey index key)
asked_key keyed.Find table index key = request.KeyLookUp table (by_key.Find index key)
asked_key keyed.Count table index key = request.KeyLookUp table (by_key.Count index key)
asked_key keyed.LowerRank table index key = request.KeyLookUp table (by_key.LowerRank index key)
asked_key keyed.UpperRank table index key = request.KeyLookUp table (by_key.UpperRank index key)
