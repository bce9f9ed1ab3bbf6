-- The words that messages carry.
use Rattle.std.specs.Prelude.{ℕ, List, codes}
use Rattle.mi_schema.specs.declared.fault.SchemaFault.{SchemaFault}
use Rattle.mi_schema.specs.declared.fault.SchemaFault.TheVariants.{Toml, Shape, Name, Twice, ColType, Kind, Key, Limit, Number, Memory}

abbrev pub fault_word : SchemaFault → List ℕ
fault_word Toml = codes "toml"
fault_word Shape = codes "shape"
fault_word Name = codes "name"
fault_word Twice = codes "twice"
fault_word ColType = codes "type"
fault_word Kind = codes "kind"
fault_word Key = codes "key"
fault_word Limit = codes "limit"
fault_word Number = codes "number"
fault_word Memory = codes "memory"
