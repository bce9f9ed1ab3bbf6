-- What a lent value is.
use Rattle.mi_value.specs.declared.value.Value.{Value}
use Rattle.mi_value.specs.declared.value.Value.TheVariants as value
use Rattle.mi_value.specs.declared.value.ValueRef.{ValueRef}
use Rattle.mi_value.specs.declared.value.ValueRef.TheVariants.{Int, Text, Flag}

abbrev pub lent : ValueRef → Value
lent (Int n) = value.Int n
lent (Text bytes) = value.Text bytes.now
lent (Flag b) = value.Flag b
