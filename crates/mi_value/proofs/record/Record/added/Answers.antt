-- The number is the column's, and with the sum in its place the record has the sum there.
use Rattle.std.proofs.Common.{◌≡◌, ap, sym, ◌∙◌, FitsSigned, rules, slice_get, Some, None}
use Rattle.std.specs.Int.{w64}
use Rattle.std.specs.Prelude.{slice_set}
use Rattle.std.proofs.lemmas.Int.{to_z-of_z}
use Rattle.mi_value.specs.Bytes.{bytes_in, short_bytes}
use Rattle.mi_value.specs.Block.{unpacked}
use Rattle.mi_value.specs.Numbers.{IsNumberAt}
use Rattle.mi_value.specs.Edits.{add_to}
use Rattle.mi_value.specs.declared.value.Value.TheVariants.{Int}
use Rattle.mi_value.proofs.NumberLemmas.{texts_set, added_none, added_some}
use Rattle.mi_value.proofs.record.Record.added.Goals as goal
use Rattle.mi_value.proofs.record.Record.added.Goals.{In-Some, After-with_number}

-- the record is what these bytes hold, and the number is there
module _ (c : In-Some) where
  held : c.args.self.now ≡ unpacked (short_bytes c.in-Short.short)
  held = sym c.self.view_is ∙ ap (λ b. unpacked (bytes_in b)) c.in-Short.is

  there : IsNumberAt (short_bytes c.in-Short.short) c.args.column c.in-Some.number.value c.in-Some.number.place
  there = rw (← c.as_slice.ensures) c.in-Some.ensures

  has : slice_get c.args.self.now c.args.column ≡ Some (Int c.in-Some.number.value)
  has = ap (λ vs. slice_get vs c.args.column) held ∙ there.is

pub returns-in_default-sum : goal.returns-in_default-sum
returns-in_default-sum c =
    let fits_value : FitsSigned w64 c.in-Some.number.value = search rules in
    let fits_more : FitsSigned w64 c.args.more = c.ranges.more in
    let none : None ≡ add_to (Some (Int c.in-Some.number.value)) c.args.more =
    rw (to_z-of_z w64 c.in-Some.number.value fits_value, to_z-of_z w64 c.args.more fits_more) at c.in_default-sum.ensures in
    added_none c.args.self.now c.args.column c.in-Some.number.value c.args.more (has (goal.at.returns-in_default-sum c).In-Some) none

pub with_number-requires : goal.with_number-requires
with_number-requires c = (there (goal.at.with_number-requires c).In-Some).within

-- the bytes hold the record with the sum
module _ (c : After-with_number) (is : c.args.self.now ≡ unpacked (short_bytes c.in-Short.short))
    (at : IsNumberAt (short_bytes c.in-Short.short) c.args.column c.in-Some.number.value c.in-Some.number.place) where
  summed : unpacked (short_bytes c.with_number.result) ≡ slice_set c.args.self.now c.args.column (Int c.in-Some-sum.sum)
  summed =
      let fits : FitsSigned w64 c.in-Some-sum.sum = search rules in
      ap unpacked (rw (to_z-of_z w64 c.in-Some-sum.sum fits) at c.with_number.ensures) ∙ at.other c.in-Some-sum.sum fits
      ∙ ap (λ vs. slice_set vs c.args.column (Int c.in-Some-sum.sum)) (sym is)

pub invariant_of-result : goal.invariant_of-result
invariant_of-result c =
    let o = goal.at.invariant_of-result c in
    rw (summed o.After-with_number (held o.In-Some) (there o.In-Some)) (texts_set c.args.self.now c.args.column (Int c.in-Some-sum.sum) tt (rw (← c.self.view_is) c.self.invariant))

pub returns : goal.returns
returns c =
    let o = goal.at.returns c in
    let fits_value : FitsSigned w64 c.in-Some.number.value = search rules in
    let fits_more : FitsSigned w64 c.args.more = c.ranges.more in
    let some : Some (Int c.in-Some-sum.sum) ≡ add_to (Some (Int c.in-Some.number.value)) c.args.more =
    rw (to_z-of_z w64 c.in-Some.number.value fits_value, to_z-of_z w64 c.args.more fits_more) at c.in-Some-sum.ensures in
    added_some c.args.self.now c.args.column c.in-Some.number.value c.args.more c.in-Some-sum.sum (has o.In-Some) some
    ∙ ap Some (sym (summed o.After-with_number (held o.In-Some) (there o.In-Some)))
