-- Where all names and types are right and an index's kind is none, the fault is that.
use Rattle.std.proofs.Common.{◌≡◌, true, false, sym}
use Rattle.std.specs.List.{list_all}
use Rattle.mi_schema.specs.Checks.{has_names, are_no_twins, has_types, has_kinds, fault_of}
use Rattle.mi_schema.proofs.draft.Draft.fault.Goals as goal

pub returns-then-not-have_kinds : goal.returns-then-not-have_kinds
unfolding fault_of
returns-then-not-have_kinds c =
    let ts = c.args.self.now.tables in
    let names : list_all has_names ts ≡ true = cc in
    let twins : are_no_twins ts ≡ true = cc in
    let types : list_all has_types ts ≡ true = cc in
    let kinds : list_all has_kinds ts ≡ false = cc in
    sym (rw (names, twins, types, kinds))
