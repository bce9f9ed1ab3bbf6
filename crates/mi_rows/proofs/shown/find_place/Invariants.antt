use Rattle.std.proofs.Common.{◌≡◌, ◌++◌, take, drop}
use Rattle.mi_rows.specs.Shown.{with_member}
use Rattle.mi_rows.specs.declared.shown.Member.{Member}
use Rattle.mi_rows.proofs.shown.find_place.Given as goal

-- a member of this name stands behind those so far
abbrev pub invariant-members : goal.invariant-members
invariant-members l =
    (m : Member) → m.name.now ≡ l.name → with_member m l.members ≡ take l.i l.members ++ with_member m (drop l.i l.members)
