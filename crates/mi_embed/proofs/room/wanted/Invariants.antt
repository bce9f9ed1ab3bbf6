use Rattle.std.proofs.Common.{◌≡◌, ◌+◌, length, map, drop}
use Rattle.mi_embed.specs.Cells.{texts_of}
use Rattle.mi_embed.specs.Pages.{values_of}
use Rattle.mi_embed.specs.CallResults.{in_64}
use Rattle.mi_embed.proofs.room.wanted.Given as goal

-- what was counted, and what is to come, is what all want
abbrev pub invariant-rows : goal.invariant-rows
invariant-rows l =
    let all = map (λ r. (r.0, r.1.now)) l.rows in let left = values_of (map (λ r. (r.0, r.1.now)) (drop l.row-index l.rows)) in
    (in_64 (l.count + length left) ≡ in_64 (length (values_of all)))
    × (in_64 (l.bytes + length (texts_of left)) ≡ in_64 (length (texts_of (values_of all))))
