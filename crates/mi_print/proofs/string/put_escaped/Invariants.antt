use Rattle.std.proofs.Common.{◌+◌, ◌*◌, ◌≤◌, ◌∷◌, take}
use Rattle.json.specs.Filled.{Placed}
use Rattle.json.specs.Print.{escape}
use Rattle.mi_print.proofs.string.put_escaped.Given as goal

-- the quotation mark and the bytes so far are put
abbrev pub invariant-bytes : goal.invariant-bytes
invariant-bytes l = Placed l.fn.buf l.buf l.at (34 ∷ escape (take l.byte-index l.text)) l.end × (l.end ≤ l.at + 6 * l.byte-index + 1)
