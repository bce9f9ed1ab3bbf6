-- the ids so far
use Rattle.std.proofs.Common.{◌≡◌, map, take}
use Rattle.mi_multi.proofs.imaging.seconds.Given as goal

abbrev pub invariant-loop-stamp : goal.invariant-loop-stamp
invariant-loop-stamp l = l.ids.items ≡ map (λ p. p.1) (take l._stamp-index l.pairs)
