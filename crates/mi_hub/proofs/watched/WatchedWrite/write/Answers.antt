-- A sound writer has failed where it takes none of some bytes.
use Rattle.std.proofs.Common.{◌≡◌, true, false, length, rules}
use Rattle.std.specs.Prelude.{nat_lt}
use Rattle.mi_hub.specs.Watching.{has_failed, takes_none}
use Rattle.mi_hub.proofs.watched.WatchedWrite.write.Goals as goal

pub returns-then-not-matches-clause-failed : goal.returns-then-not-matches-clause-failed
returns-then-not-matches-clause-failed g c =
    let sound : has_failed c.args.self.now ≡ false = search rules in
    let some : nat_lt 0 (length c.args.buf.now) ≡ true = search rules in
    let none : takes_none c.write-result.result ≡ true = search rules in
    rw (sound, some, none)
