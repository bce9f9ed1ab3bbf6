-- A sound reader has failed where this read has.
use Rattle.std.proofs.Common.{◌≡◌, false, rules}
use Rattle.std.specs.Prelude.{is_ok}
use Rattle.mi_hub.specs.Watching.{has_failed}
use Rattle.mi_hub.proofs.watched.WatchedRead.read.Goals as goal

pub returns-then-is_err-clause-failed : goal.returns-then-is_err-clause-failed
returns-then-is_err-clause-failed g c =
    let sound : has_failed c.args.self.now ≡ false = search rules in
    let failed : is_ok c.read-result.result ≡ false = search rules in
    rw (sound, failed)
