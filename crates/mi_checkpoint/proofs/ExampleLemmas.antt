-- By computation.
-- Cited by `examples::base_stands_at_an_open_session`.
use Rattle.std.proofs.Common.{refl, lit≤}
use Rattle.std.specs.Fmt.{digits}
use Rattle.std.specs.Str.{is_utf8, chars}
use Rattle.serde_json.proofs.OnLiterals.{serde_json_on_literals}
use Rattle.mi_request.specs.NullaryCommand.{nullary_named}
use Rattle.mi_request.specs.Commands.{look_up_named, step_named}
use Rattle.mi_request.specs.Json.{has_only}
use Rattle.mi_checkpoint.specs.Examples.{BaseStandsAtAnOpenSession}

pub base_stands : BaseStandsAtAnOpenSession
unfolding digits serde_json_on_literals is_utf8 chars has_only nullary_named step_named look_up_named
base_stands = (refl, refl, refl, ((lit≤ tt, (lit≤ tt, (lit≤ tt, tt))), lit≤ tt), refl, refl)
