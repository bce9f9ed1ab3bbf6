-- The engine at the pointer is lent to `there` for the call, and lies there again as it was.
use Rattle.std.proofs.Common.{[], ◌∷◌, w64}
use Rattle.mi_embed.specs.contracts.call_result.CallResult.{the_row as CallResult}
use Rattle.mi_embed.proofs.call_result.CallResult.TheLaws as told_laws
use Rattle.weltiyo.specs.contracts.cursors.weltiyo_has_id as f
use Rattle.weltiyo.proofs.cursors.weltiyo_has_id.Statement.{statement}
use Rattle.weltiyo.proofs.cursors.weltiyo_has_id.Code as code
use Rattle.weltiyo.specs.contracts.cursors.there as g
use Rattle.weltiyo.proofs.cursors.there.Met.{met}
use Rattle.weltiyo.proofs.Args.{number}
use Rattle.weltiyo.proofs.Forwards.{forwards_two}
use Rattle.weltiyo.proofs.Lent.{lent, stays}

pub weltiyo_has_id_spec : {M : Type 1} → statement M
weltiyo_has_id_spec 𝓤 𝓛 𝓜 𝓡 wired =
    lent 𝓛 𝓜 𝓡 0 (number w64 ∷ number w64 ∷ []) CallResult (λ κs a. (f.clauses 𝓛 𝓜.mem 𝓡.returns κs a).ensures) (λ κs a. (g.clauses 𝓛 𝓜.mem 𝓡.returns κs a).ensures) (told_laws.the_row_laws.lawful 𝓛)
    _ code.function (code.unfolded 𝓤 𝓛.H 𝓜 𝓡 wired) _ (met 𝓤 𝓛 𝓜 𝓡 (code.calls-weltiyo::cursors::there 𝓡.env wired)) (λ κs a. forwards_two 𝓛 𝓜 𝓡 code.function _ _ _ _ _ _) (λ κs α a loan r w ws p. stays 𝓛 _ _ _ _)
