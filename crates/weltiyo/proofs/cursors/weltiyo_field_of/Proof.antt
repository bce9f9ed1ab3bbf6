-- The engine at the pointer is lent to `field_read` for the call, and lies there again as it was.
use Rattle.std.proofs.Common.{[], ◌∷◌, w64}
use Rattle.mi_embed.specs.contracts.field.Field.{the_row as Field}
use Rattle.mi_embed.proofs.field.Field.TheLaws as field_laws
use Rattle.weltiyo.specs.contracts.cursors.weltiyo_field_of as f
use Rattle.weltiyo.proofs.cursors.weltiyo_field_of.Statement.{statement}
use Rattle.weltiyo.proofs.cursors.weltiyo_field_of.Code as code
use Rattle.weltiyo.specs.contracts.cursors.field_read as g
use Rattle.weltiyo.proofs.cursors.field_read.Met.{met}
use Rattle.weltiyo.proofs.Args.{number}
use Rattle.weltiyo.proofs.Forwards.{forwards_three}
use Rattle.weltiyo.proofs.Lent.{lent, stays}

pub weltiyo_field_of_spec : {M : Type 1} → statement M
weltiyo_field_of_spec 𝓤 𝓛 𝓜 𝓡 wired =
    lent 𝓛 𝓜 𝓡 0 (number w64 ∷ number w64 ∷ number w64 ∷ []) Field (λ κs a. (f.clauses 𝓛 𝓜.mem 𝓡.returns κs a).ensures) (λ κs a. (g.clauses 𝓛 𝓜.mem 𝓡.returns κs a).ensures) (field_laws.the_row_laws.lawful 𝓛)
    _ code.function (code.unfolded 𝓤 𝓛.H 𝓜 𝓡 wired) _ (met 𝓤 𝓛 𝓜 𝓡 (code.calls-weltiyo::cursors::field_read 𝓡.env wired)) (λ κs a. forwards_three 𝓛 𝓜 𝓡 code.function _ _ _ _ _ _ _) (λ κs α a loan r w ws p. stays 𝓛 _ _ _ _)
