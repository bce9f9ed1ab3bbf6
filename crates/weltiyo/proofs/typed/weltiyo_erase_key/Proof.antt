-- The engine at the pointer is lent to `erased_by_key` for the call, and lies there again at its new state.
use Rattle.std.proofs.Common.{[], ◌∷◌, w64}
use denote.Builtin.{u8}
use Rattle.mi_embed.specs.contracts.cell.Cell.{the_row as Cell}
use Rattle.mi_embed.specs.contracts.call_result.CallResult.{the_row as CallResult}
use Rattle.mi_embed.proofs.call_result.CallResult.TheLaws as told_laws
use Rattle.weltiyo.specs.contracts.typed.weltiyo_erase_key as f
use Rattle.weltiyo.proofs.typed.weltiyo_erase_key.Statement.{statement}
use Rattle.weltiyo.proofs.typed.weltiyo_erase_key.Code as code
use Rattle.weltiyo.specs.contracts.typed.erased_by_key as g
use Rattle.weltiyo.proofs.typed.erased_by_key.Met.{met}
use Rattle.weltiyo.proofs.Args.{number, slice}
use Rattle.weltiyo.proofs.Forwards.{forwards_five}
use Rattle.weltiyo.proofs.Lent.{lent, changes}

pub weltiyo_erase_key_spec : {M : Type 1} → statement M
weltiyo_erase_key_spec 𝓤 𝓛 𝓜 𝓡 wired =
    lent 𝓛 𝓜 𝓡 2 (number w64 ∷ number w64 ∷ number w64 ∷ slice Cell tt 0 tt ∷ slice u8 tt 1 tt ∷ []) CallResult (λ κs a. (f.clauses 𝓛 𝓜.mem 𝓡.returns κs a).ensures) (λ κs a. (g.clauses 𝓛 𝓜.mem 𝓡.returns κs a).ensures) (told_laws.the_row_laws.lawful 𝓛)
    _ code.function (code.unfolded 𝓤 𝓛.H 𝓜 𝓡 wired) _ (met 𝓤 𝓛 𝓜 𝓡 (code.calls-weltiyo::typed::erased_by_key 𝓡.env wired)) (λ κs a. forwards_five 𝓛 𝓜 𝓡 code.function _ _ _ _ _ _ _ _ _) (λ κs α a loan r w ws p. changes 𝓛 _ _ _)
