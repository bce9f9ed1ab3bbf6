-- The engine at the pointer is lent to `answered` for the call, and lies there again at its new state.
use Rattle.std.proofs.Common.{[], ◌∷◌, w64}
use denote.Builtin.{u8, usize}
use denote.Plain.{uint_Lawful}
use Rattle.weltiyo.specs.contracts.weltiyo_execute as f
use Rattle.weltiyo.proofs.weltiyo_execute.Statement.{statement}
use Rattle.weltiyo.proofs.weltiyo_execute.Code as code
use Rattle.weltiyo.specs.contracts.answered as g
use Rattle.weltiyo.proofs.answered.Met.{met}
use Rattle.weltiyo.proofs.Args.{number, slice}
use Rattle.weltiyo.proofs.Forwards.{forwards_two}
use Rattle.weltiyo.proofs.Lent.{lent, changes_both}

pub weltiyo_execute_spec : {M : Type 1} → statement M
weltiyo_execute_spec 𝓤 𝓛 𝓜 𝓡 wired =
    lent 𝓛 𝓜 𝓡 1 (number w64 ∷ slice u8 tt 0 tt ∷ []) usize (λ κs a. (f.clauses 𝓛 𝓜.mem 𝓡.returns κs a).ensures) (λ κs a. (g.clauses 𝓛 𝓜.mem 𝓡.returns κs a).ensures) (uint_Lawful 𝓛 w64)
    _ code.function (code.unfolded 𝓤 𝓛.H 𝓜 𝓡 wired) _ (met 𝓤 𝓛 𝓜 𝓡 (code.calls-weltiyo::answered 𝓡.env wired)) (λ κs a. forwards_two 𝓛 𝓜 𝓡 code.function _ _ _ _ _ _) (λ κs α a loan r w ws p. changes_both 𝓛 _ _ _ _)
