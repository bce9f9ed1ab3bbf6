-- The engine at the pointer is lent to `let_go` for the call, and lies there again with the connection gone.
use Rattle.std.proofs.Common.{[], ◌∷◌, refl, w64}
use mir.Val.{Val}
use contract.Running.{tables}
use types.Kit.{raw, ◌$◌, ◌∵◌, !, qed, done, await, learn, rewrite}
use types.Run.{enter, of_opd, addr, calls, stop, unit_lit, no_more, and_then, returns}
use types.ByLocal.{alloc_all, pass_all, free_all, look_at, get, through, sets, lands_as}
use denote.Builtin.{unit}
use denote.Memory.{lone}
use denote.Plain.{Nothing-Lawful}
use denote.Triple.Table.{framed}
use Rattle.weltiyo.specs.contracts.weltiyo_release as f
use Rattle.weltiyo.proofs.weltiyo_release.Statement.{statement}
use Rattle.weltiyo.proofs.weltiyo_release.Code as code
use Rattle.weltiyo.specs.contracts.let_go as g
use Rattle.weltiyo.proofs.let_go.Met.{met}
use Rattle.weltiyo.proofs.Args.{number}
use Rattle.weltiyo.proofs.Lent.{lent, becomes, Asked, after, is_unit}

pub weltiyo_release_spec : {M : Type 1} → statement M
weltiyo_release_spec 𝓤 𝓛 𝓜 𝓡 wired =
    lent 𝓛 𝓜 𝓡 0 (number w64 ∷ []) unit (λ κs a. (f.clauses 𝓛 𝓜.mem 𝓡.returns κs a).ensures) (λ κs a. (g.clauses 𝓛 𝓜.mem 𝓡.returns κs a).ensures) (Nothing-Lawful 𝓛)
    _ code.function (code.unfolded 𝓤 𝓛.H 𝓜 𝓡 wired) _ (met 𝓤 𝓛 𝓜 𝓡 (code.calls-weltiyo::let_go 𝓡.env wired)) (λ κs a typed b o K.
    qed 𝓛 (raw (Asked 𝓛 𝓜 𝓡 _ (lone unit.mir) _ b o K) ∷ []) ∵ enter ! _ _ _ _ _ $ alloc_all ! (λ l. pass_all ! refl ((tt, tt), typed) $ sets ! (of_opd ! (get ! refl)) refl (tt, tt) $ sets ! (addr ! (through ! refl (stop !))) refl (tt, tt) $
    calls ! (framed 𝓤 𝓛.H 𝓜 (tables 𝓤 𝓛.H 𝓜 𝓡 𝓡.env)) (after (lone unit.mir) K) (and_then ! (get ! refl) (and_then ! (get ! refl) (no_more !))) (λ v. await ! tt $ learn ! (λ fits. lands_as ! (is_unit v fits.0) refl (tt, tt) $ sets ! (of_opd ! (unit_lit !)) refl (tt, tt) $ returns ! (look_at ! 0 refl) $ free_all ! refl $ rewrite ! 0 (λ (u : Val). raw (K u)) (is_unit v fits.0) refl $ done !)))) (λ κs α a loan r w ws p. becomes 𝓛 _ _ _)
