-- The engine at the pointer is lent to `schema_copied` for the call, and lies there again as it was; the caller's buffer is handed on.
use Rattle.std.proofs.Common.{[], ◌∷◌, refl}
use contract.Running.{tables}
use types.Kit.{raw, ◌$◌, ◌∵◌, !, qed, done, await, learn}
use types.Run.{enter, of_opd, addr, calls, stop, fld, hop, from, no_more, and_then, returns}
use types.Part.{whole, sub, agg}
use types.ByLocal.{alloc_all, pass_all, free_all, look_at, look_in_at, get, get_in, through, sets, lands_as}
use denote.Builtin.{u8}
use denote.Memory.{lone}
use denote.Triple.Table.{framed}
use Rattle.mi_embed.specs.contracts.call_result.CallResult.{the_row as CallResult}
use Rattle.mi_embed.proofs.call_result.CallResult.TheLaws as told_laws
use Rattle.weltiyo.specs.contracts.names.weltiyo_schema as f
use Rattle.weltiyo.proofs.names.weltiyo_schema.Statement.{statement}
use Rattle.weltiyo.proofs.names.weltiyo_schema.Code as code
use Rattle.weltiyo.specs.contracts.names.schema_copied as g
use Rattle.weltiyo.proofs.names.schema_copied.Met.{met}
use Rattle.weltiyo.proofs.Args.{buffer}
use Rattle.weltiyo.proofs.Lent.{lent, stays, Asked, after}

pub weltiyo_schema_spec : {M : Type 1} → statement M
weltiyo_schema_spec 𝓤 𝓛 𝓜 𝓡 wired =
    lent 𝓛 𝓜 𝓡 1 (buffer u8 tt 0 tt ∷ []) CallResult (λ κs a. (f.clauses 𝓛 𝓜.mem 𝓡.returns κs a).ensures) (λ κs a. (g.clauses 𝓛 𝓜.mem 𝓡.returns κs a).ensures) (told_laws.the_row_laws.lawful 𝓛)
    _ code.function (code.unfolded 𝓤 𝓛.H 𝓜 𝓡 wired) _ (met 𝓤 𝓛 𝓜 𝓡 (code.calls-weltiyo::names::schema_copied 𝓡.env wired)) (λ κs a typed b o K.
    qed 𝓛 (raw (Asked 𝓛 𝓜 𝓡 _ (lone CallResult.mir) _ b o K) ∷ []) ∵ enter ! _ _ _ _ _ $ alloc_all ! (λ l. pass_all ! refl ((tt, tt), typed) $ sets ! (of_opd ! (get ! refl)) refl (tt, tt) $ sets ! (addr ! (through ! refl (stop !))) refl (tt, tt) $
    sets ! (addr ! (from ! (fld ! refl (hop ! (look_in_at ! 2 (sub ! 0 refl (whole !))) (stop !))))) refl (tt, tt) $ sets ! (agg ! (and_then ! (get ! refl) (and_then ! (get_in ! (fld ! refl (stop !)) (sub ! 1 refl (whole !))) (no_more !)))) refl typed.0 $
    calls ! (framed 𝓤 𝓛.H 𝓜 (tables 𝓤 𝓛.H 𝓜 𝓡 𝓡.env)) (after (lone CallResult.mir) K) (and_then ! (get ! refl) (and_then ! (get ! refl) (no_more !))) (λ v. await ! tt $ learn ! (λ fits. lands_as ! refl refl fits $ returns ! (look_at ! 0 refl) $ free_all ! refl $ done !)))) (λ κs α a loan r w ws p. stays 𝓛 _ _ _ _)
