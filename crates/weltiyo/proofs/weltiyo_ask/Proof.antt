-- The engine at the pointer is lent to `asked` for the call, and lies there again at its new state; the caller's buffer is handed on.
use Rattle.std.proofs.Common.{[], ◌∷◌, refl, w64}
use contract.Running.{tables}
use types.Kit.{raw, ◌$◌, ◌∵◌, !, qed, done, await, learn}
use types.Run.{enter, of_opd, addr, calls, stop, fld, hop, from, no_more, and_then, returns}
use types.Part.{whole, sub, agg}
use types.ByLocal.{alloc_all, pass_all, free_all, look_at, look_in_at, get, get_in, through, sets, lands_as}
use denote.Builtin.{u8, usize}
use denote.Memory.{lone}
use denote.Plain.{uint_Lawful}
use denote.Triple.Table.{framed}
use Rattle.weltiyo.specs.contracts.weltiyo_ask as f
use Rattle.weltiyo.proofs.weltiyo_ask.Statement.{statement}
use Rattle.weltiyo.proofs.weltiyo_ask.Code as code
use Rattle.weltiyo.specs.contracts.asked as g
use Rattle.weltiyo.proofs.asked.Met.{met}
use Rattle.weltiyo.proofs.Args.{buffer, number, slice}
use Rattle.weltiyo.proofs.Lent.{lent, changes_thrice, Asked, after}

pub weltiyo_ask_spec : {M : Type 1} → statement M
weltiyo_ask_spec 𝓤 𝓛 𝓜 𝓡 wired =
    lent 𝓛 𝓜 𝓡 2 (number w64 ∷ slice u8 tt 0 tt ∷ buffer u8 tt 1 tt ∷ []) usize (λ κs a. (f.clauses 𝓛 𝓜.mem 𝓡.returns κs a).ensures) (λ κs a. (g.clauses 𝓛 𝓜.mem 𝓡.returns κs a).ensures) (uint_Lawful 𝓛 w64)
    _ code.function (code.unfolded 𝓤 𝓛.H 𝓜 𝓡 wired) _ (met 𝓤 𝓛 𝓜 𝓡 (code.calls-weltiyo::asked 𝓡.env wired)) (λ κs a typed b o K.
    qed 𝓛 (raw (Asked 𝓛 𝓜 𝓡 _ (lone usize.mir) _ b o K) ∷ []) ∵ enter ! _ _ _ _ _ $ alloc_all ! (λ l. pass_all ! refl ((tt, tt), typed) $ sets ! (of_opd ! (get ! refl)) refl (tt, tt) $ sets ! (addr ! (through ! refl (stop !))) refl (tt, tt) $
    sets ! (addr ! (from ! (fld ! refl (hop ! (look_in_at ! 4 (sub ! 0 refl (whole !))) (stop !))))) refl (tt, tt) $ sets ! (agg ! (and_then ! (get ! refl) (and_then ! (get_in ! (fld ! refl (stop !)) (sub ! 1 refl (whole !))) (no_more !)))) refl typed.1.1.0 $
    calls ! (framed 𝓤 𝓛.H 𝓜 (tables 𝓤 𝓛.H 𝓜 𝓡 𝓡.env)) (after (lone usize.mir) K) (and_then ! (get ! refl) (and_then ! (get ! refl) (and_then ! (get ! refl) (and_then ! (get ! refl) (no_more !))))) (λ v. await ! tt $ learn ! (λ fits. lands_as ! refl refl fits $ returns ! (look_at ! 0 refl) $ free_all ! refl $ done !)))) (λ κs α a loan r w ws p. changes_thrice 𝓛 _ _ _ _ _)
