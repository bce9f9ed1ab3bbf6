-- The code of an export: the pointer is made a reference, and handed to the safe function with the other arguments as they came. There is a walk for each number of these, whatever their types. Assumes `Logic`.
-- Cited by `cursors::weltiyo_at_rank_id`, `cursors::weltiyo_field_of`, `cursors::weltiyo_find_id`, `cursors::weltiyo_first_id` and 27 more.
use Rattle.std.proofs.Common.{[], ◌∷◌, refl}
use seplogic.Ra.Ura.{Ura}
use mir.Syntax.{Ty, ty_ptr, ty_ref, erased, mut, Local, local, value_local, Fn, Callee, place, copy, assign, seq, call, return, rv_opd, addr_of, deref}
use mir.Val.{Val}
use contract.Running.{Running, tables}
use prog.Model.{Model}
use types.Kit.{raw, ◌$◌, ◌∵◌, !, qed, done, await, learn}
use types.Logic.{Logic}
use types.Run.{enter, of_opd, addr, calls, stop, no_more, and_then, returns}
use types.ByLocal.{alloc_all, pass_all, free_all, look_at, get, through, sets, lands_as}
use denote.Laws.{Typed}
use denote.Triple.Table.{framed}
use Rattle.weltiyo.proofs.Lent.{Asked, Forwards, after}

abbrev var : Ty → Local
var τ = local τ value_local

module _ {M : Type 1} {𝓤 : Ura M} (𝓛 : Logic 𝓤) (𝓜 : Model 𝓤 𝓛.H) (𝓡 : Running 𝓤 𝓛.H 𝓜) (e : Fn) (k : Callee) (ρ ν σ : Ty) where
  pub forwards_one : (τ₁ : Ty) {v₁ : Val} → Typed (τ₁ ∷ []) (v₁ ∷ [])
      → Forwards 𝓛 𝓜 𝓡 (record e { locals = var ρ ∷ var ty_ptr ∷ var τ₁ ∷ var ty_ptr ∷ var (ty_ref erased mut ν) ∷ []; body = seq (assign (place 3 []) (rv_opd (copy (place 1 [])))) (seq (assign (place 4 []) (addr_of (place 3 (deref σ ∷ [])))) (seq (call k (copy (place 4 []) ∷ copy (place 2 []) ∷ []) (place 0 [])) return)) }) k ρ (v₁ ∷ [])
  forwards_one τ₁ {v₁} typed b o K = qed 𝓛 (raw (Asked 𝓛 𝓜 𝓡 k ρ (v₁ ∷ []) b o K) ∷ []) ∵ enter ! _ _ _ _ _ $ alloc_all ! (λ l. pass_all ! refl ((tt, tt), typed) $
      sets ! (of_opd ! (get ! refl)) refl (tt, tt) $ sets ! (addr ! (through ! refl (stop !))) refl (tt, tt) $ calls ! (framed 𝓤 𝓛.H 𝓜 (tables 𝓤 𝓛.H 𝓜 𝓡 𝓡.env)) (after ρ K) (and_then ! (get ! refl) (and_then ! (get ! refl) (no_more !))) (λ v.
      await ! tt $ learn ! (λ fits. lands_as ! refl refl fits $ returns ! (look_at ! 0 refl) $ free_all ! refl $ done !)))

  pub forwards_two : (τ₁ τ₂ : Ty) {v₁ v₂ : Val} → Typed (τ₁ ∷ τ₂ ∷ []) (v₁ ∷ v₂ ∷ [])
      → Forwards 𝓛 𝓜 𝓡 (record e { locals = var ρ ∷ var ty_ptr ∷ var τ₁ ∷ var τ₂ ∷ var ty_ptr ∷ var (ty_ref erased mut ν) ∷ []; body = seq (assign (place 4 []) (rv_opd (copy (place 1 [])))) (seq (assign (place 5 []) (addr_of (place 4 (deref σ ∷ [])))) (seq (call k (copy (place 5 []) ∷ copy (place 2 []) ∷ copy (place 3 []) ∷ []) (place 0 [])) return)) }) k ρ (v₁ ∷ v₂ ∷ [])
  forwards_two τ₁ τ₂ {v₁} {v₂} typed b o K = qed 𝓛 (raw (Asked 𝓛 𝓜 𝓡 k ρ (v₁ ∷ v₂ ∷ []) b o K) ∷ []) ∵ enter ! _ _ _ _ _ $ alloc_all ! (λ l. pass_all ! refl ((tt, tt), typed) $
      sets ! (of_opd ! (get ! refl)) refl (tt, tt) $ sets ! (addr ! (through ! refl (stop !))) refl (tt, tt) $ calls ! (framed 𝓤 𝓛.H 𝓜 (tables 𝓤 𝓛.H 𝓜 𝓡 𝓡.env)) (after ρ K) (and_then ! (get ! refl) (and_then ! (get ! refl) (and_then ! (get ! refl) (no_more !)))) (λ v.
      await ! tt $ learn ! (λ fits. lands_as ! refl refl fits $ returns ! (look_at ! 0 refl) $ free_all ! refl $ done !)))

  pub forwards_three : (τ₁ τ₂ τ₃ : Ty) {v₁ v₂ v₃ : Val} → Typed (τ₁ ∷ τ₂ ∷ τ₃ ∷ []) (v₁ ∷ v₂ ∷ v₃ ∷ [])
      → Forwards 𝓛 𝓜 𝓡 (record e { locals = var ρ ∷ var ty_ptr ∷ var τ₁ ∷ var τ₂ ∷ var τ₃ ∷ var ty_ptr ∷ var (ty_ref erased mut ν) ∷ []; body = seq (assign (place 5 []) (rv_opd (copy (place 1 [])))) (seq (assign (place 6 []) (addr_of (place 5 (deref σ ∷ [])))) (seq (call k (copy (place 6 []) ∷ copy (place 2 []) ∷ copy (place 3 []) ∷ copy (place 4 []) ∷ []) (place 0 [])) return)) }) k ρ (v₁ ∷ v₂ ∷ v₃ ∷ [])
  forwards_three τ₁ τ₂ τ₃ {v₁} {v₂} {v₃} typed b o K = qed 𝓛 (raw (Asked 𝓛 𝓜 𝓡 k ρ (v₁ ∷ v₂ ∷ v₃ ∷ []) b o K) ∷ []) ∵ enter ! _ _ _ _ _ $ alloc_all ! (λ l. pass_all ! refl ((tt, tt), typed) $
      sets ! (of_opd ! (get ! refl)) refl (tt, tt) $ sets ! (addr ! (through ! refl (stop !))) refl (tt, tt) $ calls ! (framed 𝓤 𝓛.H 𝓜 (tables 𝓤 𝓛.H 𝓜 𝓡 𝓡.env)) (after ρ K) (and_then ! (get ! refl) (and_then ! (get ! refl) (and_then ! (get ! refl) (and_then ! (get ! refl) (no_more !))))) (λ v.
      await ! tt $ learn ! (λ fits. lands_as ! refl refl fits $ returns ! (look_at ! 0 refl) $ free_all ! refl $ done !)))

  pub forwards_four : (τ₁ τ₂ τ₃ τ₄ : Ty) {v₁ v₂ v₃ v₄ : Val} → Typed (τ₁ ∷ τ₂ ∷ τ₃ ∷ τ₄ ∷ []) (v₁ ∷ v₂ ∷ v₃ ∷ v₄ ∷ [])
      → Forwards 𝓛 𝓜 𝓡 (record e { locals = var ρ ∷ var ty_ptr ∷ var τ₁ ∷ var τ₂ ∷ var τ₃ ∷ var τ₄ ∷ var ty_ptr ∷ var (ty_ref erased mut ν) ∷ []; body = seq (assign (place 6 []) (rv_opd (copy (place 1 [])))) (seq (assign (place 7 []) (addr_of (place 6 (deref σ ∷ [])))) (seq (call k (copy (place 7 []) ∷ copy (place 2 []) ∷ copy (place 3 []) ∷ copy (place 4 []) ∷ copy (place 5 []) ∷ []) (place 0 [])) return)) }) k ρ (v₁ ∷ v₂ ∷ v₃ ∷ v₄ ∷ [])
  forwards_four τ₁ τ₂ τ₃ τ₄ {v₁} {v₂} {v₃} {v₄} typed b o K = qed 𝓛 (raw (Asked 𝓛 𝓜 𝓡 k ρ (v₁ ∷ v₂ ∷ v₃ ∷ v₄ ∷ []) b o K) ∷ []) ∵ enter ! _ _ _ _ _ $ alloc_all ! (λ l. pass_all ! refl ((tt, tt), typed) $
      sets ! (of_opd ! (get ! refl)) refl (tt, tt) $ sets ! (addr ! (through ! refl (stop !))) refl (tt, tt) $ calls ! (framed 𝓤 𝓛.H 𝓜 (tables 𝓤 𝓛.H 𝓜 𝓡 𝓡.env)) (after ρ K) (and_then ! (get ! refl) (and_then ! (get ! refl) (and_then ! (get ! refl) (and_then ! (get ! refl) (and_then ! (get ! refl) (no_more !)))))) (λ v.
      await ! tt $ learn ! (λ fits. lands_as ! refl refl fits $ returns ! (look_at ! 0 refl) $ free_all ! refl $ done !)))

  pub forwards_five : (τ₁ τ₂ τ₃ τ₄ τ₅ : Ty) {v₁ v₂ v₃ v₄ v₅ : Val} → Typed (τ₁ ∷ τ₂ ∷ τ₃ ∷ τ₄ ∷ τ₅ ∷ []) (v₁ ∷ v₂ ∷ v₃ ∷ v₄ ∷ v₅ ∷ [])
      → Forwards 𝓛 𝓜 𝓡 (record e { locals = var ρ ∷ var ty_ptr ∷ var τ₁ ∷ var τ₂ ∷ var τ₃ ∷ var τ₄ ∷ var τ₅ ∷ var ty_ptr ∷ var (ty_ref erased mut ν) ∷ []; body = seq (assign (place 7 []) (rv_opd (copy (place 1 [])))) (seq (assign (place 8 []) (addr_of (place 7 (deref σ ∷ [])))) (seq (call k (copy (place 8 []) ∷ copy (place 2 []) ∷ copy (place 3 []) ∷ copy (place 4 []) ∷ copy (place 5 []) ∷ copy (place 6 []) ∷ []) (place 0 [])) return)) }) k ρ (v₁ ∷ v₂ ∷ v₃ ∷ v₄ ∷ v₅ ∷ [])
  forwards_five τ₁ τ₂ τ₃ τ₄ τ₅ {v₁} {v₂} {v₃} {v₄} {v₅} typed b o K = qed 𝓛 (raw (Asked 𝓛 𝓜 𝓡 k ρ (v₁ ∷ v₂ ∷ v₃ ∷ v₄ ∷ v₅ ∷ []) b o K) ∷ []) ∵ enter ! _ _ _ _ _ $ alloc_all ! (λ l. pass_all ! refl ((tt, tt), typed) $
      sets ! (of_opd ! (get ! refl)) refl (tt, tt) $ sets ! (addr ! (through ! refl (stop !))) refl (tt, tt) $ calls ! (framed 𝓤 𝓛.H 𝓜 (tables 𝓤 𝓛.H 𝓜 𝓡 𝓡.env)) (after ρ K) (and_then ! (get ! refl) (and_then ! (get ! refl) (and_then ! (get ! refl) (and_then ! (get ! refl) (and_then ! (get ! refl) (and_then ! (get ! refl) (no_more !))))))) (λ v.
      await ! tt $ learn ! (λ fits. lands_as ! refl refl fits $ returns ! (look_at ! 0 refl) $ free_all ! refl $ done !)))

  pub forwards_six : (τ₁ τ₂ τ₃ τ₄ τ₅ τ₆ : Ty) {v₁ v₂ v₃ v₄ v₅ v₆ : Val} → Typed (τ₁ ∷ τ₂ ∷ τ₃ ∷ τ₄ ∷ τ₅ ∷ τ₆ ∷ []) (v₁ ∷ v₂ ∷ v₃ ∷ v₄ ∷ v₅ ∷ v₆ ∷ [])
      → Forwards 𝓛 𝓜 𝓡 (record e { locals = var ρ ∷ var ty_ptr ∷ var τ₁ ∷ var τ₂ ∷ var τ₃ ∷ var τ₄ ∷ var τ₅ ∷ var τ₆ ∷ var ty_ptr ∷ var (ty_ref erased mut ν) ∷ []; body = seq (assign (place 8 []) (rv_opd (copy (place 1 [])))) (seq (assign (place 9 []) (addr_of (place 8 (deref σ ∷ [])))) (seq (call k (copy (place 9 []) ∷ copy (place 2 []) ∷ copy (place 3 []) ∷ copy (place 4 []) ∷ copy (place 5 []) ∷ copy (place 6 []) ∷ copy (place 7 []) ∷ []) (place 0 [])) return)) }) k ρ (v₁ ∷ v₂ ∷ v₃ ∷ v₄ ∷ v₅ ∷ v₆ ∷ [])
  forwards_six τ₁ τ₂ τ₃ τ₄ τ₅ τ₆ {v₁} {v₂} {v₃} {v₄} {v₅} {v₆} typed b o K = qed 𝓛 (raw (Asked 𝓛 𝓜 𝓡 k ρ (v₁ ∷ v₂ ∷ v₃ ∷ v₄ ∷ v₅ ∷ v₆ ∷ []) b o K) ∷ []) ∵ enter ! _ _ _ _ _ $ alloc_all ! (λ l. pass_all ! refl ((tt, tt), typed) $
      sets ! (of_opd ! (get ! refl)) refl (tt, tt) $ sets ! (addr ! (through ! refl (stop !))) refl (tt, tt) $ calls ! (framed 𝓤 𝓛.H 𝓜 (tables 𝓤 𝓛.H 𝓜 𝓡 𝓡.env)) (after ρ K) (and_then ! (get ! refl) (and_then ! (get ! refl) (and_then ! (get ! refl) (and_then ! (get ! refl) (and_then ! (get ! refl) (and_then ! (get ! refl) (and_then ! (get ! refl) (no_more !)))))))) (λ v.
      await ! tt $ learn ! (λ fits. lands_as ! refl refl fits $ returns ! (look_at ! 0 refl) $ free_all ! refl $ done !)))
