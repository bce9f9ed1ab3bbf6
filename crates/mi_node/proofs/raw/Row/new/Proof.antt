-- `new` keeps the pointer of the places, which all have their elements. Assumes `Logic`.
use Rattle.std.proofs.Common.{◌≡◌, ℕ, ◌*◌, ◌^◌, ◌<◌, List, [], ◌∷◌, ◌++◌, length, sym, refl, ◌∙◌, subst}
use mir.Syntax.{a_type}
use mir.Val.{Val, WT}
use mir.MapTy.{inst_fn}
use base.Logic.{SProp, ent, emp, id⊢}
use base.Fml.{Lft, Share, ftrue, flft}
use types.Kit.{‵, raw, ◌⊛◌, at_ret, ◌$◌, ◌∵◌, !, qed, by, move, keep, split, join, fsplit, fjoin, use0, suffices}
use types.Run.{stop, fld, of_opd, no_more, and_then, first, blocks, exec, returns, enter}
use types.ByLocal.{alloc_all, pass_all, free_all, look_at, get, get_in, sets, lands_last, is, env}
use types.Part.{agg, sub, whole}
use contract.Running.{tables}
use denote.Exit.{no}
use denote.RattleType.{RattleType, owns}
use denote.Signature.{types_at, plain}
use denote.RawPtr.{Ptr, block_ptr}
use denote.Steps.{nothing, heard}
use denote.Param.{param, layouts}
use denote.Triple.Walked.{Stays, stay_dropped, walk_of, Goes-dropped}
use contract.Monad.{fact, fact_i}
use mathlib.Core.Bool.{Bool}
use prog.Wp.{WpFn}
use contract.BorrowLft.{◌⊑◌}
use denote.Triple.Call.{calls_at_last}
use Rattle.core.proofs.atomic.Steps.{tail, fm}
use Rattle.std.proofs.raw_atomic.Walks.{proved_at, leaves}
use Rattle.core.specs.Mem.Slots.{slots_items, slots_filled, slots_ptr, slots_len, slots_counts, IsFull}
use Rattle.core.specs.Mem.Slots.Ownership.{Filled}
use Rattle.core.proofs.mem.Param.{El}
use Rattle.core.proofs.slots.Opens.{row_val}
use Rattle.core.proofs.slots.Places.{sz}
use Rattle.core.proofs.slots.Slots.into_raw_parts.Met as callee
use Rattle.mi_node.proofs.SlotCalls.{Places, parts_typed, spelled, Into, into_at, into_asks, into_gives}
use Rattle.mi_node.proofs.RowSteps.{Rr, row_val as pointer_val, row_made}
use Rattle.mi_node.specs.contracts.raw.Row.new.{ended, clauses}
use Rattle.mi_node.specs.contracts.raw.Row.new.Key.{name as #self}
use Rattle.mi_node.proofs.raw.Row.new.Statement.{statement}
use Rattle.mi_node.proofs.raw.Row.new.Code as code

pub new_spec : {M : Type 1} → statement M
new_spec 𝓤 𝓛 𝓜 𝓡 wired T L =
    let H = 𝓛.H in let 𝓣 = tables 𝓤 H 𝓜 𝓡 𝓡.env in let R : RattleType = param 0 T in let E : El = record { row = T; laws = L } in let En = ended T in
    let inst = layouts (a_type ∷ []) (T, tt) in let fn = inst_fn inst code.function in let c = clauses T 𝓛 𝓜.mem 𝓡.returns in let Ss : RattleType = Rr E in
    let met = callee.met 𝓤 𝓛 𝓜 𝓡 (code.calls-core::slots::Slots::into_raw_parts 𝓡.env wired) T L in
    let hs : Stays En.signature.params En.kept = (stay_dropped (plain (λ _. Places E)) no, tt) in
    proved_at 𝓛 En hs c 𝓜 𝓡 (Goes-dropped 𝓛 1 (plain (λ _. Places E)) no (λ κs x f. refl), tt) (#self inst) fn (code.unfolded 𝓤 H 𝓜 𝓡 wired (T, tt)) (λ z are.
    let κ : Lft = z.0.0.0 in let q : Share = z.0.1.0 in let r : (Places E).Denot = z.0.3.0 in let vss = z.0.4 in let k : ℕ = slots_len r in
    let xs : List T.Denot = slots_items r in let fs : List Bool = slots_filled r in
    let Post : Val → SProp 𝓤 = (walk_of 𝓛 En hs c).post z in let Run : List Val → SProp 𝓤 = λ ws. WpFn 𝓤 H 𝓣.C 𝓣.Λ fn ws Post in
    let Count : Type 0 = k ≡ 1024 in
    qed 𝓛 (((‵ (flft κ q) ⊛ ‵ ftrue) ⊛ ‵ (owns (types_at En.signature.params z.0.0) z.0.3 vss)) ∷ raw (fact 𝓤 (κ ⊑ T.lives)) ∷ raw (fact 𝓤 Count)
    ∷ raw (fact 𝓤 (IsFull r)) ∷ []) ∵
    move ! (1 ∷ 2 ∷ 3 ∷ []) $ heard ! (κ ⊑ T.lives) (λ le. heard ! Count (λ count. heard ! (IsFull r) (λ full. split ! $ split ! $ move ! (2 ∷ []) $
    fsplit ! $ spelled E ! r (λ b o at e fk fit. keep ! (0 ∷ 2 ∷ []) $
    let us : List Val = row_val b o k ∷ [] in let lx : length xs ≡ 1024 = sym (slots_counts r).0 ∙ count in
    let lf : length fs ≡ 1024 = sym (slots_counts r).1 ∙ count in let p : Ptr = block_ptr b o in
    let words : WT (row_val b o k) = (tt, (record { fits = fk }, tt)) in let all : Filled fs 0 1024 = subst (λ (n : ℕ). Filled fs 0 n) count full in
    let new : Ss.Denot = record { at = p; items = xs; filled = fs; long = (lx, lf); full = all } in
    let fits : 1024 * sz E < 2 ^ 63 = subst (λ (n : ℕ). n * sz E < 2 ^ 63) count fit in
    suffices ! (Run us) (subst (λ (ws : List Val). ent 𝓤 (Run us) (Run ws)) (sym (λ i. e i ++ [])) (id⊢ 𝓤 (Run us))) $
    enter ! 𝓣.C 𝓣.Λ fn us Post $ alloc_all ! (λ l. pass_all ! refl ((tt, words), tt) $ let Ev = env fn.locals l in
    let y = into_at E 𝓛 𝓜.mem 𝓡.returns κ q r b o in
    first ! $ blocks ! $ sets ! (of_opd ! (get ! refl)) refl (tt, words) $
    into_asks E 𝓛 𝓜.mem 𝓡.returns κ q ! r b o le $
    calls_at_last ! (fm 𝓛 𝓜 𝓡) (Into E 𝓛 𝓜.mem 𝓡.returns) met y (and_then ! (get ! refl) (no_more !)) (λ v.
    into_gives E 𝓛 𝓜.mem 𝓡.returns κ q ! tt r b o v at (λ ev.
    lands_last ! refl (parts_typed b o k fk ev) $ exec ! 𝓣.C 𝓣.Λ Ev (tail fn.body) (at_ret Ev Post) $
    sets ! (is ! (of_opd ! (get ! refl)) ev) refl (tt, words) $ sets ! (of_opd ! (get_in ! (fld ! refl (stop !)) (sub ! 0 refl (whole !)))) refl (tt, tt) $
    sets ! (agg ! (and_then ! (get ! refl) (no_more !))) refl (tt, (tt, tt)) $
    row_made E ! new b o refl fits $ nothing ! $ move ! (2 ∷ 0 ∷ []) $ join ! $
    use0 𝓛 (raw (fact 𝓤 (xs ≡ xs))) (fact_i 𝓤 (xs ≡ xs) (emp 𝓤) refl) $
    use0 𝓛 (raw (fact 𝓤 (p ≡ slots_ptr r))) (fact_i 𝓤 (p ≡ slots_ptr r) (emp 𝓤) (sym at)) $ join ! $ nothing ! $ nothing ! $ fjoin ! $
    returns ! (look_at ! 0 refl) $ free_all ! refl $ keep ! (2 ∷ 0 ∷ 3 ∷ 1 ∷ []) $ by ! (leaves 𝓛 En hs c z (pointer_val b o) new (tt, tt) (tt, tt))))))))))
