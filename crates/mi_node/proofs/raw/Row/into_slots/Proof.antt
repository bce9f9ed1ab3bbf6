-- `into_slots` gives the pointer up for the places. Assumes `Logic`.
use Rattle.std.proofs.Common.{◌≡◌, ℕ, ◌^◌, ◌<◌, List, [], ◌∷◌, ◌++◌, length, sym, refl, ap, ◌∙◌, subst, lit<}
use mir.Syntax.{a_type}
use mir.Val.{Val, WT}
use mir.MapTy.{inst_fn}
use base.Logic.{SProp, ent, emp, id⊢}
use base.Fml.{Lft, Share, ftrue, flft}
use types.Kit.{‵, raw, ◌⊛◌, at_ret, ◌$◌, ◌∵◌, !, qed, by, move, keep, split, join, fsplit, fjoin, use0}
use types.Kit.{suffices}
use types.Run.{stop, fld, of_opd, no_more, and_then, first, blocks, exec, returns, enter}
use types.ByLocal.{alloc_all, pass_all, free_all, look_at, get, get_in, sets, lands_last, is, env}
use types.Part.{sub, whole}
use contract.Running.{tables}
use denote.Exit.{no}
use denote.RattleType.{RattleType, owns}
use denote.Signature.{types_at, plain}
use denote.Steps.{nothing, heard}
use denote.Param.{param, layouts}
use denote.Triple.Walked.{Stays, stay_dropped, walk_of, Goes-dropped}
use contract.Monad.{fact, fact_i}
use mathlib.Core.Bool.{Bool}
use prog.Wp.{WpFn}
use contract.BorrowLft.{◌⊑◌}
use denote.Triple.Call.{calls_at_last}
use mathlib.Core.Bool.{false}
use lib.ListN.{get_or}
use Rattle.core.proofs.atomic.Steps.{tail, fm}
use Rattle.std.proofs.raw_atomic.Walks.{proved_at, leaves}
use Rattle.core.specs.Mem.Slots.{slots_items, slots_ptr, slots_len, IsFull}
use Rattle.core.proofs.mem.Param.{El}
use Rattle.core.proofs.slots.Opens.{row_val}
use Rattle.core.proofs.slots.Slots.from_raw_parts.Met as callee
use Rattle.std_alloc.specs.Vec.Ownership.{FitsInBlock}
use Rattle.mi_node.proofs.SlotCalls.{places_typed, From, from_at, from_asks, from_gives}
use Rattle.mi_node.proofs.RowSteps.{big_lit, Rr, row_val as pointer_val, row_had}
use Rattle.mi_node.specs.contracts.raw.Row.into_slots.{ended, clauses}
use Rattle.mi_node.specs.contracts.raw.Row.into_slots.Key.{name as #self}
use Rattle.mi_node.proofs.raw.Row.into_slots.Statement.{statement}
use Rattle.mi_node.proofs.raw.Row.into_slots.Code as code

pub into_slots_spec : {M : Type 1} → statement M
into_slots_spec 𝓤 𝓛 𝓜 𝓡 wired T L =
    let H = 𝓛.H in let 𝓣 = tables 𝓤 H 𝓜 𝓡 𝓡.env in let R : RattleType = param 0 T in let E : El = record { row = T; laws = L } in let En = ended T in
    let inst = layouts (a_type ∷ []) (T, tt) in let fn = inst_fn inst code.function in let c = clauses T 𝓛 𝓜.mem 𝓡.returns in let Ss : RattleType = Rr E in
    let met = callee.met 𝓤 𝓛 𝓜 𝓡 (code.calls-core::slots::Slots::from_raw_parts 𝓡.env wired) T L in
    let hs : Stays En.signature.params En.kept = (stay_dropped (plain (λ _. Ss)) no, tt) in
    proved_at 𝓛 En hs c 𝓜 𝓡 (Goes-dropped 𝓛 1 (plain (λ _. Ss)) no (λ κs x f. refl), tt) (#self inst) fn (code.unfolded 𝓤 H 𝓜 𝓡 wired (T, tt)) (λ z are.
    let κ : Lft = z.0.0.0 in let q : Share = z.0.1.0 in let h : Ss.Denot = z.0.3.0 in let vss = z.0.4 in let xs : List T.Denot = h.items in
    let fs : List Bool = h.filled in
    let Post : Val → SProp 𝓤 = (walk_of 𝓛 En hs c).post z in let Run : List Val → SProp 𝓤 = λ ws. WpFn 𝓤 H 𝓣.C 𝓣.Λ fn ws Post in
    qed 𝓛 (((‵ (flft κ q) ⊛ ‵ ftrue) ⊛ ‵ (owns (types_at En.signature.params z.0.0) z.0.3 vss)) ∷ raw (fact 𝓤 (κ ⊑ T.lives)) ∷ ‵ ftrue ∷ []) ∵
    move ! (1 ∷ []) $ heard ! (κ ⊑ T.lives) (λ le. split ! $ split ! $ move ! (2 ∷ []) $ fsplit ! $ row_had E ! h vss.0 (λ b o at e fit. keep ! (0 ∷ 2 ∷ []) $
    let us : List Val = pointer_val b o ∷ [] in let lx : 1024 ≡ length xs = sym h.long.0 in let lf : 1024 ≡ length fs = sym h.long.1 in
    let fk : 1024 < 2 ^ 64 = lit< tt in
    let words : WT (row_val b o 1024) = (tt, (record { fits = fk }, tt)) in
    suffices ! (Run us) (subst (λ (ws : List Val). ent 𝓤 (Run us) (Run ws)) (sym (λ i. e i ++ [])) (id⊢ 𝓤 (Run us))) $
    enter ! 𝓣.C 𝓣.Λ fn us Post $ alloc_all ! (λ l. pass_all ! refl ((tt, (tt, tt)), tt) $ let Ev = env fn.locals l in
    let y = from_at E 𝓛 𝓜.mem 𝓡.returns κ q b o 1024 xs fs in
    sets ! (of_opd ! (get_in ! (fld ! refl (stop !)) (sub ! 0 refl (whole !)))) refl (tt, tt) $ first ! $ blocks ! $
    from_asks E 𝓛 𝓜.mem 𝓡.returns κ q ! b o 1024 xs fs le lx lf fk fit $
    calls_at_last ! (fm 𝓛 𝓜 𝓡) (From E 𝓛 𝓜.mem 𝓡.returns) met y (and_then ! (get ! refl) (and_then ! (big_lit ! (record { fits = fk })) (no_more !))) (λ v.
    from_gives E 𝓛 𝓜.mem 𝓡.returns κ q ! tt b o 1024 xs fs v (λ r ev made.
    let full : IsFull r = λ j low high. ap (λ (gs : List Bool). get_or gs j false) made.3 ∙ h.full j low (subst (λ (n : ℕ). j < n) made.1 high) in
    let One : Type 0 = slots_ptr r ≡ h.at in let Two : Type 0 = slots_len r ≡ 1024 in let Three : Type 0 = IsFull r in let Four : Type 0 = slots_items r ≡ xs in
    let Five : Type 0 = FitsInBlock R 1024 in
    lands_last ! refl (places_typed E b o 1024 fk ev) $ exec ! 𝓣.C 𝓣.Λ Ev (tail (tail fn.body)) (at_ret Ev Post) $
    sets ! (is ! (of_opd ! (get ! refl)) ev) refl (tt, words) $
    nothing ! $ move ! (2 ∷ 0 ∷ []) $ join ! $
    use0 𝓛 (raw (fact 𝓤 Five)) (fact_i 𝓤 Five (emp 𝓤) (fit, lit< tt)) $ use0 𝓛 (raw (fact 𝓤 Four)) (fact_i 𝓤 Four (emp 𝓤) made.2) $ join ! $
    use0 𝓛 (raw (fact 𝓤 Three)) (fact_i 𝓤 Three (emp 𝓤) full) $ join ! $
    use0 𝓛 (raw (fact 𝓤 Two)) (fact_i 𝓤 Two (emp 𝓤) made.1) $ join ! $ use0 𝓛 (raw (fact 𝓤 One)) (fact_i 𝓤 One (emp 𝓤) (made.0 ∙ sym at)) $ join ! $
    nothing ! $ nothing ! $ fjoin ! $
    returns ! (look_at ! 0 refl) $ free_all ! refl $ keep ! (2 ∷ 0 ∷ 3 ∷ 1 ∷ []) $ by ! (leaves 𝓛 En hs c z (row_val b o 1024) r (tt, tt) (tt, tt))))))))
