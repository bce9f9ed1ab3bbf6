-- `open` makes slots of a block that is its places, and keeps the right to free it. Assumes `Logic`.
use Rattle.std.proofs.Common.{◌≡◌, ◌^◌, ◌<◌, List, [], ◌∷◌, ◌++◌, length, sym, refl, subst, lit<}
use mathlib.Core.Bool.{Bool, false}
use lib.ListN.{replicate, length-replicate}
use mir.Syntax.{ty_array}
use mir.Val.{Val, WT}
use mir.MapTy.{inst_fn}
use base.Logic.{SProp, ent, emp, id⊢}
use base.Fml.{Lft, Share, ftrue, flft}
use types.Kit.{‵, raw, ◌⊛◌, at_ret, ◌$◌, ◌∵◌, !, qed, by, move, keep, split, split3, join, fsplit, fjoin, use0, use1, suffices}
use types.Part.{agg, sub, whole}
use types.Run.{stop, fld, of_opd, no_more, and_then, first, blocks, exec, returns, enter}
use types.ByLocal.{alloc_all, pass_all, free_all, look_at, get, get_in, sets, lands_last, is, env}
use contract.Running.{tables}
use contract.Monad.{fact, fact_i}
use contract.BorrowLft.{◌⊑◌}
use denote.Exit.{no}
use denote.RattleType.{RattleType, owns}
use denote.Signature.{types_at, plain}
use denote.RawPtr.{Ptr, block_ptr}
use denote.Steps.{nothing, heard}
use denote.Triple.Walked.{Stays, stay_dropped, walk_of}
use Rattle.core.proofs.alloc.Calls.{Goes-blank}
use denote.Triple.Call.{calls_at_last}
use prog.Wp.{WpFn}
use Rattle.core.proofs.atomic.Steps.{tail, fm}
use Rattle.std.proofs.raw_atomic.Walks.{proved_at, leaves}
use Rattle.core.specs.Mem.Slots.{slots_ptr, slots_len}
use Rattle.core.proofs.mem.Param.{El}
use Rattle.core.proofs.slots.Opens.{row_val}
use Rattle.core.proofs.slots.Runs.{of_space}
use Rattle.core.proofs.slots.Slots.from_raw_parts.Met as callee
use Rattle.std_alloc.specs.Vec.Ownership.{FitsInBlock}
use Rattle.std_alloc.proofs.RawLayout.{as_written}
use denote.Param.{layout}
use prog.Memory.{size}
use Rattle.std_alloc.proofs.BoxSteps.Form.{Bx, R, args, τ}
use Rattle.std_alloc.proofs.OfVacant.{Vacant, vacant_val, vacant_typed, Vacant-had}
use Rattle.mi_node.proofs.BlockSteps.{Block, Whole, boxed, in_slots, block_typed, block_made}
use Rattle.mi_node.proofs.BlockSteps as steps
use Rattle.mi_node.proofs.SlotCalls.{memory, places_typed, From, from_at, from_asks, from_gives}
use Rattle.mi_node.proofs.RowSteps.{big_lit}
use Rattle.mi_node.specs.contracts.block.open.{ended, clauses}
use Rattle.mi_node.specs.contracts.block.open.Key.{name as #self}
use Rattle.mi_node.proofs.block.open.Statement.{statement}
use Rattle.mi_node.proofs.block.open.Code as code

pub open_spec : {M : Type 1} → statement M
open_spec 𝓤 𝓛 𝓜 𝓡 wired T A L LA ga da dd met md =
    let H = 𝓛.H in let 𝓣 = tables 𝓤 H 𝓜 𝓡 𝓡.env in let E : Bx = boxed T L A LA ga da dd in let S : El = in_slots E in
    let En = ended T A ga da dd in let fn = inst_fn (args E) code.function in let c = clauses T A ga da dd 𝓛 𝓜.mem 𝓡.returns in
    let calls = callee.met 𝓤 𝓛 𝓜 𝓡 (code.calls-core::slots::Slots::from_raw_parts 𝓡.env wired) T L in let Room : RattleType = Vacant E.al (Whole E) in
    let hs : Stays En.signature.params En.kept = (stay_dropped (plain (λ _. Room)) no, tt) in
    proved_at 𝓛 En hs c 𝓜 𝓡 (Goes-blank 𝓛 2 (plain (λ _. Room)) no (λ κs x f. tt), tt) (#self (args E)) fn (code.unfolded 𝓤 H 𝓜 𝓡 wired (T, (A, tt)) da dd) (λ z are.
    let κ : Lft = z.0.0.0 in let ρ : Lft = z.0.0.1.0 in let q : Share = z.0.1.0 in let r : Share = z.0.1.1.0 in let d : Room.Denot = z.0.3.0 in let vss = z.0.4 in
    let Post : Val → SProp 𝓤 = (walk_of 𝓛 En hs c).post z in let Run : List Val → SProp 𝓤 = λ ws. WpFn 𝓤 H 𝓣.C 𝓣.Λ fn ws Post in
    let Small : Type 0 = FitsInBlock (R E) 1024 in let Sized : Type 0 = size (layout (Whole E)) < 2 ^ 63 in
    qed 𝓛 (((‵ (flft κ q) ⊛ ‵ (flft ρ r) ⊛ ‵ ftrue) ⊛ ‵ (owns (types_at En.signature.params z.0.0) z.0.3 vss)) ∷ raw (fact 𝓤 (κ ⊑ T.lives))
    ∷ raw (fact 𝓤 (ρ ⊑ A.lives)) ∷ raw (fact 𝓤 Sized) ∷ raw (fact 𝓤 Small) ∷ raw (fact 𝓤 T.Denot) ∷ []) ∵
    move ! (1 ∷ 3 ∷ 4 ∷ 5 ∷ 0 ∷ []) $ heard ! (κ ⊑ T.lives) (λ le. heard ! Sized (λ sized. heard ! Small (λ small. heard ! T.Denot (λ x.
    split ! $ split3 ! $ move ! (3 ∷ []) $ fsplit ! $ Vacant-had E.al (Whole E) ! d vss.0 (λ b o hv at e fa. keep ! (0 ∷ 1 ∷ 2 ∷ 4 ∷ 5 ∷ []) $
    -- [the room; the right to free it; the handle; T's token; A's token]
    let us : List Val = vacant_val hv b o ∷ [] in let p : Ptr = block_ptr b o in
    let xs : List T.Denot = replicate 1024 x in let fs : List Bool = replicate 1024 false in
    let lx : length xs ≡ 1024 = length-replicate 1024 x in let lf : length fs ≡ 1024 = length-replicate 1024 false in
    let fk : 1024 < 2 ^ 64 = lit< tt in
    let right : (Block E).Denot = record { at = p; alloc = d.alloc } in
    let words : WT (row_val b o 1024) = (tt, (record { fits = fk }, tt)) in let typed = block_typed E hv b o fa in
    suffices ! (Run us) (subst (λ (ws : List Val). ent 𝓤 (Run us) (Run ws)) (sym (λ i. e i ++ [])) (id⊢ 𝓤 (Run us))) $
    enter ! 𝓣.C 𝓣.Λ fn us Post $ alloc_all ! (λ l. pass_all ! refl (vacant_typed E.al (Whole E) hv b o fa, tt) $ let Ev = env fn.locals l in
    sets ! (of_opd ! (get_in ! (fld ! refl (stop !)) (sub ! 0 refl (whole !)))) refl (tt, tt) $ sets ! (of_opd ! (get_in ! (fld ! refl (stop !)) (sub ! 1 refl (whole !)))) refl fa $
    sets ! (of_opd ! (get ! refl)) refl (tt, tt) $ as_written ! (ty_array (τ E) 1024) b o $
    use1 𝓛 (‵ (memory S b o xs fs)) (of_space S 𝓛 b o 1024 xs lx) $ move ! (0 ∷ 3 ∷ []) $
    -- [the places; T's token; the right to free it; the handle; A's token]
    from_asks S 𝓛 𝓜.mem 𝓡.returns κ q ! b o 1024 xs fs le (sym lx) (sym lf) fk small.0 $ first ! $ blocks ! $
    calls_at_last ! (fm 𝓛 𝓜 𝓡) (From S 𝓛 𝓜.mem 𝓡.returns) calls (from_at S 𝓛 𝓜.mem 𝓡.returns κ q b o 1024 xs fs)
    (and_then ! (get ! refl) (and_then ! (big_lit ! (record { fits = fk })) (no_more !))) (λ v.
    from_gives S 𝓛 𝓜.mem 𝓡.returns κ q ! tt b o 1024 xs fs v (λ row ev made.
    lands_last ! refl (places_typed S b o 1024 fk ev) $ exec ! 𝓣.C 𝓣.Λ Ev (tail (tail (tail (tail fn.body)))) (at_ret Ev Post) $
    -- [the slots; T's token; the right to free it; the handle; A's token]
    sets ! (is ! (of_opd ! (get ! refl)) ev) refl (tt, words) $ sets ! (of_opd ! (get ! refl)) refl (tt, words) $ sets ! (of_opd ! (get ! refl)) refl fa $
    sets ! (agg ! (and_then ! (get ! refl) (and_then ! (get ! refl) (no_more !)))) refl typed $
    sets ! (agg ! (and_then ! (get ! refl) (and_then ! (get ! refl) (no_more !)))) refl (steps.pair_typed E hv b o fk fa) $
    move ! (2 ∷ 3 ∷ []) $ block_made E ! d.alloc b o $ move ! (1 ∷ 0 ∷ []) $ steps.pair_made E ! row right b o hv $
    -- [the pair; T's token; A's token]
    let Count : Type 0 = slots_len row ≡ 1024 in let Start : Type 0 = p ≡ slots_ptr row in
    move ! (1 ∷ 2 ∷ []) $ nothing ! $ move ! (2 ∷ 0 ∷ []) $ join ! $ move ! (1 ∷ 0 ∷ []) $ join ! $
    use0 𝓛 (raw (fact 𝓤 Start)) (fact_i 𝓤 Start (emp 𝓤) (sym made.0)) $ use0 𝓛 (raw (fact 𝓤 Count)) (fact_i 𝓤 Count (emp 𝓤) made.1) $ join ! $ nothing ! $ nothing ! $ fjoin ! $
    returns ! (look_at ! 0 refl) $ free_all ! refl $ keep ! (2 ∷ 0 ∷ 3 ∷ 1 ∷ []) $ by ! (leaves 𝓛 En hs c z (steps.pair_val E hv b o) (row, right) ((tt, (tt, tt)), tt) (tt, tt)))))))))))
