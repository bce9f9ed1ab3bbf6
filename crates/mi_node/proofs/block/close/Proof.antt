-- `close` makes a block of its places again. Assumes `Logic`.
use Rattle.std.proofs.Common.{◌≡◌, ◌^◌, ◌<◌, List, [], ◌∷◌, ◌++◌, length, sym, refl, ◌∙◌, subst}
use mathlib.Core.Bool.{Bool}
use mir.Syntax.{ty_array}
use mir.Val.{Val, WT}
use mir.MapTy.{inst_fn}
use base.Logic.{SProp, ent, emp, id⊢}
use base.Fml.{Lft, Share, ftrue, froom, flft}
use types.Kit.{‵, raw, ◌⊛◌, at_ret, ◌$◌, ◌∵◌, !, qed, by, move, keep, rewrite, split, split3, join, fsplit3, fjoin, use0, use1, suffices}
use types.Part.{agg, sub, whole}
use types.Run.{stop, fld, of_opd, no_more, and_then, first, blocks, exec, returns, enter}
use types.ByLocal.{alloc_all, pass_all, free_all, look_at, get, get_in, sets, lands_last, env}
use contract.Running.{tables}
use contract.Monad.{fact, fact_i}
use contract.BorrowLft.{◌⊑◌}
use denote.Exit.{no}
use denote.RattleType.{RattleType, owns}
use denote.Signature.{types_at, plain}
use denote.RawPtr.{Ptr, block_ptr}
use denote.Steps.{nothing, heard}
use denote.Triple.Walked.{Stays, stay_dropped, walk_of, Goes-dropped}
use Rattle.core.proofs.alloc.Calls.{Goes-blank}
use denote.Triple.Call.{calls_at_last}
use prog.Wp.{WpFn}
use Rattle.core.proofs.atomic.Steps.{tail, fm}
use Rattle.std.proofs.raw_atomic.Walks.{proved_at, leaves}
use Rattle.core.specs.Mem.Slots.{slots_ptr, slots_len, slots_items, slots_filled, slots_counts}
use Rattle.core.proofs.mem.Param.{El}
use Rattle.core.proofs.slots.Opens.{row_val}
use Rattle.core.proofs.slots.Runs.{to_space}
use Rattle.core.proofs.slots.Slots.into_raw_parts.Met as callee
use Rattle.std_alloc.proofs.BoxSteps.Form.{Bx, R, args, τ}
use Rattle.std_alloc.proofs.OfVacant.{Vacant, vacant_val, vacant_typed, Vacant-made}
use Rattle.std_alloc.proofs.RawLayout.{as_raw}
use Rattle.mi_node.proofs.BlockSteps.{Block, Whole, boxed, in_slots, block_val, block_typed, block_had}
use Rattle.mi_node.proofs.SlotCalls.{Places, parts_typed, spelled, Into, into_at, into_asks, into_gives}
use Rattle.core.proofs.alloc.Calls.{token}
use Rattle.mi_node.specs.Blocks.{places_type}
use denote.Param.{layout}
use prog.Memory.{size}
use Rattle.mi_node.specs.Rows.{IsEmpty}
use Rattle.mi_node.specs.contracts.block.close.{ended, clauses}
use Rattle.mi_node.specs.contracts.block.close.Key.{name as #self}
use Rattle.mi_node.proofs.block.close.Statement.{statement}
use Rattle.mi_node.proofs.block.close.Code as code

pub close_spec : {M : Type 1} → statement M
close_spec 𝓤 𝓛 𝓜 𝓡 wired T A L LA ga da dd met md =
    let H = 𝓛.H in let 𝓣 = tables 𝓤 H 𝓜 𝓡 𝓡.env in let E : Bx = boxed T L A LA ga da dd in let S : El = in_slots E in
    let En = ended T A ga da dd in let fn = inst_fn (args E) code.function in let c = clauses T A ga da dd 𝓛 𝓜.mem 𝓡.returns in
    let calls = callee.met 𝓤 𝓛 𝓜 𝓡 (code.calls-core::slots::Slots::into_raw_parts 𝓡.env wired) T L in let Room : RattleType = Vacant E.al (Whole E) in
    let hs : Stays En.signature.params En.kept = (stay_dropped (plain (λ _. Block E)) no, (stay_dropped (plain (λ _. Places S)) no, tt)) in
    proved_at 𝓛 En hs c 𝓜 𝓡 (Goes-blank 𝓛 2 (plain (λ _. Block E)) no (λ κs x f. tt), (Goes-dropped 𝓛 2 (plain (λ _. Places S)) no (λ κs x f. refl), tt))
    (#self (args E)) fn (code.unfolded 𝓤 H 𝓜 𝓡 wired (T, (A, tt)) da dd) (λ z are.
    let κ : Lft = z.0.0.0 in let ρ : Lft = z.0.0.1.0 in let q : Share = z.0.1.0 in let r : Share = z.0.1.1.0 in
    let f : (Block E).Denot = z.0.3.0 in let s : (Places S).Denot = z.0.3.1.0 in let vss = z.0.4 in
    let Post : Val → SProp 𝓤 = (walk_of 𝓛 En hs c).post z in let Run : List Val → SProp 𝓤 = λ ws. WpFn 𝓤 H 𝓣.C 𝓣.Λ fn ws Post in
    let Start : Type 0 = f.at ≡ slots_ptr s in let Count : Type 0 = slots_len s ≡ 1024 in let Sized : Type 0 = size (layout (Whole E)) < 2 ^ 63 in
    qed 𝓛 (((‵ (flft κ q) ⊛ ‵ (flft ρ r) ⊛ ‵ ftrue) ⊛ ‵ (owns (types_at En.signature.params z.0.0) z.0.3 vss)) ∷ raw (fact 𝓤 (κ ⊑ T.lives))
    ∷ raw (fact 𝓤 (ρ ⊑ A.lives)) ∷ raw (fact 𝓤 Sized) ∷ raw (fact 𝓤 Start) ∷ raw (fact 𝓤 Count) ∷ raw (fact 𝓤 (IsEmpty s)) ∷ []) ∵
    move ! (1 ∷ 4 ∷ 5 ∷ 0 ∷ []) $ heard ! (κ ⊑ T.lives) (λ le. heard ! Start (λ start. heard ! Count (λ count.
    split ! $ split3 ! $ move ! (3 ∷ []) $ fsplit3 ! $ move ! (1 ∷ []) $ spelled S ! s (λ b' k at' e₁ fk fit. move ! (1 ∷ []) $
    block_had E ! f vss.0 (λ b o hv at e₀ fa. keep ! (0 ∷ 1 ∷ 2 ∷ 4 ∷ 5 ∷ []) $
    -- [the right to free the block; the handle; the slots; T's token; A's token]
    let p : Ptr = block_ptr b' k in let xs : List T.Denot = slots_items s in let fs : List Bool = slots_filled s in
    let us : List Val = block_val E hv p ∷ row_val b' k (slots_len s) ∷ [] in
    let words : WT (row_val b' k (slots_len s)) = (tt, (record { fits = fk }, tt)) in
    let lx : length xs ≡ 1024 = sym (slots_counts s).0 ∙ count in let lf : length fs ≡ 1024 = sym (slots_counts s).1 ∙ count in
    let one : block_ptr b o ≡ p = sym at ∙ (start ∙ at') in let spelt : vss.0 ≡ block_val E hv p ∷ [] = e₀ ∙ (λ i. block_val E hv (one i) ∷ []) in
    rewrite ! 0 (λ (u : Ptr). ‵ (token E.al f.alloc (places_type (R E)) u)) one refl $
    let y = into_at S 𝓛 𝓜.mem 𝓡.returns κ q s b' k in
    suffices ! (Run us) (subst (λ (ws : List Val). ent 𝓤 (Run us) (Run ws)) (sym (λ i. spelt i ++ (e₁ i ++ []))) (id⊢ 𝓤 (Run us))) $
    enter ! 𝓣.C 𝓣.Λ fn us Post $ alloc_all ! (λ l. pass_all ! refl (block_typed E hv b' k fa, ((tt, words), tt)) $ let Ev = env fn.locals l in
    first ! $ blocks ! $ sets ! (of_opd ! (get ! refl)) refl (tt, words) $ move ! (2 ∷ 3 ∷ []) $
    into_asks S 𝓛 𝓜.mem 𝓡.returns κ q ! s b' k le $
    calls_at_last ! (fm 𝓛 𝓜 𝓡) (Into S 𝓛 𝓜.mem 𝓡.returns) calls y (and_then ! (get ! refl) (no_more !)) (λ v.
    into_gives S 𝓛 𝓜.mem 𝓡.returns κ q ! tt s b' k v at' (λ ev.
    lands_last ! refl (parts_typed b' k (slots_len s) fk ev) $ exec ! 𝓣.C 𝓣.Λ Ev (tail fn.body) (at_ret Ev Post) $
    sets ! (of_opd ! (get ! refl)) refl (parts_typed b' k (slots_len s) fk ev) $
    sets ! (of_opd ! (get_in ! (fld ! refl (stop !)) (sub ! 0 refl (whole !)))) refl (tt, tt) $ sets ! (of_opd ! (get_in ! (fld ! refl (stop !)) (sub ! 1 refl (whole !)))) refl fa $
    sets ! (of_opd ! (get ! refl)) refl (tt, tt) $ sets ! (of_opd ! (get ! refl)) refl fa $
    sets ! (agg ! (and_then ! (get ! refl) (and_then ! (get ! refl) (no_more !)))) refl (vacant_typed E.al (Whole E) hv b' k fa) $
    -- [the places; T's token; the right to free the block; the handle; A's token]
    use1 𝓛 (‵ (froom (ty_array (τ E) 1024) b' k)) (to_space S 𝓛 b' k 1024 xs lx fs lf) $ as_raw ! (ty_array (τ E) 1024) b' k $
    move ! (0 ∷ 2 ∷ 3 ∷ []) $ Vacant-made E.al (Whole E) ! f.alloc b' k $
    -- [the vacant block; T's token; A's token]
    let Handle : Type 0 = f.alloc ≡ f.alloc in
    move ! (1 ∷ 2 ∷ []) $ nothing ! $ move ! (2 ∷ 0 ∷ []) $ join ! $ move ! (1 ∷ 0 ∷ []) $ join ! $
    use0 𝓛 (raw (fact 𝓤 Handle)) (fact_i 𝓤 Handle (emp 𝓤) refl) $ nothing ! $ nothing ! $ fjoin ! $ nothing ! $ fjoin ! $
    returns ! (look_at ! 0 refl) $ free_all ! refl $ keep ! (2 ∷ 0 ∷ 3 ∷ 1 ∷ []) $
    by ! (leaves 𝓛 En hs c z (vacant_val hv b' k) (record { ptr = p; alloc = f.alloc }) ((tt, (tt, tt)), (tt, tt)) (tt, (tt, tt))))))))))))
