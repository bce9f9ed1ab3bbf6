-- `of` keeps the address of the box, whose engine is owned there. Assumes `Logic`.
use Rattle.std.proofs.Common.{◌≡◌, List, [], ◌∷◌, ◌++◌, refl, sym, subst, lit<, w32}
use mir.Val.{Val, vptr, vint}
use base.Logic.{SProp, ent, emp, id⊢}
use base.Fml.{ftrue}
use prog.Wp.{WpFn}
use types.Kit.{‵, raw, ◌⊛◌, ◌$◌, ◌∵◌, !, qed, by, keep, drop, split, join, fsplit, fjoin, suffices, use0}
use types.Run.{stop, fld, lit, of_opd, no_more, and_then, returns, enter}
use types.ByLocal.{alloc_all, pass_all, free_all, look_at, get, get_in, sets}
use types.Part.{agg, sub, whole}
use contract.Monad.{fact, fact_i}
use contract.Running.{tables}
use denote.Exit.{yes}
use denote.RattleType.{owns}
use denote.RawPtr.{block_ptr}
use denote.Signature.{types_at, plain}
use denote.Steps.{nothing}
use denote.Triple.Walked.{Stays, stay_dropped, walk_of}
use Rattle.core.proofs.alloc.Calls.{Goes-blank}
use Rattle.std.proofs.raw_atomic.Walks.{proved_at, leaves}
use Rattle.std.specs.contracts.alloc.Global as heap
use Rattle.std.proofs.alloc.Global.TheLaws as heap_laws
use Rattle.std.specs.contracts.impls.GlobalAllocator.TheImpl.{ghosts}
use Rattle.mi_embed.specs.contracts.engine.Engine.{the_row as R}
use Rattle.weltiyo.proofs.Values.{both, RawBox, loose_good, loose_out, Opened, opened_in}
use Rattle.weltiyo.specs.contracts.opened.Opened.of as f
use Rattle.weltiyo.proofs.opened.Opened.of.Statement.{statement}
use Rattle.weltiyo.proofs.opened.Opened.of.Code as code

pub of_spec : {M : Type 1} → statement M
of_spec 𝓤 𝓛 𝓜 𝓡 wired =
    let H = 𝓛.H in let c = f.clauses 𝓛 𝓜.mem 𝓡.returns in let 𝓣 = tables 𝓤 H 𝓜 𝓡 𝓡.env in let Z = heap.the_row in let LZ = heap_laws.the_row_laws in let fn = code.function in
    let hs : Stays f.ended.signature.params f.ended.kept = (stay_dropped (plain (λ _. RawBox R Z LZ ghosts)) yes, tt) in
    proved_at 𝓛 f.ended hs c 𝓜 𝓡 (Goes-blank 𝓛 0 (plain (λ _. RawBox R Z LZ ghosts)) yes (λ κs x f. tt), tt)
    f.Key.name fn (code.unfolded 𝓤 H 𝓜 𝓡 wired) (λ z are.
    let d = z.0.3.0 in let Post : Val → SProp 𝓤 = (walk_of 𝓛 f.ended hs c).post z in let Run : List Val → SProp 𝓤 = λ ws. WpFn 𝓤 H 𝓣.C 𝓣.Λ fn ws Post in
    qed 𝓛 ((‵ ftrue ⊛ ‵ (owns (types_at f.signature.params z.0.0) z.0.3 z.0.4)) ∷ ‵ ftrue ∷ []) ∵ split ! $ drop ! $ fsplit ! $
    loose_out R Z LZ ghosts ! d z.0.4.0 (λ b o h e ws fits.
    -- [the engine; the handle; nothing; nothing]
    let w : Val = both (vptr b o) h in let typed = loose_good R Z LZ ghosts b o h fits in
    let made : Opened.Denot = record { at = block_ptr b o; status = 0; engine = d.value } in
    suffices ! (Run (w ∷ [])) (subst (λ (us : List Val). ent 𝓤 (Run (w ∷ [])) (Run us)) (sym (λ i. ws i ++ [])) (id⊢ 𝓤 (Run (w ∷ [])))) $
    enter ! 𝓣.C 𝓣.Λ fn (w ∷ []) Post $ alloc_all ! (λ l. pass_all ! refl (typed, tt) $
    sets ! (of_opd ! (get_in ! (fld ! refl (stop !)) (sub ! 0 refl (whole !)))) refl (tt, tt) $
    sets ! (agg ! (and_then ! (get ! refl) (and_then ! (lit ! tt) (no_more !)))) refl (tt, (tt, (record { fits = lit< tt }, tt))) $
    opened_in ! made (lit< tt) $
    use0 𝓛 (raw (fact 𝓤 (d.value ≡ d.value))) (fact_i 𝓤 (d.value ≡ d.value) (emp 𝓤) refl) $
    use0 𝓛 (raw (fact 𝓤 (made.status ≡ 0))) (fact_i 𝓤 (made.status ≡ 0) (emp 𝓤) refl) $ join ! $ nothing ! $ nothing ! $ fjoin ! $ nothing ! $
    returns ! (look_at ! 0 refl) $ free_all ! refl $ keep ! (0 ∷ 1 ∷ 3 ∷ 2 ∷ []) $
    by ! (leaves 𝓛 f.ended hs c z (both (vptr b o) (vint w32 0)) made (tt, tt) (tt, tt)))))
