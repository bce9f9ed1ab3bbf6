-- What a closed segment has, and that what was asked of it was found.
-- Cited by `beside::rebased_beside`, `closing::closed`, `rebasing::made`, `rebasing::rebased_alone` and `rebasing::stand_of`.
use Rattle.std.proofs.Common.{◌≡◌, ◌≤◌, ℕ, zero, suc, List, [], ◌∷◌, Option, Some, None, Result, Ok, Err, refl, ap, ◌∙◌, subst, length, length-append, arith}
use Rattle.std.specs.Prelude.{IfSome, OnOk}
use Rattle.std.specs.Io.KnownBytes.{Keeps}
use Rattle.mi_commands.specs.Holder.{HeldDatabase}
use Rattle.mi_hub.specs.Ended.{ended, if_none, after_newlines}
use Rattle.mi_durable.specs.Replay.{Passes}
use Rattle.mi_recovery.specs.declared.device.Keeping.TheVariants.{Synced}
use Rattle.mi_recovery.specs.declared.opening.Journaled.{Journaled}
use Rattle.mi_recovery.specs.declared.opening.Journaled.TheVariants.{Nothing, Journal}
use Rattle.mi_recovery.specs.declared.place.JournalSchema.{JournalSchema}
use Rattle.mi_recovery.specs.declared.place.Place.{Place}
use Rattle.mi_recovery.specs.JournalFile.{text_of}
use Rattle.mi_recovery.specs.Recovery.{Has, IsFound}
use Rattle.mi_recovery.specs.Segments.{IsAsked, IsNext}

-- ---- the newest segment, closed

-- what a log has stays
pub has_kept : (o told new : Option (List ℕ)) (kept : List ℕ → List ℕ) → IfSome o (λ bytes. Has Synced (kept bytes) told) → Keeps told new
    → IfSome o (λ bytes. Has Synced (kept bytes) new)
has_kept None told new kept has keeps = tt
has_kept (Some bytes) told new kept has keeps = go told new has keeps
  where
    go : (told new : Option (List ℕ)) → told ≡ Some (kept bytes) → Keeps told new → new ≡ Some (kept bytes)
    go None new has keeps = absurd (cc)
    go (Some xs) None has keeps = absurd keeps
    go (Some xs) (Some ys) has keeps = ap Some keeps ∙ has

-- what is said of all that a log tells is said of what was kept
pub closes_by : (o told : Option (List ℕ)) (kept : List ℕ → List ℕ) (schema : JournalSchema) (place next : Place)
    → IfSome o (λ bytes. Has Synced (kept bytes) told)
    → IfSome told (λ bytes. (p : Place) → p.number ≡ place.number → IsNext schema p (text_of bytes) next)
    → IfSome o (λ bytes. IsNext schema place (text_of (kept bytes)) next)
closes_by None told kept schema place next has q = tt
closes_by (Some bytes) told kept schema place next has q =
    subst (λ t. IfSome t (λ b. (p : Place) → p.number ≡ place.number → IsNext schema p (text_of b) next)) has q place refl

pub on_ok : {X E : Type 0} (P : Type 0) (r : Result X E) → P → OnOk r P
on_ok P (Ok x) p = p
on_ok P (Err e) p = tt

pub on_ok_then : {X E : Type 0} (P Q : Type 0) (r : Result X E) → OnOk r P → (P → Q) → OnOk r Q
on_ok_then P Q (Ok x) p f = f p
on_ok_then P Q (Err e) p f = tt

-- ---- what was asked was found

after_within : (bs : List ℕ) → length (after_newlines bs) ≤ length bs
unfolding after_newlines
after_within [] = omega arith
after_within (b ∷ bs) = go (ended (b ∷ bs)) (after_within bs)
  where
    go : (ts : List (List ℕ)) → length (after_newlines bs) ≤ length bs → length (if_none ts (b ∷ bs) (after_newlines bs)) ≤ length (b ∷ bs)
    go [] within = omega arith
    go (t ∷ ts) within = omega (arith, within)

passes_within : (n : ℕ) (all left : List ℕ) → Passes n all left → length left ≤ length all
passes_within zero all left p = omega (arith, ap length p)
passes_within (suc n) all left p = omega (arith, passes_within n p.1 left p.4, ap length p.3, length-append p.0 p.1)

asked_found : (header text : List ℕ) (skip : ℕ) (found : Journaled) (old new : HeldDatabase) → IsAsked header skip text found old new
    → IsFound header text found
asked_found header text skip Nothing old new p = p.0
asked_found header text skip (Journal torn) old new p =
    let inner : torn ≤ length p.1 = rw p.4.1 (after_within p.1) in
    let within = passes_within skip p.0 p.1 p.3 in
    rw (p.2, length-append) (omega (arith, inner, within))

pub asked_after : (o : Option (List ℕ)) (header : List ℕ) (skip : ℕ) (found : Journaled) (old new : HeldDatabase)
    → IfSome o (λ bytes. IsAsked header skip (text_of bytes) found old new) → IfSome o (λ bytes. IsFound header (text_of bytes) found)
asked_after None header skip found old new p = tt
asked_after (Some bytes) header skip found old new p = asked_found header (text_of bytes) skip found old new p
