-- One event behind others.
-- Cited by `Acceptor::wake`.
use Rattle.std.proofs.Common.{◌≡◌, ◌<◌, ◌+◌, ◌∙◌, ℕ, List, length, drop, get_or, add-one, ap, sym, suc}
use Rattle.std.proofs.Math.Seq.{drop-cons}
use Rattle.mio.specs.declared.event.event.Event.{Event}
use Rattle.mi_clients.specs.declared.client.Client.{Client}
use Rattle.mi_serving.specs.declared.acceptor.Callers.{Callers}
use Rattle.mi_serving.specs.Events.{told_by, told_by_all, called_by, called_by_all}

-- what is told by the events from one on is told by it, and then by those behind it
pub told_step : {S : Type 0} (n : ℕ) (es : List Event) (d : Event) (old new : List (Client S)) → n < length es → new ≡ told_by (get_or es n d) old
    → told_by_all (drop (n + 1) es) new ≡ told_by_all (drop n es) old
told_step n es d old new lt is =
    ap (λ k. told_by_all (drop k es) new) (add-one n) ∙ ap (λ clients. told_by_all (drop (suc n) es) clients) is
    ∙ sym (ap (λ xs. told_by_all xs old) (drop-cons es n d lt))

-- so it is noted which listeners were called
pub called_step : (n : ℕ) (es : List Event) (d : Event) (old new : Callers) → n < length es → new ≡ called_by (get_or es n d) old
    → called_by_all (drop (n + 1) es) new ≡ called_by_all (drop n es) old
called_step n es d old new lt is =
    ap (λ k. called_by_all (drop k es) new) (add-one n) ∙ ap (λ c. called_by_all (drop (suc n) es) c) is
    ∙ sym (ap (λ xs. called_by_all xs old) (drop-cons es n d lt))
