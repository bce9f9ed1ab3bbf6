-- What the stream takes is the front of what waits.
use Rattle.std.proofs.Common.{inl, inr, ◌++◌, ◌∙◌, sym, ap, take, drop, append_assoc}
use Rattle.std.proofs.KnownBytes.{Appends-trans, Keeps-trans}
use Rattle.std.proofs.lemmas.List.{take-append-drop}
use Rattle.mi_clients.specs.Output.{unsent}
use Rattle.mi_clients.proofs.sending.send_out.Goals as goal

pub out-preserved : goal.out-preserved
out-preserved g c =
    let before = c.out.invariant.sends in
    let waits = c.waiting-in-out.result.now in
    let front = take c.in-Ok.count waits in
    let rest = unsent c.pass.new.self in record {
      sends = (
        before.0 ++ front,
        Appends-trans _ _ _ before.0 front before.1 c.in-Ok.ensures.bytes,
        before.2
            ∙ ap (λ t. before.0 ++ t)
            (sym c.waiting-in-out.ensures ∙ sym (take-append-drop c.in-Ok.count waits)
            ∙ ap (λ t. front ++ t) (ap (drop c.in-Ok.count) c.waiting-in-out.ensures ∙ sym c.pass.ensures))
            ∙ sym (append_assoc before.0 front rest),
      );
      handle = c.write.ensures.handle ∙ c.out.invariant.handle;
      reads = c.write.ensures.reads ∙ c.out.invariant.reads;
      failed = λ failed. elim (c.in-Ok.ensures.failed failed) [ inl before ↦ c.out.invariant.failed before | inr none ↦ absurd none ];
      remaining = Keeps-trans _ _ _ c.out.invariant.remaining c.write.ensures.remaining;
    }
