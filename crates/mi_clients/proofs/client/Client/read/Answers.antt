-- What was read waits to be asked.
use Rattle.std.proofs.Common.{rules, ◌≡◌, ◌∙◌, ◌<◌, ℕ, List, [], inl, inr, length, refl, sym, ap, subst, take, arith}
use Rattle.std.proofs.lemmas.List.{length-take}
use Rattle.std.proofs.KnownBytes.{Consumes-kept, Consumes-nil}
use Rattle.std.specs.Io.KnownBytes.{Consumes}
use Rattle.mi_clients.specs.declared.client.Client.{Client}
use Rattle.mi_clients.proofs.HeardLemmas.{hears_none, hears_from}
use Rattle.mi_clients.proofs.client.Client.read.Goals as goal

-- a front that is shorter than the room
shorter : (n room : ℕ) (bytes : List ℕ) → n < room → length (take n bytes) < room
shorter n room bytes less = grind (arith, length-take n bytes, less)

pub returns-in-Ok-clause-piece : goal.returns-in-Ok-clause-piece
returns-in-Ok-clause-piece g c =
    let piece = take c.in-Ok.count c.read.new.buffer in
    let stream : c.take.new.self.stream ≡ c.read.new.self =
    ap (λ (s : Client _). s.stream) c.take.ensures.same ∙ ap (λ (s : Client _). s.stream) c.note_short_read.ensures.same in (
      piece,
      subst (λ s. Consumes (g.S.Duplex.remaining c.args.self.now.stream) (g.S.Duplex.remaining s) piece) (sym stream) c.in-Ok.ensures.bytes.0,
      λ no. absurd (no (c.wants_bytes.ensures.0 (grind (arith, c.if-not-wants_bytes.false))).0),
      elim c.take.ensures.waits [
        | inl broken ↦ inl broken
        | inr same ↦ inr (inl
            (hears_from c.args.self.now c.note_short_read.new.self c.take.new.self piece (ap (λ (s : Client _). s.input) c.note_short_read.ensures.same) same))
      ],
      λ is. elim (c.note_short_read.ensures.stops (sym (ap (λ (s : Client _). s.may_read) c.take.ensures.same) ∙ is)) [
        | inl before ↦ inl before
        | inr short ↦ inr (inr (short.1, shorter c.in-Ok.count (length c.args.buffer.now) c.read.new.buffer (search rules)))
      ],
    )

-- where the read fails, nothing has come
pub returns-in-Err-clause-piece : goal.returns-in-Err-clause-piece
returns-in-Err-clause-piece g c =
    let stream : c.fail.new.self.stream ≡ c.read.new.self = ap (λ (s : Client _). s.stream) c.fail.ensures.same in
    let input : c.fail.new.self.input ≡ c.args.self.now.input = c.fail.ensures.input in (
      [],
      subst (λ s. Consumes (g.S.Duplex.remaining c.args.self.now.stream) (g.S.Duplex.remaining s) []) (sym stream)
          (Consumes-kept _ _ _ [] (Consumes-nil _) c.in-Err.ensures.bytes),
      λ no. refl,
      inr (inl (hears_none c.args.self.now c.fail.new.self input)),
      λ is. elim (c.fail.ensures.stops is) [
        | inl before ↦ inl before
        | inr waits ↦ inr (inl (ap g.S.Duplex.is_dry stream ∙ c.in-Err.ensures.dry (sym c.kind.ensures ∙ waits)))
      ],
    )

-- where it isn't read, neither
pub returns-then-not-wants_bytes-clause-piece : goal.returns-then-not-wants_bytes-clause-piece
returns-then-not-wants_bytes-clause-piece g c =
    ([], Consumes-nil _, λ no. refl, inr (inl (hears_none c.args.self.now c.args.self.now refl)), λ is. inl is)
