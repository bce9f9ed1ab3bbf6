-- The numbers are the same just where the bytes are.
use Rattle.std.proofs.Common.{◌-◌, List, ℕ, length, take, drop, sym, ap, ◌∙◌, arith}
use Rattle.std.proofs.lemmas.Bool.{eqb-true, eq-eqb}
use Rattle.std.specs.Int.{w32, from_le_bytes, to_le_bytes}
use Rattle.mi_tokens.proofs.SameLemmas.{same_ends}
use Rattle.mi_tokens.proofs.same.same_by_4.Goals as goal

pub returns-then-number_4 : goal.returns-then-number_4
returns-then-number_4 c =
    let a : List ℕ = c.args.a.now in
    let b : List ℕ = c.args.b.now in
    let first = sym c.number_4.ensures.bytes ∙ ap (to_le_bytes w32) c.if-number_4.true ∙ c.number_4-2.ensures.bytes in (
      λ same.
          let last = sym c.number_4-then-number_4.ensures.bytes ∙ ap (to_le_bytes w32) (eqb-true _ _ same) ∙ c.number_4-then-number_4-2.ensures.bytes in
          same_ends 4 (length a) a b (omega arith) (omega (arith, c.requires.len)) c.requires.covers.0 c.requires.covers.1 first last,
      λ same. eq-eqb _ _ (c.number_4-then-number_4.ensures.value ∙ ap (λ (t : List ℕ). from_le_bytes w32 (take 4 (drop (length a - 4) t))) same ∙ sym c.number_4-then-number_4-2.ensures.value),
    )
