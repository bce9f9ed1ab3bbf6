-- Of what is put at a place the first bytes alone can count.
-- Cited by `place::put_label`.
use Rattle.std.proofs.Common.{ℕ, ◌+◌, ◌≤◌, List, ◌++◌, length, take, sym, ap, ◌∙◌, arith, length-take-le, take-add, take-take, take_at, drop_at}
use Rattle.json.specs.Filled.{Placed}

pub Placed-front : {a b xs : List ℕ} {i j : ℕ} (n : ℕ) → i ≤ length a → n ≤ length xs → Placed a b i xs j → Placed a b i (take n xs) (i + n)
Placed-front {a} {b} {xs} {i} {j} n within few p =
    let front = length-take-le i a within in
    record {
      bytes = sym (take-take (i + n) j b (omega (arith, p.moved))) ∙ ap (take (i + n)) p.bytes ∙ take-add i n (take i a ++ xs)
          ∙ (λ k. take_at (take i a) xs i front k ++ take n (drop_at (take i a) xs i front k));
      moved = omega (arith, length-take-le n xs few);
      len = p.len;
    }
