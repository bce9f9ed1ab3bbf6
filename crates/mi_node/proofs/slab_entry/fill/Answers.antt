-- Past the last place there are none that were to be free.
use Rattle.std.proofs.Common.{◌≡◌, ℕ, zero, suc, ◌+◌, ◌≤◌, List, [], ◌∷◌, length, refl, sym, subst, ◌∙◌, arith}
use lib.ListN.{drop}
use Rattle.core.specs.Mem.Slots.{slots_items, slots_counts}
use Rattle.mi_node.specs.Slab.{AreFree}
use Rattle.mi_node.proofs.slab_entry.fill.Goals as goal

none_left : {X : Type 0} (xs : List X) (n : ℕ) → length xs ≤ n → drop n xs ≡ []
none_left [] zero le = refl
none_left [] (suc n) le = refl
none_left (x ∷ xs) zero le = absurd (omega (arith, le))
none_left (x ∷ xs) (suc n) le = none_left xs n (omega (arith, le))

pub loop-i-init : goal.loop-i-init
loop-i-init g c =
    let places = c.args.places.now in let long = sym (slots_counts places).0 ∙ c.requires.count in
    let none = none_left (slots_items places) 1024 (omega (arith, long)) in
    (c.requires.count, subst (AreFree (c.args.first + 1024)) (sym none) tt, (λ k low high. absurd (omega (arith, low, high))), refl)
