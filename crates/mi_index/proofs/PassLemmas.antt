-- One pass over the structures: a step in the first, and then a pass over those behind it.
--     tail_ready      what those behind the first structure ask for
--     tail_passed      the whole pass
-- Cited by `LoopLemmas`.
use Rattle.std.proofs.Common.{◌≡◌, ℕ, ◌+◌, ◌<◌, ◌==◌, false, List, [], ◌∷◌, refl, ap, ◌∙◌, arith}
use Rattle.mi_node.specs.Pool.{Pooled, Keeps}
use Rattle.mi_node.specs.Refs.{Ref}
use Rattle.mi_index.specs.Standing.{slot_in, IsLike}
use Rattle.mi_index.specs.Pass.{Asks, Gives, AllStand, AllCan, AllGiven, KeepsFrom, IsStep, AreReady, IsPass}
use Rattle.mi_order.specs.declared.stored.Stored.{Stored}
use Rattle.mi_index.specs.declared.structure.Structure.{Structure}
use Rattle.mi_index.proofs.FrameLemmas.{Agree, stands_same}
use Rattle.mi_index.proofs.StayLemmas.{IsLocal}
use Rattle.mi_index.proofs.LikeLemmas.{like_slot}

differs : (s t : ℕ) → s < t → (s == t) ≡ false
differs s t l = grind arith

-- the slot of a structure from a place on, after a change in an earlier slot
agree_later : (x : Structure) (t i : ℕ) (m n : Pooled Stored) (us : List Ref) → Keeps m n i us → i < t → slot_in x ≡ t → Agree (slot_in x) m n
agree_later x t i m n us g l e = record {
  refs = g.refs;
  values = g.values;
  slots = g.slots;
  links = λ k. g.other_slots k (slot_in x) (ap (λ j. i == j) e ∙ differs i t l);
}

-- the slot of the first, after changes in later ones
agree_first : (x : Structure) (s : ℕ) (n o : Pooled Stored) (r : Ref) (rss : List (List Ref))
    → KeepsFrom n o (s + 1) r rss → slot_in x ≡ s → Agree (slot_in x) n o
agree_first x s n o r rss q e = record { refs = q.refs; values = q.values; slots = q.slots; links = λ k. q.earlier_slots k (slot_in x) (omega (arith, e)) }

all_stand : (xs : List Structure) (t i : ℕ) (m n : Pooled Stored) (us : List Ref) (rss : List (List Ref))
    → Keeps m n i us → i < t → AllStand xs t m rss → AllStand xs t n rss
all_stand [] t i m n us [] g l h = tt
all_stand [] t i m n us (rs ∷ rss) g l h = absurd h
all_stand (x ∷ xs) t i m n us [] g l h = absurd h
all_stand (x ∷ xs) t i m n us (rs ∷ rss) g l h = (
  h.0,
  stands_same x m n rs (agree_later x t i m n us g l h.0) h.1,
  all_stand xs (t + 1) i m n us rss g (omega arith) h.2,
)

-- links that were set, in both parts
both_keep : (s i : ℕ) (m n o : Pooled Stored) (r : Ref) (rs : List Ref) (rss : List (List Ref))
    → i ≡ s → Keeps m n i (r ∷ rs) → KeepsFrom n o (s + 1) r rss → KeepsFrom m o s r (rs ∷ rss)
both_keep s i m n o r rs rss e g q = record {
  refs = λ k. q.refs k ∙ g.refs k;
  values = λ k. q.values k ∙ g.values k;
  slots = q.slots ∙ g.slots;
  earlier_slots = λ k t l. q.earlier_slots k t (omega arith) ∙ g.other_slots k t (ap (λ j. j == t) e ∙ later s t l);
  other_nodes = λ k t d out. q.other_nodes k t d out.1 ∙ g.other_nodes k t (d, out.0);
}
  where
    later : (s t : ℕ) → t < s → (s == t) ≡ false
    later s t l = grind arith

module _ (P : Asks) (Q : Gives) (local : IsLocal P Q) where
  all_can : (xs : List Structure) (t i : ℕ) (m n : Pooled Stored) (us : List Ref) (rss : List (List Ref))
      → Keeps m n i us → i < t → AllStand xs t m rss → AllCan P xs t m rss → AllCan P xs t n rss
  all_can [] t i m n us rss g l h c = tt
  all_can (x ∷ xs) t i m n us [] g l h c = tt
  all_can (x ∷ xs) t i m n us (rs ∷ rss) g l h c = (
    local.stays t x m n rs h.0 (agree_later x t i m n us g l h.0) c.0,
    all_can xs (t + 1) i m n us rss g (omega arith) h.2 c.1,
  )

  all_done : (xs : List Structure) (t i : ℕ) (k m n : Pooled Stored) (us : List Ref) (rss uss : List (List Ref))
      → Keeps k m i us → i < t → AllStand xs t k rss → AllGiven Q xs t m n rss uss → AllGiven Q xs t k n rss uss
  all_done [] t i k m n us [] [] g l h d = tt
  all_done [] t i k m n us [] (ws ∷ uss) g l h d = absurd d
  all_done [] t i k m n us (rs ∷ rss) uss g l h d = absurd h
  all_done (x ∷ xs) t i k m n us [] uss g l h d = absurd h
  all_done (x ∷ xs) t i k m n us (rs ∷ rss) [] g l h d = absurd d
  all_done (x ∷ xs) t i k m n us (rs ∷ rss) (ws ∷ uss) g l h d = (
    local.before t x k m n rs ws h.0 (agree_later x t i k m us g l h.0) d.0,
    all_done xs (t + 1) i k m n us rss uss g (omega arith) h.2 d.1,
  )

  module _ (r : Ref) (x : Structure) (xs : List Structure) (s : ℕ) (m : Pooled Stored) where
    module _ (y : Structure) (n : Pooled Stored) (step : IsStep P Q r s x y m n) where
      pub tail_ready : AreReady P s (x ∷ xs) m → AreReady P (s + 1) xs n
      tail_ready q = at_tail q.rss q.stand q.can
        where
          at_tail : (rss : List (List Ref)) → AllStand (x ∷ xs) s m rss → AllCan P (x ∷ xs) s m rss → AreReady P (s + 1) xs n
          at_tail [] h c = absurd h
          at_tail (rs ∷ rss) h c =
              let g = (step rs h.1 c.0).keeps in let l : slot_in x < s + 1 = (let e = h.0 in omega arith) in
              record {
                rss = rss;
                stand = all_stand xs (s + 1) (slot_in x) m n (r ∷ rs) rss g l h.2;
                can = all_can xs (s + 1) (slot_in x) m n (r ∷ rs) rss g l h.2 c.1;
              }

      pub tail_passed : (ys : List Structure) (o : Pooled Stored) → IsLike x y → IsPass P Q r (s + 1) xs ys n o → IsPass P Q r s (x ∷ xs) (y ∷ ys) m o
      tail_passed ys o like tail [] h c = absurd h
      tail_passed ys o like tail (rs ∷ rss) h c =
          let a = step rs h.1 c.0 in let g = a.keeps in let l : slot_in x < s + 1 = (let e = h.0 in omega arith) in
          let z = tail rss (all_stand xs (s + 1) (slot_in x) m n (r ∷ rs) rss g l h.2) (all_can xs (s + 1) (slot_in x) m n (r ∷ rs) rss g l h.2 c.1) in
          let e : slot_in y ≡ s = like_slot x y like ∙ h.0 in
          record {
            uss = a.us ∷ z.uss;
            done = (
              local.after s x m n o rs a.us h.0 (agree_first x s n o r rss z.keeps h.0) a.done,
              all_done xs (s + 1) (slot_in x) m n o (r ∷ rs) rss z.uss g l h.2 z.done,
            );
            stand = (e, stands_same y n o a.us (agree_first y s n o r rss z.keeps e) a.stands, z.stand);
            keeps = both_keep s (slot_in x) m n o r rs rss h.0 g z.keeps;
          }

  -- no structure is left
  pub none_left : (r : Ref) (xs : List Structure) (s : ℕ) (m : Pooled Stored) → xs ≡ [] → IsPass P Q r s xs xs m m
  none_left r [] s m none [] h c = record {
    uss = [];
    done = tt;
    stand = tt;
    keeps = record { refs = λ k. refl; values = λ k. refl; slots = refl; earlier_slots = λ k t l. refl; other_nodes = λ k t d out. refl };
  }
  none_left r [] s m none (rs ∷ rss) h c = absurd h
  none_left r (x ∷ xs) s m none rss h c = absurd (cc)
