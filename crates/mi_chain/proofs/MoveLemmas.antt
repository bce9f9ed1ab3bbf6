-- Groups move from old buckets to new ones.
-- Cited by `Chains::make_room`, `Chains::move_all`, `Chains::move_bucket` and `Chains::move_group`.
use Rattle.std.proofs.Common.{◌≡◌, ℕ, ◌==◌, ◌<◌, ◌%◌, ◌+◌, Bool, true, false, not, cond, List, [], ◌∷◌, length, slice_index_or}
use Rattle.std.proofs.Common.{slice_set, vec_len, replicate, Vec, Global, Option, Some, None, refl, sym, ap, ◌∙◌, subst, arith}
use Rattle.std.specs.List.{filter}
use Rattle.std.specs.Int.{IsPowerOfTwo}
use Rattle.std.proofs.Math.Nat.{mod-lt}
use Rattle.std.proofs.lemmas.List.{get_or-replicate, get_or-set_same, get_or-set_other}
use Rattle.mi_node.specs.Pool.{Pooled, node_count, link_of, IsHeld, IsHeldIf, Keeps}
use Rattle.mi_node.specs.Neighbours.{IsLinked, with_forth_if}
use Rattle.mi_node.specs.Refs.{Ref, last_of, IsOut, IsApart, AreOut}
use Rattle.mi_node.proofs.EntryLemmas.{same_refl}
use Rattle.mi_node.proofs.KeepingLemmas.{keeps_more, keeps_then, node_count-least}
use Rattle.mi_node.proofs.NeighbourLemmas.{retail, tag-forth, linked_held}
use Rattle.mi_node.proofs.RefLemmas.{are_out_flip}
use Rattle.mi_chain.specs.Keying.{Keying, IsLawful, same_nodes, hash_node, stamp_at}
use Rattle.mi_chain.specs.Groups.{members, first_in, IsChained, IsGrouped, key_count}
use Rattle.mi_chain.specs.Places.{back_of}
use Rattle.mi_chain.specs.Chained.{in_bucket, IsBucket, AreBuckets, AreTagged, AreChained}
use Rattle.mi_chain.specs.Moves.{hops, next_group, in_new, in_old, AreParted, AreBetween}
use Rattle.mi_chain.specs.declared.chains.Chains.{Chains}
use Rattle.mi_chain.proofs.KeyingLemmas.{alike, same_hash, same_kept, hash_kept}
use Rattle.mi_chain.proofs.GroupLemmas.{IsAlike, not_both, no_is_false, filter_same, filter_both, filter_swap, first_passes, apart_filter, apart_tests}
use Rattle.mi_chain.proofs.GroupLemmas.{out_filter}
use Rattle.mi_chain.proofs.GroupLemmas.{grouped_are_out, grouped_apart, grouped_full, key_of_group, of_key_of, group_new, group_gone, passed_all, not_true_is}
use Rattle.mi_chain.proofs.CutLemmas.{list_of, last_are_out, last_out, keeps_forth, chained_held, last_held}
use Rattle.mi_chain.proofs.StandingLemmas.{in_is, in_not, held_all, chained_kept}
use Rattle.mi_chain.proofs.SearchLemmas.{begins, ends_none, full_length, hops_groups, next_group_is, back_at}
use Rattle.mi_chain.proofs.CallLemmas.{tagged_same, tagged_groups, tagged_filter}

filter_clash : (f g : Ref → Bool) → ((q : Ref) → f q ≡ true → g q ≡ false) → (rs : List Ref) → filter f (filter g rs) ≡ []
filter_clash f g h [] = refl
filter_clash f g h (r ∷ rs) = (elim (g r) as (λ b. g r ≡ b → filter f (cond b (r ∷ filter g rs) (filter g rs)) ≡ []) [
  | true ↦ λ e.
      let no : f r ≡ false = no_is_false (f r) (λ t. not_both (g r) e (h r t)) in
      ap (λ b. cond b (r ∷ filter f (filter g rs)) (filter f (filter g rs))) no ∙ filter_clash f g h rs
  | false ↦ λ e. filter_clash f g h rs
]) refl

filter_agree : (f g t : Ref → Bool) → ((q : Ref) → f q ≡ true → g q ≡ t q) → (rs : List Ref) → filter f (filter g rs) ≡ filter f (filter t rs)
filter_agree f g t h [] = refl
filter_agree f g t h (r ∷ rs) = (elim (f r)
    as (λ b. f r ≡ b → filter f (cond (g r) (r ∷ filter g rs) (filter g rs)) ≡ filter f (cond (t r) (r ∷ filter t rs) (filter t rs))) [
      | true ↦ λ e. (λ i. filter f (cond (h r e i) (r ∷ filter g rs) (filter g rs)))
          ∙ (elim (t r) as (λ c. filter f (cond c (r ∷ filter g rs) (filter g rs)) ≡ filter f (cond c (r ∷ filter t rs) (filter t rs))) [
            | true ↦ ap (λ z. cond (f r) (r ∷ z) z) (filter_agree f g t h rs)
            | false ↦ filter_agree f g t h rs
          ])
      | false ↦ λ e. dropped (g r) r (filter g rs) e ∙ filter_agree f g t h rs ∙ sym (dropped (t r) r (filter t rs) e)
    ]) refl
  where
    dropped : (b : Bool) (r : Ref) (us : List Ref) → f r ≡ false → filter f (cond b (r ∷ us) us) ≡ filter f us
    dropped true r us e = ap (λ c. cond c (r ∷ filter f us) (filter f us)) e
    dropped false r us e = refl

filter_never : (rs : List Ref) → filter (λ (q : Ref). false) rs ≡ []
filter_never [] = refl
filter_never (r ∷ rs) = filter_never rs

module _ (R : Ref → Ref → Bool) (A : IsAlike R) (stamp hash : Ref → ℕ) (H : (a b : Ref) → R a b ≡ true → hash a ≡ hash b) {T : Type 0}
    (m : Pooled T) (s : ℕ) (news : List (Option Ref)) (j : ℕ) (olds : List (Option Ref)) (n : ℕ) (rs : List Ref) (moved : Ref → Bool)
    (h : AreParted R stamp hash m s news j olds n rs moved) where
  -- a list of moved nodes alone is the whole list
  all_in : ((i : ℕ) → i < n → slice_index_or olds i None ≡ None) → (i : ℕ) → filter (in_new hash j i moved) rs ≡ filter (in_bucket hash j i) rs
  all_in none i = each rs (λ o lt.
      let b = h.left o lt in
      gone (filter (in_old hash n o moved) rs) b.groups b.grouped
      (ends_none b.groups (grouped_full R A b.groups (filter (in_old hash n o moved) rs) b.grouped) (sym b.first_is ∙ none o lt)))
    where
      gone : (us : List Ref) (gs : List (List Ref)) → IsGrouped R gs us → gs ≡ [] → us ≡ []
      gone us gs g e = subst (λ z. IsGrouped R z us) e g

      each : (us : List Ref) → ((o : ℕ) → o < n → filter (in_old hash n o moved) us ≡ []) → filter (in_new hash j i moved) us ≡ filter (in_bucket hash j i) us
      each [] e = refl
      each (r ∷ us) e = by (λ t. each us t) (moved r) refl
        where
          tail : (o : ℕ) → o < n → filter (in_old hash n o moved) us ≡ []
          tail o lt = (elim (in_old hash n o moved r)
              as (λ b. cond b (r ∷ filter (in_old hash n o moved) us) (filter (in_old hash n o moved) us) ≡ [] → filter (in_old hash n o moved) us ≡ []) [
                | true ↦ λ z. absurd cc
                | false ↦ λ z. z
              ]) (e o lt)

          by : (((o : ℕ) → o < n → filter (in_old hash n o moved) us ≡ []) → filter (in_new hash j i moved) us ≡ filter (in_bucket hash j i) us)
              → (b : Bool) → moved r ≡ b → filter (in_new hash j i moved) (r ∷ us) ≡ filter (in_bucket hash j i) (r ∷ us)
          by rest true t = ap (λ c. cond (cond c (in_bucket hash j i r) false) (r ∷ filter (in_new hash j i moved) us) (filter (in_new hash j i moved) us)) t
              ∙ ap (λ z. cond (in_bucket hash j i r) (r ∷ z) z) (rest tail)
          by rest false t =
              let o = hash r % n in let lt : o < n = mod-lt (hash r) h.some in
              let here : in_old hash n o moved r ≡ true = ap (λ c. cond c false (in_bucket hash n o r)) t ∙ in_is R A stamp hash H n o r refl in
              absurd (let f : r ∷ filter (in_old hash n o moved) us ≡ [] =
              ap (λ b. cond b (r ∷ filter (in_old hash n o moved) us) (filter (in_old hash n o moved) us)) (sym here) ∙ e o lt in
              cc)

  buckets_all : ((i : ℕ) → i < n → slice_index_or olds i None ≡ None) → AreBuckets R stamp hash m s news j rs
  buckets_all none = record {
    slot = h.slot;
    some = h.many;
    held = h.held;
    apart = h.apart;
    rising = h.rising;
    each = λ i lt. subst (IsBucket R m s (slice_index_or news i None)) (all_in none i) (h.now i lt);
  }

  -- the first group of an old bucket
  module _ (i : ℕ) (lt : i < n) (first : Ref) (at : slice_index_or olds i None ≡ Some first) where
    abbrev L : List Ref
    L = filter (in_old hash n i moved) rs

    split : (ws : List Ref) × (zs : List (List Ref)) × ((h.left i lt).groups ≡ (first ∷ ws) ∷ zs)
    split = let b = h.left i lt in begins b.groups first (grouped_full R A b.groups L b.grouped) (sym b.first_is ∙ at)

    abbrev G : List Ref
    G = first ∷ split.0

    abbrev zs : List (List Ref)
    zs = split.1

    grouped_then : IsGrouped R (G ∷ zs) L
    grouped_then = let b = h.left i lt in subst (λ z. IsGrouped R z L) split.2 b.grouped

    chained_then : IsChained m s (G ∷ zs) None
    chained_then = let b = h.left i lt in subst (λ z. IsChained m s z None) split.2 b.chained

    group_in : filter (R first) L ≡ G
    group_in = key_of_group R A (R first) (of_key_of R A first) [] G zs L first grouped_then tt refl (A.reflexive first)

    old_here : in_old hash n i moved first ≡ true
    old_here = first_passes (in_old hash n i moved) (filter (R first) rs) G first (sym (filter_swap (R first) (in_old hash n i moved) rs) ∙ group_in) refl

    not_moved : moved first ≡ false
    not_moved = (elim (moved first) as (λ b. cond b false (in_bucket hash n i first) ≡ true → b ≡ false) [ true ↦ λ e. absurd cc | false ↦ λ e. refl ]) old_here

    in_here : in_bucket hash n i first ≡ true
    in_here = ap (λ b. cond b false (in_bucket hash n i first)) (sym not_moved) ∙ old_here

    like_moved : (q : Ref) → R first q ≡ true → moved q ≡ false
    like_moved q e = sym (h.by_key first q e) ∙ not_moved

    like_in : (o k : ℕ) (q : Ref) → R first q ≡ true → in_bucket hash k o first ≡ in_bucket hash k o q
    unfolding in_bucket
    like_in o k q e = ap (λ z. (z % k) == o) (H first q e)

    like_old : (q : Ref) → R first q ≡ true → in_old hash n i moved q ≡ true
    like_old q e = ap (λ b. cond b false (in_bucket hash n i q)) (like_moved q e) ∙ sym (like_in i n q e) ∙ in_here

    class_is : filter (R first) rs ≡ G
    class_is = sym (filter_both (R first) (in_old hash n i moved) rs like_old) ∙ group_in

    abbrev pub then_moved : Ref → Bool
    then_moved q = cond (R first q) true (moved q)

    abbrev pub target : ℕ
    target = hash first % j

    last_name_out : (k : ℕ) → IsOut k rs → IsOut k (list_of (last_of None G))
    last_name_out k o = last_out k None G tt (subst (IsOut k) class_is (out_filter (R first) k rs o))

    back_is : back_of m s first ≡ last_of None G
    back_is = back_at m s first (last_of None G) G (first_in zs None) chained_then.0 refl

    next_is : next_group m s first ≡ first_in zs None
    next_is = next_group_is m s first split.0 (first_in zs None) chained_then.0

    first_held_then : IsHeld m first
    first_held_then = chained_then.0.0

    back_held_then : IsHeldIf m (back_of m s first)
    back_held_then = subst (IsHeldIf m) (sym back_is) (last_held s m None G tt (linked_held s m (last_of None G) G (first_in zs None) chained_then.0))

    tag_then : AreTagged hash m s rs → (link_of m first.name s).tag.key ≡ hash first
    tag_then t = (tagged_groups hash m s R (G ∷ zs) L grouped_then (tagged_filter hash m s (in_old hash n i moved) rs t)).0

    steps_then : hops (next_group m s) (node_count m) (slice_index_or olds i None) ≡ length (G ∷ zs)
    steps_then =
        let full = grouped_full R A (G ∷ zs) L grouped_then in
        let apart = grouped_apart R A (G ∷ zs) L grouped_then (apart_filter (in_old hash n i moved) rs h.apart) in
        let many = node_count-least m (members (G ∷ zs)) apart (chained_held s m (G ∷ zs) None chained_then) in let fits = full_length (G ∷ zs) full in
        ap (hops (next_group m s) (node_count m)) at ∙ hops_groups m s (node_count m) (G ∷ zs) full chained_then (omega arith)

    module _ (m2 : Pooled T) (news2 olds2 : List (Option Ref)) (em : m2 ≡ with_forth_if m s (last_of None G) (slice_index_or news target None))
        (en : news2 ≡ slice_set news target (Some first)) (eo : olds2 ≡ slice_set olds i (first_in zs None))
        (fn : target < length news) (fo : i < length olds) (tn : target < j) where
      keeps_last : Keeps m m2 s (list_of (last_of None G))
      keeps_last = subst (λ z. Keeps m z s (list_of (last_of None G))) (sym em) (keeps_forth s m (last_of None G) (slice_index_or news target None))

      keeps_moved : Keeps m m2 s rs
      keeps_moved = keeps_more s m m2 (list_of (last_of None G)) rs keeps_last last_name_out

      -- a bucket without nodes of the key stays
      abbrev still : (t : Ref → Bool) (head : Option Ref) → ((q : Ref) → R first q ≡ true → t q ≡ false)
          → IsBucket R m s head (filter t rs) → IsBucket R m2 s head (filter t rs)
      still t head far b =
          let across : AreOut G (filter t rs) = subst (λ z. AreOut z (filter t rs)) class_is (apart_tests (R first) t rs far h.apart) in
          let out : AreOut (filter t rs) (list_of (last_of None G)) = are_out_flip
          (list_of (last_of None G)) (filter t rs) (last_are_out None G (filter t rs) tt across) in
          record {
            groups = b.groups;
            first_is = b.first_is;
            chained = chained_kept s m m2 (list_of (last_of None G)) b.groups None keeps_last
                (grouped_are_out R A b.groups (filter t rs) (list_of (last_of None G)) b.grouped out) b.chained;
            grouped = b.grouped;
          }

      new_clash : (o : ℕ) (q : Ref) → R first q ≡ true → in_new hash j o moved q ≡ false
      new_clash o q e = ap (λ b. cond b (in_bucket hash j o q) false) (like_moved q e)

      old_clash : (o : ℕ) (q : Ref) → R first q ≡ true → in_old hash n o then_moved q ≡ false
      old_clash o q e = ap (λ b. cond (cond b true (moved q)) false (in_bucket hash n o q)) e

      unlike_new : (o : ℕ) (q : Ref) → not (R first q) ≡ true → in_new hash j o then_moved q ≡ in_new hash j o moved q
      unlike_new o q e = ap (λ b. cond (cond b true (moved q)) (in_bucket hash j o q) false) (not_true_is R A first (R first q) e)

      unlike_old : (o : ℕ) (q : Ref) → not (R first q) ≡ true → in_old hash n o then_moved q ≡ in_old hash n o moved q
      unlike_old o q e = ap (λ b. cond (cond b true (moved q)) false (in_bucket hash n o q)) (not_true_is R A first (R first q) e)

      new_here : (q : Ref) → R first q ≡ true → in_new hash j target then_moved q ≡ true
      new_here q e = ap (λ b. cond (cond b true (moved q)) (in_bucket hash j target q) false) e
          ∙ sym (like_in target j q e) ∙ in_is R A stamp hash H j target first refl

      new_else : (o : ℕ) → (o ≡ target → ⊥) → (q : Ref) → in_new hash j o then_moved q ≡ in_new hash j o moved q
      new_else o d q = (elim (R first q) as (λ b. R first q ≡ b → in_new hash j o then_moved q ≡ in_new hash j o moved q) [
        | true ↦ λ e. ap (λ b. cond (cond b true (moved q)) (in_bucket hash j o q) false) e ∙ sym (like_in o j q e)
            ∙ in_not R A stamp hash H j target o (λ z. d (sym z)) first (in_is R A stamp hash H j target first refl) ∙ sym (new_clash o q e)
        | false ↦ λ e. unlike_new o q (ap not e)
      ]) refl

      old_else : (o : ℕ) → (o ≡ i → ⊥) → (q : Ref) → in_old hash n o then_moved q ≡ in_old hash n o moved q
      old_else o d q = (elim (R first q) as (λ b. R first q ≡ b → in_old hash n o then_moved q ≡ in_old hash n o moved q) [
        | true ↦ λ e. old_clash o q e
            ∙ sym (ap (λ b. cond b false (in_bucket hash n o q)) (like_moved q e)
            ∙ sym (like_in o n q e) ∙ in_not R A stamp hash H n i o (λ z. d (sym z)) first in_here)
        | false ↦ λ e. unlike_old o q (ap not e)
      ]) refl

      abbrev N : Ref → Bool
      N q = not (R first q)

      new_bucket : IsBucket R m2 s (Some first) (filter (in_new hash j target then_moved) rs)
      new_bucket =
          let b = h.now target tn in let was = filter (in_new hash j target moved) rs in
          let kept = still (in_new hash j target moved) (slice_index_or news target None) (new_clash target) b in
          let apart : IsApart G = subst IsApart class_is (apart_filter (R first) rs h.apart) in record {
            groups = G ∷ b.groups;
            first_is = refl;
            chained = (
              subst (λ z. IsLinked z s (last_of None G) G (first_in b.groups None)) (sym em)
                  (subst (λ f. IsLinked (with_forth_if m s (last_of None G) f) s (last_of None G) G (first_in b.groups None)) (sym b.first_is)
                  (retail s m (last_of None G) G (first_in zs None) (first_in b.groups None) apart chained_then.0)),
              kept.chained,
            );
            grouped = group_new R A first b.groups G was (filter (in_new hash j target then_moved) rs) b.grouped
                (passed_all R A first b.groups was b.grouped (filter_clash (R first) (in_new hash j target moved) (new_clash target) rs))
                (filter_agree N (in_new hash j target then_moved) (in_new hash j target moved) (unlike_new target) rs)
                (filter_both (R first) (in_new hash j target then_moved) rs new_here ∙ class_is) (λ e. cc);
          }

      old_bucket : IsBucket R m2 s (first_in zs None) (filter (in_old hash n i then_moved) rs)
      old_bucket = still (in_old hash n i then_moved) (first_in zs None) (old_clash i) (record {
        groups = zs;
        first_is = refl;
        chained = chained_then.1;
        grouped = group_gone R A first [] G zs L (filter (in_old hash n i then_moved) rs) first grouped_then tt refl
            (A.reflexive first) (filter_agree N (in_old hash n i then_moved) (in_old hash n i moved) (unlike_old i) rs)
            (filter_clash (R first) (in_old hash n i then_moved) (old_clash i) rs);
      })

      parted_on : AreParted R stamp hash m2 s news2 j olds2 n rs then_moved
      parted_on = record {
        slot = subst (λ z. s < z) (sym keeps_last.slots) h.slot;
        many = h.many;
        some = h.some;
        held = held_all s m m2 (list_of (last_of None G)) rs keeps_last h.held;
        apart = h.apart;
        rising = h.rising;
        by_key = λ a b e. by a b e;
        now = λ o less. (elim (o == target)
            as (λ c. (o == target) ≡ c → IsBucket R m2 s (slice_index_or news2 o None) (filter (in_new hash j o then_moved) rs)) [
              | true ↦ λ e. let q : o ≡ target = grind (arith, e) in
                  subst (λ z. IsBucket R m2 s (slice_index_or news2 z None) (filter (in_new hash j z then_moved) rs)) (sym q)
                  (subst (λ z. IsBucket R m2 s z (filter (in_new hash j target then_moved) rs))
                  (sym (ap (λ z. slice_index_or z target None) en ∙ get_or-set_same news target (Some first) None fn)) new_bucket)
              | false ↦ λ e. let d : o ≡ target → ⊥ = λ q. not_both (o == target) (ap (λ z. z == target) q ∙ same_refl target) e in
                  subst (λ z. IsBucket R m2 s z (filter (in_new hash j o then_moved) rs))
                  (sym (ap (λ z. slice_index_or z o None) en ∙ get_or-set_other news target o (Some first) None d))
                  (subst (IsBucket R m2 s (slice_index_or news o None))
                  (sym (filter_same (in_new hash j o then_moved) (in_new hash j o moved) (new_else o d) rs))
                  (still (in_new hash j o moved) (slice_index_or news o None) (new_clash o) (h.now o less)))
            ]) refl;
        left = λ o less. (elim (o == i) as (λ c. (o == i) ≡ c → IsBucket R m2 s (slice_index_or olds2 o None) (filter (in_old hash n o then_moved) rs)) [
          | true ↦ λ e. let q : o ≡ i = grind (arith, e) in
              subst (λ z. IsBucket R m2 s (slice_index_or olds2 z None) (filter (in_old hash n z then_moved) rs)) (sym q)
              (subst (λ z. IsBucket R m2 s z (filter (in_old hash n i then_moved) rs))
              (sym (ap (λ z. slice_index_or z i None) eo ∙ get_or-set_same olds i (first_in zs None) None fo)) old_bucket)
          | false ↦ λ e. let d : o ≡ i → ⊥ = λ q. not_both (o == i) (ap (λ z. z == i) q ∙ same_refl i) e in
              subst (λ z. IsBucket R m2 s z (filter (in_old hash n o then_moved) rs))
              (sym (ap (λ z. slice_index_or z o None) eo ∙ get_or-set_other olds i o (first_in zs None) None d))
              (let same = filter_same (in_old hash n o then_moved) (in_old hash n o moved) (old_else o d) rs in
              still (in_old hash n o then_moved) (slice_index_or olds o None) (old_clash o)
              (subst (IsBucket R m s (slice_index_or olds o None)) (sym same) (h.left o less)))
        ]) refl;
      }
        where
          by : (a b : Ref) → R a b ≡ true → then_moved a ≡ then_moved b
          by a b e = (λ z. cond (both z) true (h.by_key a b e z))
            where
              both : R first a ≡ R first b
              both = (elim (R first a) as (λ c. R first a ≡ c → c ≡ R first b) [
                | true ↦ λ t. sym (A.transitive first a b t e)
                | false ↦ λ f. sym (no_is_false (R first b) (λ t. not_both (R first a) (A.transitive first b a t (A.symmetric a b e)) f))
              ]) refl

      steps_now : hops (next_group m2 s) (node_count m2) (slice_index_or olds2 i None) ≡ length zs
      steps_now =
          let b = old_bucket in let list = filter (in_old hash n i then_moved) rs in
          let full = (grouped_full R A (G ∷ zs) L grouped_then).1 in
          let gone = group_gone R A first [] G zs L list first grouped_then tt refl (A.reflexive first)
          (filter_agree N (in_old hash n i then_moved) (in_old hash n i moved) (unlike_old i) rs)
          (filter_clash (R first) (in_old hash n i then_moved) (old_clash i) rs) in
          let apart = grouped_apart R A zs list gone (apart_filter (in_old hash n i then_moved) rs h.apart) in
          let across : AreOut G list = subst (λ z. AreOut z list) class_is (apart_tests (R first) (in_old hash n i then_moved) rs (old_clash i) h.apart) in
          let out : AreOut list (list_of (last_of None G)) = are_out_flip (list_of (last_of None G)) list (last_are_out None G list tt across) in
          let chained = chained_kept s m m2 (list_of (last_of None G)) zs None keeps_last
          (grouped_are_out R A zs list (list_of (last_of None G)) gone out) chained_then.1 in
          let many = node_count-least m2 (members zs) apart (chained_held s m2 zs None chained) in let fits = full_length zs full in
          ap (hops (next_group m2 s) (node_count m2)) (ap (λ z. slice_index_or z i None) eo ∙ get_or-set_same olds i (first_in zs None) None fo)
          ∙ hops_groups m2 s (node_count m2) zs full chained (omega arith)

pub all_below : (P : ℕ → Type 0) (n : ℕ) → ((i : ℕ) → i < n → P i) → P n → (i : ℕ) → i < n + 1 → P i
all_below P n below here i lt = (elim (i == n) as (λ b. (i == n) ≡ b → P i) [
  | true ↦ λ e. let q : i ≡ n = grind (arith, e) in subst P (sym q) here
  | false ↦ λ e. let d : i ≡ n → ⊥ = λ q. not_both (i == n) (ap (λ z. z == n) q ∙ same_refl n) e in below i (grind (arith, lt, d))
]) refl

module _ {T H : Type 0} (k : Keying T) (w : IsLawful k) where
  -- at first no node has moved
  pub none_moved : (c c0 : Chains H) (old : Vec (Option Ref) Global) (count : ℕ) (m : Pooled T) (rs : List Ref) → AreChained c0 k m rs
      → c.slot ≡ c0.slot → old ≡ c0.buckets → c.buckets.items ≡ replicate count None → vec_len c.buckets ≡ count → 0 < count
      → IsPowerOfTwo count → c.groups ≡ c0.groups → AreBetween c old.items (vec_len old) k m rs
  none_moved c c0 old count m rs h es eo items en some power eg = let b = h.buckets in (
    λ q. false,
    record {
      parted = subst (λ (z : ℕ × Vec (Option Ref) Global). AreParted (same_nodes k m) (stamp_at m z.0)
          (hash_node k m) m z.0 c.buckets.items (vec_len c.buckets) z.1.items (vec_len z.1) rs (λ q. false))
          (λ j. (sym es j, sym eo j)) (record {
            slot = b.slot;
            many = subst (λ t. 0 < t) (sym en) some;
            some = b.some;
            held = b.held;
            apart = b.apart;
            rising = b.rising;
            by_key = λ a q e. refl;
            now = λ i lt. subst (IsBucket (same_nodes k m) m c0.slot (slice_index_or c.buckets.items i None)) (sym (filter_never rs)) (record {
              groups = [];
              first_is = ap (λ z. slice_index_or z i None) items ∙ get_or-replicate count i None None (subst (λ t. i < t) en lt);
              chained = tt;
              grouped = refl;
            });
            left = b.each;
          });
      tagged = subst (λ t. AreTagged (hash_node k m) m t rs) (sym es) h.tagged;
      power = subst IsPowerOfTwo (sym en) power;
      counted = eg ∙ h.counted;
      few = h.few;
    },
  )

  -- at the end all have
  pub all_moved : (c : Chains H) (heads : List (Option Ref)) (n : ℕ) (m : Pooled T) (rs : List Ref)
      → AreBetween c heads n k m rs → ((i : ℕ) → i < n → slice_index_or heads i None ≡ None) → AreChained c k m rs
  all_moved c heads n m rs q none = let a = q.1 in record {
    buckets = buckets_all (same_nodes k m) (alike k m w) (stamp_at m c.slot) (hash_node k m)
        (same_hash k m w) m c.slot c.buckets.items (vec_len c.buckets) heads n rs q.0 a.parted none;
    tagged = a.tagged;
    power = a.power;
    counted = a.counted;
    few = a.few;
  }

  module _ (c : Chains H) (m : Pooled T) (heads : List (Option Ref)) (n i : ℕ) (lt : i < n) (first : Ref)
      (at : slice_index_or heads i None ≡ Some first) (rs : List Ref) (q : AreBetween c heads n k m rs) where
    abbrev Q : AreParted (same_nodes k m) (stamp_at m c.slot) (hash_node k m) m c.slot c.buckets.items (vec_len c.buckets) heads n rs q.0
    Q = let a = q.1 in a.parted

    pub group_first : IsHeld m first
    group_first = first_held_then (same_nodes k m) (alike k m w) (stamp_at m c.slot) (hash_node k m)
        (same_hash k m w) m c.slot c.buckets.items (vec_len c.buckets) heads n rs q.0 Q i lt first at

    pub group_back : IsHeldIf m (back_of m c.slot first)
    group_back = back_held_then (same_nodes k m) (alike k m w) (stamp_at m c.slot) (hash_node k m)
        (same_hash k m w) m c.slot c.buckets.items (vec_len c.buckets) heads n rs q.0 Q i lt first at

    pub group_tag : (link_of m first.name c.slot).tag.key ≡ hash_node k m first
    group_tag =
        let a = q.1 in
        tag_then (same_nodes k m) (alike k m w) (stamp_at m c.slot) (hash_node k m) (same_hash k m w)
        m c.slot c.buckets.items (vec_len c.buckets) heads n rs q.0 Q i lt first at a.tagged

    pub group_room : hash_node k m first % vec_len c.buckets < vec_len c.buckets
    group_room = let p = Q in mod-lt (hash_node k m first) p.many

  module _ (c c2 : Chains H) (m m2 : Pooled T) (heads heads2 : List (Option Ref)) (n : ℕ) (i : ℕ)
      (lt : i < n) (first : Ref) (at : slice_index_or heads i None ≡ Some first) (fo : i < length heads)
      (es : c2.slot ≡ c.slot) (eb : vec_len c2.buckets ≡ vec_len c.buckets) (eg : c2.groups ≡ c.groups)
      (em : m2 ≡ with_forth_if m c.slot (back_of m c.slot first) (slice_index_or c.buckets.items (hash_node k m first % vec_len c.buckets) None))
      (en : c2.buckets.items ≡ slice_set c.buckets.items (hash_node k m first % vec_len c.buckets) (Some first))
      (eo : heads2 ≡ slice_set heads i (next_group m c.slot first)) (rs : List Ref) (q : AreBetween c heads n k m rs) where
    abbrev R : Ref → Ref → Bool
    R = same_nodes k m

    abbrev P : AreParted (same_nodes k m) (stamp_at m c.slot) (hash_node k m) m c.slot c.buckets.items (vec_len c.buckets) heads n rs q.0
    P = let a = q.1 in a.parted

    room_there : hash_node k m first % vec_len c.buckets < vec_len c.buckets
    room_there = let p = P in mod-lt (hash_node k m first) p.many

    count_is : vec_len c.buckets ≡ length c.buckets.items
    count_is = c.buckets.ok.0

    em' : m2 ≡ with_forth_if m c.slot (last_of None
        (G R (alike k m w) (stamp_at m c.slot) (hash_node k m) (same_hash k m w) m c.slot c.buckets.items (vec_len c.buckets) heads n rs q.0 P i lt first at))
        (slice_index_or c.buckets.items (hash_node k m first % vec_len c.buckets) None)
    em' = em
        ∙ ap (λ o. with_forth_if m c.slot o (slice_index_or c.buckets.items (hash_node k m first % vec_len c.buckets) None))
        (back_is R (alike k m w) (stamp_at m c.slot) (hash_node k m) (same_hash k m w) m c.slot c.buckets.items
        (vec_len c.buckets) heads n rs q.0 P i lt first at)

    eo' : heads2 ≡ slice_set heads i (first_in
        (zs R (alike k m w) (stamp_at m c.slot) (hash_node k m) (same_hash k m w) m c.slot c.buckets.items (vec_len c.buckets) heads n rs q.0 P i lt first at)
        None)
    eo' = eo
        ∙ ap (slice_set heads i) (next_is R (alike k m w) (stamp_at m c.slot) (hash_node k m)
        (same_hash k m w) m c.slot c.buckets.items (vec_len c.buckets) heads n rs q.0 P i lt first at)

    pub group_keeps : Keeps m m2 c.slot rs
    group_keeps = keeps_moved R (alike k m w) (stamp_at m c.slot) (hash_node k m) (same_hash k m w) m c.slot c.buckets.items (vec_len c.buckets) heads n rs
        q.0 P i lt first at m2 c2.buckets.items heads2 em' en eo' (subst (λ z. hash_node k m first % vec_len c.buckets < z) count_is room_there) fo room_there

    pub group_moves : AreBetween c2 heads2 n k m2 rs
    group_moves =
        let a = q.1 in let keeps = group_keeps in let RR = same_kept k m m2 keeps.values in let HH = hash_kept k m m2 keeps.values in
        let tags : (z : Ref) → (link_of m2 z.name c.slot).tag ≡ (link_of m z.name c.slot).tag = λ z. ap (λ (p : Pooled T). (link_of p z.name c.slot).tag) em
        ∙ tag-forth c.slot m (back_of m c.slot first) (slice_index_or c.buckets.items (hash_node k m first % vec_len c.buckets) None) z.name c.slot in
        let stamps : stamp_at m c.slot ≡ stamp_at m2 c.slot = λ d z. (sym (tags z) d).stamp in
        let then = then_moved R (alike k m w) (stamp_at m c.slot) (hash_node k m) (same_hash k m w)
        m c.slot c.buckets.items (vec_len c.buckets) heads n rs q.0 P i lt first at in (
          then,
          record {
            parted = subst (λ (z : ℕ × ℕ). AreParted (same_nodes k m2) (stamp_at m2 z.0) (hash_node k m2) m2 z.0 c2.buckets.items z.1 heads2 n rs then)
                (λ d. (sym es d, sym eb d))
                (subst (λ (z : (Ref → Ref → Bool) × (Ref → ℕ) × (Ref → ℕ)). AreParted z.0 z.1
                z.2 m2 c.slot c2.buckets.items (vec_len c.buckets) heads2 n rs then)
                (λ d. (sym RR d, stamps d, sym HH d))
                (parted_on R (alike k m w) (stamp_at m c.slot) (hash_node k m) (same_hash k m w) m c.slot
                c.buckets.items (vec_len c.buckets) heads n rs q.0 P i lt first at m2 c2.buckets.items heads2 em' en
                eo' (subst (λ z. hash_node k m first % vec_len c.buckets < z) count_is room_there) fo room_there));
            tagged = subst (λ (z : (Ref → ℕ) × ℕ). AreTagged z.0 m2 z.1 rs) (λ d. (sym HH d, sym es d))
                (tagged_same (hash_node k m) m c.slot m2 rs tags a.tagged);
            power = subst IsPowerOfTwo (sym eb) a.power;
            counted = eg ∙ a.counted ∙ ap (λ (f : Ref → Ref → Bool). key_count f rs) (sym RR);
            few = a.few;
          },
        )

    pub group_fewer : hops (next_group m2 c.slot) (node_count m2) (slice_index_or heads2 i None)
        < hops (next_group m c.slot) (node_count m) (slice_index_or heads i None)
    group_fewer =
        let then = steps_then R (alike k m w) (stamp_at m c.slot) (hash_node k m) (same_hash k m w)
        m c.slot c.buckets.items (vec_len c.buckets) heads n rs q.0 P i lt first at in
        let now = steps_now R (alike k m w) (stamp_at m c.slot) (hash_node k m) (same_hash k m w) m c.slot c.buckets.items (vec_len c.buckets) heads n rs q.0 P
        i lt first at m2 c2.buckets.items heads2 em' en eo' (subst (λ z. hash_node k m first % vec_len c.buckets < z) count_is room_there) fo room_there in
        omega arith

-- one more step of a loop that moves groups: its keys and its slot are those of the start
pub move_on : {T Q : Type 0} (at : Q → Keying T) (P P2 : Keying T → Type 0) (p0 a z : Pooled T) (rs : List Ref) {k k0 : Q} {s s0 : ℕ} → k ≡ k0 → s ≡ s0
    → (P (at k) → P2 (at k)) → (P (at k) → Keeps a z s rs) → P (at k0) × Keeps p0 a s0 rs → P2 (at k0) × Keeps p0 z s0 rs
move_on at P P2 p0 a z rs {k} {k0} {s} {s0} keys slot moves keeps on =
    let now : P (at k) = subst (λ q. P (at q)) (sym keys) on.0 in (
      subst (λ q. P2 (at q)) keys (moves now),
      keeps_then s0 p0 a z rs rs rs on.1 (subst (λ t. Keeps a z t rs) slot (keeps now)) (λ q out. (out, out)),
    )
