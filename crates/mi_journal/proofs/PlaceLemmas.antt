-- Places that go to the back of a ring, the first last, and come off at either end.
-- Cited by `store::fetch_places` and `store::store_places`.
use Rattle.std.proofs.Common.{◌≡◌, suc, ◌+◌, ◌<◌, ◌≤◌, Bool, true, false, Option, None, Some, List, [], ◌∷◌, ◌++◌, length}
use Rattle.std.proofs.Common.{map, drop, reverse, ap, sym, ◌∙◌, arith}
use Rattle.std.specs.Option.{option_map, is_some}
use Rattle.std.proofs.lemmas.List.{reverse-append, length_push, map-append, append_assoc}
use Rattle.std.proofs.lemmas.Bool.{false≢true}
use Rattle.mi_node.specs.declared.old_place.OldPlace.{OldPlace as Place}
use Rattle.mi_container.specs.Backs.{place_seen}
use Rattle.mi_container.specs.Inverse.{OldPlace}
use Rattle.mi_journal.specs.Filled.{marked, placed}
use Rattle.mi_journal.specs.Stored.{place_count}

abbrev Places : Type 0
Places = List (Option Place)

-- some of the old places are stored, and marked
pub record Storing (old now : Places) (marks : List Bool) (before ring : Places) : Type 0 where
  pub all : map (option_map place_seen) old ≡ map (option_map place_seen) now ++ placed marks (reverse ring)
  pub rest : drop (marked marks) (reverse ring) ≡ reverse before
  pub count : place_count (map (option_map place_seen) now) + marked marks ≡ place_count (map (option_map place_seen) old)
  pub few : length now + length marks ≤ 16

-- some of the marked places are fetched
pub record Fetching (all marks : List Bool) (before ring now : Places) : Type 0 where
  pub both : map (option_map place_seen) now ++ placed marks (reverse ring) ≡ placed all (reverse before)
  pub rest : drop (marked marks) (reverse ring) ≡ drop (marked all) (reverse before)
  pub enough : marked marks ≤ length ring
  pub few : length now + length marks ≤ 16

count-append : (ps qs : List (Option OldPlace)) → place_count (ps ++ qs) ≡ place_count ps + place_count qs
count-append [] qs = omega arith
count-append (None ∷ ps) qs = count-append ps qs
count-append (Some p ∷ ps) qs = let rest = count-append ps qs in omega (arith, rest)

reverse_push : {A : Type 0} (xs : List A) (x : A) → reverse (xs ++ x ∷ []) ≡ x ∷ reverse xs
reverse_push xs x = reverse-append xs (x ∷ [])

-- the last of the places that are left stands before those that are stored
moved : (now left : Places) (p : Option Place) (qs : List (Option OldPlace)) → now ≡ left ++ p ∷ []
    → map (option_map place_seen) now ++ qs ≡ map (option_map place_seen) left ++ option_map place_seen p ∷ qs
moved now left p qs is =
    ap (λ q. q ++ qs) (ap (map (option_map place_seen)) is ∙ map-append (option_map place_seen) left (p ∷ []))
    ∙ append_assoc (map (option_map place_seen) left) (option_map place_seen p ∷ []) qs

counted : (now left : Places) (p : Option Place) → now ≡ left ++ p ∷ []
    → place_count (map (option_map place_seen) now) ≡ place_count (map (option_map place_seen) left) + place_count (option_map place_seen p ∷ [])
counted now left p is =
    ap place_count (ap (map (option_map place_seen)) is ∙ map-append (option_map place_seen) left (p ∷ []))
    ∙ count-append (map (option_map place_seen) left) (option_map place_seen p ∷ [])

pub storing_place : (old now left : Places) (p : Option Place) (marks : List Bool) (before ring : Places) → now ≡ left ++ p ∷ [] → is_some p ≡ true
    → Storing old now marks before ring → (0 < place_count (map (option_map place_seen) now)) × Storing old left (true ∷ marks) before (ring ++ p ∷ [])
storing_place old now left None marks before ring is there h = absurd (false≢true there)
storing_place old now left (Some p) marks before ring is there h =
    let turned : reverse (ring ++ Some p ∷ []) ≡ Some p ∷ reverse ring = reverse_push ring (Some p) in
    let all = h.all in
    let fewer = counted now left (Some p) is in
    let count = h.count in
    let few = h.few in
    let long = ap length is ∙ length_push left (Some p) in (
      omega (arith, fewer),
      record {
        all = all ∙ moved now left (Some p) (placed marks (reverse ring)) is
            ∙ ap (λ q. map (option_map place_seen) left ++ placed (true ∷ marks) q) (sym turned);
        rest = ap (drop (suc (marked marks))) turned ∙ h.rest;
        count = omega (arith, count, fewer);
        few = omega (arith, few, long);
      },
    )

pub storing_none : (old now left : Places) (p : Option Place) (marks : List Bool) (before ring : Places) → now ≡ left ++ p ∷ [] → is_some p ≡ false
    → Storing old now marks before ring → Storing old left (false ∷ marks) before ring
storing_none old now left (Some p) marks before ring is none h = absurd (false≢true (sym none))
storing_none old now left None marks before ring is none h =
    let fewer = counted now left None is in
    let count = h.count in
    let few = h.few in
    let long = ap length is ∙ length_push left None in
    record {
      all = h.all ∙ moved now left None (placed marks (reverse ring)) is;
      rest = h.rest;
      count = omega (arith, count, fewer);
      few = omega (arith, few, long);
    }
