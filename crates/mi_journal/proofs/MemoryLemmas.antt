-- What the rings have memory for stays: an entry that comes takes room, and gives it back as it leaves.
-- Cited by `Inverses::end_oldest`, `Inverses::end_session`, `Inverses::join_top`, `Inverses::note`, `Inverses::open_session` and 3 more.
use Rattle.std.proofs.Common.{◌≡◌, ◌∙◌, ℕ, suc, ◌+◌, ◌-◌, ◌<◌, ◌≤◌, Bool, true, false, List, [], ◌∷◌, ◌++◌, Option, None, Some, length, reverse, drop}
use Rattle.std.proofs.Common.{refl, ap, ap₂, sym, arith, length-append}
use Rattle.std.specs.List.{All}
use Rattle.std.specs.Option.{option_map, option_to_list}
use Rattle.std.proofs.lemmas.Bool.{false≢true}
use Rattle.std.proofs.lemmas.List.{length_push, length-drop, length-reverse, reverse-append, reverse-reverse}
use Rattle.std.proofs.lemmas.List.Elements.{All-same, All-head, All-tail, All-push, All-drop}
use Rattle.mi_value.specs.declared.value.Value.{Value}
use Rattle.mi_node.specs.declared.old_place.OldPlace.{OldPlace as Place}
use Rattle.mi_container.specs.Backs.{place_seen}
use Rattle.mi_container.specs.Inverse.{OldPlace}
use Rattle.mi_journal.specs.Noted.{noted, top_joined, newest_entry, without_entry, without_newest, NewestIsEmpty, TakesOldest}
use Rattle.mi_journal.specs.declared.entry.Entry.{Entry}
use Rattle.mi_journal.specs.declared.entry.Entry.TheVariants as entry
use Rattle.mi_journal.specs.Filled.{IsThere, marked, records_in, places_in, placed, filled, records_of, places_of, decoded, records_of_all, places_of_all, decoded_all}
use Rattle.mi_journal.specs.Stored.{Rings, entries_of_all, place_count, room_in, records_taken, places_taken, taken_of, taken_of_all, room_beside}

abbrev pub sized : ℕ → ℕ → ℕ → Rings
sized entries records places = record { entries = entries; records = records; places = places }

pub same_rings : {e e' r r' p p' : ℕ} → e ≡ e' → r ≡ r' → p ≡ p' → sized e r p ≡ sized e' r' p'
same_rings {e} {e'} {r} {r'} {p} {p'} a b c = ap (λ n. sized n r p) a ∙ ap (λ n. sized e' n p) b ∙ ap (λ n. sized e' r' n) c

module _ {A : Type 0} where
  count_push : (ss : List (List A)) (es : List A) → entries_of_all (ss ++ es ∷ []) ≡ entries_of_all ss + length es
  count_push [] es = omega arith
  count_push (s ∷ ss) es = let rest = count_push ss es in omega (arith, rest)

  count_noted : (ss : List (List A)) (x : A) → 0 < length ss → entries_of_all (noted x ss) ≡ entries_of_all ss + 1
  count_noted [] x some = absurd (omega (arith, some))
  count_noted (es ∷ older) x some = omega arith

  count_popped : (ss : List (List A)) → entries_of_all (without_entry ss) + length (option_to_list (newest_entry ss)) ≡ entries_of_all ss
  count_popped [] = refl
  count_popped ([] ∷ older) = omega arith
  count_popped ((x ∷ es) ∷ older) = omega arith

  count_joined : (ss : List (List A)) → entries_of_all (top_joined ss) ≡ entries_of_all ss
  count_joined [] = refl
  count_joined (a ∷ []) = refl
  count_joined (a ∷ b ∷ older) = let both = length-append a b in omega (arith, both)

  count_ended : (ss : List (List A)) → NewestIsEmpty ss → entries_of_all (without_newest ss) ≡ entries_of_all ss
  count_ended [] empty = absurd empty
  count_ended (es ∷ older) empty = let none = ap length empty in omega (arith, none)

  -- room n before and m after
  module _ (ss now : List (List A)) (n m : ℕ) where
    pub open_keeps : now ≡ [] ∷ ss → m ≡ n → m + entries_of_all now ≡ n + entries_of_all ss
    open_keeps is room = let count = ap entries_of_all is in omega (arith, count, room)

    pub note_keeps : (x : A) → 0 < length ss → now ≡ noted x ss → m + 1 ≡ n → m + entries_of_all now ≡ n + entries_of_all ss
    note_keeps x some is room = let count = ap entries_of_all is ∙ count_noted ss x some in omega (arith, count, room)

    pub pop_keeps : (r : Option A) → r ≡ newest_entry ss → now ≡ without_entry ss → m ≡ n + length (option_to_list r)
        → m + entries_of_all now ≡ n + entries_of_all ss
    pop_keeps r newest is room =
        let left = ap entries_of_all is in
        let count = count_popped ss in
        let one = ap (λ q. length (option_to_list q)) newest in
        omega (arith, left, count, one, room)

    pub join_keeps : now ≡ top_joined ss → m ≡ n → m + entries_of_all now ≡ n + entries_of_all ss
    join_keeps is room = let count = ap entries_of_all is ∙ count_joined ss in omega (arith, count, room)

    pub end_keeps : NewestIsEmpty ss → now ≡ without_newest ss → m ≡ n → m + entries_of_all now ≡ n + entries_of_all ss
    end_keeps empty is room = let count = ap entries_of_all is ∙ count_ended ss empty in omega (arith, count, room)

    pub take_keeps : (r : Option A) → TakesOldest r ss now → m ≡ n + length (option_to_list r) → m + entries_of_all now ≡ n + entries_of_all ss
    take_keeps None (same, none) room = let count = ap entries_of_all same in omega (arith, count, room)
    take_keeps (Some x) (newer, rest, was, is) room =
        let before = ap entries_of_all was ∙ count_push newer (rest ++ x ∷ []) in
        let after = ap entries_of_all is ∙ count_push newer rest in
        let one = length_push rest x in
        omega (arith, before, after, one, room)

    pub end_oldest_keeps : ss ≡ now ++ [] ∷ [] → m ≡ n → m + entries_of_all now ≡ n + entries_of_all ss
    end_oldest_keeps is room = let count = ap entries_of_all is ∙ count_push now [] in omega (arith, count, room)

-- ---- places that are there

abbrev Places : Type 0
Places = List (Option Place)

all_reverse : (ps : Places) → All IsThere ps → All IsThere (reverse ps)
all_reverse [] all = all
all_reverse (p ∷ ps) all = All-same IsThere (reverse (p ∷ ps)) (reverse ps ++ p ∷ []) (reverse-append (p ∷ []) ps)
    (All-push IsThere (reverse ps) p (all_reverse ps (All-tail IsThere p ps all)) (All-head IsThere p ps all))

pub all_front : (ps left : Places) (n : ℕ) → left ≡ drop n ps → All IsThere ps → All IsThere left
all_front ps left n is all = All-same IsThere left (drop n ps) is (All-drop IsThere n ps all)

pub all_back : (ps left : Places) (n : ℕ) → reverse left ≡ drop n (reverse ps) → All IsThere ps → All IsThere left
all_back ps left n is all = All-same IsThere left (reverse (drop n (reverse ps))) (sym (reverse-reverse left) ∙ ap reverse is)
    (all_reverse (drop n (reverse ps)) (All-drop IsThere n (reverse ps) (all_reverse ps all)))

-- ---- what the inverses of sessions take of the rings

one_there : (p : Option Place) (qs : List (Option OldPlace)) → IsThere p → place_count (option_map place_seen p ∷ qs) ≡ suc (place_count qs)
one_there None qs there = absurd (false≢true there)
one_there (Some p) qs there = refl

all_there : (ms : List Bool) (ps : Places) → All IsThere ps → marked ms ≤ length ps → place_count (placed ms ps) ≡ marked ms
all_there [] ps all few = refl
all_there (false ∷ ms) ps all few = all_there ms ps all few
all_there (true ∷ ms) [] all few = absurd (omega (arith, few))
all_there (true ∷ ms) (p ∷ ps) all few =
    one_there p (placed ms ps) (All-head IsThere p ps all) ∙ ap suc (all_there ms ps (All-tail IsThere p ps all) (omega (arith, few)))

filled_records : (e : Entry) (rs : List (List Value)) (ps : Places) → records_taken (filled e rs ps) ≡ records_in e
filled_records (entry.Inserted at id) rs ps = refl
filled_records (entry.Put at id ms) rs ps = refl
filled_records (entry.Erased at id) rs ps = refl
filled_records (entry.Lost at id x e) rs ps = refl
filled_records (entry.StoodLast x at id) rs ps = refl
filled_records (entry.StoodBefore x at id by b) rs ps = refl
filled_records entry.Nothing rs ps = refl

filled_places : (e : Entry) (rs : List (List Value)) (ps : Places) → All IsThere ps → places_in e ≤ length ps → places_taken (filled e rs ps) ≡ places_in e
filled_places (entry.Inserted at id) rs ps all few = refl
filled_places (entry.Put at id ms) rs ps all few = all_there ms ps all few
filled_places (entry.Erased at id) rs ps all few = refl
filled_places (entry.Lost at id x e) rs ps all few = refl
filled_places (entry.StoodLast x at id) rs ps all few = refl
filled_places (entry.StoodBefore x at id by b) rs ps all few = refl
filled_places entry.Nothing rs ps all few = refl

decoded_length : (es : List (ℕ × Entry)) (rs : List (List Value)) (ps : Places) → length (decoded es rs ps) ≡ length es
decoded_length [] rs ps = refl
decoded_length (e ∷ es) rs ps = ap suc (decoded_length es (drop (records_in e.1) rs) (drop (places_in e.1) ps))

decoded_records : (es : List (ℕ × Entry)) (rs : List (List Value)) (ps : Places) → taken_of records_taken (decoded es rs ps) ≡ records_of es
decoded_records [] rs ps = refl
decoded_records (e ∷ es) rs ps =
    ap₂ (λ m n. m + n) (filled_records e.1 rs ps) (decoded_records es (drop (records_in e.1) rs) (drop (places_in e.1) ps))

decoded_places : (es : List (ℕ × Entry)) (rs : List (List Value)) (ps : Places) → All IsThere ps → places_of es ≤ length ps
    → taken_of places_taken (decoded es rs ps) ≡ places_of es
decoded_places [] rs ps all few = refl
decoded_places (e ∷ es) rs ps all few =
    let left = length-drop (places_in e.1) ps in
    ap₂ (λ m n. m + n) (filled_places e.1 rs ps all (omega (arith, few)))
    (decoded_places es (drop (records_in e.1) rs) (drop (places_in e.1) ps) (All-drop IsThere (places_in e.1) ps all) (omega (arith, few, left)))

all_entries : (ss : List (List (ℕ × Entry))) (rs : List (List Value)) (ps : Places) → entries_of_all (decoded_all ss rs ps) ≡ entries_of_all ss
all_entries [] rs ps = refl
all_entries (es ∷ ss) rs ps = ap₂ (λ m n. m + n) (decoded_length es rs ps) (all_entries ss (drop (records_of es) rs) (drop (places_of es) ps))

all_records : (ss : List (List (ℕ × Entry))) (rs : List (List Value)) (ps : Places) → taken_of_all records_taken (decoded_all ss rs ps) ≡ records_of_all ss
all_records [] rs ps = refl
all_records (es ∷ ss) rs ps = ap₂ (λ m n. m + n) (decoded_records es rs ps) (all_records ss (drop (records_of es) rs) (drop (places_of es) ps))

all_places : (ss : List (List (ℕ × Entry))) (rs : List (List Value)) (ps : Places) → All IsThere ps → places_of_all ss ≤ length ps
    → taken_of_all places_taken (decoded_all ss rs ps) ≡ places_of_all ss
all_places [] rs ps all few = refl
all_places (es ∷ ss) rs ps all few =
    let left = length-drop (places_of es) ps in
    ap₂ (λ m n. m + n) (decoded_places es rs ps all (omega (arith, few)))
    (all_places ss (drop (records_of es) rs) (drop (places_of es) ps) (All-drop IsThere (places_of es) ps all) (omega (arith, few, left)))

back : (n m k : ℕ) → k ≡ m → n ≡ n + m - k
back n m k same = omega (arith, same)

decoded_beside : (most n r p a b : ℕ) (ss : List (List (ℕ × Entry))) (rs : List (List Value)) (ps : Places) → a ≡ records_of_all ss → b ≡ places_of_all ss
    → places_of_all ss ≤ length ps → All IsThere ps
    → room_in most n (r - a) (p - b) ≡ room_beside most (sized (n + entries_of_all ss) r p) (decoded_all ss rs ps)
decoded_beside most n r p a b ss rs ps records places few all =
    ap (λ m. room_in most m (r - a) (p - b)) (back n (entries_of_all ss) (entries_of_all (decoded_all ss rs ps)) (all_entries ss rs ps))
    ∙ ap₂ (λ i j. room_in most (n + entries_of_all ss - entries_of_all (decoded_all ss rs ps)) (r - i) (p - j))
    (records ∙ sym (all_records ss rs ps)) (places ∙ sym (all_places ss rs ps all few))

-- rings with memory for r records and p places, of which a and b are there, and with room for n entries
pub room_is_beside : (most n r p a b : ℕ) (ss : List (List (ℕ × Entry))) (rs : List (List Value)) (ps : Places) → a ≡ length rs → b ≡ length ps
    → (length rs ≡ records_of_all ss) × (length ps ≡ places_of_all ss) × All IsThere ps
    → room_in most n (r - a) (p - b) ≡ room_beside most (sized (n + entries_of_all ss) r p) (decoded_all ss (reverse rs) (reverse ps))
room_is_beside most n r p a b ss rs ps records places held =
    let long = length-reverse ps in
    decoded_beside most n r p a b ss (reverse rs) (reverse ps) (records ∙ held.0) (places ∙ held.1) (omega (arith, long, held.1)) (all_reverse ps held.2)
