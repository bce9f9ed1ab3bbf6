-- Inverses put together from entries, records and places: one more or one less at either end of the sessions, and two sessions joined.
-- Cited by `Inverses::depth`, `Inverses::end_oldest`, `Inverses::end_session`, `Inverses::join_top`, `Inverses::note` and 2 more.
use Rattle.std.proofs.Common.{◌≡◌, ◌⊎◌, inl, inr, ℕ, suc, ◌+◌, ◌<◌, ◌≤◌, Bool, true, false, Option, None, Some, List, [], ◌∷◌, ◌++◌, length}
use Rattle.std.proofs.Common.{drop, refl, ap, ap₂, sym, ◌∙◌, subst, arith}
use Rattle.std.specs.Option.{option_map}
use Rattle.std.proofs.lemmas.List.{length-drop, drop-append-le, drop-drop, length_push, same_from_push}
use Rattle.mi_value.specs.declared.value.Value.{Value}
use Rattle.mi_node.specs.declared.old_place.OldPlace.{OldPlace as Place}
use Rattle.mi_container.specs.Backs.{place_seen}
use Rattle.mi_container.specs.Inverse.{Inverse}
use Rattle.mi_container.specs.Inverse.Inverse.{Put}
use Rattle.mi_journal.specs.Noted.{noted, top_joined, newest_entry, without_entry, without_newest, NewestIsEmpty, TwoAreOpen, OldestIsEmpty, TakesOldest}
use Rattle.mi_journal.specs.declared.entry.Entry.{Entry}
use Rattle.mi_journal.specs.declared.entry.Entry.TheVariants as entry
use Rattle.mi_journal.specs.Filled.{marked, records_in, places_in, placed, first_record, row_at, filled, records_of, places_of, decoded}
use Rattle.mi_journal.specs.Filled.{records_of_all, places_of_all, decoded_all}
use Rattle.mi_journal.specs.Stored.{to_settle, TakesToSettle}

abbrev Entries : Type 0
Entries = List (ℕ × Entry)

abbrev Records : Type 0
Records = List (List Value)

abbrev Places : Type 0
Places = List (Option Place)

pub length-decoded_all : (ss : List Entries) (rs : Records) (ps : Places) → length (decoded_all ss rs ps) ≡ length ss
length-decoded_all [] rs ps = refl
length-decoded_all (es ∷ ss) rs ps = ap suc (length-decoded_all ss (drop (records_of es) rs) (drop (places_of es) ps))

-- Two sessions joined

records_of-append : (a b : Entries) → records_of (a ++ b) ≡ records_of a + records_of b
records_of-append [] b = omega arith
records_of-append (e ∷ a) b = let rest = records_of-append a b in omega (arith, rest)

places_of-append : (a b : Entries) → places_of (a ++ b) ≡ places_of a + places_of b
places_of-append [] b = omega arith
places_of-append (e ∷ a) b = let rest = places_of-append a b in omega (arith, rest)

decoded-append : (a b : Entries) (rs : Records) (ps : Places)
    → decoded (a ++ b) rs ps ≡ decoded a rs ps ++ decoded b (drop (records_of a) rs) (drop (places_of a) ps)
decoded-append [] b rs ps = refl
decoded-append (e ∷ a) b rs ps =
    ap (λ q. (e.0, filled e.1 rs ps) ∷ q) (decoded-append a b (drop (records_in e.1) rs) (drop (places_in e.1) ps)
    ∙ ap₂ (λ p q. decoded a (drop (records_in e.1) rs) (drop (places_in e.1) ps) ++ decoded b p q)
    (drop-drop (records_of a) (records_in e.1) rs) (drop-drop (places_of a) (places_in e.1) ps))

pub joined : (ss : List Entries) (rs : Records) (ps : Places) → decoded_all (top_joined ss) rs ps ≡ top_joined (decoded_all ss rs ps)
joined [] rs ps = refl
joined (a ∷ []) rs ps = refl
joined (a ∷ b ∷ older) rs ps =
    ap₂ (λ p q. p ∷ q) (decoded-append a b rs ps)
    (ap₂ (λ m n. decoded_all older (drop m rs) (drop n ps)) (records_of-append a b) (places_of-append a b)
    ∙ ap₂ (decoded_all older) (sym (drop-drop (records_of b) (records_of a) rs)) (sym (drop-drop (places_of b) (places_of a) ps)))

pub joined_records : (ss : List Entries) → records_of_all (top_joined ss) ≡ records_of_all ss
joined_records [] = refl
joined_records (a ∷ []) = refl
joined_records (a ∷ b ∷ older) = let both = records_of-append a b in omega (arith, both)

pub joined_places : (ss : List Entries) → places_of_all (top_joined ss) ≡ places_of_all ss
joined_places [] = refl
joined_places (a ∷ []) = refl
joined_places (a ∷ b ∷ older) = let both = places_of-append a b in omega (arith, both)

pub two_open : (ss : List Entries) (rs : Records) (ps : Places) → TwoAreOpen (decoded_all ss rs ps) → TwoAreOpen ss
two_open [] rs ps two = absurd two
two_open (a ∷ []) rs ps two = absurd two
two_open (a ∷ b ∷ older) rs ps two = tt

-- One more

pub noted_decoded : (ss : List Entries) (n : ℕ) (e : Entry) (i : Inverse) (rs rs' : Records) (ps ps' : Places) → 0 < length ss
    → filled e rs' ps' ≡ i → drop (records_in e) rs' ≡ rs → drop (places_in e) ps' ≡ ps
    → decoded_all (noted (n, e) ss) rs' ps' ≡ noted (n, i) (decoded_all ss rs ps)
noted_decoded [] n e i rs rs' ps ps' some is left stay = absurd (omega (arith, some))
noted_decoded (es ∷ older) n e i rs rs' ps ps' some is left stay =
    ap₂ (λ p q. p ∷ q) (ap₂ (λ p q. (n, p) ∷ q) is (ap₂ (decoded es) left stay))
    (ap₂ (decoded_all older) (sym (drop-drop (records_of es) (records_in e) rs') ∙ ap (drop (records_of es)) left)
    (sym (drop-drop (places_of es) (places_in e) ps') ∙ ap (drop (places_of es)) stay))

pub noted_records : (ss : List Entries) (n : ℕ) (e : Entry) → 0 < length ss → records_of_all (noted (n, e) ss) ≡ records_in e + records_of_all ss
noted_records [] n e some = absurd (omega (arith, some))
noted_records (es ∷ older) n e some = omega arith

pub noted_places : (ss : List Entries) (n : ℕ) (e : Entry) → 0 < length ss → places_of_all (noted (n, e) ss) ≡ places_in e + places_of_all ss
noted_places [] n e some = absurd (omega (arith, some))
noted_places (es ∷ older) n e some = omega arith

-- The newest leaves

pub record Popped (ss : List Entries) (n : ℕ) (e : Entry) : Type 0 where
  pub records : records_of_all ss ≡ records_in e + records_of_all (without_entry ss)
  pub places : places_of_all ss ≡ places_in e + places_of_all (without_entry ss)
  pub newest : (rs : Records) (ps : Places) → Some (n, filled e rs ps) ≡ newest_entry (decoded_all ss rs ps)
  pub without : (rs : Records) (ps : Places)
      → decoded_all (without_entry ss) (drop (records_in e) rs) (drop (places_in e) ps) ≡ without_entry (decoded_all ss rs ps)

popped_at : (x : ℕ × Entry) (es : Entries) (older : List Entries) → Popped ((x ∷ es) ∷ older) x.0 x.1
popped_at x es older = record {
  records = omega arith;
  places = omega arith;
  newest = λ rs ps. refl;
  without = λ rs ps. ap (λ q. decoded es (drop (records_in x.1) rs) (drop (places_in x.1) ps) ∷ q)
      (ap₂ (decoded_all older) (drop-drop (records_of es) (records_in x.1) rs) (drop-drop (places_of es) (places_in x.1) ps));
}

some_is : {A : Type 0} (a b : A) → Some a ≡ Some b → b ≡ a
some_is a b same = grind (arith, same)

pub popped : (ss : List Entries) (n : ℕ) (e : Entry) → Some (n, e) ≡ newest_entry ss → Popped ss n e
popped [] n e is = absurd (grind (arith, is))
popped ([] ∷ older) n e is = absurd (grind (arith, is))
popped ((x ∷ es) ∷ older) n e is =
    subst (λ (y : ℕ × Entry). Popped ((x ∷ es) ∷ older) y.0 y.1) (some_is (n, e) x is) (popped_at x es older)

pub none_newest : (ss : List Entries) (rs : Records) (ps : Places) → None ≡ newest_entry ss
    → (None ≡ newest_entry (decoded_all ss rs ps)) × (decoded_all (without_entry ss) rs ps ≡ without_entry (decoded_all ss rs ps)) × (without_entry ss ≡ ss)
none_newest [] rs ps none = (refl, refl, refl)
none_newest ([] ∷ older) rs ps none = (refl, refl, refl)
none_newest ((x ∷ es) ∷ older) rs ps none = absurd (grind (arith, none))

-- The newest session ends

decoded_nil : (es : Entries) (rs : Records) (ps : Places) → decoded es rs ps ≡ [] → es ≡ []
decoded_nil [] rs ps none = refl
decoded_nil (e ∷ es) rs ps none = absurd (grind (arith, none))

pub newest_empty : (ss : List Entries) (rs : Records) (ps : Places) → NewestIsEmpty (decoded_all ss rs ps) → NewestIsEmpty ss
newest_empty [] rs ps empty = absurd empty
newest_empty (es ∷ older) rs ps empty = decoded_nil es rs ps empty

pub record Ended (ss : List Entries) : Type 0 where
  pub records : records_of_all (without_newest ss) ≡ records_of_all ss
  pub places : places_of_all (without_newest ss) ≡ places_of_all ss
  pub without : (rs : Records) (ps : Places) → decoded_all (without_newest ss) rs ps ≡ without_newest (decoded_all ss rs ps)

pub ended : (ss : List Entries) → NewestIsEmpty ss → Ended ss
ended [] empty = absurd empty
ended (es ∷ older) empty = subst (λ (q : Entries). Ended (q ∷ older)) (sym empty) (record {
  records = omega arith;
  places = omega arith;
  without = λ rs ps. refl;
})

-- At the oldest session

pub records_push : (ss : List Entries) (es : Entries) → records_of_all (ss ++ es ∷ []) ≡ records_of_all ss + records_of es
records_push [] es = omega arith
records_push (a ∷ ss) es = let rest = records_push ss es in omega (arith, rest)

pub places_push : (ss : List Entries) (es : Entries) → places_of_all (ss ++ es ∷ []) ≡ places_of_all ss + places_of es
places_push [] es = omega arith
places_push (a ∷ ss) es = let rest = places_push ss es in omega (arith, rest)

pub decoded_push : (ss : List Entries) (es : Entries) (rs : Records) (ps : Places)
    → decoded_all (ss ++ es ∷ []) rs ps ≡ decoded_all ss rs ps ++ decoded es (drop (records_of_all ss) rs) (drop (places_of_all ss) ps) ∷ []
decoded_push [] es rs ps = refl
decoded_push (a ∷ ss) es rs ps =
    ap (λ q. decoded a rs ps ∷ q) (decoded_push ss es (drop (records_of a) rs) (drop (places_of a) ps)
    ∙ ap₂ (λ p q. decoded_all ss (drop (records_of a) rs) (drop (places_of a) ps) ++ decoded es p q ∷ [])
    (drop-drop (records_of_all ss) (records_of a) rs) (drop-drop (places_of_all ss) (places_of a) ps))

pub oldest_empty : (ss : List Entries) (rs : Records) (ps : Places) → OldestIsEmpty (decoded_all ss rs ps) → OldestIsEmpty ss
oldest_empty [] rs ps empty =
    let long = ap length empty.1 ∙ length_push empty.0 [] in absurd (omega (arith, long))
oldest_empty (es ∷ []) rs ps empty =
    let last = same_from_push [] empty.0 (decoded es rs ps) [] empty.1 in
    ([], ap (λ q. q ∷ []) (decoded_nil es rs ps last.1))
oldest_empty (es ∷ f ∷ ss) rs ps ([], is) =
    let long = ap length is in absurd (omega (arith, long))
oldest_empty (es ∷ f ∷ ss) rs ps (n ∷ ns, is) =
    let rest = oldest_empty (f ∷ ss) (drop (records_of es) rs) (drop (places_of es) ps) (ns, ap (drop 1) is) in
    (es ∷ rest.0, ap (λ q. es ∷ q) rest.1)

-- what lies behind isn't read

placed_under : (ms : List Bool) (ps more : Places) → marked ms ≤ length ps → placed ms (ps ++ more) ≡ placed ms ps
placed_under [] ps more few = refl
placed_under (false ∷ ms) ps more few = ap (λ q. None ∷ q) (placed_under ms ps more few)
placed_under (true ∷ ms) [] more few = absurd (omega (arith, few))
placed_under (true ∷ ms) (p ∷ ps) more few = ap (λ q. option_map place_seen p ∷ q) (placed_under ms ps more (omega (arith, few)))

first_under : (rs more : Records) → 1 ≤ length rs → first_record (rs ++ more) ≡ first_record rs
first_under [] more some = absurd (omega (arith, some))
first_under (r ∷ rs) more some = refl

filled_under : (e : Entry) (rs more : Records) (ps others : Places) → records_in e ≤ length rs → places_in e ≤ length ps
    → filled e (rs ++ more) (ps ++ others) ≡ filled e rs ps
filled_under (entry.Inserted at id) rs more ps others one few = refl
filled_under (entry.Put at id ms) rs more ps others one few =
    ap₂ (λ v w. Put (row_at at id) (record { values = v; places = w })) (first_under rs more one) (placed_under ms ps others few)
filled_under (entry.Erased at id) rs more ps others one few = refl
filled_under (entry.Lost at id x e) rs more ps others one few = refl
filled_under (entry.StoodLast x at id) rs more ps others one few = refl
filled_under (entry.StoodBefore x at id by b) rs more ps others one few = refl
filled_under entry.Nothing rs more ps others one few = refl

decoded_under : (es : Entries) (rs more : Records) (ps others : Places) → records_of es ≤ length rs → places_of es ≤ length ps
    → decoded es (rs ++ more) (ps ++ others) ≡ decoded es rs ps
decoded_under [] rs more ps others one few = refl
decoded_under (e ∷ es) rs more ps others one few =
    let rest = length-drop (records_in e.1) rs in
    let left = length-drop (places_in e.1) ps in
    ap₂ (λ p q. (e.0, p) ∷ q) (filled_under e.1 rs more ps others (omega (arith, one)) (omega (arith, few)))
    (ap₂ (decoded es) (drop-append-le (records_in e.1) rs more (omega (arith, one))) (drop-append-le (places_in e.1) ps others (omega (arith, few)))
    ∙ decoded_under es (drop (records_in e.1) rs) more (drop (places_in e.1) ps) others (omega (arith, rest, one)) (omega (arith, left, few)))

decoded_all_under : (ss : List Entries) (rs more : Records) (ps others : Places) → records_of_all ss ≤ length rs → places_of_all ss ≤ length ps
    → decoded_all ss (rs ++ more) (ps ++ others) ≡ decoded_all ss rs ps
decoded_all_under [] rs more ps others one few = refl
decoded_all_under (es ∷ ss) rs more ps others one few =
    let rest = length-drop (records_of es) rs in
    let left = length-drop (places_of es) ps in
    ap₂ (λ p q. p ∷ q) (decoded_under es rs more ps others (omega (arith, one)) (omega (arith, few)))
    (ap₂ (decoded_all ss) (drop-append-le (records_of es) rs more (omega (arith, one))) (drop-append-le (places_of es) ps others (omega (arith, few)))
    ∙ decoded_all_under ss (drop (records_of es) rs) more (drop (places_of es) ps) others (omega (arith, rest, one)) (omega (arith, left, few)))

-- the oldest leaves

pub taken_records : (ss ss' : List Entries) (n : ℕ) (e : Entry) → TakesOldest (Some (n, e)) ss ss' → records_of_all ss ≡ records_of_all ss' + records_in e
taken_records ss ss' n e (newer, rest, was, is) =
    let before = ap records_of_all was ∙ records_push newer (rest ++ (n, e) ∷ []) in
    let after = ap records_of_all is ∙ records_push newer rest in
    let one = records_of-append rest ((n, e) ∷ []) in
    omega (arith, before, after, one)

pub taken_places : (ss ss' : List Entries) (n : ℕ) (e : Entry) → TakesOldest (Some (n, e)) ss ss' → places_of_all ss ≡ places_of_all ss' + places_in e
taken_places ss ss' n e (newer, rest, was, is) =
    let before = ap places_of_all was ∙ places_push newer (rest ++ (n, e) ∷ []) in
    let after = ap places_of_all is ∙ places_push newer rest in
    let one = places_of-append rest ((n, e) ∷ []) in
    omega (arith, before, after, one)

pub taken : (ss ss' : List Entries) (n : ℕ) (e : Entry) (i : Inverse) (rs more : Records) (ps others : Places) → TakesOldest (Some (n, e)) ss ss'
    → ((rs : Records) (ps : Places) → i ≡ to_settle (filled e rs ps)) → records_of_all ss' ≡ length rs → places_of_all ss' ≡ length ps
    → TakesToSettle (Some (n, i)) (decoded_all ss (rs ++ more) (ps ++ others)) (decoded_all ss' rs ps)
taken ss ss' n e i rs more ps others (newer, rest, was, is) settles records places =
    let k : ℕ = records_of_all newer in
    let m : ℕ = places_of_all newer in
    let all_records = ap records_of_all is ∙ records_push newer rest in
    let all_places = ap places_of_all is ∙ places_push newer rest in
    let less = length-drop k rs in
    let fewer = length-drop m ps in
    let left : Records = drop (records_of rest) (drop k (rs ++ more)) in
    let stay : Places = drop (places_of rest) (drop m (ps ++ others)) in
    let inner : decoded rest (drop k (rs ++ more)) (drop m (ps ++ others)) ≡ decoded rest (drop k rs) (drop m ps) =
    ap₂ (decoded rest) (drop-append-le k rs more (omega (arith, records, all_records))) (drop-append-le m ps others (omega (arith, places, all_places)))
    ∙ decoded_under rest (drop k rs) more (drop m ps) others (omega (arith, records, all_records, less)) (omega (arith, places, all_places, fewer)) in
    let outer : decoded_all newer (rs ++ more) (ps ++ others) ≡ decoded_all newer rs ps =
    decoded_all_under newer rs more ps others (omega (arith, records, all_records)) (omega (arith, places, all_places)) in (
      filled e left stay,
      settles left stay,
      (
        decoded_all newer rs ps,
        decoded rest (drop k rs) (drop m ps),
        ap (λ q. decoded_all q (rs ++ more) (ps ++ others)) was ∙ decoded_push newer (rest ++ (n, e) ∷ []) (rs ++ more) (ps ++ others)
            ∙ ap₂ (λ p q. p ++ q ∷ []) outer (decoded-append rest ((n, e) ∷ []) (drop k (rs ++ more)) (drop m (ps ++ others))
            ∙ ap (λ q. q ++ (n, filled e left stay) ∷ []) inner),
        ap (λ q. decoded_all q rs ps) is ∙ decoded_push newer rest rs ps,
      ),
    )

none_there : (ss : List Entries) (rs : Records) (ps : Places) → (ss ≡ []) ⊎ OldestIsEmpty ss
    → (decoded_all ss rs ps ≡ []) ⊎ OldestIsEmpty (decoded_all ss rs ps)
none_there ss rs ps (inl none) = inl (ap (λ q. decoded_all q rs ps) none)
none_there ss rs ps (inr empty) =
    inr (decoded_all empty.0 rs ps, ap (λ q. decoded_all q rs ps) empty.1 ∙ decoded_push empty.0 [] rs ps)

pub none_oldest : (ss ss' : List Entries) (rs : Records) (ps : Places) → TakesOldest {A = ℕ × Entry} None ss ss'
    → TakesOldest {A = ℕ × Inverse} None (decoded_all ss rs ps) (decoded_all ss' rs ps)
none_oldest ss ss' rs ps (same, none) = (ap (λ q. decoded_all q rs ps) same, none_there ss rs ps none)
