-- Tables that are read one behind another, and what a whole base is.
-- Cited by `read::read_tables`.
use Rattle.std.proofs.Common.{◌≡◌, ℕ, suc, ◌+◌, ◌<◌, List, [], ◌∷◌, ◌++◌, map, drop, length, get_or, Option, Some, None, Result, Err, refl, sym, ap, ◌∙◌, subst, arith, append_assoc}
use Rattle.std.specs.Prelude.{IfSome}
use Rattle.std.specs.List.{AllByRecursion, AllZip}
use Rattle.std.proofs.lemmas.List.{append-nil, length-append, map-append}
use Rattle.std.proofs.Math.Seq.{drop-cons}
use Rattle.sha2.specs.declared.Sha256.{Sha256}
use Rattle.mi_catalog.specs.Shape.{Shape}
use Rattle.mi_model.specs.Table.{Table}
use Rattle.mi_container.specs.declared.restore.TableImage.{TableImage}
use Rattle.mi_container.specs.Restore.{image_table}
use Rattle.mi_base.specs.declared.fault.BaseFault.{BaseFault}
use Rattle.mi_base.specs.Lines.{lines_text, IsPlain}
use Rattle.mi_base.specs.Base.{table_lines, tables_lines}
use Rattle.mi_base.specs.Reads.{IsRead, IsImage, IsFormat, Reads}
use Rattle.mi_base.specs.Reader.{Takes}
use Rattle.mi_base.proofs.LineLemmas.{lines_both, takes_none, takes_both}
use Rattle.mi_base.proofs.ReadLemmas.{at_some}
use Rattle.mi_base.proofs.TableLemmas.{tables_none, tables_more}
use Rattle.mi_base.proofs.ImageLemmas.{all_front, all_back, CanBe}

abbrev pub CanBeAll : List Shape → List Table → Type 0
CanBeAll ss ts = AllZip IsImage ss ts × AllByRecursion IsPlain (tables_lines ss ts)

-- where the images of tables stood first, these are the first of them, and the others are left
abbrev pub GoingOn : List Shape → Option (List ℕ) → Option (List ℕ) → List Shape → List Table → Type 0
GoingOn ss old cur left done = IfSome old (λ bytes. (ts : List Table) (rest : List ℕ) → CanBeAll ss ts → bytes ≡ lines_text (tables_lines ss ts) ++ rest
    → (more : List Table) × ((ts ≡ done ++ more) × (CanBeAll left more × (cur ≡ Some (lines_text (tables_lines left more) ++ rest)))))

going_begins : (ss : List Shape) (old : Option (List ℕ)) → GoingOn ss old old ss []
going_begins ss None = tt
going_begins ss (Some bytes) = λ ts rest can e. (ts, (refl, (can, ap Some e)))

one_left : (s : Shape) (left : List Shape) (more : List Table) → AllZip IsImage (s ∷ left) more → (t : Table) × ((ts : List Table) × (more ≡ t ∷ ts))
one_left s left [] h = absurd h
one_left s left (t ∷ ts) h = (t, (ts, refl))

going_on : (ss : List Shape) (old b c : Option (List ℕ)) (s : Shape) (left : List Shape) (done : List Table) (u : Table) → GoingOn ss old b (s ∷ left) done
    → IfSome b (λ bytes. (t : Table) (rest : List ℕ) → CanBe s t → bytes ≡ lines_text (table_lines s t) ++ rest → (u ≡ t) × (c ≡ Some rest))
    → GoingOn ss old c left (done ++ u ∷ [])
going_on ss None b c s left done u h one = tt
going_on ss (Some bytes) b c s left done u h one = λ ts rest can e.
    let g = h ts rest can e in
    let y = one_left s left g.0 g.1.1.0.0 in
    let both : CanBeAll (s ∷ left) (y.0 ∷ y.1.0) = subst (CanBeAll (s ∷ left)) y.1.1 g.1.1.0 in
    let at : b ≡ Some (lines_text (table_lines s y.0) ++ (lines_text (tables_lines left y.1.0) ++ rest)) =
    g.1.1.1 ∙ ap (λ t. Some (lines_text (tables_lines (s ∷ left) t) ++ rest)) y.1.1
    ∙ ap (λ x. Some (x ++ rest)) (lines_both (table_lines s y.0) (tables_lines left y.1.0))
    ∙ ap Some (append_assoc (lines_text (table_lines s y.0)) (lines_text (tables_lines left y.1.0)) rest) in
    let r = at_some b _ _ at one y.0 (lines_text (tables_lines left y.1.0) ++ rest)
    (both.0.0, all_front IsPlain (table_lines s y.0) (tables_lines left y.1.0) both.1) refl in (
      y.1.0,
      (
        g.1.0 ∙ ap (λ t. done ++ t) y.1.1 ∙ ap (λ z. done ++ z ∷ y.1.0) (sym r.0) ∙ sym (append_assoc done (u ∷ []) y.1.0),
        ((both.0.1, all_back IsPlain (table_lines s y.0) (tables_lines left y.1.0) both.1), r.1),
      ),
    )

going_wrong : (ss : List Shape) (old b : Option (List ℕ)) (s : Shape) (left : List Shape) (done : List Table) (q : BaseFault) → GoingOn ss old b (s ∷ left) done
    → IfSome b (λ bytes. (t : Table) (rest : List ℕ) → CanBe s t → bytes ≡ lines_text (table_lines s t) ++ rest → IsFormat q → ⊥)
    → IfSome old (λ bytes. (ts : List Table) (rest : List ℕ) → CanBeAll ss ts → bytes ≡ lines_text (tables_lines ss ts) ++ rest → IsFormat q → ⊥)
going_wrong ss None b s left done q h one = tt
going_wrong ss (Some bytes) b s left done q h one = λ ts rest can e.
    let g = h ts rest can e in
    let y = one_left s left g.0 g.1.1.0.0 in
    let both : CanBeAll (s ∷ left) (y.0 ∷ y.1.0) = subst (CanBeAll (s ∷ left)) y.1.1 g.1.1.0 in
    let at : b ≡ Some (lines_text (table_lines s y.0) ++ (lines_text (tables_lines left y.1.0) ++ rest)) =
    g.1.1.1 ∙ ap (λ t. Some (lines_text (tables_lines (s ∷ left) t) ++ rest)) y.1.1
    ∙ ap (λ x. Some (x ++ rest)) (lines_both (table_lines s y.0) (tables_lines left y.1.0))
    ∙ ap Some (append_assoc (lines_text (table_lines s y.0)) (lines_text (tables_lines left y.1.0)) rest) in
    at_some b _ _ at one y.0 (lines_text (tables_lines left y.1.0) ++ rest)
    (both.0.0, all_front IsPlain (table_lines s y.0) (tables_lines left y.1.0) both.1) refl

left_from : (ss : List Shape) (i : ℕ) (s0 : Shape) → i < length ss → drop i ss ≡ get_or ss i s0 ∷ drop (i + 1) ss
left_from ss i s0 l = let one : suc i ≡ i + 1 = omega arith in drop-cons ss i s0 l ∙ ap (λ n. get_or ss i s0 ∷ drop n ss) one

-- the first tables, as they were read
abbrev pub ReadFirst : List Shape → List Table → Type 0
ReadFirst ss [] = Unit {0}
ReadFirst [] (t ∷ ts) = ⊥
ReadFirst (s ∷ ss) (t ∷ ts) = IsRead s t × ReadFirst ss ts

first_push : (ss : List Shape) (ts : List Table) (s0 : Shape) (u : Table) → length ts < length ss → ReadFirst ss ts → IsRead (get_or ss (length ts) s0) u
    → ReadFirst ss (ts ++ u ∷ [])
first_push [] ts s0 u l h k = absurd (omega arith)
first_push (s ∷ ss) [] s0 u l h k = (k, tt)
first_push (s ∷ ss) (t ∷ ts) s0 u l h k = (h.0, first_push ss ts s0 u (omega arith) h.1 k)

pub first_all : (ss : List Shape) (ts : List Table) → length ts ≡ length ss → ReadFirst ss ts → AllZip IsRead ss ts
first_all [] [] e h = tt
first_all [] (t ∷ ts) e h = absurd h
first_all (s ∷ ss) [] e h = absurd (omega (arith, e))
first_all (s ∷ ss) (t ∷ ts) e h = (h.0, first_all ss ts (omega (arith, e)) h.1)

-- the tables so far were read
pub record ReadSo (ss : List Shape) (old cur : Option (List ℕ)) (d e : Sha256) (i : ℕ) (done : List Table) : Type 0 where
  pub takes : Takes old cur d e (tables_lines ss done)
  pub count : length done ≡ i
  pub fits : ReadFirst ss done
  pub going : GoingOn ss old cur (drop i ss) done

pub so_none : (ss : List Shape) (old : Option (List ℕ)) (d : Sha256) → ReadSo ss old old d d 0 []
so_none ss old d = record {
  takes = subst (Takes old old d d) (sym (tables_none ss)) (takes_none old d);
  count = refl;
  fits = tt;
  going = going_begins ss old;
}

pub so_begins : (ss : List Shape) (old : Option (List ℕ)) (d : Sha256) (done : List Table) → done ≡ [] → ReadSo ss old old d d 0 done
so_begins ss old d done is = subst (ReadSo ss old old d d 0) (sym is) (so_none ss old d)

pub so_more : (ss : List Shape) (a b c : Option (List ℕ)) (d e g : Sha256) (i : ℕ) (done : List Table) (s0 s : Shape) (u : Table) (new : List Table)
    → new ≡ done ++ u ∷ [] → i < length ss → s ≡ get_or ss i s0 → ReadSo ss a b d e i done → Takes b c e g (table_lines s u) → IsRead s u
    → IfSome b (λ bytes. (t : Table) (rest : List ℕ) → CanBe s t → bytes ≡ lines_text (table_lines s t) ++ rest → (u ≡ t) × (c ≡ Some rest))
    → ReadSo ss a c d g (i + 1) new
so_more ss a b c d e g i done s0 s u new is l at h k fit one = subst (ReadSo ss a c d g (i + 1)) (sym is) (record {
  takes = subst (Takes a c d g) (tables_more ss done s0 u (let same = h.count in omega (arith, same, l)))
      (takes_both a b c d e g (tables_lines ss done) (table_lines (get_or ss (length done) s0) u) h.takes
      (subst (λ x. Takes b c e g (table_lines x u)) (at ∙ ap (λ n. get_or ss n s0) (sym h.count)) k));
  count = let same = h.count in let long = length-append done (u ∷ []) in omega (arith, same, long);
  fits = first_push ss done s0 u (let same = h.count in omega (arith, same, l)) h.fits
      (subst (λ x. IsRead x u) (at ∙ ap (λ n. get_or ss n s0) (sym h.count)) fit);
  going = going_on ss a b c s (drop (i + 1) ss) done u (subst (λ x. GoingOn ss a b x done) split h.going) one;
})
  where
    split : drop i ss ≡ s ∷ drop (i + 1) ss
    split = left_from ss i s0 l ∙ ap (λ x. x ∷ drop (i + 1) ss) (sym at)

pub so_fails : {B : Type 0} (ss : List Shape) (Same : B → List Table → Type 0) (old b : Option (List ℕ)) (d e : Sha256) (i : ℕ) (done : List Table) (s0 s : Shape)
    (q : BaseFault) (later : Option (List ℕ)) (r : Result B BaseFault) → r ≡ Err q → i < length ss → s ≡ get_or ss i s0 → ReadSo ss old b d e i done
    → IfSome b (λ bytes. (t : Table) (rest : List ℕ) → CanBe s t → bytes ≡ lines_text (table_lines s t) ++ rest → IsFormat q → ⊥)
    → Reads (λ ts. lines_text (tables_lines ss ts)) (CanBeAll ss) Same old later r
so_fails ss Same old b d e i done s0 s q later r is l at h one =
    let split : drop i ss ≡ s ∷ drop (i + 1) ss = left_from ss i s0 l ∙ ap (λ x. x ∷ drop (i + 1) ss) (sym at) in
    subst (λ o. Reads (λ ts. lines_text (tables_lines ss ts)) (CanBeAll ss) Same old later o) (sym is)
    (going_wrong ss old b s (drop (i + 1) ss) done q (subst (λ x. GoingOn ss old b x done) split h.going) one)

none_left : (more : List Table) → AllZip IsImage [] more → more ≡ []
none_left [] h = refl
none_left (t ∷ ts) h = absurd h

pub so_ends : (ss : List Shape) (old b : Option (List ℕ)) (d e : Sha256) (i : ℕ) (done : List Table) → drop i ss ≡ [] → ReadSo ss old b d e i done
    → IfSome old (λ bytes. (ts : List Table) (rest : List ℕ) → CanBeAll ss ts → bytes ≡ lines_text (tables_lines ss ts) ++ rest → (done ≡ ts) × (b ≡ Some rest))
so_ends ss None b d e i done none h = tt
so_ends ss (Some bytes) b d e i done none h = λ ts rest can e.
    let g = h.going ts rest can e in
    let all : CanBeAll [] g.0 = subst (λ x. CanBeAll x g.0) none g.1.1.0 in
    let more = none_left g.0 all.0 in (
      sym (g.1.0 ∙ ap (λ t. done ++ t) more ∙ append-nil done),
      g.1.1.1 ∙ ap (λ x. Some (lines_text (tables_lines x g.0) ++ rest)) none,
    )

pub images_push : (is : List TableImage) (i : TableImage) (new : List TableImage) → new ≡ is ++ i ∷ [] → map image_table new ≡ map image_table is ++ image_table i ∷ []
images_push is i new e = ap (map image_table) e ∙ map-append image_table is (i ∷ [])
