-- Lines that are read one after another, and what is left where they stand first.
-- Cited by `read::read_end`, `read::read_lists`, `read::read_rows`, `BaseLemmas` and `ImageLemmas`.
use Rattle.std.proofs.Common.{◌≡◌, ℕ, ◌+◌, ◌<◌, List, [], ◌∷◌, ◌++◌, map, length, Option, Some, None, Result, Err, refl, sym, ap, ◌∙◌, subst, arith, append_assoc}
use Rattle.std.specs.Prelude.{IfSome, IfErr}
use Rattle.std.specs.List.{AllByRecursion}
use Rattle.std.proofs.lemmas.List.{append-nil, length-append, map-append}
use Rattle.std.specs.declared.alloc.Global.{Global}
use Rattle.std.specs.declared.vec.Vec.{Vec}
use Rattle.sha2.specs.declared.Sha256.{Sha256}
use Rattle.serde_json.specs.Data.{Data}
use Rattle.mi_base.specs.declared.fault.BaseFault.{BaseFault}
use Rattle.mi_base.specs.Lines.{line_text, lines_text, IsPlain}
use Rattle.mi_base.specs.Base.{list_data}
use Rattle.mi_base.specs.Reads.{IsFormat, Reads}
use Rattle.mi_base.specs.Reader.{Takes}
use Rattle.mi_base.proofs.LineLemmas.{takes_none, takes_both}

pub at_some : (o : Option (List ℕ)) (t : List ℕ) (P : List ℕ → Type 0) → o ≡ Some t → IfSome o P → P t
at_some None t P e h = absurd (cc)
at_some (Some s) t P e h = let same : s ≡ t = cc in subst P same h

pub all_push : {A : Type 0} (P : A → Type 0) (xs : List A) (x : A) → AllByRecursion P xs → P x → AllByRecursion P (xs ++ x ∷ [])
all_push P [] x h k = (k, tt)
all_push P (y ∷ xs) x h k = (h.0, all_push P xs x h.1 k)

pub all_middle : {A : Type 0} (P : A → Type 0) (xs : List A) (x : A) (ys : List A) → AllByRecursion P (xs ++ x ∷ ys) → P x
all_middle P [] x ys h = h.0
all_middle P (y ∷ xs) x ys h = all_middle P xs x ys h.1

module _ {A : Type 0} (f : A → Data) (F : A → Type 0) (n : ℕ) where
  -- n lines, each of which fits
  abbrev pub AreLines : List A → Type 0
  AreLines xs = (length xs ≡ n) × (AllByRecursion F xs × AllByRecursion IsPlain (map f xs))

  -- where such lines stood first, these are the first of them, and the others are left
  abbrev pub Going : Option (List ℕ) → Option (List ℕ) → List A → Type 0
  Going old cur done = IfSome old (λ bytes. (xs : List A) (rest : List ℕ) → AreLines xs → bytes ≡ lines_text (map f xs) ++ rest
      → (more : List A) × ((xs ≡ done ++ more) × (cur ≡ Some (lines_text (map f more) ++ rest))))

  pub going_none : (old : Option (List ℕ)) → Going old old []
  going_none None = tt
  going_none (Some bytes) = λ xs rest are e. (xs, (refl, ap Some e))

  next_is : (xs done more : List A) → AreLines xs → xs ≡ done ++ more → length done < n → (y : A) × ((ys : List A) × (more ≡ y ∷ ys))
  next_is xs done [] are e l = let long = ap length e in let both = length-append done [] in let same = are.0 in absurd (omega (arith, long, both, same, l))
  next_is xs done (y ∷ ys) are e l = (y, (ys, refl))

  fits_at : (xs done : List A) (y : A) (ys : List A) → AreLines xs → xs ≡ done ++ y ∷ ys → F y × IsPlain (f y)
  fits_at xs done y ys are e = (
    all_middle F done y ys (subst (AllByRecursion F) e are.1.0),
    all_middle IsPlain (map f done) (f y) (map f ys) (subst (AllByRecursion IsPlain) (ap (map f) e ∙ map-append f done (y ∷ ys)) are.1.1),
  )

  pub going_more : (old b c : Option (List ℕ)) (done : List A) (x : A) → length done < n → Going old b done
      → IfSome b (λ bytes. (a : A) (rest : List ℕ) → F a × IsPlain (f a) → bytes ≡ line_text (f a) ++ rest → (x ≡ a) × (c ≡ Some rest))
      → Going old c (done ++ x ∷ [])
  going_more None b c done x l h one = tt
  going_more (Some bytes) b c done x l h one = λ xs rest are e.
      let g = h xs rest are e in
      let y = next_is xs done g.0 are g.1.0 l in
      let split : xs ≡ done ++ y.0 ∷ y.1.0 = g.1.0 ∙ ap (λ t. done ++ t) y.1.1 in
      let left : b ≡ Some (line_text (f y.0) ++ (lines_text (map f y.1.0) ++ rest)) =
      g.1.1 ∙ ap (λ t. Some (lines_text (map f t) ++ rest)) y.1.1
      ∙ ap Some (append_assoc (line_text (f y.0)) (lines_text (map f y.1.0)) rest) in
      let r = at_some b _ _ left one y.0 (lines_text (map f y.1.0) ++ rest) (fits_at xs done y.0 y.1.0 are split) refl in
      (y.1.0, (split ∙ ap (λ z. done ++ z ∷ y.1.0) (sym r.0) ∙ sym (append_assoc done (x ∷ []) y.1.0), r.1))

  pub going_fails : (old b : Option (List ℕ)) (done : List A) (q : BaseFault) → length done < n → Going old b done
      → IfSome b (λ bytes. (a : A) (rest : List ℕ) → F a × IsPlain (f a) → bytes ≡ line_text (f a) ++ rest → IsFormat q → ⊥)
      → IfSome old (λ bytes. (xs : List A) (rest : List ℕ) → AreLines xs → bytes ≡ lines_text (map f xs) ++ rest → IsFormat q → ⊥)
  going_fails None b done q l h one = tt
  going_fails (Some bytes) b done q l h one = λ xs rest are e.
      let g = h xs rest are e in
      let y = next_is xs done g.0 are g.1.0 l in
      let split : xs ≡ done ++ y.0 ∷ y.1.0 = g.1.0 ∙ ap (λ t. done ++ t) y.1.1 in
      let left : b ≡ Some (line_text (f y.0) ++ (lines_text (map f y.1.0) ++ rest)) =
      g.1.1 ∙ ap (λ t. Some (lines_text (map f t) ++ rest)) y.1.1
      ∙ ap Some (append_assoc (line_text (f y.0)) (lines_text (map f y.1.0)) rest) in
      at_some b _ _ left one y.0 (lines_text (map f y.1.0) ++ rest) (fits_at xs done y.0 y.1.0 are split) refl

  none_more : (xs done more : List A) → AreLines xs → xs ≡ done ++ more → length done ≡ n → more ≡ []
  none_more xs done [] are e l = refl
  none_more xs done (y ∷ ys) are e l =
      let long = ap length e in let both = length-append done (y ∷ ys) in let same = are.0 in absurd (omega (arith, long, both, same, l))

  pub going_ends : (old b : Option (List ℕ)) (done : List A) → length done ≡ n → Going old b done
      → IfSome old (λ bytes. (xs : List A) (rest : List ℕ) → AreLines xs → bytes ≡ lines_text (map f xs) ++ rest → (done ≡ xs) × (b ≡ Some rest))
  going_ends None b done l h = tt
  going_ends (Some bytes) b done l h = λ xs rest are e.
      let g = h xs rest are e in
      let none = none_more xs done g.0 are g.1.0 l in
      (sym (g.1.0 ∙ ap (λ t. done ++ t) none ∙ append-nil done), g.1.1 ∙ ap (λ t. Some (lines_text (map f t) ++ rest)) none)

  pub takes_more : (a b c : Option (List ℕ)) (d e g : Sha256) (done : List A) (x : A) → Takes a b d e (map f done) → Takes b c e g (f x ∷ [])
      → Takes a c d g (map f (done ++ x ∷ []))
  takes_more a b c d e g done x h k = subst (Takes a c d g) (sym (map-append f done (x ∷ []))) (takes_both a b c d e g (map f done) (f x ∷ []) h k)

  -- what holds of lines that were read
  pub record HasRead (old cur : Option (List ℕ)) (d e : Sha256) (i : ℕ) (done : List A) : Type 0 where
    pub takes : Takes old cur d e (map f done)
    pub count : length done ≡ i
    pub going : Going old cur done

  pub read_none : (old : Option (List ℕ)) (d : Sha256) → HasRead old old d d 0 []
  read_none old d = record { takes = takes_none old d; count = refl; going = going_none old }

  pub read_more : (a b c : Option (List ℕ)) (d e g : Sha256) (i : ℕ) (done : List A) (x : A) → i < n → HasRead a b d e i done
      → Takes b c e g (f x ∷ [])
      → IfSome b (λ bytes. (y : A) (rest : List ℕ) → F y × IsPlain (f y) → bytes ≡ line_text (f y) ++ rest → (x ≡ y) × (c ≡ Some rest))
      → HasRead a c d g (i + 1) (done ++ x ∷ [])
  read_more a b c d e g i done x l h k one =
      let same = h.count in let long = length-append done (x ∷ []) in
      record {
        takes = takes_more a b c d e g done x h.takes k;
        count = omega (arith, same, long);
        going = going_more a b c done x (omega (arith, same, l)) h.going one;
      }

  pub read_more_by : (a b c : Option (List ℕ)) (d e g : Sha256) (i : ℕ) (done : List A) (x : A) (new : List A) → new ≡ done ++ x ∷ [] → i < n
      → HasRead a b d e i done → Takes b c e g (f x ∷ [])
      → IfSome b (λ bytes. (y : A) (rest : List ℕ) → F y × IsPlain (f y) → bytes ≡ line_text (f y) ++ rest → (x ≡ y) × (c ≡ Some rest))
      → HasRead a c d g (i + 1) new
  read_more_by a b c d e g i done x new is l h k one = subst (HasRead a c d g (i + 1)) (sym is) (read_more a b c d e g i done x l h k one)

  pub read_fails : {B : Type 0} (Same : B → List A → Type 0) (old b : Option (List ℕ)) (d e : Sha256) (i : ℕ) (done : List A) (q : BaseFault)
      (later : Option (List ℕ)) (r : Result B BaseFault) → r ≡ Err q → i < n → HasRead old b d e i done
      → IfSome b (λ bytes. (a : A) (rest : List ℕ) → F a × IsPlain (f a) → bytes ≡ line_text (f a) ++ rest → IsFormat q → ⊥)
      → Reads (λ xs. lines_text (map f xs)) AreLines Same old later r
  read_fails Same old b d e i done q later r is l h one =
      subst (λ o. Reads (λ xs. lines_text (map f xs)) AreLines Same old later o) (sym is)
      (going_fails old b done q (let same = h.count in omega (arith, same, l)) h.going one)

pub all_push_by : {A : Type 0} (P : A → Type 0) (xs : List A) (x : A) (new : List A) → new ≡ xs ++ x ∷ [] → AllByRecursion P xs → P x → AllByRecursion P new
all_push_by P xs x new is h k = subst (AllByRecursion P) (sym is) (all_push P xs x h k)

pub items_push : (ls : List (Vec ℕ Global)) (l : Vec ℕ Global) (new : List (Vec ℕ Global)) → new ≡ ls ++ l ∷ []
    → map (λ x. x.items) new ≡ map (λ x. x.items) ls ++ l.items ∷ []
items_push ls l new is = ap (map (λ x. x.items)) is ∙ map-append (λ x. x.items) ls (l ∷ [])

-- a list needs to be no more than plain
pub list_reads : (b c : Option (List ℕ)) (x : List ℕ)
    → IfSome b (λ bytes. (y : List ℕ) (rest : List ℕ) → IsPlain (list_data y) → bytes ≡ line_text (list_data y) ++ rest → (x ≡ y) × (c ≡ Some rest))
    → IfSome b (λ bytes. (y : List ℕ) (rest : List ℕ) → Unit {0} × IsPlain (list_data y) → bytes ≡ line_text (list_data y) ++ rest → (x ≡ y) × (c ≡ Some rest))
list_reads None c x h = tt
list_reads (Some bytes) c x h = λ y rest fits e. h y rest fits.1 e

pub list_fails : (b : Option (List ℕ)) (q : BaseFault)
    → IfSome b (λ bytes. (y : List ℕ) (rest : List ℕ) → IsPlain (list_data y) → bytes ≡ line_text (list_data y) ++ rest → IsFormat q → ⊥)
    → IfSome b (λ bytes. (y : List ℕ) (rest : List ℕ) → Unit {0} × IsPlain (list_data y) → bytes ≡ line_text (list_data y) ++ rest → IsFormat q → ⊥)
list_fails None q h = tt
list_fails (Some bytes) q h = λ y rest fits e. h y rest fits.1 e

pub end_fails : {B : Type 0} (d : Data) (o : Option (List ℕ)) (q : BaseFault) (r : Result B BaseFault) → r ≡ Err q
    → IfSome o (λ bytes. (x : Data) (rest : List ℕ) → x ≡ d → bytes ≡ line_text x ++ rest → IsFormat q → ⊥)
    → IfErr r (λ e. IsFormat e → IfSome o (λ bytes. bytes ≡ line_text d → ⊥))
end_fails d o q r is h = subst (λ x. IfErr x (λ e. IsFormat e → IfSome o (λ bytes. bytes ≡ line_text d → ⊥))) (sym is) (λ f. by o h f)
  where
    by : (o : Option (List ℕ)) → IfSome o (λ bytes. (x : Data) (rest : List ℕ) → x ≡ d → bytes ≡ line_text x ++ rest → IsFormat q → ⊥)
        → IsFormat q → IfSome o (λ bytes. bytes ≡ line_text d → ⊥)
    by None h f = tt
    by (Some bytes) h f = λ e. h d [] refl (e ∙ sym (append-nil (line_text d))) f
