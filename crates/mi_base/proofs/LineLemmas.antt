-- Lines one behind another, written and read.
-- Cited by `write::put_lists`, `write::put_rows`, `BaseLemmas`, `ImageLemmas`, `ReadLemmas` and 1 more.
use Rattle.std.proofs.Common.{◌≡◌, ℕ, ◌+◌, ◌<◌, List, [], ◌∷◌, ◌++◌, map, take, length, get_or, Option, Some, None, refl, sym, ap, ◌∙◌, subst, append_assoc}
use Rattle.std.proofs.lemmas.List.{append-nil, take_more, map-append}
use Rattle.std.specs.List.{AllByRecursion}
use Rattle.std.specs.Io.KnownBytes.{Appends, Consumes}
use Rattle.sha2.specs.Hashers.{Holds256}
use Rattle.sha2.specs.declared.Sha256.{Sha256}
use Rattle.serde_json.specs.Data.{Data}
use Rattle.mi_base.specs.Lines.{line_text, lines_text, IsPlain}
use Rattle.mi_base.specs.Writes.{Hashes, Puts}
use Rattle.mi_base.specs.Reader.{Takes}

pub lines_both : (xs ys : List Data) → lines_text (xs ++ ys) ≡ lines_text xs ++ lines_text ys
lines_both [] ys = refl
lines_both (d ∷ xs) ys = ap (λ t. line_text d ++ t) (lines_both xs ys) ∙ sym (append_assoc (line_text d) (lines_text xs) (lines_text ys))

all_both : {A : Type 0} (P : A → Type 0) (xs ys : List A) → AllByRecursion P xs → AllByRecursion P ys → AllByRecursion P (xs ++ ys)
all_both P [] ys h k = k
all_both P (x ∷ xs) ys h k = (h.0, all_both P xs ys h.1 k)

pub appends_both : (a b c : Option (List ℕ)) (x y : List ℕ) → Appends a b x → Appends b c y → Appends a c (x ++ y)
appends_both None b c x y h k = tt
appends_both (Some s) None c x y h k = absurd h
appends_both (Some s) (Some t) None x y h k = absurd k
appends_both (Some s) (Some t) (Some u) x y h k = k ∙ ap (λ w. w ++ y) h ∙ append_assoc s x y

pub consumes_both : (a b c : Option (List ℕ)) (x y : List ℕ) → Consumes a b x → Consumes b c y → Consumes a c (x ++ y)
consumes_both None b c x y h k = tt
consumes_both (Some s) None c x y h k = absurd h
consumes_both (Some s) (Some t) None x y h k = absurd k
consumes_both (Some s) (Some t) (Some u) x y h k = h ∙ ap (λ w. x ++ w) k ∙ sym (append_assoc x y u)

appends_none : (o : Option (List ℕ)) → Appends o o []
appends_none None = tt
appends_none (Some s) = sym (append-nil s)

consumes_none : (o : Option (List ℕ)) → Consumes o o []
consumes_none None = tt
consumes_none (Some s) = refl

hashes_none : (d : Sha256) → Hashes d d []
hashes_none d = λ m h. subst (Holds256 d) (sym (append-nil m)) h

pub hashes_both : (d e f : Sha256) (x y : List ℕ) → Hashes d e x → Hashes e f y → Hashes d f (x ++ y)
hashes_both d e f x y h k = λ m holds. subst (Holds256 f) (append_assoc m x y) (k (m ++ x) (h m holds))

-- what is written

pub puts_none : (o : Option (List ℕ)) (d : Sha256) → Puts o o d d []
puts_none o d = record { appended = appends_none o; hashed = hashes_none d; plain = tt }

pub puts_both : (a b c : Option (List ℕ)) (d e f : Sha256) (xs ys : List Data) → Puts a b d e xs → Puts b c e f ys → Puts a c d f (xs ++ ys)
puts_both a b c d e f xs ys h k = record {
  appended = subst (Appends a c) (sym (lines_both xs ys)) (appends_both a b c (lines_text xs) (lines_text ys) h.appended k.appended);
  hashed = subst (Hashes d f) (sym (lines_both xs ys)) (hashes_both d e f (lines_text xs) (lines_text ys) h.hashed k.hashed);
  plain = all_both IsPlain xs ys h.plain k.plain;
}

pub puts_one : (a b : Option (List ℕ)) (d e : Sha256) (x : Data) → Appends a b (line_text x) → Hashes d e (line_text x) → IsPlain x → Puts a b d e (x ∷ [])
puts_one a b d e x h k plain = record {
  appended = subst (Appends a b) (sym (append-nil (line_text x))) h;
  hashed = subst (Hashes d e) (sym (append-nil (line_text x))) k;
  plain = (plain, tt);
}

-- what is read

pub takes_none : (o : Option (List ℕ)) (d : Sha256) → Takes o o d d []
takes_none o d = record { consumed = consumes_none o; hashed = hashes_none d }

pub takes_both : (a b c : Option (List ℕ)) (d e f : Sha256) (xs ys : List Data) → Takes a b d e xs → Takes b c e f ys → Takes a c d f (xs ++ ys)
takes_both a b c d e f xs ys h k = record {
  consumed = subst (Consumes a c) (sym (lines_both xs ys)) (consumes_both a b c (lines_text xs) (lines_text ys) h.consumed k.consumed);
  hashed = subst (Hashes d f) (sym (lines_both xs ys)) (hashes_both d e f (lines_text xs) (lines_text ys) h.hashed k.hashed);
}

pub takes_one : (a b : Option (List ℕ)) (d e : Sha256) (x : Data) (line : List ℕ) → line ≡ line_text x → Consumes a b line → Hashes d e line
    → Takes a b d e (x ∷ [])
takes_one a b d e x line is h k =
    let same : line ≡ line_text x ++ [] = is ∙ sym (append-nil (line_text x)) in
    record { consumed = subst (Consumes a b) same h; hashed = subst (Hashes d e) same k }

one_more : {A : Type 0} (f : A → Data) (xs : List A) (i : ℕ) (x : A) → i < length xs → x ≡ get_or xs i x
    → map f (take i xs) ++ f x ∷ [] ≡ map f (take (i + 1) xs)
one_more f xs i x l is =
    sym (map-append f (take i xs) (x ∷ [])) ∙ ap (λ y. map f (take i xs ++ y ∷ [])) is ∙ ap (map f) (sym (take_more xs i x l))

pub puts_more : {A : Type 0} (f : A → Data) (xs : List A) (i : ℕ) (x : A) (a b c : Option (List ℕ)) (d e g : Sha256) → i < length xs → x ≡ get_or xs i x
    → Puts a b d e (map f (take i xs)) → Puts b c e g (f x ∷ []) → Puts a c d g (map f (take (i + 1) xs))
puts_more f xs i x a b c d e g l is h k = subst (Puts a c d g) (one_more f xs i x l is) (puts_both a b c d e g (map f (take i xs)) (f x ∷ []) h k)

pub puts_more_by : {A : Type 0} (f : A → Data) (xs : List A) (i : ℕ) (x : A) (y : Data) (a b c : Option (List ℕ)) (d e g : Sha256) → i < length xs
    → x ≡ get_or xs i x → y ≡ f x → Puts a b d e (map f (take i xs)) → Puts b c e g (y ∷ []) → Puts a c d g (map f (take (i + 1) xs))
puts_more_by f xs i x y a b c d e g l is same h k = puts_more f xs i x a b c d e g l is h (subst (λ z. Puts b c e g (z ∷ [])) same k)
