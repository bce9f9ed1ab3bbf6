-- A line that is known is that of one list alone.
-- Cited by `read::read_list`.
use Rattle.std.proofs.Common.{◌≡◌, ℕ, List, [], ◌∷◌, ◌++◌, map, length, Option, Some, None, refl, sym, ap, ◌∙◌, arith}
use Rattle.std.specs.Prelude.{IfSome}
use Rattle.std.proofs.lemmas.List.{length-append}
use Rattle.serde_json.specs.Data.{Data}
use Rattle.serde_json.specs.Read.{read}
use Rattle.serde_json.specs.View.{items_of}
use Rattle.serde_json.specs.Written.{compact_text}
use Rattle.mi_base.specs.Lines.{line_text, IsPlain}
use Rattle.mi_base.specs.Base.{id_data, list_data}
use Rattle.mi_base.proofs.ArrayLemmas.{items_injective}

abbrev newline : List ℕ
newline = 10 ∷ []

without_end : (xs ys : List ℕ) → xs ++ newline ≡ ys ++ newline → xs ≡ ys
without_end [] [] h = refl
without_end [] (y ∷ ys) h =
    let n = ap (λ (q : List ℕ). length q) h in
    let m = length-append (y ∷ ys) newline in absurd (omega (arith, n, m))
without_end (x ∷ xs) [] h =
    let n = ap (λ (q : List ℕ). length q) h in
    let m = length-append (x ∷ xs) newline in absurd (omega (arith, n, m))
without_end (x ∷ xs) (y ∷ ys) h =
    let head : x ≡ y = cc in
    let tail : xs ++ newline ≡ ys ++ newline = cc in
    ap (λ t. x ∷ t) (without_end xs ys tail) ∙ ap (λ z. z ∷ ys) head

ids_alike : (xs ys : List ℕ) → map id_data xs ≡ map id_data ys → xs ≡ ys
ids_alike [] [] h = refl
ids_alike [] (y ∷ ys) h = absurd (cc)
ids_alike (x ∷ xs) [] h = absurd (cc)
ids_alike (x ∷ xs) (y ∷ ys) h =
    let head : x ≡ y = cc in
    let tail : map id_data xs ≡ map id_data ys = cc in
    ap (λ t. x ∷ t) (ids_alike xs ys tail) ∙ ap (λ z. z ∷ ys) head

data_alike : (xs ys : List ℕ) → list_data xs ≡ list_data ys → xs ≡ ys
unfolding list_data
data_alike xs ys h =
    let items : items_of (map id_data xs) ≡ items_of (map id_data ys) = cc in
    ids_alike xs ys (items_injective (map id_data xs) (map id_data ys) items)

some_alike : (d e : Data) → Some d ≡ Some e → d ≡ e
some_alike d e h = cc

lists_alike : (xs ys : List ℕ) → IsPlain (list_data xs) → IsPlain (list_data ys) → line_text (list_data xs) ≡ line_text (list_data ys) → xs ≡ ys
lists_alike xs ys p q h =
    data_alike xs ys (some_alike (list_data xs) (list_data ys)
    (sym p.reads ∙ ap read (without_end (compact_text (list_data xs)) (compact_text (list_data ys)) h) ∙ q.reads))

-- where a list stands first and its line is the known one, it is the known list
pub known_list : (old mid new : Option (List ℕ)) (last ids v : List ℕ) → IsPlain (list_data ids) → last ≡ line_text (list_data ids) → v ≡ ids → new ≡ mid
    → IfSome old (λ bytes. (d : Data) (rest : List ℕ) → Unit {0} → bytes ≡ line_text d ++ rest → (last ≡ line_text d) × (mid ≡ Some rest))
    → IfSome old (λ bytes. (a : List ℕ) (rest : List ℕ) → IsPlain (list_data a) → bytes ≡ line_text (list_data a) ++ rest → (v ≡ a) × (new ≡ Some rest))
known_list None mid new last ids v plain is copy same h = tt
known_list (Some bytes) mid new last ids v plain is copy same h = λ a rest can e.
    let g = h (list_data a) rest tt e in
    (copy ∙ lists_alike ids a plain can (sym is ∙ g.0), same ∙ g.1)
