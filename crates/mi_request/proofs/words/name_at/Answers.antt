-- The bytes in front of the quotation mark are the name, and so they are UTF-8.
use Rattle.std.proofs.Common.{◌≡◌, ◌∷◌, [], ℕ, List, None, Some, option_map, ap, sym, ◌∙◌, rules, refl}
use Rattle.mi_request.proofs.WordLemmas.{no_name, name_is, front_is_name}
use Rattle.mi_request.proofs.words.name_at.Goals as goal

pub returns-in_err-rest : goal.returns-in_err-rest
returns-in_err-rest c =
    let t = c.args.text.now in
    let quote : c.as_slice.result.now ≡ 34 ∷ [] = search rules in
    let none = no_name t c.as_slice.result.now _ c.name_end-end.result c.behind.result quote c.name_end-end.ensures.value refl c.behind.ensures c.in_err-rest.was in
    let nothing : c.from_residual.result ≡ None = search rules in
    ap (option_map {U = List ℕ × List ℕ} (λ p. (p.0, p.1.now))) nothing ∙ sym none

pub from_utf8_unchecked-name-requires : goal.from_utf8_unchecked-name-requires
from_utf8_unchecked-name-requires c = front_is_name c.args.text.now c.name_end-end.result c.name_end-end.ensures.value

pub returns : goal.returns
returns c =
    let t = c.args.text.now in
    let quote : c.as_slice.result.now ≡ 34 ∷ [] = search rules in
    let is = name_is t c.as_slice.result.now _ c.name_end-end.result c.behind.result quote c.name_end-end.ensures.value refl c.behind.ensures c.in_ok-rest.rest c.in_ok-rest.was in
    ap (λ s. Some (s, c.in_ok-rest.rest.now)) (c.new.ensures ∙ c.from_utf8_unchecked-name.ensures) ∙ sym is
