-- The files are those of the matches.
use Rattle.std.proofs.Common.{◌∙◌, codes, refl}
use Rattle.clap.specs.Words.{found_of}
use Rattle.clap.proofs.WalkLemmas.{first_value-rows}
use Rattle.mi_serving.proofs.WordsLemmas.{moved_by}
use Rattle.mi_serving.proofs.move_words.move_words.Goals as goal

pub returns-in-Some-Some : goal.returns-in-Some-Some
returns-in-Some-Some c =
    let m = found_of c.args.matches.now in
    moved_by _ _ _ _ _ (rw c.in-Some-Some.is-0 at c.in_ok-file.ensures ∙ c.get_str.ensures ∙ first_value-rows m (codes "rebase-to"))
    (rw c.in-Some-Some.is-1 at c.in_ok-schema.ensures ∙ c.get_str-2.ensures ∙ first_value-rows m (codes "new-schema")) (refl, refl)

pub returns-in-None-None : goal.returns-in-None-None
returns-in-None-None c =
    let m = found_of c.args.matches.now in
    moved_by _ _ _ _ _ (rw c.in-None-None.is-0 at c.in_ok-file.ensures ∙ c.get_str.ensures ∙ first_value-rows m (codes "rebase-to"))
    (rw c.in-None-None.is-1 at c.in_ok-schema.ensures ∙ c.get_str-2.ensures ∙ first_value-rows m (codes "new-schema")) refl
