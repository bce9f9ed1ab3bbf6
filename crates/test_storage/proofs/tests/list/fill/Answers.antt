-- Three nodes come in, the second of them between the others.
use Rattle.std.proofs.Common.{[], ◌∷◌, ◌∙◌, refl}
use Rattle.mi_list.specs.Listed.{IsListed}
use Rattle.test_storage.proofs.tests.list.fill.Goals.{After-push_back-2}
use Rattle.test_storage.proofs.tests.list.fill.Goals as goal

module _ (c : After-push_back-2) where
  -- the first node and the third are in
  ends : IsListed c.push_back-2.new.self c.push_back-2.new.p (c.args.one ∷ c.args.three ∷ [])
  ends = c.push_back-2.ensures.list (c.args.one ∷ []) (c.push_back.ensures.list [] c.requires.listed tt) (c.requires.names.1, tt)

pub push_back-requires-clause-place : goal.push_back-requires-clause-place
push_back-requires-clause-place c = ([], c.requires.listed, tt)

pub push_back-requires-2-clause-held : goal.push_back-requires-2-clause-held
push_back-requires-2-clause-held c = (c.push_back.ensures.keeps [] c.requires.listed tt).refs c.args.three.name ∙ c.requires.held.2

pub push_back-requires-2-clause-place : goal.push_back-requires-2-clause-place
push_back-requires-2-clause-place c = (c.args.one ∷ [], c.push_back.ensures.list [] c.requires.listed tt, (c.requires.names.1, tt))

pub insert_before-requires-clause-held : goal.insert_before-requires-clause-held
insert_before-requires-clause-held c =
    let one = c.args.one in let out = c.requires.names.1 in
    (c.push_back-2.ensures.keeps (one ∷ []) (c.push_back.ensures.list [] c.requires.listed tt) (out, tt)).refs c.args.two.name
    ∙ (c.push_back.ensures.keeps [] c.requires.listed tt).refs c.args.two.name ∙ c.requires.held.1

pub insert_before-requires-clause-place : goal.insert_before-requires-clause-place
insert_before-requires-clause-place c =
    let ends = ends (goal.at.insert_before-requires-clause-place c).After-push_back-2 in
    (c.args.one ∷ [], c.args.three ∷ [], ends, (c.requires.names.0, (c.requires.names.2, tt)), refl)

pub returns : goal.returns
returns c =
    let ends = ends (goal.at.returns c).After-push_back-2 in
    c.insert_before.ensures.list (c.args.one ∷ []) (c.args.three ∷ []) ends (c.requires.names.0, (c.requires.names.2, tt)) refl
