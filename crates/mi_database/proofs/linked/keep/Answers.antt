-- one container settles, or the step is noted; the schemas stay
use Rattle.std.proofs.Common.{◌≡◌, ◌∙◌, ◌<◌, ℕ, List, [], ◌∷◌, map, length, set, refl, ap, sym, subst, arith}
use Rattle.std.proofs.lemmas.List.{map-set, nil_from_length}
use Rattle.mi_container.specs.Data.{Data}
use Rattle.mi_container.specs.Inverse.{Inverse, settled}
use Rattle.mi_container.specs.Fits.{KeptBy}
use Rattle.mi_container.specs.Backs.{step_seen}
use Rattle.mi_container.proofs.StepLemmas.{settles_alone}
use Rattle.mi_journal.specs.Noted.{noted}
use Rattle.mi_database.specs.Journal.{Journal}
use Rattle.mi_database.specs.LinkedData.{kept_datas}
use Rattle.mi_database.proofs.LinkedDataLemmas.{set_data, same_shapes, stays_at}
use Rattle.mi_database.proofs.linked.keep.Goals as goal

pub returns-then-depth-eq0-clause-datas : goal.returns-then-depth-eq0-clause-datas
returns-then-depth-eq0-clause-datas g c =
    let plain = g.C.Container.plain in
    let cs = c.args.containers.now in
    let within : c.args.table < length cs.items = subst (λ n. c.args.table < n) cs.ok.0 c.requires.table in
    let none : c.args.journal.now.sessions ≡ [] = nil_from_length c.args.journal.now.sessions (sym c.depth.ensures ∙ c.if-depth-eq0.true) in
    λ ps noted. map-set plain cs.items c.args.table c.settle.new.self
    ∙ ap (set (map plain cs.items) c.args.table) (c.settle.ensures.plain
    ∙ settles_alone c.args.step ps _
    ∙ ap (settled (step_seen c.args.step ps)) (sym (set_data plain cs.items c.args.table c.index_mut.result.now within c.index_mut.ensures.value)))
    ∙ ap (λ (j : Journal). kept_datas c.args.table (step_seen c.args.step ps) j (map plain cs.items)) (sym none)

pub returns-then-depth-eq0-clause-journal : goal.returns-then-depth-eq0-clause-journal
returns-then-depth-eq0-clause-journal g c =
    let none : c.args.journal.now.sessions ≡ [] = nil_from_length c.args.journal.now.sessions (sym c.depth.ensures ∙ c.if-depth-eq0.true) in
    λ ps noted_. none ∙ ap (λ (j : Journal). noted (c.args.table, step_seen c.args.step ps) j) (sym none)

pub settle-requires : goal.settle-requires
settle-requires g c =
    let plain = g.C.Container.plain in
    let cs = c.args.containers.now in
    let within : c.args.table < length cs.items = subst (λ n. c.args.table < n) cs.ok.0 c.requires.table in
    subst (KeptBy (step_seen c.args.step [])) (set_data plain cs.items c.args.table c.index_mut.result.now within c.index_mut.ensures.value) c.requires.kept

pub returns-then-depth-eq0-clause-shapes : goal.returns-then-depth-eq0-clause-shapes
returns-then-depth-eq0-clause-shapes g c =
    let cs = c.args.containers.now in
    let within : c.args.table < length cs.items = subst (λ n. c.args.table < n) cs.ok.0 c.requires.table in
    same_shapes g.C.Container.shape cs.items c.args.table c.index_mut.result.now c.settle.new.self within c.index_mut.ensures.value c.settle.ensures.shape

pub returns-then-depth-eq0-clause-secrets : goal.returns-then-depth-eq0-clause-secrets
returns-then-depth-eq0-clause-secrets g c =
    stays_at g.C.Container.secrets c.args.containers.now.items c.args.table c.index_mut.result.now c.settle.new.self
    c.index_mut.ensures.value c.settle.ensures.secrets

stays_noted : (j : Journal) (n : ℕ) (i : Inverse) (ds : List Data) → 0 < length j → ds ≡ kept_datas n i j ds
stays_noted [] n i ds some = absurd (omega (arith, some))
stays_noted (es ∷ older) n i ds some = refl

-- where a session is open the places laid down are its own
some_open : (j : Journal) → (length j ≡ 0 → ⊥) → 0 < length j
some_open [] none = absurd (none refl)
some_open (es ∷ older) none = omega arith

pub returns-else-depth-eq0-clause-datas : goal.returns-else-depth-eq0-clause-datas
returns-else-depth-eq0-clause-datas g c =
    let j = c.args.journal.now.sessions in
    let open_ = some_open j (λ none. c.if-depth-eq0.false (c.depth.ensures ∙ none)) in
    λ ps noted_. stays_noted j c.args.table (step_seen c.args.step ps) _ open_

pub returns-else-depth-eq0-clause-journal : goal.returns-else-depth-eq0-clause-journal
returns-else-depth-eq0-clause-journal g c =
    let j = c.args.journal.now.sessions in
    let open_ = some_open j (λ none. c.if-depth-eq0.false (c.depth.ensures ∙ none)) in
    λ ps noted_. c.note.ensures.sessions ∙ ap (λ qs. noted (c.args.table, step_seen c.args.step qs) j) (sym (noted_ open_))
