-- What a step says is the same whatever places stand beside it: which node it keeps, and how it is settled.
-- Cited by `mi_bench` and `mi_database`.
use Rattle.std.proofs.Common.{◌≡◌, Option, List, [], refl}
use Rattle.mi_container.specs.Data.{Data}
use Rattle.mi_container.specs.Inverse.{OldPlace, settled, lost_to}
use Rattle.mi_container.specs.Fits.{KeptBy}
use Rattle.mi_container.specs.Backs.{step_seen, lost_by}
use Rattle.mi_container.specs.declared.inverse.Step.{Step}
use Rattle.mi_container.specs.declared.inverse.Step.TheVariants as step

pub kept_alone : (k : Step) (ps : List (Option OldPlace)) (d : Data) → KeptBy (step_seen k ps) d → KeptBy (step_seen k []) d
kept_alone (step.Inserted r) ps d h = h
kept_alone (step.Put r v) ps d h = h
kept_alone (step.Erased r why) ps d h = h
kept_alone (step.Relocated x r b) ps d h = h
kept_alone step.Nothing ps d h = h

pub settles_alone : (k : Step) (ps : List (Option OldPlace)) (d : Data) → settled (step_seen k []) d ≡ settled (step_seen k ps) d
settles_alone (step.Inserted r) ps d = refl
settles_alone (step.Put r v) ps d = refl
settles_alone (step.Erased r why) ps d = refl
settles_alone (step.Relocated x r b) ps d = refl
settles_alone step.Nothing ps d = refl

pub lost_alone : (k : Step) (ps : List (Option OldPlace)) → lost_to (step_seen k ps) ≡ lost_by k
lost_alone (step.Inserted r) ps = refl
lost_alone (step.Put r v) ps = refl
lost_alone (step.Erased r why) ps = refl
lost_alone (step.Relocated x r b) ps = refl
lost_alone step.Nothing ps = refl
