-- those of the tables so far
use Rattle.std.proofs.Common.{◌≡◌, [], map, take}
use Rattle.mi_container.specs.Changes.{opened_data}
use Rattle.mi_container.specs.Secrets.{opened_secrets}
use Rattle.mi_database.proofs.linked.open_containers.Given as goal

abbrev pub invariant-loop-i : goal.invariant-loop-i
invariant-loop-i g l = (map g.C.Container.shape l.new.items ≡ take l.i l.catalog.tables)
    × (map g.C.Container.plain l.new.items ≡ map opened_data (take l.i l.catalog.tables))
    × (map g.C.Container.held l.new.items ≡ map (λ _. []) (take l.i l.catalog.tables))
    × (map g.C.Container.secrets l.new.items ≡ map (opened_secrets l.secret) (take l.i l.catalog.tables))
