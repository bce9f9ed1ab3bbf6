-- Keys for tests: all values have one key.
use Rattle.std.specs.Prelude.{ℕ, true, refl}
use Rattle.mi_chain.specs.Keying.{Keying, IsLawful}

abbrev pub one_keying : Keying ℕ
one_keying = record { hash = λ x. 5; hash_key = λ p. 5; same = λ x y. true; same_key = λ x p. true }

pub one_lawful : IsLawful one_keying
one_lawful = record {
  reflexive = λ x. refl;
  symmetric = λ x y e. refl;
  transitive = λ x y z e f. refl;
  one_hash = λ x y e. refl;
  agrees = λ x y p e h. refl;
  one_key = λ x y p g h. refl;
  probe_hash = λ x p h. refl;
}
