-- The segment that a journal goes on in.
-- Cited by `rolling::next_log` and `rolling::roll`.
use Rattle.std.proofs.Common.{◌≡◌, ◌≤◌, ◌+◌, ◌⊎◌, inr, ℕ, List, length, Option, Some, None, Result, Ok, Err, refl, sym, subst}
use Rattle.std.specs.Prelude.{IfOk, IfSome, OnOk}
use Rattle.std.specs.String.{string_bytes}
use Rattle.mi_log.specs.declared.device_log.DeviceLog.{DeviceLog}
use Rattle.mi_log.specs.DeviceLog.{device_of, segment_of}
use Rattle.mi_recovery.specs.declared.device.JournalDevice.{JournalDevice}
use Rattle.mi_recovery.specs.declared.device.Keeping.{Keeping}
use Rattle.mi_recovery.specs.declared.place.JournalSchema.{JournalSchema}
use Rattle.mi_recovery.specs.declared.place.Place.{Place}
use Rattle.mi_recovery.specs.Device.{told_of}
use Rattle.mi_recovery.specs.JournalFile.{text_of}
use Rattle.mi_recovery.specs.Segments.{IsBegunWith, IsNext, IsRolled, hash_of, segment_header_of}

-- the header of a place behind a segment of this number
pub header_next : (told : Option (List ℕ)) (schema : JournalSchema) (n : ℕ) (next : Place) → next.number ≡ n + 1
    → IfSome told (λ bytes. (p : Place) → p.number ≡ n → IsNext schema p (text_of bytes) next)
    → IfSome told (λ bytes. string_bytes next.header ≡ segment_header_of (hash_of (text_of bytes)) schema.revision (string_bytes schema.hash) (n + 1))
header_next None schema n next is q = tt
header_next (Some bytes) schema n next is q =
    subst (λ k. string_bytes next.header ≡ segment_header_of (hash_of (text_of bytes)) schema.revision (string_bytes schema.hash) k) is
    (q (record next { number = n }) refl).2

-- what is said of a place, and of what comes behind it
pub ok_at : {X E : Type 0} (A : Place → Type 0) (B : Place → X → Type 0) (r : Result X E) (place : Place) → A place → IfOk r (B place)
    → IfOk r (λ x. (p : Place) × A p × B p x)
ok_at A B (Ok x) place a b = (place, a, b)
ok_at A B (Err e) place a b = tt

module _ {F X E : Type 0} (is_locked : F → Type 0) (contents : F → Option (List ℕ)) (schema : JournalSchema) (keeping : Keeping) (most number : ℕ) where
  -- a log that was long enough, and the one that goes on behind it
  pub rolls : (same : Type 0) (r : Result X E) (old asked given next new : DeviceLog (JournalDevice F)) → asked ≡ old → given ≡ old
      → (segment_of asked ≡ Some number) × IfSome (told_of contents (device_of asked)) (λ bytes. most ≤ length bytes)
      → (place : Place) × IfSome (told_of contents (device_of given)) (λ bytes. string_bytes place.header
      ≡ segment_header_of (hash_of (text_of bytes)) schema.revision (string_bytes schema.hash) (number + 1))
      × IsBegunWith is_locked contents keeping (string_bytes place.header) (told_of contents (device_of next))
      → segment_of next ≡ Some (number + 1) → OnOk r (new ≡ next)
      → OnOk r (same ⊎ IsRolled is_locked contents schema keeping most (segment_of old) (told_of contents (device_of old)) (segment_of new)
      (told_of contents (device_of new)))
  rolls same (Ok x) old asked given next new p q due begins numbered is =
      inr (subst (λ l. IsRolled is_locked contents schema keeping most (segment_of old) (told_of contents (device_of old)) (segment_of l)
      (told_of contents (device_of l))) (sym is) record {
        next = begins.0;
        number = number;
        was = subst (λ l. segment_of l ≡ Some number) p due.0;
        is = numbered;
        long = subst (λ l. IfSome (told_of contents (device_of l)) (λ bytes. most ≤ length bytes)) p due.1;
        sum = subst (λ l. IfSome (told_of contents (device_of l)) (λ bytes. string_bytes begins.0.header
            ≡ segment_header_of (hash_of (text_of bytes)) schema.revision (string_bytes schema.hash) (number + 1))) q begins.1;
        begins = begins.2;
      })
  rolls same (Err e) old asked given next new p q due begins numbered is = tt
