-- A piece without zeros is text.
use Rattle.std.proofs.Common.{◌≡◌, ◌+◌, length, sym, subst, arith}
use Rattle.std.specs.Prelude.{IfSome}
use Rattle.std.specs.Io.KnownBytes.{Consumes}
use Rattle.mi_recovery.specs.JournalFile.{text_of, from_byte}
use Rattle.mi_recovery.proofs.OpeningLemmas.{text_far, far_start, far_more, far_end, far_stop, weaker}
use Rattle.mi_recovery.proofs.journal_text.text_size.Goals as goal

pub pieces-init : goal.pieces-init
pieces-init g c = record { far = far_start _ }

pub pieces-preserved : goal.pieces-preserved
pieces-preserved g c =
    let o = g.F.Device.contents c.args.file.now in
    let at = c.pieces.at in
    let count = c.in-Ok.count in
    let piece = c.split_at.result.0.now in
    let read : Consumes (from_byte o at) (from_byte o (at + count)) piece =
    subst (Consumes (from_byte o at) (from_byte o (at + count))) (sym c.split_at.ensures.front) c.in-Ok.ensures.bytes.0 in record {
      far = subst (text_far o) (sym c.in_ok-at.ensures) (far_more o at count piece c.pieces.invariant.far read c.split_at.ensures.front_len (λ k lt e. c.in_default.ensures k (omega arith) lt e));
    }

pub returns-in-Some : goal.returns-in-Some
returns-in-Some g c =
    let o = g.F.Device.contents c.args.file.now in
    let at = c.pieces.at in
    let count = c.in-Ok.count in
    let piece = c.split_at.result.0.now in
    let read : Consumes (from_byte o at) (from_byte o (at + count)) piece =
    subst (Consumes (from_byte o at) (from_byte o (at + count))) (sym c.split_at.ensures.front) c.in-Ok.ensures.bytes.0 in
    weaker _ _ c.place_behind.result c.place_behind.ensures (λ place is.
    subst (λ n. IfSome o (λ bytes. n ≡ length (text_of bytes))) (sym is) (far_stop o at count c.in-Some.zero piece c.pieces.invariant.far read
    c.in-Some.ensures.0.high (λ k lt e. c.in-Some.ensures.0.before k (omega arith) lt e) c.in-Some.ensures.1))

pub returns-then-count-eq0 : goal.returns-then-count-eq0
returns-then-count-eq0 g c =
    far_end (g.F.Device.contents c.args.file.now) c.pieces.at c.pieces.invariant.far (c.in-Ok.ensures.bytes.1 c.if-count-eq0.true (omega (arith, c.pieces-test.array_long, c.read_at.auto.buffer)))
