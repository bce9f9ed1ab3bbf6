-- What was read so far is done, its replies are written, and each turn read at least one byte.
use Rattle.std.proofs.Common.{◌≡◌, ◌∙◌, ◌++◌, [], false, ap, sym, refl, Ok, Err, length-append, arith, subst}
use Rattle.std.proofs.lemmas.Result.{err_from_is_err_and}
use Rattle.std.proofs.KnownBytes.{Appends-nil, Appends-trans, Consumes-nil, Consumes-trans}
use Rattle.mi_hub.specs.Watching.{has_failed, Writes}
use Rattle.mi_hub.proofs.WriteLemmas.{appends_no_more, consumes_no_more}
use Rattle.mi_hub.proofs.PieceLemmas.{piece_start, piece_more, still_attached, piece_close, piece_cut, cut_done, same_err}
use Rattle.mi_hub.proofs.TurnLemmas.{was_fed, was_ended, was_unread, was_unsent, unsent_at}
use Rattle.mi_hub.proofs.stream.serve_stream.Goals as goal

pub reads-init : goal.reads-init
reads-init g c = record {
  bytes = [];
  out = [];
  read = Consumes-nil _;
  written = Appends-nil _;
  done = piece_start _ _ c.requires c.keeps_limit.ensures;
  least = omega arith;
  reader_sound = refl;
  writer_sound = refl;
}

pub read_turn-requires-clause-attached : goal.read_turn-requires-clause-attached
read_turn-requires-clause-attached g c = still_attached _ _ _ _ _ c.reads.invariant.done

pub reads-preserved : goal.reads-preserved
reads-preserved g c =
    let before = c.reads.invariant in
    let turn = c.in_ok-read_turn.ensures.turn in
    let more = was_fed g.R.Read.remaining c.reads.reader c.read_turn.new.reader c.args.conn c.reads.hub
    c.read_turn.new.hub turn.1 turn.0 turn.2 (ap Ok (sym c.if-branch.true) ∙ turn.3) turn.4 turn.7 in
    record {
      bytes = before.bytes ++ more.0;
      out = before.out ++ turn.1;
      read = Consumes-trans _ _ _ _ _ before.read more.2;
      written = Appends-trans _ _ _ _ _ before.written turn.5;
      done = piece_more _ _ _ _ _ _ _ _ before.done more.3;
      least = omega (arith, length-append before.bytes more.0, before.least, more.1);
      reader_sound = c.in_ok-read_turn.ensures.sound.0 ∙ before.reader_sound;
      writer_sound = c.in_ok-read_turn.ensures.sound.1 ∙ before.writer_sound;
    }

pub returns-in_err-read_turn-clause-read : goal.returns-in_err-read_turn-clause-read
returns-in_err-read_turn-clause-read g c = λ is.
    let p = err_from_is_err_and c.from_residual.result c.from_residual.ensures.1 in
    let before = c.reads.invariant in
    let turn = c.in_err-read_turn.ensures.turn in
    let last = was_unread g.R.Read.remaining c.reads.reader c.read_turn.new.reader c.args.conn c.reads.hub c.read_turn.new.hub turn.1 turn.0 turn.2
    (sym (ap Err (sym p.2 ∙ same_err (sym p.1 ∙ is))) ∙ turn.3) turn.4 turn.7 in (
      before.bytes,
      before.out,
      consumes_no_more _ _ _ _ before.read last.0,
      appends_no_more _ _ _ _ before.written (subst (Writes g.W.Write.contents c.reads.writer c.read_turn.new.writer) last.2 turn.5),
      piece_cut c.args.conn before.bytes before.out c.args.hub.now c.reads.hub c.read_turn.new.hub before.done last.3,
    )

pub returns-in_err-read_turn-clause-read_failed : goal.returns-in_err-read_turn-clause-read_failed
returns-in_err-read_turn-clause-read_failed g c = λ is.
    let p = err_from_is_err_and c.from_residual.result c.from_residual.ensures.1 in
    let turn = c.in_err-read_turn.ensures.turn in
    let last = was_unread g.R.Read.remaining c.reads.reader c.read_turn.new.reader c.args.conn c.reads.hub c.read_turn.new.hub turn.1 turn.0 turn.2
    (sym (ap Err (sym p.2 ∙ same_err (sym p.1 ∙ is))) ∙ turn.3) turn.4 turn.7 in
    last.1

pub returns-in_err-read_turn-clause-write : goal.returns-in_err-read_turn-clause-write
returns-in_err-read_turn-clause-write g c = λ is.
    let p = err_from_is_err_and c.from_residual.result c.from_residual.ensures.1 in
    let before = c.reads.invariant in
    let turn = c.in_err-read_turn.ensures.turn in
    let last = was_unsent g.R.Read.remaining c.reads.reader c.read_turn.new.reader c.args.conn c.reads.hub c.read_turn.new.hub turn.1 turn.0 turn.2
    (sym (ap Err (sym p.2 ∙ same_err (sym p.1 ∙ is))) ∙ turn.3) turn.4 turn.7 (has_failed c.args.writer.now ≡ false) c.reads.writer
    c.read_turn.new.writer turn.6 (λ was. before.writer_sound ∙ was) in (
      before.bytes,
      last.0,
      before.out ++ turn.1,
      Consumes-trans _ _ _ _ _ before.read last.2,
      last.1,
      Appends-trans _ _ _ _ _ before.written turn.5,
      unsent_at c.args.conn before.bytes last.0 before.out turn.1 c.args.hub.now c.reads.hub c.read_turn.new.hub _ _ before.done last.3,
    )

pub returns-in_err-read_turn-clause-write_failed : goal.returns-in_err-read_turn-clause-write_failed
returns-in_err-read_turn-clause-write_failed g c = λ is.
    let p = err_from_is_err_and c.from_residual.result c.from_residual.ensures.1 in
    let failed = c.in_err-read_turn.ensures.write (ap Err (sym p.2 ∙ same_err (sym p.1 ∙ is))) in (failed.0, failed.1 ∙ c.reads.invariant.reader_sound)

pub returns-in-reads-clause-ok : goal.returns-in-reads-clause-ok
returns-in-reads-clause-ok g c =
    let before = c.reads.invariant in
    let turn = c.in_ok-read_turn.ensures.turn in
    let last = was_ended g.R.Read.remaining c.reads.reader c.read_turn.new.reader c.args.conn c.reads.hub
    c.read_turn.new.hub turn.1 turn.0 turn.2 (ap Ok (sym c.if-branch.false) ∙ turn.3) turn.4 turn.7 in (
      before.bytes,
      before.out ++ turn.1,
      consumes_no_more _ _ _ _ before.read last.0,
      last.1,
      Appends-trans _ _ _ _ _ before.written turn.5,
      piece_close c.args.conn before.bytes before.out turn.1 c.args.hub.now c.reads.hub c.read_turn.new.hub before.done last.2,
    )

pub returns-clause-turns : goal.returns-clause-turns
returns-clause-turns g c = λ _.
    let before = c.reads.invariant in
    let gone = cut_done _ _ _ _ c.cut.ensures.ok c.cut.ensures.not_attached c.cut.ensures.refused (still_attached _ _ _ _ _ before.done) in (
      before.bytes,
      before.out,
      before.read,
      omega (arith, c.reads-test.false, before.least),
      before.written,
      piece_cut c.args.conn before.bytes before.out c.args.hub.now c.reads.hub c.cut.new.self before.done gone,
    )
