use Rattle.std.proofs.Common.{true, Ok, take}
use Rattle.tn_cli.proofs.Decoding.{decoded_none, decoded_more, decodes_some, on_err}
use Rattle.tn_cores.proofs.lemmas.streams.Telling.{made_none, made_more, read_stays, accounts_none, accounts_both}
use Rattle.tn_cores.specs.streams.Telling.{CountsRead}
use Rattle.tn_cli.proofs.decode.print_pieces.Goals as goal

pub loop-read-init : goal.loop-read-init
loop-read-init g c = record {
  decoded = decoded_none (g.R.Source.remaining c.args.reader.now) (g.W.Drain.contents c.args.writer.now) c.args.decoding.now c.requires;
  reads = made_none (g.R.Source.told c.args.reader.now);
  writes = accounts_none 18446744073709551615 (g.W.Drain.told c.args.writer.now);
}

pub loop-read-preserved : goal.loop-read-preserved
loop-read-preserved g c =
    let remaining = g.R.Source.remaining in
    let contents = g.W.Drain.contents in
    let piece = take c.in-Ok.count c.read_some.new.buf in
    let now = c.loop-read.invariant in
    record {
      decoded = decoded_more (remaining c.args.reader.now) (remaining c.loop-read.reader) (remaining c.read_some.new.self) (contents c.args.writer.now)
          (contents c.loop-read.writer) (contents c.print_piece.new.writer) piece c.loop-read.decoding c.print_piece.new.decoding now.decoded
          c.in-Ok.ensures.bytes.0 c.in_ok-print_piece.ensures.ok;
      reads = made_more (CountsRead (Ok c.in-Ok.count)) c.loop-read._read _ _ _ (read_stays c.in-Ok.count) now.reads c.in-Ok.ensures.tells;
      writes = accounts_both 18446744073709551615 true true _ _ _ now.writes c.in_ok-print_piece.ensures.accounts;
    }

pub returns-in_err-print_piece-clause-err : goal.returns-in_err-print_piece-clause-err
returns-in_err-print_piece-clause-err g c =
    let remaining = g.R.Source.remaining in
    let contents = g.W.Drain.contents in
    let piece = take c.in-Ok.count c.read_some.new.buf in
    on_err c.from_residual.result (decodes_some (remaining c.args.reader.now) (remaining c.loop-read.reader) (remaining c.read_some.new.self)
    (contents c.args.writer.now) (contents c.loop-read.writer)
    (contents c.print_piece.new.writer) piece c.loop-read.decoding c.loop-read.invariant.decoded c.in-Ok.ensures.bytes.0 c.in_err-print_piece.ensures.err)
