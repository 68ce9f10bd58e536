use Rattle.std.proofs.Common.{true}
use Rattle.tn_cli.specs.{Decode.Decoded, Streams.max_writes}
use Rattle.tn_cores.specs.streams.Telling.{AccountsFor, HasMade}
use Rattle.tn_cli.proofs.decode.print_pieces.Given as goal

-- the bytes that were read so far are printed
abbrev pub invariant-loop-read : goal.invariant-loop-read
invariant-loop-read g l =
    let remaining = g.R.Source.remaining in
    let contents = g.W.Drain.contents in
    record {
      decoded : Decoded (remaining l.fn.reader) (remaining l.reader) (contents l.fn.writer) (contents l.writer) l.decoding;
      reads : HasMade l._read (g.R.Source.told l.fn.reader) (g.R.Source.told l.reader);
      writes : AccountsFor max_writes true (g.W.Drain.told l.fn.writer) (g.W.Drain.told l.writer);
    }
