use Rattle.std.proofs.Common.{◌≤◌}
use Rattle.tn_cli.proofs.Inputs.{HasKept}
use Rattle.tn_cli.specs.Streams.{max_input}
use Rattle.tn_cores.specs.streams.Telling.{HasMade}
use Rattle.tn_cli.proofs.streams.read_whole.Given as goal

abbrev pub invariant-loop-read : goal.invariant-loop-read
invariant-loop-read g l =
    let remaining = g.R.Source.remaining in
    record {
      kept : HasKept l.total (remaining l.fn.reader) (remaining l.reader) l.input.items;
      short : l.total ≤ max_input;
      made : HasMade l._read (g.R.Source.told l.fn.reader) (g.R.Source.told l.reader);
    }
