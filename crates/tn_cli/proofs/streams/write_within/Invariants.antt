use Rattle.std.proofs.Common.{◌≤◌, length, take}
use Rattle.std.specs.Io.KnownBytes.{Appends}
use Rattle.tn_cores.specs.streams.Telling.{HasMade}
use Rattle.tn_cli.proofs.streams.write_within.Given as goal

abbrev pub invariant-loop-write : goal.invariant-loop-write
invariant-loop-write g l =
    let contents = g.W.Drain.contents in
    record {
      within : l.written ≤ length l.output;
      appended : Appends (contents l.fn.writer) (contents l.writer) (take l.written l.output);
      made : HasMade l.write (g.W.Drain.told l.fn.writer) (g.W.Drain.told l.writer);
    }
