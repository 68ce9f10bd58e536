use Rattle.std.proofs.Common.{◌≤◌, length, take}
use Rattle.std.specs.Io.KnownBytes.{Appends}
use Rattle.tn_cores.specs.streams.Sending.{StaysOpen}
use Rattle.tn_net.proofs.sending.send_whole.Given as goal

abbrev pub invariant-loop-write : goal.invariant-loop-write
invariant-loop-write g l =
    let contents = g.W.Drain.contents in
    (l.at ≤ length l.bytes) × Appends (contents l.fn.writer) (contents l.writer) (take l.at l.bytes)
    × StaysOpen (g.W.Drain.sending l.fn.writer) (g.W.Drain.sending l.writer)
