use Rattle.std.proofs.Common.{◌≡◌}
use Rattle.crossbeam_channel.specs.{Claims.{view, IsSeatAt}, Ends.sends_on}
use Rattle.tn_session.specs.workers.{Credits.IsSeated, Stops.StopsStay}
use Rattle.tn_session.proofs.of_workers.Telling.{HasTold}
use Rattle.tn_cores.specs.streams.Known.{known_typing}
use Rattle.tn_session.proofs.workers.reader.run_reader.Given as goal

abbrev pub invariant-loop-read : goal.invariant-loop-read
invariant-loop-read g l =
    let known = known_typing g.Rd.Source.remaining g.Rd.Source.foretold g.Rd.Source.sizes g.Rd.Source.words g.Rd.Source.controls in
    IsSeatAt (sends_on l.seat.to) l.seat.pass
    × HasTold l.part.who (known l.fn.reader) (known l.reader) l._read l.fn.credits l.credits (view l.seat.pass)
    × IsSeated l.credits
    × StopsStay l.fn.stops l.stops
    × (l.seat.to ≡ l.fn.seat.to)
