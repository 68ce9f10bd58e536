use Rattle.std.proofs.Common.{[]}
use Rattle.tn_nvt.specs.Machine.{Outside}
use Rattle.tn_nvt.proofs.{Cuts.rest_of, Runs.plain_run, Taking.{on_err, run_some, run_refused, refuses_first, takes_one, some_on, stops_on}}
use Rattle.tn_nvt.proofs.handing.hand_outside.Goals as goal

pub returns-in_err-run-clause-refused : goal.returns-in_err-run-clause-refused
returns-in_err-run-clause-refused g c =
    let xs = c.args.rest.now in
    let i = c.loop-at.at in
    let run = c.run_len-count.ensures in
    let refused = refuses_first g.S.Sink.takes g.S.Sink.gives_up _ [] _ _ c.in_err-run.ensures.err in
    on_err _ _ (stops_on g.S.Sink.takes g.S.Sink.gives_up Outside Outside xs i _ _ _ c.loop-at.invariant.handed
    (run_refused g.S.Sink.takes g.S.Sink.gives_up Outside [] (rest_of xs i) c.run_len-count.result _ _ tt run refused (plain_run _ run.plain)))

pub loop-at-preserved-then-is_plain : goal.loop-at-preserved-then-is_plain
loop-at-preserved-then-is_plain g c =
    let xs = c.args.rest.now in
    let i = c.loop-at.at in
    let run = c.run_len-count.ensures in
    let taken = takes_one g.S.Sink.takes g.S.Sink.gives_up _ _ _ c.in_ok-run.ensures.ok in
    let on = some_on g.S.Sink.takes g.S.Sink.gives_up Outside Outside Outside xs i c.run_len-count.result _ _ _ c.loop-at.invariant.within
    c.loop-at.invariant.handed
    (run_some g.S.Sink.takes g.S.Sink.gives_up Outside [] (rest_of xs i) c.run_len-count.result _ _ tt run taken (plain_run _ run.plain)) in
    record { within = on.within; handed = on.handed }

pub returns-in_err-next-clause-refused : goal.returns-in_err-next-clause-refused
returns-in_err-next-clause-refused g c =
    on_err _ _ (stops_on g.S.Sink.takes g.S.Sink.gives_up Outside Outside c.args.rest.now c.loop-at.at _ _ _ c.loop-at.invariant.handed
    c.in_err-next.ensures.refused)

pub loop-at-preserved : goal.loop-at-preserved
loop-at-preserved g c =
    let some = rw c.in-Outside.is at c.in_ok-next.ensures.ok in
    let on = some_on g.S.Sink.takes g.S.Sink.gives_up Outside Outside Outside c.args.rest.now c.loop-at.at c.in_ok-next.count _ _ _ c.loop-at.invariant.within
    c.loop-at.invariant.handed some in
    record { within = on.within; handed = on.handed }

pub returns-in_default : goal.returns-in_default
returns-in_default g c = record {
  ok = some_on g.S.Sink.takes g.S.Sink.gives_up Outside Outside _ c.args.rest.now c.loop-at.at c.in_ok-next.count _ _ _ c.loop-at.invariant.within
      c.loop-at.invariant.handed c.in_ok-next.ensures.ok;
  refused = tt;
}
