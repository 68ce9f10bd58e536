use Rattle.std.proofs.Common.{◌≡◌, ℕ, ◌+◌, List, Some, IfSome, arith, ap, subst, sym}
use Rattle.tn_connect.proofs.Heard.{heard_all}
use Rattle.tn_connect.specs.{Talks.HoldsTalk, Warnings.count_in}
use Rattle.tn_connect.proofs.talks.talk.Goals as goal

pub returns-clause-talked : goal.returns-clause-talked
returns-clause-talked g c =
    let logs = c.into_logs-typed.ensures in
    let ran = c.in_ok-over.ensures.talked c.args.plain.line_end c.is_terminal.result c.new-talk.ensures.begins in
    record {
      unsent = c.run.new.self.waiting;
      keys_left = g.K.Source.remaining c.run.new.keys;
      service = g.N.Source.remaining c.args.service;
      service_left = g.N.Source.remaining c.run.new.service;
      warned = Some (count_in c.args.ready.warned);
      warned_at_last = Some (count_in c.run.new.ready.warned);
      ran =
          rw (logs.typed, logs.heard, c.into_parts-told.ensures.log) (rw (c.is_terminal.ensures, c.new-writer.ensures.log) at ran);
      count = c.unsent-unsent.ensures;
      warnings = rw logs.heard (omega (arith, ap count_in c.take_warned.ensures, ran.warns, c.requires.unwarned));
    }

pub returns-clause-closed : goal.returns-clause-closed
returns-clause-closed g c = λ closed.
    let all = g.N.Source.remaining c.args.service in
    let talked = c.in_ok-over.ensures.talked c.args.plain.line_end c.is_terminal.result c.new-talk.ensures.begins in
    subst (λ (heard : List ℕ). IfSome all (λ bytes. heard ≡ bytes)) (sym c.into_logs-typed.ensures.heard)
    (heard_all all (g.N.Source.remaining c.run.new.service) _ talked.service (c.in_ok-over.ensures.closed closed))
