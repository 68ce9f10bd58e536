use Rattle.std.proofs.Common.{inl, IfOk, List, ℕ, inr, refl, subst}
use Rattle.tn_connect.specs.{Clients.ConnectsBy, Talks.{RunsTalk, talked_over}, declared.settings.KeySource.KeySource}
use Rattle.tn_lines.specs.declared.line_ends.LineEnd.{LineEnd}
use Rattle.tn_net.specs.network.{Asked.ReachesBy, Dialing.suits}
use Rattle.tn_program.specs.Settings.{origin_as}
use Rattle.tn_program.proofs.ServicePorts.{any_port}
use Rattle.tn_program.proofs.program.run_plain.Goals as goal

pub returns-in_default : goal.returns-in_default
returns-in_default g c = (
  c.args.asked.now,
  refl,
  record {
    line_end = c.args.line_end;
    plain = c.requires;
    port = 0;
    is_port = any_port c.args.asked.now.port 0 (c.port_of.ensures.unknown c.in_default.is);
    ran = tt;
    reached = inr (c.port_of.ensures.unknown c.in_default.is, refl);
  },
)

pub returns-in_default-open_trace : goal.returns-in_default-open_trace
returns-in_default-open_trace g c = (c.args.asked.now, refl, inl c.in_default-open_trace.ensures, refl)

pub returns-in_default-open_log : goal.returns-in_default-open_log
returns-in_default-open_log g c = (c.args.asked.now, refl, inr c.in_default-open_log.ensures, refl)

pub returns : goal.returns
returns g c = (
  c.args.asked.now,
  refl,
  record {
    line_end = c.args.line_end;
    plain = c.requires;
    port = c.in-Some.port;
    is_port = c.in-Some.ensures.port;
    ran =
        subst (λ (e : LineEnd). IfOk c.connect_plain.result (RunsTalk e (origin_as c.args.asked.now.characters c.args.streams.origin)
        (g.R.Read.remaining c.args.streams.reader) (g.W.Write.contents c.args.writer.now) (g.W.Write.contents c.connect_plain.new.screen)))
        c.plain_of-plain.ensures.line_end
        (subst (λ (o : KeySource). IfOk c.connect_plain.result (RunsTalk c.plain_of-plain.result.line_end o
        (g.R.Read.remaining c.args.streams.reader) (g.W.Write.contents c.args.writer.now) (g.W.Write.contents c.connect_plain.new.screen)))
        c.plain_of-plain.ensures.origin c.connect_plain.ensures.talked);
    reached = inl
        (subst (λ (host : List ℕ). ConnectsBy talked_over
        (ReachesBy (suits c.args.asked.now.dialing) (g.H.Network.finds c.args.rt host c.in-Some.port) (g.H.Network.dials c.args.rt))
        c.connect_plain.result) c.as_str-host.ensures.value
        (rw (c.plain_of-plain.ensures.dialing, c.plain_of-plain.ensures.port) at c.connect_plain.ensures.reached));
  },
)
