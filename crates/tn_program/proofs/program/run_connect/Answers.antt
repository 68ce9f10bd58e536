use Rattle.std.proofs.Common.{Bool, IfOk, List, ℕ, inl, inr, refl, subst}
use Rattle.tn_connect.specs.{Clients.{ConnectsBy, RunsClient, connection_of, foreseen, window_of}, declared.settings.KeySource.KeySource}
use Rattle.tn_net.specs.{network.{Asked.ReachesBy, Dialing.suits}, declared.network.dialing.Dialing.Dialing}
use Rattle.tn_program.proofs.{Origins.foreseen_as, ServicePorts.any_port}
use Rattle.tn_session.specs.Facts.{Window}
use Rattle.tn_cores.specs.streams.Known.{KnownTyping}
use Rattle.tn_program.proofs.program.run_connect.Goals as goal

pub returns-in_default : goal.returns-in_default
returns-in_default g c = (
  c.args.asked,
  refl,
  record {
    telnet = c.requires;
    port = 0;
    is_port = any_port c.args.asked.port 0 (c.port_of.ensures.unknown c.in_default.is);
    ran = tt;
    whole = tt;
    reached = inr (c.port_of.ensures.unknown c.in_default.is, refl);
    unwritten = λ other. refl;
  },
)

pub returns-in_default-open_trace : goal.returns-in_default-open_trace
returns-in_default-open_trace g c = (c.args.asked, refl, inl c.in_default-open_trace.ensures, refl)

pub returns-in_default-open_log : goal.returns-in_default-open_log
returns-in_default-open_log g c = (c.args.asked, refl, inr c.in_default-open_log.ensures, refl)

pub returns : goal.returns
returns g c = (
  c.args.asked,
  refl,
  record {
    telnet = c.requires;
    port = c.in-Some.port;
    is_port = c.in-Some.ensures.port;
    ran = subst (λ (w : Window). IfOk c.connect.result (λ r. RunsClient w (foreseen c.args.streams.origin c.args.asked.text (g.R.Read.remaining c.args.streams.reader))
        (g.W.Write.contents c.args.writer.now) (g.W.Write.contents c.connect.new.screen) r)) c.connecting_of-connecting.ensures.window
        (subst (λ (k : KnownTyping). IfOk c.connect.result (λ r. RunsClient (window_of c.connecting_of-connecting.result) k
        (g.W.Write.contents c.args.writer.now) (g.W.Write.contents c.connect.new.screen) r))
        (foreseen_as c.args.asked.characters c.args.streams.origin c.args.asked.text (g.R.Read.remaining c.args.streams.reader))
        (subst (λ (o : KeySource). IfOk c.connect.result (λ r. RunsClient (window_of c.connecting_of-connecting.result)
        (foreseen o c.args.asked.text (g.R.Read.remaining c.args.streams.reader)) (g.W.Write.contents c.args.writer.now)
        (g.W.Write.contents c.connect.new.screen) r))
        c.connecting_of-connecting.ensures.origin
        (subst (λ (b : Bool). IfOk c.connect.result (λ r. RunsClient (window_of c.connecting_of-connecting.result)
        (foreseen c.connecting_of-connecting.result.origin b (g.R.Read.remaining c.args.streams.reader)) (g.W.Write.contents c.args.writer.now)
        (g.W.Write.contents c.connect.new.screen) r))
        c.connecting_of-connecting.ensures.text c.connect.ensures.ran)));
    whole = c.connect.ensures.whole;
    reached = inl (subst (λ (host : List ℕ). ConnectsBy connection_of
        (ReachesBy (suits c.args.asked.dialing) (g.H.Network.finds c.args.rt host c.in-Some.port) (g.H.Network.dials c.args.rt)) c.connect.result)
        c.as_str-host.ensures.value
        (subst (λ (dialing : Dialing). ConnectsBy connection_of (ReachesBy (suits dialing)
        (g.H.Network.finds c.args.rt c.as_str-host.result.now c.in-Some.port) (g.H.Network.dials c.args.rt)) c.connect.result)
        c.connecting_of-connecting.ensures.dialing
        (subst (λ (port : ℕ). ConnectsBy connection_of (ReachesBy (suits c.connecting_of-connecting.result.dialing)
        (g.H.Network.finds c.args.rt c.as_str-host.result.now port) (g.H.Network.dials c.args.rt)) c.connect.result)
        c.connecting_of-connecting.ensures.port c.connect.ensures.reached)));
    unwritten = c.connect.ensures.unshown;
  },
)
