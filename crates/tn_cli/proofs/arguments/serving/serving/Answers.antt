use Rattle.std.proofs.Common.{string_bytes, subst}
use Rattle.std.specs.List.{list_all}
use Rattle.tn_net.specs.network.Asked.{names_path}
use Rattle.tn_cli.specs.arguments.Ranges.{HasPort}
use Rattle.tn_cli.proofs.arguments.serving.serving.Goals as goal

pub returns : goal.returns
returns c = record {
  port = subst (λ hosts. HasPort (list_all (λ host. names_path (string_bytes host)) hosts) c.in_ok-socket.socket)
      c.deref.ensures.value c.in_ok-socket.ensures;
  limit = c.in-Some.ensures.limit;
  per_host = c.in-Some.ensures.per_host;
  count = c.in-Ok.ensures;
  ticks = c.in-Some.ensures.ticks;
  line = c.in-Some.ensures.line;
  idle = c.in-Some.ensures.idle;
  longest = c.in-Some.ensures.longest;
  drain = c.in-Some.ensures.drain;
  dial = c.in-Some.ensures.dial;
}
