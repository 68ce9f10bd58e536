use Rattle.std.proofs.Common.{Err, IfOk, List, Ok, subst, vec_items}
use Rattle.std.specs.declared.net.tcp.TcpListener.{TcpListener}
use Rattle.tn_net.specs.network.Asked.{Accepts}
use Rattle.tn_serve.specs.declared.served.Served.{Served}
use Rattle.tn_serve.proofs.Listeners.{fails_by}
use Rattle.tn_serve.proofs.serving.serve.Goals as goal

pub returns-in_err-listeners-clause-listened : goal.returns-in_err-listeners-clause-listened
returns-in_err-listeners-clause-listened g c =
    let error = c.in_err-listeners.field-0.0 in
    (Err error, c.in_err-listeners.ensures.refused, fails_by error c.from_residual.result c.from_residual.ensures.1)

pub returns-clause-listened : goal.returns-clause-listened
returns-clause-listened g c = (
  Ok (vec_items c.in_ok-listeners.listeners),
  c.in_ok-listeners.ensures.given,
  subst (λ (ls : List TcpListener). IfOk c.serve_as.result (λ (served : Served). Accepts (g.H.Network.shares c.args.rt) (g.H.Network.accepts c.args.rt) ls
      served.accepted)) c.deref.ensures.value c.serve_as.ensures.accepted,
)
