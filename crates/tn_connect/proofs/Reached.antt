-- A session ran over the connection that was asked for.
use Rattle.std.proofs.Common.{◌≡◌, ap, sym, ◌∙◌, subst, Result, Ok, Err, IfOk, IfErr}
use Rattle.std.specs.declared.{io.Error.Error, net.tcp.TcpStream.TcpStream}
use Rattle.tn_connect.specs.{Clients.NeedsConnection, Faults.IsToldAs, declared.fault.ConnectFault.ConnectFault}

pub ran_over : {A : Type 0} (over : A → TcpStream) (result : Result A ConnectFault) (reached : Result TcpStream Error) (stream : TcpStream)
    → reached ≡ Ok stream → IfOk result (λ ran. over ran ≡ stream) → NeedsConnection over result reached
ran_over over (Ok ran) reached stream e h = e ∙ ap Ok (sym h)
ran_over over (Err fault) reached stream e h = subst (λ r. IfErr r (λ error. IsToldAs error fault)) (sym e) tt
