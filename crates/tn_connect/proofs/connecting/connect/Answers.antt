use Rattle.std.proofs.{Common.{ap, ◌∙◌}, lemmas.Result.IfOk-weaker}
use Rattle.std.specs.declared.{net.tcp.TcpStream.TcpStream, snapshot.Snapshot.Snapshot}
use Rattle.tn_connect.proofs.Reached.{ran_over}
use Rattle.tn_connect.specs.Clients.{connection_of}
use Rattle.tn_connect.proofs.connecting.connect.Goals as goal

pub returns-clause-reached : goal.returns-clause-reached
returns-clause-reached g c =
    let ended = c.result_of-ended in
    let ran = c.in_ok-talked.ensures.connection in
    let over = IfOk-weaker ended.result _ _ (λ r e. ap (λ (s : Snapshot TcpStream). s.value) e ∙ ran ∙ c.in_ok-opened.ensures.stream) ended.ensures.connection in
    (c.reach_by.result, c.reach_by.ensures.reaches, ran_over connection_of ended.result c.reach_by.result c.in_ok-stream.stream c.in_ok-stream.was over)
