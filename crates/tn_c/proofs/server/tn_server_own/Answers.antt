use Rattle.tn_c.proofs.Calling.{server_called}
use Rattle.tn_c.proofs.server.tn_server_own.Goals as goal

pub returns-in-Server : goal.returns-in-Server
returns-in-Server c =
    server_called c.own-code.result c.in-Server.server c.own-code.new.self c.in-Some.ensures.value c.deref_mut.ensures.value c.in-Server.is
    c.answer.ensures.held c.answer.ensures.number c.own-code.ensures
