use Rattle.tn_c.proofs.Calling.{server_called}
use Rattle.tn_c.proofs.server.tn_server_say_own_sub.Goals as goal

pub returns-in-Server : goal.returns-in-Server
returns-in-Server c =
    server_called c.say_own_sub-code.result c.in-Server.server c.say_own_sub-code.new.self c.in-Some.ensures.value c.deref_mut.ensures.value c.in-Server.is
    c.answer.ensures.held c.answer.ensures.number c.say_own_sub-code.ensures
