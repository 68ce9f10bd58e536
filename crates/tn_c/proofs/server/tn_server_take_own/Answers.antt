use Rattle.std.proofs.Common.{refl}
use Rattle.tn_c.specs.declared.parts.codes.Code.TheVariants.{Done}
use Rattle.tn_c.proofs.Calling.{server_called}
use Rattle.tn_c.proofs.server.tn_server_take_own.Goals as goal

pub returns-in-Server : goal.returns-in-Server
returns-in-Server c =
    server_called Done c.in-Server.server c.take_own.new.self c.in-Some.ensures.value c.deref_mut.ensures.value c.in-Server.is
    c.answer.ensures.held c.answer.ensures.number (record { done = refl; did = c.take_own.ensures })
