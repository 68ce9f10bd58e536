use Rattle.std.proofs.Common.{refl}
use Rattle.tn_c.specs.declared.parts.codes.Code.TheVariants.{Done}
use Rattle.tn_c.proofs.Calling.{server_called}
use Rattle.tn_c.proofs.server.tn_server_own_parameters.Goals as goal

pub returns-in-Server : goal.returns-in-Server
returns-in-Server c =
    server_called Done c.in-Server.server c.in-Server.server c.in-Some.ensures.value c.deref_mut.ensures.value c.in-Server.is
    c.answer.ensures.held c.answer.ensures.number (record { done = refl; same = refl; found = c.parameters.ensures })
