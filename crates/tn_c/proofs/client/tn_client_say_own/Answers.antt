use Rattle.tn_c.proofs.Calling.{client_called}
use Rattle.tn_c.proofs.client.tn_client_say_own.Goals as goal

pub returns-in-Client : goal.returns-in-Client
returns-in-Client c =
    client_called c.say_own-code.result c.in-Client.client c.say_own-code.new.self c.in-Some.ensures.value c.deref_mut.ensures.value c.in-Client.is
    c.answer.ensures.held c.answer.ensures.number c.say_own-code.ensures
