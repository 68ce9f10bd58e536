use Rattle.std.proofs.Common.{refl}
use Rattle.tn_c.specs.declared.parts.codes.Code.TheVariants.{Done}
use Rattle.tn_c.proofs.Calling.{client_called}
use Rattle.tn_c.proofs.client.tn_client_take_own.Goals as goal

pub returns-in-Client : goal.returns-in-Client
returns-in-Client c =
    client_called Done c.in-Client.client c.take_own.new.self c.in-Some.ensures.value c.deref_mut.ensures.value c.in-Client.is
    c.answer.ensures.held c.answer.ensures.number (record { done = refl; did = c.take_own.ensures })
