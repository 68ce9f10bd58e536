use Rattle.std.proofs.Common.{refl}
use Rattle.tn_c.specs.declared.parts.codes.Code.TheVariants.{Done}
use Rattle.tn_c.proofs.Calling.{client_called}
use Rattle.tn_c.proofs.client.tn_client_own_parameters.Goals as goal

pub returns-in-Client : goal.returns-in-Client
returns-in-Client c =
    client_called Done c.in-Client.client c.in-Client.client c.in-Some.ensures.value c.deref_mut.ensures.value c.in-Client.is
    c.answer.ensures.held c.answer.ensures.number (record { done = refl; same = refl; found = c.parameters.ensures })
