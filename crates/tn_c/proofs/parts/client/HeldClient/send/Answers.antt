use Rattle.std.proofs.Common.{refl}
use Rattle.tn_client.specs.{Calls.call_fault, Events.sent, declared.faults.ClientFault.TheVariants.Memory}
use Rattle.tn_c.proofs.of_parts.Refusing.{for_fault, call_acts, never_unknown}
use Rattle.tn_c.proofs.parts.client.HeldClient.send.Goals as goal

pub returns-clause-call : goal.returns-clause-call
returns-clause-call c =
    let told = c.send.ensures in
    let is = c.code_of.ensures in
    record {
      acts = call_acts (sent c.args.command) call_fault c.send.result c.code_of.result _ _ is told.step told.out told.failed told.err (λ _. refl) refl;
      memory = for_fault Memory c.send.result c.code_of.result is told.memory;
      shown = refl;
    }

pub returns-clause-known : goal.returns-clause-known
returns-clause-known c = (never_unknown c.send.result c.code_of.result c.code_of.ensures).1
