use Rattle.std.proofs.Common.{refl}
use Rattle.tn_client.specs.{Calls.call_fault, Events.resized, declared.faults.ClientFault.TheVariants.Memory}
use Rattle.tn_c.proofs.of_parts.Refusing.{for_fault, call_acts}
use Rattle.tn_c.proofs.parts.client.HeldClient.resize.Goals as goal

pub returns : goal.returns
returns c =
    let told = c.resize.ensures in
    let is = c.code_of.ensures in
    record {
      acts = call_acts (resized c.args.width c.args.height) call_fault c.resize.result c.code_of.result _ _ is told.step told.out told.failed told.err (λ _. refl) refl;
      memory = for_fault Memory c.resize.result c.code_of.result is told.memory;
      shown = refl;
    }
