use Rattle.std.proofs.Common.{refl}
use Rattle.tn_client.specs.{Events.typed, declared.faults.ClientFault.TheVariants.Memory}
use Rattle.tn_c.proofs.of_parts.Refusing.{when_done, for_fault, key_acts}
use Rattle.tn_c.proofs.parts.client.HeldClient.key.Goals as goal

pub returns : goal.returns
returns c =
    let told = c.key.ensures in
    let is = c.code_of.ensures in
    record {
      acts = key_acts (typed c.args.key) c.key.result c.code_of.result _ _ is told.step told.out told.failed told.err refl;
      shows = when_done c.key.result c.code_of.result is told.screen;
      memory = for_fault Memory c.key.result c.code_of.result is told.memory;
    }
