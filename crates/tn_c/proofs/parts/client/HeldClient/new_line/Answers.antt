use Rattle.std.proofs.Common.{refl}
use Rattle.tn_client.specs.{Events.entered, declared.faults.ClientFault.TheVariants.Memory}
use Rattle.tn_c.proofs.of_parts.Refusing.{when_done, for_fault, key_acts}
use Rattle.tn_c.proofs.parts.client.HeldClient.new_line.Goals as goal

pub returns : goal.returns
returns c =
    let told = c.new_line.ensures in
    let is = c.code_of.ensures in
    record {
      acts = key_acts entered c.new_line.result c.code_of.result _ _ is told.step told.out told.failed told.err refl;
      shows = when_done c.new_line.result c.code_of.result is told.screen;
      memory = for_fault Memory c.new_line.result c.code_of.result is told.memory;
    }
