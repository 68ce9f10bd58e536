use Rattle.std.proofs.Common.{rules, sym, ◌∙◌}
use Rattle.tn_c.proofs.of_parts.Refusing.{octets_told}
use Rattle.tn_c.proofs.parts.server.HeldServer.set_octets.Goals as goal

pub returns : goal.returns
returns c =
    record {
      short = λ _ mask is. octets_told c.from_octets.result mask (c.from_octets.ensures ∙ sym is) c.set_mask.ensures.call;
      long = search rules;
      stays = search rules;
    }
