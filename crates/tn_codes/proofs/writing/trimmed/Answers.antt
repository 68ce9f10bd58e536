use Rattle.std.proofs.Common.{ap, sym, ◌∙◌}
use Rattle.tn_codes.proofs.Trimming.{filled_trimmed}
use Rattle.tn_codes.proofs.writing.trimmed.Goals as goal
use Rattle.tn_codes.specs.Masks.{filled_octets}

pub returns-clause-filled : goal.returns-clause-filled
returns-clause-filled c = filled_trimmed c.args.octets.now c.told-octets ∙ ap filled_octets (sym c.trimmed_len.ensures.octets)
