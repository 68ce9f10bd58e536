use Rattle.std.proofs.Common.{refl, [], ◌∷◌}
use Rattle.tn_codes.specs.declared.codes.Verb.TheVariants.{DoIt}
use Rattle.tn_nvt.specs.{Spelling.doubled_bytes, declared.items.Item.TheVariants.Neg}
use Rattle.tn_option.specs.{Options.{new_options, options_after_word, reply_to, state_of}, QMethod.cell}
use Rattle.tn_client.specs.Events.{begun, next, got}
use Rattle.tn_client.proofs.laws.bounds_are_met.Goals as goal

pub returns-clause-word : goal.returns-clause-word
unfolding doubled_bytes new_options options_after_word reply_to state_of cell
returns-clause-word c = (begun 65535 65535 255, DoIt, 31, refl, refl)

pub returns-clause-subnegotiation : goal.returns-clause-subnegotiation
unfolding doubled_bytes new_options options_after_word reply_to state_of cell
returns-clause-subnegotiation c = (next (begun 80 24 255) (got (Neg DoIt 34)), 34, 1 ∷ 1 ∷ [], refl, refl)
