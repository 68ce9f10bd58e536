use Rattle.tn_c.proofs.spelling.tn_put_command.Goals as goal

pub returns : goal.returns
returns c = record { answer = c.spell_command.result; numbers = c.number.ensures.value; so = c.spell_command.ensures }
