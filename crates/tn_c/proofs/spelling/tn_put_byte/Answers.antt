use Rattle.tn_c.proofs.spelling.tn_put_byte.Goals as goal

pub returns : goal.returns
returns c = record { answer = c.spell_byte.result; numbers = c.number.ensures.value; so = c.spell_byte.ensures }
