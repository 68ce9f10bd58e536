use Rattle.tn_c.proofs.spelling.tn_put_sub.Goals as goal

pub returns : goal.returns
returns c = record { answer = c.spell_sub.result; numbers = c.number.ensures.value; so = c.spell_sub.ensures }
