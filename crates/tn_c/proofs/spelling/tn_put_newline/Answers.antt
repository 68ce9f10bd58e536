use Rattle.tn_c.proofs.spelling.tn_put_newline.Goals as goal

pub returns : goal.returns
returns c = record { answer = c.spell_newline.result; numbers = c.number.ensures.value; so = c.spell_newline.ensures }
