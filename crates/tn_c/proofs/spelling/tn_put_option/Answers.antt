use Rattle.tn_c.proofs.spelling.tn_put_option.Goals as goal

pub returns : goal.returns
returns c = record { answer = c.spell_word.result; numbers = c.number.ensures.value; so = c.spell_word.ensures }
