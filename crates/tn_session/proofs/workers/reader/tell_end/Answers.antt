use Rattle.std.proofs.lemmas.Option.{IfSome_then}
use Rattle.tn_session.proofs.lemmas.workers.Readers.{says_end}
use Rattle.tn_session.proofs.workers.reader.tell_end.Goals as goal

pub returns-clause-said : goal.returns-clause-said
returns-clause-said g c =
    IfSome_then c.say-2.result c.say-2.ensures.said (λ p f.
    says_end c.args.part.now.who c.args.part.now.job _ _ _ _ _ _ _ _ c.end_of-said.ensures.end c.end_of-said.ensures.said c.in_ok-say_any.ensures.said
    c.in_ok-say.ensures.said f)
