use Rattle.std.proofs.Common.{inl, inr, refl}
use Rattle.tn_session.proofs.lemmas.workers.Readers.{none_last}
use Rattle.tn_session.proofs.workers.reader.end_of.Goals as goal

pub returns-in-Ok-clause-end : goal.returns-in-Ok-clause-end
returns-in-Ok-clause-end g c = inl refl

pub returns-in-Err-clause-end : goal.returns-in-Err-clause-end
returns-in-Err-clause-end g c = inr refl

pub returns-in-Err-clause-said : goal.returns-in-Err-clause-said
returns-in-Err-clause-said g c = none_last c.args.job _
