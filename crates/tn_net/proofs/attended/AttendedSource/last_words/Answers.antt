use Rattle.tn_net.proofs.LastWords.{one_of}
use Rattle.tn_net.proofs.attended.AttendedSource.last_words.Goals as goal

pub returns-clause-one : goal.returns-clause-one
returns-clause-one g c = one_of c.args.self.now.why _ c.words_of.ensures
