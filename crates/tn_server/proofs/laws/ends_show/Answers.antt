use Rattle.std.proofs.Common.{sym}
use Rattle.tn_server.specs.{Events.{next, took}, Steps.end_after}
use Rattle.tn_server.proofs.{Calling.tells_mode, lemmas.{Leading.stands, Ends.waits_are}}
use Rattle.tn_server.proofs.laws.ends_show.Goals as goal

pub returns-clause-waiting : goal.returns-clause-waiting
returns-clause-waiting c = waits_are

pub returns-clause-taken : goal.returns-clause-taken
returns-clause-taken c = λ h end leads. waits_are (next h took) (end_after end took) (stands h end took leads)

pub returns-clause-queue : goal.returns-clause-queue
returns-clause-queue c = λ h end leads. sym leads.queue

pub returns-clause-told : goal.returns-clause-told
returns-clause-told c = tells_mode
