use Rattle.std.proofs.Common.{subst}
use Rattle.tn_discipline.specs.Characters.{AreAllowed}
use Rattle.tn_linemode.specs.Exchange.{server_after, client_after}
use Rattle.tn_linemode.proofs.Offers.{server_after-allowed, client_after-allowed}
use Rattle.tn_linemode.proofs.laws.tables_stay_allowed.Goals as goal

pub returns-clause-server : goal.returns-clause-server
unfolding server_after
returns-clause-server c =
    λ chars ts allowed. server_after-allowed ts chars c.accepted_characters.ensures.allowed
    (subst AreAllowed c.standard.ensures.value c.standard.ensures.allowed) allowed

pub returns-clause-client : goal.returns-clause-client
unfolding client_after
returns-clause-client c = λ chars ts allowed. client_after-allowed ts chars c.accepted_characters.ensures.allowed allowed
