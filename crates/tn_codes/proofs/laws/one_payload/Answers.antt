use Rattle.tn_codes.proofs.Telling.{told, says, one_payload}
use Rattle.tn_codes.proofs.laws.one_payload.Goals as goal

pub returns-clause-told : goal.returns-clause-told
returns-clause-told c = λ option params payload. (told option params payload, says option params payload)

pub returns-clause-alone : goal.returns-clause-alone
returns-clause-alone c = one_payload
