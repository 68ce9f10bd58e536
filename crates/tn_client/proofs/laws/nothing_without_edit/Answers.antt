use Rattle.tn_client.proofs.lemmas.Histories.{unedited_half, unedited-ahead, count-none, mode-off, forward-off}
use Rattle.tn_client.proofs.laws.nothing_without_edit.Goals as goal

pub returns-clause-line : goal.returns-clause-line
returns-clause-line c = unedited_half

pub returns-clause-ahead : goal.returns-clause-ahead
returns-clause-ahead c = unedited-ahead

pub returns-clause-counts : goal.returns-clause-counts
returns-clause-counts c = count-none

pub returns-clause-mode : goal.returns-clause-mode
returns-clause-mode c = mode-off

pub returns-clause-forward : goal.returns-clause-forward
returns-clause-forward c = forward-off
