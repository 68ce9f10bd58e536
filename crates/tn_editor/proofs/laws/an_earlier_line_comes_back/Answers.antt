use Rattle.tn_editor.proofs.lemmas.Recalling.{half_comes_back, keys_come_back}
use Rattle.tn_editor.proofs.laws.an_earlier_line_comes_back.Goals as goal

pub returns-clause-half : goal.returns-clause-half
returns-clause-half c = λ t e keys kill allowed set all. half_comes_back t kill allowed set e keys all

pub returns-clause-keys : goal.returns-clause-keys
returns-clause-keys c = λ t e keys kill allowed set all. keys_come_back t kill allowed set e keys all
