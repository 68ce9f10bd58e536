use Rattle.std.proofs.Common.{sym, ap, ◌∙◌}
use Rattle.tn_discipline.specs.Canon.{typed_entries}
use Rattle.tn_editor.proofs.{lemmas.AsBefore.themselves, lemmas.Typing.same_entries}
use Rattle.tn_editor.proofs.laws.without_editing_keys_it_is_plain.Goals as goal

pub returns : goal.returns
returns c = λ t keys allowed all. sym (same_entries t allowed keys) ∙ ap (typed_entries t.canon) (themselves t keys all)
