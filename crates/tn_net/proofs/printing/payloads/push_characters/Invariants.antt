use Rattle.std.proofs.Common.{◌≡◌, ◌++◌}
use Rattle.tn_net.specs.printing.Texts.{character_words}
use Rattle.tn_net.proofs.printing.payloads.push_characters.Given as goal

abbrev pub invariant-loop-character : goal.invariant-loop-character
invariant-loop-character l = l.out.items ≡ l.initial.out.items ++ character_words l.mask l.character
