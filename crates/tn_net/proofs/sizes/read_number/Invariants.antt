use Rattle.std.proofs.Common.{◌≡◌, Some, drop}
use Rattle.tn_net.specs.Sizes.{number_from}
use Rattle.tn_net.proofs.sizes.read_number.Given as goal

abbrev pub invariant-loop-character : goal.invariant-loop-character
invariant-loop-character l = number_from (Some 0) l.characters ≡ number_from (Some l.number) (drop l.character-index l.characters)
