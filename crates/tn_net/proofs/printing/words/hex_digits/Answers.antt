use Rattle.std.proofs.Common.{refl}
use Rattle.hex.specs.Hex.{encode_with}
use Rattle.tn_net.proofs.printing.words.hex_digits.Goals as goal

pub returns : goal.returns
unfolding encode_with
returns c = rw (c.from.ensures, c.from-2.ensures) refl
