use Rattle.std.proofs.Common.{◌∙◌}
use Rattle.tn_net.proofs.Digits.{all_read, reads_on}
use Rattle.tn_net.proofs.sizes.read_number.Goals as goal

pub loop-character-preserved : goal.loop-character-preserved
loop-character-preserved c =
    c.loop-character.invariant
    ∙ reads_on c.args.characters.now c.loop-character.character-index c.loop-character.number c.in_ok-number.number c.loop-character-test.true
    c.in_ok-number.ensures

pub returns : goal.returns
returns c = c.loop-character.invariant ∙ all_read c.args.characters.now c.loop-character.character-index c.loop-character.number c.loop-character-test.false
