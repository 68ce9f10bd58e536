use Rattle.tn_nvt.specs.declared.items.Item.TheVariants.{Neg}
use Rattle.tn_c.proofs.of_parts.Refusing.{spelled}
use Rattle.tn_c.proofs.parts.spelling.spell_verb.Goals as goal

pub returns-in-Ok : goal.returns-in-Ok
returns-in-Ok c =
    spelled (Neg c.args.verb c.args.option) c.new-out.result.items c.put_neg.new.out.items c.as_slice.result.now _ c.new-out.ensures.items c.in-Ok.ensures.ok
    c.as_slice.ensures.value c.give.ensures
