use Rattle.tn_nvt.specs.declared.items.Item.TheVariants.{Cmd}
use Rattle.tn_c.proofs.of_parts.Refusing.{spelled}
use Rattle.tn_c.proofs.parts.spelling.spell_known.Goals as goal

pub returns-in-Ok : goal.returns-in-Ok
returns-in-Ok c =
    spelled (Cmd c.args.command) c.new-out.result.items c.put_cmd.new.out.items c.as_slice.result.now _ c.new-out.ensures.items c.in-Ok.ensures.ok
    c.as_slice.ensures.value c.give.ensures
