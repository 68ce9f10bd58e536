use Rattle.std.proofs.Common.{rules}
use Rattle.tn_nvt.specs.declared.items.Item.TheVariants.{Sub}
use Rattle.tn_c.proofs.of_parts.Refusing.{spelled}
use Rattle.tn_c.proofs.parts.spelling.spell_sub.Goals as goal

pub returns-in-Ok : goal.returns-in-Ok
returns-in-Ok c =
    record {
      short = λ _. spelled (Sub c.args.option c.args.parameters.now) c.new-out.result.items c.put_sub.new.out.items c.as_slice.result.now _
          c.new-out.ensures.items c.in-Ok.ensures.ok c.as_slice.ensures.value c.give.ensures;
      long = search rules;
      unspelled = search rules;
    }
