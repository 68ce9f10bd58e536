use Rattle.std.proofs.Common.{refl}
use Rattle.tn_codes.specs.declared.codes.Command.TheVariants as command
use Rattle.tn_theorems.specs.programs.Keys.{TypedAreKeys}
use Rattle.tn_theorems.proofs.programs.laws.what_counts_as_typed_is_a_key.Goals as goal

each : TypedAreKeys
each command.Eof = refl
each command.Susp = refl
each command.Abort = refl
each command.Eor = refl
each command.Nop = refl
each command.Dm = refl
each command.Brk = refl
each command.Ip = refl
each command.Ao = refl
each command.Ayt = refl
each command.Ec = refl
each command.El = refl
each command.Ga = refl

pub returns : goal.returns
returns c = each
