use Rattle.std.proofs.Common.{refl, subst}
use Rattle.tn_client.specs.declared.commands.UserCommand.{UserCommand}
use Rattle.tn_c.proofs.of_parts.Refusing.{same_command}
use Rattle.tn_c.specs.parts.ClientCalls.{SendCall}
use Rattle.tn_c.proofs.parts.client.HeldClient.send_command.Goals as goal

pub returns-in-Some : goal.returns-in-Some
returns-in-Some c =
    record {
      known = λ command is. subst (λ (x : UserCommand). SendCall x c.send.result c.args.self.now c.send.new.self)
          (same_command c.in-Some.command command ((c.in-Some.ensures command).1 is)) c.send.ensures.call;
      unknown = (λ e. absurd (c.send.ensures.known e), λ none. absurd (none c.in-Some.command ((c.in-Some.ensures c.in-Some.command).0 refl)));
      stays = λ e. absurd (c.send.ensures.known e);
    }
