use Rattle.std.proofs.Common.{refl, ap, ◌∙◌}
use Rattle.tn_discipline.specs.Characters.{Characters, slot}
use Rattle.tn_c.specs.parts.Readings.{char_number}
use Rattle.tn_c.proofs.of_parts.Refusing.{is_done}
use Rattle.tn_c.proofs.parts.server.HeldServer.function_char.Goals as goal

pub returns : goal.returns
returns c =
    record {
      function = record {
        known = λ func is. record {
          done = is_done c.give_char.ensures.codes (λ none. c.give_char.ensures.no_function.0 none func is);
          so = λ h leads. c.give_char.ensures.value func is ∙ ap (λ (t : Characters). char_number (slot t func)) (c.chars.ensures h leads);
        };
        unknown = c.give_char.ensures.no_function;
        stays = λ _. refl;
      };
      same = refl;
      unwritten = c.give_char.ensures.err;
    }
