use Rattle.std.proofs.Common.{◌≡◌, true, ap, ◌∙◌}
use Rattle.tn_discipline.specs.Keys.{role_of_key}
use Rattle.tn_client.specs.Lines.{settings_by}
use Rattle.tn_client.proofs.Roles.{same_role_either}
use Rattle.tn_client.proofs.end.ClientEnd.roles.Goals as goal

pub returns : goal.returns
returns c =
    let table = c.args.self.now.table in
    let trapping : c.role_of-trapping.result ≡ role_of_key (settings_by true table) c.args.key =
    c.role_of-trapping.ensures ∙ ap (λ s. role_of_key s c.args.key) c.settings_under.ensures
    in
    record {
      trapping = trapping;
      plain = trapping ∙ same_role_either table c.args.key (λ sig is. c.in_default.not-Signal sig (trapping ∙ is));
    }

pub returns-in-Signal : goal.returns-in-Signal
returns-in-Signal c =
    record {
      trapping = c.role_of-trapping.ensures ∙ ap (λ s. role_of_key s c.args.key) c.settings_under.ensures;
      plain = c.role_of.ensures ∙ ap (λ s. role_of_key s c.args.key) c.settings_under-in-Signal.ensures;
    }
