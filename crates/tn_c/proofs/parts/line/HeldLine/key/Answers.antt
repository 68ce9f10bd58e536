use Rattle.std.proofs.Common.{rules, [], ◌∷◌, inl, refl, subst}
use Rattle.tn_discipline.specs.{Advancing.DropsExactly, Keys.roles_of, declared.half_line.Effect.Effect}
use Rattle.tn_c.proofs.parts.line.HeldLine.key.Goals as goal

pub returns-in-Ok : goal.returns-in-Ok
returns-in-Ok c =
    record {
      codes = inl refl;
      advances = search rules;
      dropped = λ _. subst (λ (x : Effect). DropsExactly c.args.self.now.line (roles_of c.args.self.now.settings (c.args.key ∷ [])) x) c.in-Ok.ensures.effect
          c.in-Ok.ensures.dropped;
      line = search rules;
      effect = search rules;
      entry = search rules;
      echo = search rules;
      settings = refl;
      only_a_text = search rules;
      err = search rules;
      err_effect = search rules;
    }
