use Rattle.std.proofs.Common.{refl, sym, ◌∙◌}
use Rattle.tn_cli.proofs.Keys.{typed_quiet}
use Rattle.tn_cli.proofs.typing.Typing.key.Goals as goal

pub returns-then-gives_entry-clause-types : goal.returns-then-gives_entry-clause-types
returns-then-gives_entry-clause-types c = c.enter.ensures.types c.args.key c.role-role.ensures

pub returns-clause-types : goal.returns-clause-types
returns-clause-types c =
    let played = c.play-effect in
    typed_quiet c.args.self.now _ c.args.key c.role-role.result played.result refl c.role-role.ensures (sym c.gives_entry.ensures ∙ c.if-gives_entry.false)
    played.ensures.line played.ensures.only_a_text refl
