use Rattle.std.proofs.Common.{refl, sym, ◌∙◌}
use Rattle.tn_cli.proofs.Keys.{typed_close, typed_signal, closes}
use Rattle.tn_cli.proofs.typing.Typing.enter.Goals as goal

pub returns-in-Signal-clause-types : goal.returns-in-Signal-clause-types
returns-in-Signal-clause-types c key is =
    typed_signal c.args.self.now _ key c.in-Signal.sig refl (sym c.in-Signal.is ∙ is) refl c.put_signal.ensures.items

pub returns-in_default-clause-types : goal.returns-in_default-clause-types
returns-in_default-clause-types c key is =
    let role = c.args.role in
    typed_close c.args.self.now c.close.new.self key role c.close.ensures.roles is
    (closes role c.requires.gives c.in_default.not-Signal) c.close.ensures.line (rw c.closing.ensures at c.close.ensures.printed)
