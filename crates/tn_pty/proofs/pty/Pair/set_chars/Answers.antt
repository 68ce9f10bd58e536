use Rattle.std.proofs.Common.{refl}
use Rattle.tn_pty.proofs.pty.Pair.set_chars.Goals as goal

pub returns : goal.returns
returns c = rw (← c.self.view_is, c.set.ensures, c.settings-settings.ensures) refl
