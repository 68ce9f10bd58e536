use Rattle.std.proofs.Common.{◌≡◌, ℕ, List, Option, IfOk, option_map, subst, sym, ◌∙◌}
use Rattle.tn_connect.proofs.Keys.{at_terminal, at_no_terminal}
use Rattle.tn_connect.specs.Talks.{HoldsTalk}
use Rattle.tn_net.specs.{PlainKeys.keys_left, Prompting.closed, declared.escaping.Escaping.Escaping}
use Rattle.tn_connect.proofs.talks.talk_over.Goals as goal

pub returns-then-is_terminal-clause-talked : goal.returns-then-is_terminal-clause-talked
returns-then-is_terminal-clause-talked g c =
    let plain = c.args.plain in
    let bytes = g.K.Read.remaining c.args.keys in
    subst (λ (keys : Option (List ℕ)). IfOk c.talk-edited.result (HoldsTalk plain.line_end plain.origin keys (g.S.Write.contents c.args.screen.now)
    (g.S.Write.contents c.talk-edited.new.screen)))
    (sym (at_terminal plain.origin bytes (sym c.is_terminal.ensures ∙ c.if-is_terminal.true)))
    c.talk-edited.ensures.talked

pub returns-clause-talked : goal.returns-clause-talked
returns-clause-talked g c =
    let plain = c.args.plain in
    let made = c.new-keys.ensures in
    let with_keyboard : c.new-keys.result.escaping ≡ record { keyboard = _; prompt = closed }
    = made.escaping ∙ (λ i. record { keyboard = c.keyboard_of-keyboard.ensures i; prompt = closed }) in
    subst (λ (keys : Option (List ℕ)). IfOk c.talk-talked.result (HoldsTalk plain.line_end plain.origin keys (g.S.Write.contents c.args.screen.now)
    (g.S.Write.contents c.talk-talked.new.screen)))
    ((λ i. option_map (keys_left (made.stays i) (with_keyboard i)) (g.K.Read.remaining (made.keys i)))
    ∙ at_no_terminal plain.origin plain.escape (g.K.Read.remaining c.args.keys) (sym c.is_terminal.ensures ∙ c.if-is_terminal.false))
    c.talk-talked.ensures.talked
