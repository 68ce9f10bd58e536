use Rattle.std.proofs.Common.{◌≡◌, List, Bool, true, false, ◌&&◌, ◌-◌, length, map, take, drop, refl, sym, ap, subst, ◌∙◌}
use Rattle.tn_discipline.specs.declared.{termios.Settings.Settings, echo.Symbol.{Symbol, TheVariants.Byte}}
use Rattle.tn_pty.specs.{Terminal.{Terminal, queue_with_each}, Typing.after_all, declared.pty.Input.TheVariants.Keys}
use Rattle.tn_pty.proofs.lemmas.Typed.{ArePlain, left_of, typed_shown}
use Rattle.tn_pty.proofs.pty.Pair.type_plain.Goals.{else-echo-via-then-echo+else-settings, else-echo-via-else-echo}
use Rattle.tn_pty.proofs.pty.Pair.type_plain.Goals as goal

pub returns-then-settings : goal.returns-then-settings
returns-then-settings c =
    let echo = c.args.echo in
    let keys = c.args.keys.now in
    let old = c.args.self.now in
    let p = c.self.inside in
    let view : Terminal = record {
      settings = p.roles;
      line = p.line;
      entries = p.entries.items;
      queue = p.queue;
      width = p.width;
      height = p.height;
      closed = p.closed;
    } in
    let plain : ArePlain view keys = subst (λ (t : Terminal). ArePlain t keys) (sym c.self.view_is) c.requires in
    let kept = c.keep_run-kept in
    let flag : p.roles.flags.echo ≡ true = ap (λ (s : Settings). s.flags.echo) (sym c.settings.ensures) ∙ c.if-settings.true in
    let shown : (echo && p.roles.flags.echo) ≡ true = ap (λ (b : Bool). b && p.roles.flags.echo) c.if-echo.true ∙ flag in
    let rest : take (length keys - kept.result) (drop kept.result keys) ≡ drop kept.result keys = left_of kept.result keys in
    let queue = c.put_bells.ensures
    ∙ ap (λ bytes. queue_with_each c.put_echoes.new.queue (map (λ b. Byte 7) bytes)) rest
    ∙ ap (λ (q : List Symbol). queue_with_each q (map (λ b. Byte 7) (drop kept.result keys))) c.put_echoes.ensures in
    typed_shown echo true keys view kept.result kept.new.self c.put_bells.new.queue plain kept.ensures.count kept.ensures.within kept.ensures.line shown queue
    ∙ ap (λ (t : Terminal). after_all (Keys echo) t keys) c.self.view_is

pub returns-else-echo : goal.returns-else-echo
returns-else-echo c =
    let echo = c.args.echo in
    let keys = c.args.keys.now in
    let p = c.self.inside in
    let view : Terminal = record {
      settings = p.roles;
      line = p.line;
      entries = p.entries.items;
      queue = p.queue;
      width = p.width;
      height = p.height;
      closed = p.closed;
    } in
    let plain : ArePlain view keys = subst (λ (t : Terminal). ArePlain t keys) (sym c.self.view_is) c.requires in
    let kept = c.keep_run-kept in
    elim c.else-echo.branch [
      | else-echo-via-then-echo+else-settings w ↦
          let flag : p.roles.flags.echo ≡ false = ap (λ (s : Settings). s.flags.echo) (sym w.settings.ensures) ∙ w.if-settings.false in
          let shown : (echo && p.roles.flags.echo) ≡ false = ap (λ (b : Bool). b && p.roles.flags.echo) w.if-echo.true ∙ flag in
          w.self-is
          ∙ typed_shown echo false keys view kept.result kept.new.self p.queue plain kept.ensures.count kept.ensures.within kept.ensures.line shown refl
          ∙ ap (λ (t : Terminal). after_all (Keys echo) t keys) c.self.view_is
      | else-echo-via-else-echo w ↦
          let shown : (echo && p.roles.flags.echo) ≡ false = ap (λ (b : Bool). b && p.roles.flags.echo) w.if-echo.false in
          w.self-is
          ∙ typed_shown echo false keys view kept.result kept.new.self p.queue plain kept.ensures.count kept.ensures.within kept.ensures.line shown refl
          ∙ ap (λ (t : Terminal). after_all (Keys echo) t keys) c.self.view_is
    ]
