use Rattle.std.proofs.Common.{◌≡◌, ◌&&◌, false, All, take, refl, sym, ap, subst, ◌∙◌}
use Rattle.tn_discipline.specs.{Editing.IsQuiet, Runs.{line_after_all, each_role}}
use Rattle.tn_pty.specs.{Terminal.Terminal, Typing.after_all, Faults.AcceptsAll, declared.pty.Input.TheVariants.Keys}
use Rattle.tn_pty.proofs.lemmas.{Typed.{accepts_plain, same_parts}, Quiet.{after_hidden, accepts_quiet}}
use Rattle.tn_pty.proofs.pty.Pair.type_quiet.Goals as goal

pub returns-then-shows-clause-accepted : goal.returns-then-shows-clause-accepted
returns-then-shows-clause-accepted c =
    let p = c.self.inside in
    let keys = take c.ordinary_front-count.result c.args.keys.now in
    let view : Terminal = record {
      settings = p.roles;
      line = p.line;
      entries = p.entries.items;
      queue = p.queue;
      width = p.width;
      height = p.height;
      closed = p.closed;
    } in
    subst (λ (t : Terminal). AcceptsAll (Keys c.args.echo) t keys) c.self.view_is
    (accepts_plain c.args.echo view keys c.if-self.false c.ordinary_front-count.ensures.plain)

pub returns-clause-pair : goal.returns-clause-pair
returns-clause-pair c =
    let echo = c.args.echo in
    let p = c.self.inside in
    let n = c.edit_run.result in
    let typed = take n c.args.keys.now in
    let view : Terminal = record {
      settings = p.roles;
      line = p.line;
      entries = p.entries.items;
      queue = p.queue;
      width = p.width;
      height = p.height;
      closed = p.closed;
    } in
    let off : (echo && view.settings.flags.echo) ≡ false = ap (λ (t : Terminal). echo && t.settings.flags.echo) c.self.view_is ∙ sym c.shows-shows.ensures
    ∙ c.if-shows.false in
    let quiet : All (IsQuiet view.settings) typed = c.edit_run.ensures.quiet in
    same_parts view c.edit_run.new.self (line_after_all p.line (each_role p.roles typed)) view.entries view.entries view.queue view.queue
    c.edit_run.ensures.line refl refl
    ∙ sym (after_hidden (Keys echo) typed view off quiet)
    ∙ ap (λ (t : Terminal). after_all (Keys echo) t typed) c.self.view_is

pub returns-clause-accepted : goal.returns-clause-accepted
returns-clause-accepted c =
    let p = c.self.inside in
    let n = c.edit_run.result in
    let typed = take n c.args.keys.now in
    let view : Terminal = record {
      settings = p.roles;
      line = p.line;
      entries = p.entries.items;
      queue = p.queue;
      width = p.width;
      height = p.height;
      closed = p.closed;
    } in
    let quiet : All (IsQuiet view.settings) typed = c.edit_run.ensures.quiet in
    subst (λ (t : Terminal). AcceptsAll (Keys c.args.echo) t typed) c.self.view_is (accepts_quiet (Keys c.args.echo) view typed c.if-self.false quiet)
