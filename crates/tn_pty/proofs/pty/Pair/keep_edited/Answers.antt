use Rattle.std.proofs.Common.{All, take, ap, subst, ◌∙◌}
use Rattle.tn_discipline.specs.declared.termios.Settings.{Settings}
use Rattle.tn_pty.specs.{Terminal.Terminal, Typing.{after_all, JoinsEdited}, Faults.AcceptsAll, declared.pty.Input.TheVariants.Edited}
use Rattle.tn_pty.proofs.lemmas.Quiet.{joining_quiet, accepts_quiet, after_joining}
use Rattle.tn_pty.proofs.pty.Pair.keep_edited.Goals as goal

pub returns-clause-pair : goal.returns-clause-pair
returns-clause-pair c =
    let p = c.self.inside in
    let bytes = take c.joining_front-count.result c.args.bytes.now in
    let view : Terminal = record {
      settings = p.roles;
      line = p.line;
      entries = p.entries.items;
      queue = p.queue;
      width = p.width;
      height = p.height;
      closed = p.closed;
    } in
    let joins : All (JoinsEdited p.roles.chars) bytes = subst (λ (s : Settings). All (JoinsEdited s.chars) bytes) c.settings.ensures
    c.joining_front-count.ensures.joins in
    after_joining view bytes c.keep_run-kept.new.self joins c.keep_run-kept.ensures.each
    ∙ ap (λ (t : Terminal). after_all Edited t bytes) c.self.view_is

pub returns-clause-accepted : goal.returns-clause-accepted
returns-clause-accepted c =
    let p = c.self.inside in
    let bytes = take c.joining_front-count.result c.args.bytes.now in
    let view : Terminal = record {
      settings = p.roles;
      line = p.line;
      entries = p.entries.items;
      queue = p.queue;
      width = p.width;
      height = p.height;
      closed = p.closed;
    } in
    let joins : All (JoinsEdited p.roles.chars) bytes = subst (λ (s : Settings). All (JoinsEdited s.chars) bytes) c.settings.ensures
    c.joining_front-count.ensures.joins in
    subst (λ (t : Terminal). AcceptsAll Edited t bytes) c.self.view_is (accepts_quiet Edited view bytes c.if-self.false (joining_quiet p.roles bytes joins))
