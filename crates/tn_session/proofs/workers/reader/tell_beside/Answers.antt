use Rattle.std.proofs.{Common.{List, Option, subst, sym, ◌∙◌}, lemmas.Option.IfSome_then}
use Rattle.crossbeam_channel.specs.Claims.{view}
use Rattle.tn_session.proofs.lemmas.workers.Readers.{says_both}
use Rattle.tn_session.specs.workers.Reader.{one_size, one_control}
use Rattle.tn_cores.specs.{streams.Beside.TellsNext, declared.streams.{control.Control.Control, window.WindowSize.WindowSize}}
use Rattle.tn_session.proofs.workers.reader.tell_beside.Goals as goal

pub tell_control-requires-clause-role : goal.tell_control-requires-clause-role
tell_control-requires-clause-role g c =
    let l = c.requires.role.0 in (_, c.in_ok-tell_size.ensures.told.2 l c.requires.role.1)

pub returns-clause-told : goal.returns-clause-told
returns-clause-told g c =
    let size = c.in_ok-tell_size.ensures.told in
    IfSome_then c.tell_control.result c.tell_control.ensures.told (λ p said.
    record {
      size = size.0;
      control = said.0;
      sizes = subst (λ (o : Option (List WindowSize)). TellsNext (g.Rd.Source.sizes c.args.reader.now) size.0 o) (sym c.tell_control.ensures.sizes) size.1;
      controls = subst (λ (o : Option (List Control)). TellsNext o said.0 (g.Rd.Source.controls c.tell_control.new.reader)) c.tell_size.ensures.controls said.1;
      says = says_both c.args.who (one_size size.0) (one_control said.0) (view c.args.pass.now) (view c.tell_size.new.pass) (view c.tell_control.new.pass) size.2 said.2;
      bytes = c.tell_control.ensures.bytes ∙ c.tell_size.ensures.bytes;
      failures = c.tell_control.ensures.foretold ∙ c.tell_size.ensures.foretold;
      words = c.tell_control.ensures.words ∙ c.tell_size.ensures.words;
    })
