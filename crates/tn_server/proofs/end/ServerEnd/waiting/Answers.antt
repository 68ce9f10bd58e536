use Rattle.std.proofs.Common.{List, sym, ap, ◌∙◌}
use Rattle.std.specs.Prelude.{slice_get}
use Rattle.tn_discipline.specs.declared.reads.Entry.{Entry}
use Rattle.tn_server.proofs.lemmas.Ends.{waits_are}
use Rattle.tn_server.proofs.end.ServerEnd.waiting.Goals as goal

pub returns : goal.returns
returns c =
    rw (← c.self.view_is) (λ h leads. c.waiting.ensures
    ∙ ap (λ (entries : List Entry). slice_get entries c.args.index) (sym (waits_are h _ leads)))
