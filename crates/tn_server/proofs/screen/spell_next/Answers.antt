use Rattle.std.proofs.Common.{◌++◌, sym, ap, ◌∙◌, append-nil}
use Rattle.tn_nvt.specs.Spelling.{spelling}
use Rattle.tn_pty.proofs.lemmas.Fronts.{one_left}
use Rattle.tn_server.specs.Replies.{data_of}
use Rattle.tn_server.proofs.Spelling.{spelled_more}
use Rattle.tn_server.proofs.screen.spell_next.Goals as goal

pub returns-in-Some-clause-out : goal.returns-in-Some-clause-out
returns-in-Some-clause-out c =
    let before = c.args.out.now.items in
    let symbol = c.in-Some.symbol in
    c.spell.ensures.items
    ∙ ap (λ xs. xs ++ spelling (data_of symbol)) (sym (append-nil before))
    ∙ spelled_more before c.args.pair.now.queue 0 symbol (sym c.pull_symbol.ensures.first ∙ c.in-Some.is)

pub returns-in-None : goal.returns-in-None
returns-in-None c = absurd (one_left c.args.pair.now.queue 0 c.requires.some (sym c.pull_symbol.ensures.first ∙ c.in-None.is))
