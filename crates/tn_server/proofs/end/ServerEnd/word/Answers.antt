use Rattle.std.proofs.{Common.{refl, false}, lemmas.Result.err_from_is_err_and}
use Rattle.tn_option.specs.Options.{reply_to, options_after_word}
use Rattle.tn_server.specs.{Terms.linemode, Steps.negotiation_items}
use Rattle.tn_linemode.specs.Words.{word_items}
use Rattle.tn_linemode.proofs.lemmas.Cutting.{cut_after_one, spelled_on}
use Rattle.tn_server.proofs.end.ServerEnd.word.Goals as goal

pub returns-in_err-_sent-clause-cut : goal.returns-in_err-_sent-clause-cut
returns-in_err-_sent-clause-cut c =
    let p = err_from_is_err_and c.from_residual-in_err-_sent.result c.from_residual-in_err-_sent.ensures.1 in
    let old = c.self.inside in
    let o = old.terms.options in
    rw (p.1, ← c.self.view_is) (cut_after_one _ (word_items (reply_to o c.args.verb c.args.option))
    (negotiation_items (linemode o) false old.pair.settings.flags old.table
    (record { options = options_after_word o c.args.verb c.args.option; modes = old.terms.modes; wish = old.terms.wish; opening = old.terms.opening })) c.args.out.now.items
    c.put_word.new.out.items c.settle.new.out.items refl
    (rw c.got-said.ensures.word at c.in_ok-put_word.ensures.ok) (rw
    (c.has_linemode-was_on.ensures, c.settings.ensures, c.got-said.ensures.engine) at c.in_err-_sent.ensures.err))

pub returns-clause-out : goal.returns-clause-out
returns-clause-out c =
    let old = c.self.inside in
    let o = old.terms.options in
    rw (← c.self.view_is) (spelled_on (word_items (reply_to o c.args.verb c.args.option))
    (negotiation_items (linemode o) false old.pair.settings.flags old.table
    (record { options = options_after_word o c.args.verb c.args.option; modes = old.terms.modes; wish = old.terms.wish; opening = old.terms.opening })) c.args.out.now.items
    c.put_word.new.out.items c.settle.new.out.items
    (rw c.got-said.ensures.word at c.in_ok-put_word.ensures.ok) (rw
    (c.has_linemode-was_on.ensures, c.settings.ensures, c.got-said.ensures.engine) at c.in_ok-_sent.ensures.out))
