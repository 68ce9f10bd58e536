use Rattle.std.proofs.{Common.{ℕ, List, ◌++◌, refl, arith}, lemmas.{Grind.common_steps, Result.err_from_is_err_and}}
use Rattle.tn_codes.specs.declared.codes.Verb.{Verb}
use Rattle.tn_linemode.specs.{Modes.edits, Words.word_items}
use Rattle.tn_nvt.specs.declared.items.Item.{Item, TheVariants.Neg}
use Rattle.tn_option.specs.Options.{Options, reply_to, options_after_word}
use Rattle.tn_client.specs.{Terms.{mode_at, tells_size}, Replies.{end_of_edit_items, new_size_items}}
use Rattle.tn_linemode.proofs.lemmas.Cutting.{cut_after_two, front_some, back_some}
use Rattle.tn_client.proofs.end.ClientEnd.word.Goals as goal

-- the held bytes, the answer, and the size
abbrev first : Options → ℕ → List ℕ → Item → List Item
first o m held item = end_of_edit_items (edits m) (edits (mode_at o m item)) held

abbrev second : Options → Verb → ℕ → List Item
second o verb option = word_items (reply_to o verb option)

abbrev third : Options → Verb → ℕ → ℕ × ℕ → List Item
third o verb option z = new_size_items (tells_size o) (tells_size (options_after_word o verb option)) z

pub returns-in_err-put_held-clause-grows : goal.returns-in_err-put_held-clause-grows
returns-in_err-put_held-clause-grows c =
    let p = err_from_is_err_and c.from_residual.result c.from_residual.ensures.1 in
    let old = c.self.inside in
    let b = second old.options c.args.verb c.args.option in
    let d = third old.options c.args.verb c.args.option (old.width, old.height) in
    rw (p.1, ← c.self.view_is) (front_some (first old.options old.mode old.line.held (Neg c.args.verb c.args.option)) (b ++ d)
    (rw (c.mode_with-mode.ensures, c.got-said.ensures.engine, ← c.self.view_is) at c.in_err-put_held.ensures.grows))

pub returns-in_err-put_word-clause-grows : goal.returns-in_err-put_word-clause-grows
returns-in_err-put_word-clause-grows c =
    let p = err_from_is_err_and c.from_residual-in_err-put_word.result c.from_residual-in_err-put_word.ensures.1 in
    let old = c.self.inside in
    let b = second old.options c.args.verb c.args.option in
    let d = third old.options c.args.verb c.args.option (old.width, old.height) in
    rw (p.1, ← c.self.view_is) (back_some (first old.options old.mode old.line.held (Neg c.args.verb c.args.option)) (b ++ d)
    (front_some b d (rw c.got-said.ensures.word at c.in_err-put_word.ensures.some)))

pub returns-in_err-put_size_on-clause-cut : goal.returns-in_err-put_size_on-clause-cut
returns-in_err-put_size_on-clause-cut c =
    let p = err_from_is_err_and c.from_residual-in_err-put_size_on.result c.from_residual-in_err-put_size_on.ensures.1 in
    let old = c.self.inside in
    let b = second old.options c.args.verb c.args.option in
    let d = third old.options c.args.verb c.args.option (old.width, old.height) in
    rw (p.1, ← c.self.view_is) (cut_after_two _ (first old.options old.mode old.line.held (Neg c.args.verb c.args.option)) b d
    c.args.out.now.items c.put_held.new.out.items c.put_word.new.out.items c.put_size_on.new.out.items refl
    (rw (c.mode_with-mode.ensures, c.got-said.ensures.engine, ← c.self.view_is) at c.in_ok-put_held.ensures.ok)
    (rw c.got-said.ensures.word at c.in_ok-put_word.ensures.ok) c.in_err-put_size_on.ensures.err)

pub returns-in_err-put_size_on-clause-grows : goal.returns-in_err-put_size_on-clause-grows
returns-in_err-put_size_on-clause-grows c =
    let p = err_from_is_err_and c.from_residual-in_err-put_size_on.result c.from_residual-in_err-put_size_on.ensures.1 in
    let old = c.self.inside in
    let b = second old.options c.args.verb c.args.option in
    let d = third old.options c.args.verb c.args.option (old.width, old.height) in
    rw (p.1, ← c.self.view_is) (back_some (first old.options old.mode old.line.held (Neg c.args.verb c.args.option)) (b ++ d)
    (back_some b d (rw (c.is_on.ensures, c.got-said.ensures.engine, ← c.self.view_is) at c.in_err-put_size_on.ensures.grows)))

pub returns-clause-out : goal.returns-clause-out
returns-clause-out c = grind (arith, common_steps)
