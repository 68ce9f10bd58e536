use Rattle.std.proofs.Common.{◌≡◌, true, false, sym, ap, ◌∙◌}
use Rattle.tn_linemode.specs.Modes.{edits}
use Rattle.tn_client.specs.{Calls.End, Replies.sent_as}
use Rattle.tn_client.proofs.lemmas.Keying.{key_step, key_said, key_shown_by, edited_lacks}
use Rattle.tn_client.proofs.end.ClientEnd.type_as.Goals as goal

pub returns-then-edit-clause-step : goal.returns-then-edit-clause-step
returns-then-edit-clause-step c =
    let mode = c.current.ensures ∙ ap (λ (e : End). e.mode) c.self.view_is in
    let by : edits c.args.self.now.mode ≡ true = sym (c.edit.ensures ∙ ap edits mode) ∙ c.if-edit.true in
    key_step true c.edit-then-edit.result c.or_memory.result c.args.self.now c.args.key by c.or_memory.ensures.err _ c.edit-then-edit.ensures.ok

pub returns-then-edit-clause-out : goal.returns-then-edit-clause-out
returns-then-edit-clause-out c =
    let mode = c.current.ensures ∙ ap (λ (e : End). e.mode) c.self.view_is in
    let by : edits c.args.self.now.mode ≡ true = sym (c.edit.ensures ∙ ap edits mode) ∙ c.if-edit.true in
    key_said true c.edit-then-edit.result c.or_memory.result c.args.self.now c.args.key by c.or_memory.ensures.err (sent_as c.args.is_line c.args.key) _ _ _ c.or_memory.ensures.out c.edit-then-edit.ensures.out

pub returns-then-edit-clause-screen : goal.returns-then-edit-clause-screen
returns-then-edit-clause-screen c =
    let mode = c.current.ensures ∙ ap (λ (e : End). e.mode) c.self.view_is in
    let by : edits c.args.self.now.mode ≡ true = sym (c.edit.ensures ∙ ap edits mode) ∙ c.if-edit.true in
    key_shown_by true c.edit-then-edit.result c.or_memory.result c.args.self.now c.args.key by c.or_memory.ensures.err _ _ c.edit-then-edit.ensures.screen

pub returns-clause-step : goal.returns-clause-step
returns-clause-step c =
    let mode = c.current.ensures ∙ ap (λ (e : End). e.mode) c.self.view_is in
    let by : edits c.args.self.now.mode ≡ false = sym (c.edit.ensures ∙ ap edits mode) ∙ c.if-edit.false in
    key_step false c.pass.result c.or_memory-2.result c.args.self.now c.args.key by c.or_memory-2.ensures.err _ c.pass.ensures.ok

pub returns-clause-out : goal.returns-clause-out
returns-clause-out c =
    let mode = c.current.ensures ∙ ap (λ (e : End). e.mode) c.self.view_is in
    let by : edits c.args.self.now.mode ≡ false = sym (c.edit.ensures ∙ ap edits mode) ∙ c.if-edit.false in
    key_said false c.pass.result c.or_memory-2.result c.args.self.now c.args.key by c.or_memory-2.ensures.err (sent_as c.args.is_line c.args.key) _ _ _ c.or_memory-2.ensures.out c.pass.ensures.out

pub returns-clause-screen : goal.returns-clause-screen
returns-clause-screen c =
    let mode = c.current.ensures ∙ ap (λ (e : End). e.mode) c.self.view_is in
    let by : edits c.args.self.now.mode ≡ false = sym (c.edit.ensures ∙ ap edits mode) ∙ c.if-edit.false in
    key_shown_by false c.pass.result c.or_memory-2.result c.args.self.now c.args.key by c.or_memory-2.ensures.err _ _ c.pass.ensures.screen

pub returns-then-edit-clause-memory : goal.returns-then-edit-clause-memory
returns-then-edit-clause-memory c =
    let mode = c.current.ensures ∙ ap (λ (e : End). e.mode) c.self.view_is in
    let by : edits c.args.self.now.mode ≡ true = sym (c.edit.ensures ∙ ap edits mode) ∙ c.if-edit.true in
    edited_lacks c.edit-then-edit.result c.or_memory.result c.args.self.now c.args.key (sent_as c.args.is_line c.args.key) c.args.out.now c.args.screen.now by c.or_memory.ensures.ok
    c.edit-then-edit.ensures.full
