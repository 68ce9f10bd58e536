use Rattle.std.proofs.{Common.{take, get_or, subst, arith, All}, lemmas.List.{take_more, take_all, Elements.All-push}}
use Rattle.tn_editor.specs.Recalling.{IsItself}
use Rattle.tn_editor.proofs.lemmas.Recalling.{always}
use Rattle.tn_editor.proofs.editor.Editor.recalls.Goals as goal

pub loop-byte-preserved : goal.loop-byte-preserved
loop-byte-preserved c =
    λ t e s.
    let line = c.args.line.now in
    let i = c.loop-byte.byte-index in
    let here : IsItself t (get_or line i 0) = (c.is_itself.ensures t e s).0 c.if-not-is_itself.false in
    rw (take_more line i 0 c.loop-byte-test.true) (All-push (IsItself t) (take i line) (get_or line i 0) (c.loop-byte.invariant t e s) here)

pub returns-clause-kill : goal.returns-clause-kill
returns-clause-kill c = λ t e s all. c.kill.ensures t e s

pub returns-clause-line : goal.returns-clause-line
returns-clause-line c =
    λ t e s.
    let line = c.args.line.now in
    let i = c.loop-byte.byte-index in
    always c.kill.result (All (IsItself t) line)
    (subst (λ keys. All (IsItself t) keys) (take_all i line (omega (arith, c.loop-byte-test.false))) (c.loop-byte.invariant t e s))
