use Rattle.std.proofs.{Common.{◌∙◌, ◌++◌, ℕ, List, [], ◌∷◌, ap, append-nil, sym, Bool}, lemmas.Result.on_ok_weaker}
use Rattle.tn_serve.specs.services.{NewLines.{settled, waiting}, Telnet.spelled}
use Rattle.tn_serve.proofs.of_services.Spelled.{spelled_all}
use Rattle.tn_serve.proofs.services.telnet_side.put_data.Goals as goal

pub returns-then-waits : goal.returns-then-waits
returns-then-waits c =
    let before = c.args.out.now.items in
    let text = c.settle-text.result.0.items in
    on_ok_weaker c.put_byte.result (λ is.
    spelled_all before c.put_byte.new.out.items text c.args.bytes.now c.settle-text.result.1
    (c.settle-text.ensures.items ∙ ap (λ (l : List ℕ). l ++ settled c.args.bytes.now) c.in_ok-text.ensures.items)
    c.settle-text.ensures.waits
    (is ∙ ap (λ (l : List ℕ). l ++ 13 ∷ 0 ∷ []) (c.in_ok-put_each.ensures ∙ ap (λ (l : List ℕ). before ++ spelled l) c.deref.ensures.value)
    ∙ ap (λ (w : Bool). (before ++ spelled text) ++ spelled (waiting w)) (sym c.if-waits.true))) c.put_byte.ensures.ok

pub returns : goal.returns
returns c =
    let before = c.args.out.now.items in
    let text = c.settle-text.result.0.items in
    spelled_all before c.put_each.new.out.items text c.args.bytes.now c.settle-text.result.1
    (c.settle-text.ensures.items ∙ ap (λ (l : List ℕ). l ++ settled c.args.bytes.now) c.in_ok-text.ensures.items)
    c.settle-text.ensures.waits
    (c.in_ok-put_each.ensures ∙ ap (λ (l : List ℕ). before ++ spelled l) c.deref.ensures.value ∙ sym (append-nil (before ++ spelled text))
    ∙ ap (λ (w : Bool). (before ++ spelled text) ++ spelled (waiting w)) (sym c.if-waits.false))
