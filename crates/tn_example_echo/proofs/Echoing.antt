-- A line that waits first is the one that is taken, written and sent.
use Rattle.std.proofs.Common.{◌≡◌, ℕ, List, [], ◌∷◌, sym, ap, ◌∙◌, subst, length, min}
use Rattle.tn_discipline.specs.declared.{reads.Entry.{Entry, TheVariants.{Text, Eof, Signal}}, echo.Symbol.Symbol}
use Rattle.tn_server.specs.{Calls.{End, LeadsTo}, Steps.end_after, Events.{History, next, took, wrote, pulled}, Screen.queue}
use Rattle.tn_server.proofs.lemmas.Leading.{stands}
use Rattle.tn_example_echo.specs.Said.{echoed}

abbrev text_at_front : List Entry → List ℕ
text_at_front [] = []
text_at_front (Text text ∷ entries) = text
text_at_front (Eof ∷ entries) = []
text_at_front (Signal sig ∷ entries) = []

pub first_text : (a b : List ℕ) (xs ys : List Entry) → Text a ∷ xs ≡ Text b ∷ ys → a ≡ b
first_text a b xs ys e = ap text_at_front e

pub echoes_line : (old taken written new : End) (h : History) (line : List ℕ) (n : ℕ) → LeadsTo h old
    → taken ≡ end_after old took → written ≡ end_after taken (wrote line) → new ≡ end_after written (pulled n)
    → n ≡ min 65536 (length written.terminal.queue) → LeadsTo (echoed h line) new
echoes_line old taken written new h line n leads takes writes pulls count =
    let shown = next (next h took) (wrote line) in
    let at_taken : LeadsTo (next h took) taken = subst (LeadsTo (next h took)) (sym takes) (stands h old took leads) in
    let at_written : LeadsTo shown written = subst (LeadsTo shown) (sym writes) (stands (next h took) taken (wrote line) at_taken) in
    let all : n ≡ min 65536 (length (queue shown)) = count ∙ ap (λ (q : List Symbol). min 65536 (length q)) at_written.queue in
    let there : LeadsTo (next shown (pulled n)) new = subst (LeadsTo (next shown (pulled n))) (sym pulls) (stands shown written (pulled n) at_written) in
    subst (λ (m : ℕ). LeadsTo (next shown (pulled m)) new) all there
