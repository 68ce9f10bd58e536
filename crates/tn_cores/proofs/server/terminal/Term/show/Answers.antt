use Rattle.std.proofs.Common.{◌≡◌, ℕ, List, ◌∷◌, [], ◌++◌, take, drop, length, min, ap, sym, ◌∙◌, append_assoc, append-nil, take-append-drop, length-take}
use Rattle.std.proofs.{Common.arith, lemmas.{List.{Elements.{All-push, All-append, All-cons}, Folds.concat-append}, Result.err_from_is_err_and}}
use Rattle.std.specs.List.{concat}
use Rattle.tn_cores.proofs.of_terminal.{Breaking.{in_single, breaks_parts}, Doing.does_push, Refusing.wait_within}
use Rattle.tn_cores.specs.server.Run.{IsPart}
use Rattle.tn_cores.proofs.server.terminal.Term.show.Goals as goal

short : (xs : List ℕ) (n : ℕ) (part : List ℕ) → n ≡ min (length xs) 4096 → part ≡ take n xs → IsPart part
short xs n part e f = let g = ap (λ (p : List ℕ). length p) f in let h = length-take n xs in omega (arith, e, g, h)

inner : (done : List (List ℕ)) (n : ℕ) (part later rest text : List ℕ) → part ≡ take n rest → later ≡ drop n rest → concat done ++ rest ≡ text
    → concat done ++ (part ++ later) ≡ text
inner done n part later rest text front back all =
    ap (λ (xs : List ℕ). concat done ++ xs) (ap (λ (xs : List ℕ). xs ++ later) front ∙ ap (λ (xs : List ℕ). take n rest ++ xs) back ∙ take-append-drop n rest)
    ∙ all

whole : (done : List (List ℕ)) (n : ℕ) (part later rest text : List ℕ) → part ≡ take n rest → later ≡ drop n rest → concat done ++ rest ≡ text
    → concat (done ++ part ∷ []) ++ later ≡ text
whole done n part later rest text front back all =
    ap (λ (xs : List ℕ). xs ++ later) (concat-append done (part ∷ []))
    ∙ append_assoc (concat done) (part ++ []) later
    ∙ ap (λ (xs : List ℕ). concat done ++ (xs ++ later)) (append-nil part)
    ∙ inner done n part later rest text front back all

pub loop-rest-preserved : goal.loop-rest-preserved
loop-rest-preserved c =
    let i = c.loop-rest.invariant in
    let part = c.split_at.result.0.now in (
      i.0 ++ part ∷ [],
      whole i.0 c.min.result part c.split_at.result.1.now c.loop-rest.rest.now c.args.text.now c.split_at.ensures.front c.split_at.ensures.back i.1,
      All-push IsPart i.0 part i.2 (short c.loop-rest.rest.now c.min.result part c.min.ensures c.split_at.ensures.front),
      does_push i.0 part c.args.self.now c.loop-rest.self c.show_part.new.self _ _ _ i.3 c.in_ok-show_part.ensures.ok,
      c.show_part.ensures.progress ∙ i.4,
    )

pub returns-in_err-show_part-clause-err : goal.returns-in_err-show_part-clause-err
returns-in_err-show_part-clause-err c =
    let p = err_from_is_err_and c.from_residual.result c.from_residual.ensures.1 in
    let i = c.loop-rest.invariant in
    let part = c.split_at.result.0.now in
    let rest = in_single c.split_at.result.1.now in
    let old = c.loop-rest.rest.now in rw p.1 (
      i.0 ++ part ∷ rest.0,
      ap concat (sym (append_assoc i.0 (part ∷ []) rest.0)) ∙ concat-append (i.0 ++ part ∷ []) rest.0
          ∙ ap (λ (xs : List ℕ). concat (i.0 ++ part ∷ []) ++ xs) rest.1
          ∙ whole i.0 c.min.result part c.split_at.result.1.now old c.args.text.now c.split_at.ensures.front c.split_at.ensures.back i.1,
      All-append IsPart i.0 (part ∷ rest.0) i.2 (All-cons IsPart part rest.0 (short old c.min.result part c.min.ensures c.split_at.ensures.front) rest.2),
      breaks_parts i.0 part rest.0 c.args.self.now c.loop-rest.self c.show_part.new.self _ _ _ i.3 c.in_err-show_part.ensures.err,
    )

pub returns-in_err-show_part-clause-grows : goal.returns-in_err-show_part-clause-grows
returns-in_err-show_part-clause-grows c =
    let p = err_from_is_err_and c.from_residual.result c.from_residual.ensures.1 in
    let i = c.loop-rest.invariant in
    let part = c.split_at.result.0.now in
    let later = c.split_at.result.1.now in
    rw p.1 (wait_within i.0 part later c.args.text.now c.args.self.now c.loop-rest.self _ _
    (inner i.0 c.min.result part later c.loop-rest.rest.now c.args.text.now c.split_at.ensures.front c.split_at.ensures.back i.1) i.3
    c.in_err-show_part.ensures.grows)
