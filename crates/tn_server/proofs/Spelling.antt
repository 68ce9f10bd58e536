-- Symbols that are spelled one after another.
use Rattle.std.proofs.Common.{◌≡◌, ◌≤◌, ℕ, zero, suc, ◌+◌, ◌==◌, ◌||◌, false, Some, List, [], ◌∷◌, ◌++◌, length, map, take, drop, slice_get, refl, ap, sym, ◌∙◌}
use Rattle.std.proofs.{Common.{inl, inr, arith, append_assoc, append-nil, take-add}, lemmas.{List.map-append, Bool.{cases_Bool, or_parts}}}
use Rattle.tn_discipline.specs.declared.echo.Symbol.{Symbol, TheVariants.{Byte, Newline}}
use Rattle.tn_nvt.specs.Spelling.{spelling, spells}
use Rattle.tn_nvt.proofs.lemmas.Reading.{spells-append}
use Rattle.tn_pty.specs.{Terminal.Terminal, Runs.{ends_run, leading_run}}
use Rattle.tn_pty.proofs.lemmas.Fronts.{take-suc}
use Rattle.tn_server.specs.Replies.{data_of}

-- a terminal with these symbols to be pulled
abbrev pub shown_still : Terminal → List Symbol → Terminal
shown_still terminal symbols = record terminal { queue = symbols }

pub spelled_more : (before : List ℕ) (queue : List Symbol) (i : ℕ) (symbol : Symbol) → slice_get (drop i queue) 0 ≡ Some symbol
    → (before ++ spells (map data_of (take i queue))) ++ spelling (data_of symbol) ≡ before ++ spells (map data_of (take (suc i) queue))
spelled_more before queue i symbol e =
    let front = spells (map data_of (take i queue)) in
    let one : spells (map data_of (symbol ∷ [])) ≡ spelling (data_of symbol) = append-nil (spelling (data_of symbol)) in
    append_assoc before front (spelling (data_of symbol))
    ∙ ap (λ xs. before ++ (front ++ xs)) (sym one)
    ∙ ap (λ xs. before ++ xs) (sym (spells-append (map data_of (take i queue)) (map data_of (symbol ∷ []))))
    ∙ ap (λ xs. before ++ spells xs) (sym (map-append data_of (take i queue) (symbol ∷ [])))
    ∙ ap (λ xs. before ++ spells (map data_of xs)) (sym (take-suc queue i symbol e))

-- a run up to a CR or an IAC is spelled as it is
pub spelled_run : (n : ℕ) (queue : List Symbol) → n ≤ length (leading_run 13 255 queue)
    → spells (map data_of (take n queue)) ≡ take n (leading_run 13 255 queue)
spelled_run zero queue within = refl
spelled_run (suc n) [] within = absurd (omega (arith, within))
spelled_run (suc n) (Newline ∷ rest) within = absurd (omega (arith, within))
spelled_run (suc n) (Byte x ∷ rest) within =
    elim (cases_Bool (ends_run 13 255 x)) [
      | inl t ↦ let none = rw t at within in absurd (omega (arith, none))
      | inr t ↦
          let more = rw t at within in
          let parts = or_parts (x == 10 || x == 13) (x == 255) t in
          let cr : (x == 13) ≡ false = (or_parts (x == 10) (x == 13) parts.0).1 in
          let iac : (x == 255) ≡ false = parts.1 in
          rw (t, cr, iac) (ap (λ ys. x ∷ ys) (spelled_run n rest (omega (arith, more))))
    ]

-- symbols, and those after them
pub spelled_both : (before : List ℕ) (queue : List Symbol) (i n : ℕ)
    → (before ++ spells (map data_of (take i queue))) ++ spells (map data_of (take n (drop i queue))) ≡ before ++ spells (map data_of (take (i + n) queue))
spelled_both before queue i n =
    let front = map data_of (take i queue) in
    let back = map data_of (take n (drop i queue)) in
    append_assoc before (spells front) (spells back)
    ∙ ap (λ xs. before ++ xs)
    (sym (spells-append front back) ∙ ap spells (sym (map-append data_of (take i queue) (take n (drop i queue))) ∙ ap (map data_of) (sym (take-add i n queue))))
