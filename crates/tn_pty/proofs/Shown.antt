-- Lists of symbols, of which some are there.
use Rattle.std.proofs.Common.{◌≡◌, ℕ, suc, ◌+◌, ◌<◌, Option, Some, None, List, [], ◌∷◌, ◌++◌, length, take, drop, get_or, refl, sym, ap, ◌∙◌, arith, append-nil}
use Rattle.std.proofs.{Common.length-append, lemmas.List.{take_more, take-append-drop, Sums.length-filter}}
use Rattle.std.specs.Prelude.{count_by, is_some, filter}
use Rattle.tn_discipline.specs.declared.echo.Symbol.{Symbol}
use Rattle.tn_pty.specs.Typing.{symbols_in}

length-present : (symbols : List (Option Symbol)) → length (symbols_in symbols) ≡ length (filter (λ s. is_some s) symbols)
length-present [] = refl
length-present (None ∷ rest) = length-present rest
length-present (Some symbol ∷ rest) = ap suc (length-present rest)

pub count_present : (symbols : List (Option Symbol)) → length (symbols_in symbols) ≡ count_by (λ s. is_some s) symbols
count_present symbols = length-present symbols ∙ length-filter (λ s. is_some s) symbols

pub present-append : (xs ys : List (Option Symbol)) → symbols_in (xs ++ ys) ≡ symbols_in xs ++ symbols_in ys
present-append [] ys = refl
present-append (None ∷ xs) ys = present-append xs ys
present-append (Some symbol ∷ xs) ys = ap (λ s. symbol ∷ s) (present-append xs ys)

-- a step of a loop over symbols, at one that is there
pub present_some : (symbols : List (Option Symbol)) (i : ℕ) (x : Symbol) → i < length symbols → get_or symbols i None ≡ Some x
    → symbols_in (take (i + 1) symbols) ≡ symbols_in (take i symbols) ++ x ∷ []
present_some symbols i x within is =
    ap symbols_in (take_more symbols i None within)
    ∙ present-append (take i symbols) (get_or symbols i None ∷ [])
    ∙ ap (λ o. symbols_in (take i symbols) ++ symbols_in (o ∷ [])) is

-- a step of a loop over symbols, at one that is not there
pub present_none : (symbols : List (Option Symbol)) (i : ℕ) → i < length symbols → get_or symbols i None ≡ None
    → symbols_in (take (i + 1) symbols) ≡ symbols_in (take i symbols)
present_none symbols i within is =
    ap symbols_in (take_more symbols i None within)
    ∙ present-append (take i symbols) (get_or symbols i None ∷ [])
    ∙ ap (λ o. symbols_in (take i symbols) ++ symbols_in (o ∷ [])) is
    ∙ append-nil (symbols_in (take i symbols))

-- there is room for a symbol that is there
pub present_room : (symbols : List (Option Symbol)) (i : ℕ) (x : Symbol) → i < length symbols → get_or symbols i None ≡ Some x
    → length (symbols_in (take i symbols)) < length (symbols_in symbols)
present_room symbols i x within is =
    let whole : length (symbols_in symbols) ≡ length (symbols_in (take (i + 1) symbols)) + length (symbols_in (drop (i + 1) symbols)) =
    ap (λ xs. length (symbols_in xs)) (sym (take-append-drop (i + 1) symbols))
    ∙ ap length (present-append (take (i + 1) symbols) (drop (i + 1) symbols))
    ∙ length-append (symbols_in (take (i + 1) symbols)) (symbols_in (drop (i + 1) symbols)) in
    omega (arith, whole, ap length (present_some symbols i x within is), length-append (symbols_in (take i symbols)) (x ∷ []))
