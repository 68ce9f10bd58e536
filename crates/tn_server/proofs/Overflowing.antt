-- The entries and symbols that wait at a server end are bounded.
use Rattle.std.proofs.Common.{◌≡◌, ℕ, ◌≤◌, ◌+◌, nat_le, ◌&&◌, Bool, true, false, List, ◌++◌, length, map, take, refl, ap, arith, length-append, length-drop}
use Rattle.std.proofs.{Common.if◌then◌else◌, lemmas.{Bool.leb-true, List.{length-take, length-map, Elements.All-drop}}}
use Rattle.std.specs.Prelude.{All}
use Rattle.tn_discipline.proofs.lemmas.Texts.{texts_fit}
use Rattle.tn_discipline.specs.{Entries.HasAtMost, Limits.{is_limit, standard_limit, max_limit}, declared.echo.Symbol.Symbol}
use Rattle.tn_linemode.specs.Modes.{edits}
use Rattle.tn_pty.specs.Terminal.{queue_symbols, max_waiting, fitting_count, output_symbol}
use Rattle.tn_server.specs.{Events.{History, begun, next, got, wrote, pulled, limit}, Lines.{line, roles, entries, taken_count, waiting}, Screen.{queue, shows}}
use Rattle.tn_server.specs.{Terms.{settings, mode, options, echoes}, Calls.{End, LeadsTo}}
use Rattle.tn_server.proofs.lemmas.Ends.{waits_are}

fits_with : (b : Bool) (symbols more : List Symbol) → nat_le (length symbols + length more) queue_symbols ≡ b → length symbols ≤ queue_symbols
    → length (if b then symbols ++ more else symbols) ≤ queue_symbols
fits_with true symbols more fits few = omega (arith, leb-true (length symbols + length more) queue_symbols fits, length-append symbols more)
fits_with false symbols more fits few = few

pub queue_fits : (h : History) → length (queue h) ≤ queue_symbols
queue_fits (begun o canon) = omega arith
queue_fits (next h (got item)) =
    let more = shows (settings h) (edits (mode h)) (echoes (options h)) (line h) item in
    fits_with (nat_le (length (queue h) + length more) queue_symbols) (queue h) more refl (queue_fits h)
queue_fits (next h (wrote bytes)) =
    let n = fitting_count (queue h) bytes in
    let shown = take n bytes in
    omega (
      arith,
      queue_fits h,
      length-append (queue h) (map (output_symbol (settings h).flags) shown),
      length-map shown (output_symbol (settings h).flags),
      length-take n bytes,
    )
queue_fits (next h (pulled n)) = omega (arith, queue_fits h, length-drop n (queue h))
queue_fits (next h _) = queue_fits h

pub waiting_fits : (h : History) (end : End) → LeadsTo h end → length end.terminal.entries ≤ max_waiting → length (waiting h) ≤ max_waiting
waiting_fits h end leads few = omega (arith, few, ap length (waits_are h end leads))

-- a limit is one byte at least
some_byte : (a b : Bool) (n : ℕ) → nat_le standard_limit n ≡ a → a && b ≡ true → 1 ≤ n
some_byte true b n is both = omega (arith, leb-true standard_limit n is)
some_byte false b n is both = cc

pub entries_fit : (h : History) → is_limit (limit h) ≡ true → All (HasAtMost (limit h)) (entries h)
entries_fit h is =
    texts_fit (limit h) (some_byte (nat_le standard_limit (limit h)) (nat_le (limit h) max_limit) (limit h) refl is) (roles h)

pub waiting_texts_fit : (h : History) → is_limit (limit h) ≡ true → All (HasAtMost (limit h)) (waiting h)
waiting_texts_fit h is = All-drop (HasAtMost (limit h)) (taken_count h) (entries h) (entries_fit h is)
