-- A new end stands at the beginning.
use Rattle.std.proofs.Common.{◌≡◌, ℕ, Bool, true, false, [], refl, sym, ap, ◌∙◌}
use Rattle.tn_discipline.specs.Canon.{Canon}
use Rattle.tn_linemode.specs.Modes.{no_mode}
use Rattle.tn_option.specs.Options.{Options}
use Rattle.tn_pty.specs.Terminal.{new_terminal}
use Rattle.tn_server.specs.{Events.begun, Terms.{opening_options, linemode, asked_mask_while}, Calls.{End, LeadsTo}, declared.openings.Opening.Opening}

-- without a request nothing is asked
pub nothing_asked : (on : Bool) → asked_mask_while on 0 ≡ 0
nothing_asked true = refl
nothing_asked false = refl

pub begins : (opening : Opening) (canon : Canon) (end : End) → end.terminal ≡ new_terminal canon.settings canon.limit → end.table ≡ canon.settings.chars
    → end.terms.options ≡ opening_options opening → end.terms.wish ≡ 0 → end.terms.opening ≡ opening → end.modes ≡ no_mode → end.pulled ≡ false
    → end.breaks ≡ 0 → LeadsTo (begun opening canon) end
begins opening canon end terminal table options wish opens modes pulled breaks = record {
  settings = ap (λ t. t.settings) terminal;
  table = table;
  terms =
      ap (λ (o : Options). record { options = o; wish = end.terms.wish; opening = end.terms.opening }) options
      ∙ ap (λ (w : ℕ). record { options = opening_options opening; wish = w; opening = end.terms.opening }) wish
      ∙ ap (λ (x : Opening). record { options = opening_options opening; wish = 0; opening = x }) opens;
  modes = modes ∙ ap (λ (n : ℕ). record { asked = n; current = 0 }) (sym (nothing_asked (linemode (opening_options opening))));
  limit = ap (λ t. t.line.limit) terminal;
  line = rw (ap (λ t. t.line) terminal) (record { sent = []; count = refl; bytes = refl });
  ahead = ap (λ t. t.line.ahead) terminal;
  read = [];
  count = refl;
  waits = sym (ap (λ t. t.entries) terminal);
  queue = ap (λ t. t.queue) terminal;
  size = ap (λ t. (t.width, t.height)) terminal;
  due = pulled;
  breaks = breaks;
}
