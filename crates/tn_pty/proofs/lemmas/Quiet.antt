-- Bytes that come to the master and make no entry, and of which nothing is shown.
use Rattle.std.proofs.Common.{◌≡◌, ℕ, suc, Bool, true, false, ◌&&◌, All, List, [], ◌∷◌, ◌++◌, map, refl, sym, ap, ◌∙◌, if◌then◌else◌, arith, append-nil}
use Rattle.tn_discipline.specs.{Characters.Characters, HalfLine.{HalfLine, effect_of, line_after}, Keys.{role_of_key, literal_role, gives_entry}}
use Rattle.tn_discipline.specs.{Runs.{line_after_all, ordinary_roles}, Echo.{echo_at, one_shown, ordinary_shown, is_erased, wiping_symbols, no_echo}}
use Rattle.tn_discipline.specs.declared.{termios.{Flags.Flags, Settings.Settings}, keys.Role.Role, half_line.Effect.Effect, echo.Symbol.TheVariants.Newline}
use Rattle.tn_discipline.specs.declared.keys.Role.TheVariants as role
use Rattle.tn_discipline.proofs.lemmas.Editing.{quiet_gain}
use Rattle.tn_pty.specs.{Terminal.{Terminal, queue_with}, Typing.{gain_of, symbols_in, role_of_input, input_symbols, after_byte, after_all, JoinsEdited}}
use Rattle.tn_pty.specs.{Faults.AcceptsAll, declared.pty.Input.{Input, TheVariants.{Keys, Edited}}}
use Rattle.tn_pty.proofs.lemmas.Typed.{queue_still, same_parts}

-- without ECHO nothing is shown of a key that makes no entry
hidden_by : (flags : Flags) (r : Role) (e : Effect) → flags.echo ≡ false → gives_entry r ≡ false → symbols_in (echo_at flags r e) ≡ []
hidden_by flags (role.Ordinary byte) e off quiet = ap (λ b. symbols_in (one_shown b (ordinary_shown byte e))) off
hidden_by flags role.Erase e off quiet = ap (λ b. symbols_in (if b && (flags.echoe && is_erased e) then wiping_symbols else no_echo)) off
hidden_by flags role.Kill e off quiet = ap (λ b. symbols_in (one_shown (b && flags.echok) Newline)) off
hidden_by flags role.Ignored e off quiet = refl
hidden_by flags role.Nl e off quiet = cc
hidden_by flags (role.Eol byte) e off quiet = cc
hidden_by flags (role.Eol2 byte) e off quiet = cc
hidden_by flags role.Eof e off quiet = cc
hidden_by flags (role.Signal sig) e off quiet = cc

hidden_key : (echo : Bool) (flags : Flags) (r : Role) (e : Effect) → (echo && flags.echo) ≡ false → gives_entry r ≡ false
    → (if echo then symbols_in (echo_at flags r e) else []) ≡ []
hidden_key true flags r e off quiet = hidden_by flags r e off quiet
hidden_key false flags r e off quiet = refl

-- nothing is shown of bytes that make no entry
abbrev pub Hides : Input → Settings → Type 0
Hides (Keys echo) settings = (echo && settings.flags.echo) ≡ false
Hides Edited settings = Unit {0}

-- bytes that make no entry
abbrev pub AreQuiet : Input → Settings → List ℕ → Type 0
AreQuiet input settings bytes = All (λ byte. gives_entry (role_of_input input settings byte) ≡ false) bytes

hidden : (input : Input) (settings : Settings) (byte : ℕ) (line : HalfLine) → Hides input settings → gives_entry (role_of_input input settings byte) ≡ false
    → input_symbols input settings byte line ≡ []
hidden (Keys echo) settings key line off quiet = let r = role_of_key settings key in hidden_key echo settings.flags r (effect_of line r) off quiet
hidden Edited settings byte line off quiet = refl

module _ (input : Input) where
  quiet_first : (settings : Settings) (byte : ℕ) (bytes : List ℕ) → AreQuiet input settings (byte ∷ bytes)
      → gives_entry (role_of_input input settings byte) ≡ false
  quiet_first settings byte bytes quiet = quiet 0 0 (omega arith)

  quiet_rest : (settings : Settings) (byte : ℕ) (bytes : List ℕ) → AreQuiet input settings (byte ∷ bytes) → AreQuiet input settings bytes
  quiet_rest settings byte bytes quiet = λ k d lt. quiet (suc k) d (omega (arith, lt))

  hidden_one : (old : Terminal) (byte : ℕ) → Hides input old.settings → gives_entry (role_of_input input old.settings byte) ≡ false
      → after_byte input old byte ≡ record old { line = line_after old.line (role_of_input input old.settings byte) }
  hidden_one old byte off quiet =
      let r = role_of_input input old.settings byte in
      same_parts old (line_after old.line r) (line_after old.line r) (old.entries ++ gain_of old.line r) old.entries _ old.queue refl
      (ap (λ gain. old.entries ++ gain) (quiet_gain old.line r quiet) ∙ append-nil old.entries)
      (ap (queue_with old.queue) (hidden input old.settings byte old.line off quiet) ∙ queue_still old.queue)

  -- such bytes change only the line
  pub after_hidden : (bytes : List ℕ) (old : Terminal) → Hides input old.settings → AreQuiet input old.settings bytes
      → after_all input old bytes ≡ record old { line = line_after_all old.line (map (role_of_input input old.settings) bytes) }
  after_hidden [] old off quiet = refl
  after_hidden (byte ∷ bytes) old off quiet =
      let mid : Terminal = record old { line = line_after old.line (role_of_input input old.settings byte) } in
      ap (λ (t : Terminal). after_all input t bytes) (hidden_one old byte off (quiet_first old.settings byte bytes quiet))
      ∙ after_hidden bytes mid off (quiet_rest old.settings byte bytes quiet)

  -- each of the quiet bytes is accepted
  pub accepts_quiet : (old : Terminal) (bytes : List ℕ) → old.closed ≡ false → AreQuiet input old.settings bytes → AcceptsAll input old bytes
  accepts_quiet old [] takes quiet = tt
  accepts_quiet old (byte ∷ bytes) takes quiet = (
    record { opened = takes; room = λ gives. let is = quiet_first old.settings byte bytes quiet in cc },
    accepts_quiet (after_byte input old byte) bytes takes (quiet_rest old.settings byte bytes quiet),
  )

-- edited bytes that join the line are ordinary, and make no entry
joining_roles : (chars : Characters) (bytes : List ℕ) → All (JoinsEdited chars) bytes → map (literal_role chars) bytes ≡ ordinary_roles bytes
joining_roles chars [] joins = refl
joining_roles chars (byte ∷ bytes) joins =
    let first : JoinsEdited chars byte = joins 0 0 (omega arith) in
    let rest : All (JoinsEdited chars) bytes = λ k d lt. joins (suc k) d (omega (arith, lt)) in
    ap (λ r. r ∷ map (literal_role chars) bytes) first ∙ ap (λ rs. role.Ordinary byte ∷ rs) (joining_roles chars bytes rest)

pub joining_quiet : (settings : Settings) (bytes : List ℕ) → All (JoinsEdited settings.chars) bytes → AreQuiet Edited settings bytes
joining_quiet settings bytes joins = λ k d lt. ap gives_entry (joins k d lt)

-- a line that keeps as many of them as fit
pub after_joining : (old : Terminal) (bytes : List ℕ) (line : HalfLine) → All (JoinsEdited old.settings.chars) bytes
    → line ≡ line_after_all old.line (ordinary_roles bytes) → let new : Terminal = record old { line = line } in new ≡ after_all Edited old bytes
after_joining old bytes line joins is =
    same_parts old line _ old.entries old.entries old.queue old.queue
    (is ∙ ap (line_after_all old.line) (sym (joining_roles old.settings.chars bytes joins))) refl refl
    ∙ sym (after_hidden Edited bytes old tt (joining_quiet old.settings bytes joins))
