-- Bytes of data that come in runs.
use Rattle.std.proofs.Common.{◌≡◌, inl, inr, ℕ, Bool, true, false, Result, Ok, Err, OnOk, IfErr, List, [], ◌∷◌, map, refl, sym, ap, ◌∙◌, subst, if◌then◌else◌}
use Rattle.std.proofs.lemmas.Result.{IfErr-weaker}
use Rattle.tn_discipline.specs.{declared.{termios.Settings.Settings, keys.Role.Role}, Keys.role_of_key}
use Rattle.tn_linemode.specs.Modes.{edits}
use Rattle.tn_nvt.specs.declared.items.Item.TheVariants.{Byte}
use Rattle.tn_pty.specs.{Terminal.Terminal, Typing.{terminal_after, role_of_input, after_byte, after_all}, Faults.{Refuses, StopsWithin}}
use Rattle.tn_pty.specs.declared.pty.{Input.{Input, TheVariants.{Keys, Edited}}, PtyFault.PtyFault}
use Rattle.tn_pty.specs.declared.pty.PtyFault.TheVariants as pty
use Rattle.tn_pty.proofs.lemmas.Typed.{input-settings}
use Rattle.tn_server.specs.{Lines.role_of_byte, Screen.byte_shows, Terms.echoes, Calls.End, Lending.RefusesByte, declared.faults.ServerFault.TheVariants.Pty}
use Rattle.tn_server.specs.Steps.{IsShut, IsKeyCause, IsRefusedFor, role_of_typed, end_after_byte, end_after_items}

-- how bytes of data come to the terminal of an end
abbrev pub input_of : Bool → Bool → Input
input_of edit echo = if edit then Edited else Keys echo

abbrev pub input_at : End → Input
input_at old = input_of (edits old.modes.current) (echoes old.terms.options)

role_by_mode : (edit echo : Bool) (s : Settings) (byte : ℕ) → role_of_byte s edit byte ≡ role_of_input (input_of edit echo) s byte
role_by_mode true echo s byte = refl
role_by_mode false echo s byte = refl

byte_by_mode : (edit echo : Bool) (t : Terminal) (byte : ℕ) → terminal_after t (role_of_byte t.settings edit byte) (byte_shows t.settings edit echo t.line byte)
    ≡ after_byte (input_of edit echo) t byte
byte_by_mode true echo t byte = refl
byte_by_mode false echo t byte = refl

-- the end after these bytes
abbrev end_after_run : End → List ℕ → End
end_after_run old bytes = record old { terminal = after_all (input_at old) old.terminal bytes }

run_after : (old : End) (bytes : List ℕ) → end_after_run old bytes ≡ end_after_items old (map Byte bytes)
run_after old [] = refl
run_after old (b ∷ bytes) =
    let mid : End = record old { terminal = after_byte (input_at old) old.terminal b } in
    let one : mid ≡ end_after_byte old b = sym (ap (λ (t : Terminal). record old { terminal = t })
    (byte_by_mode (edits old.modes.current) (echoes old.terms.options) old.terminal b)) in
    run_after mid bytes ∙ ap (λ (e : End). end_after_items e (map Byte bytes)) one

refused_shut : (mid new : End) (r : Role) (f : PtyFault) → Refuses mid.terminal r f new.terminal → new ≡ record mid { terminal = new.terminal } → IsShut mid new
refused_shut mid new r pty.Closed x same = inl (same ∙ ap (λ (t : Terminal). record mid { terminal = t }) x.1)
refused_shut mid new r pty.TooFarAhead x same = inr (same ∙ ap (λ (t : Terminal). record mid { terminal = t }) x.3)
refused_shut mid new r pty.Memory x same = inr (same ∙ ap (λ (t : Terminal). record mid { terminal = t }) x.2)

refused_cause : (t new : Terminal) (r : Role) (f : PtyFault) → Refuses t r f new → IsKeyCause t r f
refused_cause t new r pty.Closed x = x.0
refused_cause t new r pty.TooFarAhead x = (x.1, x.2)
refused_cause t new r pty.Memory x = (x.1, x.0.room x.1)

-- a key that is typed while the client does not edit is refused for the cause of its role
pub refused_key : (old : End) (new : Terminal) (byte : ℕ) {T : Type 0} (r : Result T PtyFault) → edits old.modes.current ≡ false
    → IfErr r (λ f. Refuses old.terminal (role_of_key old.terminal.settings byte) f new) → IfErr r (λ f. IsKeyCause old.terminal (role_of_typed old byte) f)
refused_key old new byte r edit refused =
    let key : Role = role_of_key old.terminal.settings byte in
    let role : key ≡ role_of_typed old byte = ap (λ (e : Bool). role_of_byte old.terminal.settings e byte) (sym edit) in
    IfErr-weaker r (λ f. Refuses old.terminal key f new) (λ f. IsKeyCause old.terminal (role_of_typed old byte) f)
    (λ f x. subst (λ (q : Role). IsKeyCause old.terminal q f) role (refused_cause old.terminal new key f x)) refused

-- the role of the byte that was refused
role_there : (old : End) (done : List ℕ) (byte : ℕ) → role_of_typed (end_after_run old done) byte ≡ role_of_input (input_at old) old.terminal.settings byte
role_there old done byte =
    role_by_mode (edits old.modes.current) (echoes old.terms.options) (end_after_run old done).terminal.settings byte
    ∙ ap (λ s. role_of_input (input_at old) s byte) (input-settings (input_at old) old.terminal done)

module _ (old new : End) (bytes : List ℕ) (input : Input) (is_input : input ≡ input_at old) (same : new ≡ record old { terminal = new.terminal }) where
  pub run_done : {T E : Type 0} (r : Result T E) → OnOk r (new.terminal ≡ after_all input old.terminal bytes)
      → OnOk r (new ≡ end_after_items old (map Byte bytes))
  run_done (Ok x) is =
      same ∙ ap (λ (t : Terminal). record old { terminal = t }) (is ∙ ap (λ i. after_all i old.terminal bytes) is_input) ∙ run_after old bytes
  run_done (Err e) is = tt

  stops : (f : PtyFault) → StopsWithin (input_at old) old.terminal bytes f new.terminal → RefusesByte old bytes (Pty f) new
  stops f s =
      let mid = end_after_run old s.done in
      let r = role_of_input (input_at old) old.terminal.settings s.byte in
      let cause : IsKeyCause mid.terminal (role_of_typed mid s.byte) f =
      subst (λ x. IsKeyCause mid.terminal x f) (sym (role_there old s.done s.byte)) (refused_cause mid.terminal new.terminal r f s.refused) in
      record {
        done = s.done;
        byte = s.byte;
        left = s.left;
        whole = s.whole;
        cause = subst (λ (e : End). IsRefusedFor e (Byte s.byte) (Pty f)) (run_after old s.done) cause;
        step = subst (λ (e : End). IsShut e new) (run_after old s.done) (refused_shut mid new r f s.refused same);
      }

  pub run_stops : {T : Type 0} (r : Result T PtyFault) → IfErr r (λ fault. StopsWithin input old.terminal bytes fault new.terminal)
      → IfErr r (λ fault. RefusesByte old bytes (Pty fault) new)
  run_stops (Ok x) s = tt
  run_stops (Err f) s = stops f (subst (λ i. StopsWithin i old.terminal bytes f new.terminal) is_input s)
