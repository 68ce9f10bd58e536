-- More keys that are typed at one line.
use Rattle.std.proofs.Common.{◌≡◌, ◌<◌, ℕ, ◌+◌, ◌-◌, true, false, Result, Ok, Err, OnOk, OnErr, All, List, [], ◌∷◌, ◌++◌, length, take, drop, get_or, refl, sym}
use Rattle.std.proofs.{Common.{ap, ◌∙◌, subst, arith, append-nil, append_assoc}, Math.Seq.take-add, lemmas.List.{take_all, take_more, length-drop}}
use Rattle.std.proofs.lemmas.Grind.{flat_map-append}
use Rattle.tn_discipline.specs.{Canon.typed_entries, Entries.{entries_of, line_of}, Editing.{closing_byte, IsClosing, with_byte}, Advancing.Advances}
use Rattle.tn_discipline.specs.{Keys.{roles_of, role_of_key, roles_from, gives_entry}, Runs.{line_after_all, ordinary_roles}, RolesTable.IsPlain}
use Rattle.tn_discipline.specs.{declared.termios.Settings.Settings, HalfLine.{HalfLine, empty_line, effect_of, line_after, effect_entries, GivesText}}
use Rattle.tn_discipline.specs.declared.{half_line.Effect.Effect, reads.{Entry.Entry, Sig.Sig}, keys.Role.Role}
use Rattle.tn_discipline.specs.declared.half_line.Effect.TheVariants as effect
use Rattle.tn_discipline.specs.declared.reads.Entry.TheVariants as entry
use Rattle.tn_discipline.specs.declared.keys.Role.TheVariants as role
use Rattle.tn_discipline.proofs.lemmas.{Editing.{closing_effect, closing_leaves, plain_each, plain_quiet, quiet_advance, quiet_gain}, Lines.advances}
use Rattle.tn_discipline.proofs.lemmas.KeyRoles.{roles_of-append, roles_of-one}
use Rattle.tn_cli.specs.{Printed.{printed, printed_entry}, Typing.{Types, standard}, declared.typing.Typing.Typing}
use Rattle.tn_cli.proofs.Items.{types_both}

pub typed_more : (old new : Typing) (more : List ℕ) (gain : List Entry) → new.roles ≡ old.roles
    → Advances old.line (roles_of old.roles more) gain new.line → new.printed.items ≡ old.printed.items ++ printed gain
    → Types more old new
typed_more old new more gain same moves shown keys given had =
    let advances = rw had.settings at moves in
    let roles = roles_of-append standard.settings keys more in
    let before = roles_of standard.settings keys in
    let entries = subst (λ limit. entries_of limit (before ++ roles_of standard.settings more) ≡ entries_of limit before ++ gain) had.limit
    (advances.entries before had.line had.ahead) in
    record {
      settings = same ∙ had.settings;
      limit = advances.limit ∙ had.limit;
      line = rw roles (advances.half before had.line);
      ahead = omega (arith, had.ahead, advances.ahead);
      printed =
          ap (λ (xs : List ℕ). given ++ xs) shown
          ∙ sym (append_assoc given old.printed.items (printed gain))
          ∙ ap (λ (xs : List ℕ). xs ++ printed gain) had.printed
          ∙ sym (flat_map-append printed_entry (typed_entries standard keys) gain)
          ∙ ap printed (sym entries)
          ∙ ap (λ (rs : List Role). printed (entries_of standard.limit rs)) (sym roles);
    }

-- one key
pub typed_key : (old new : Typing) (key : ℕ) (r : Role) (gain : List Entry) → new.roles ≡ old.roles → r ≡ role_of_key old.roles key
    → Advances old.line (roles_from r) gain new.line → new.printed.items ≡ old.printed.items ++ printed gain
    → Types (key ∷ []) old new
typed_key old new key r gain same is moves shown =
    typed_more old new (key ∷ []) gain same (subst (λ rs. Advances old.line rs gain new.line) (ap roles_from is ∙ roles_of-one old.roles key) moves) shown

closing_gives : (line : HalfLine) (r : Role) → IsClosing r
    → Advances line (roles_from r) (line_of (with_byte line.held (closing_byte r)) ∷ []) (empty_line line.limit)
closing_gives line r closes =
    subst (λ (e : Effect). Advances line (roles_from r) (effect_entries e) (empty_line line.limit)) (closing_effect line r closes)
    (subst (λ (l : HalfLine). Advances line (roles_from r) (effect_entries (effect_of line r)) l) (closing_leaves line r closes) (advances line r))

-- a key that closes the line
pub typed_close : (old new : Typing) (key : ℕ) (r : Role) → new.roles ≡ old.roles → r ≡ role_of_key old.roles key → IsClosing r
    → new.line ≡ empty_line old.line.limit → new.printed.items ≡ old.printed.items ++ printed_entry (line_of (with_byte old.line.held (closing_byte r)))
    → Types (key ∷ []) old new
typed_close old new key r same is closes empty shown =
    let entry = line_of (with_byte old.line.held (closing_byte r)) in
    typed_key old new key r (entry ∷ []) same is
    (subst (λ (line : HalfLine). Advances old.line (roles_from r) (entry ∷ []) line) (sym empty) (closing_gives old.line r closes))
    (shown ∙ ap (λ xs. old.printed.items ++ xs) (sym (append-nil (printed_entry entry))))

-- a key that gives an entry closes the line, unless it gives a signal
pub closes : (r : Role) → gives_entry r ≡ true → ((sig : Sig) → r ≡ role.Signal sig → ⊥) → IsClosing r
closes role.Nl gives other = tt
closes (role.Eol b) gives other = tt
closes (role.Eol2 b) gives other = tt
closes role.Eof gives other = tt
closes (role.Signal sig) gives other = absurd (other sig refl)
closes role.Ignored gives other = absurd (cc)
closes role.Erase gives other = absurd (cc)
closes role.Kill gives other = absurd (cc)
closes (role.Ordinary b) gives other = absurd (cc)

-- a key that gives a signal
pub typed_signal : (old new : Typing) (key : ℕ) (sig : Sig) → new.roles ≡ old.roles → role.Signal sig ≡ role_of_key old.roles key
    → new.line ≡ old.line → new.printed.items ≡ old.printed.items ++ printed_entry (entry.Signal sig) → Types (key ∷ []) old new
typed_signal old new key sig same is stays shown =
    typed_key old new key (role.Signal sig) (entry.Signal sig ∷ []) same is
    (subst (λ (line : HalfLine). Advances old.line (roles_from (role.Signal sig)) (entry.Signal sig ∷ []) line) (sym stays)
    (advances old.line (role.Signal sig)))
    (shown ∙ ap (λ xs. old.printed.items ++ xs) (sym (append-nil (printed_entry (entry.Signal sig)))))

-- a key that gives no entry was played, which wants no memory
gives_none : (line : HalfLine) (r : Role) (e : Entry) → gives_entry r ≡ false → effect_of line r ≡ effect.Gives e → ⊥
gives_none line r e quiet gives =
    let none : [] ≡ e ∷ [] = sym (quiet_gain line r quiet) ∙ ap effect_entries gives in
    absurd (cc)

pub typed_quiet : {E : Type 0} (old new : Typing) (key : ℕ) (r : Role) (played : Result Effect E) → new.roles ≡ old.roles
    → r ≡ role_of_key old.roles key → gives_entry r ≡ false → OnOk played (new.line ≡ line_after old.line r) → OnErr played (GivesText old.line r) →
    new.printed.items ≡ old.printed.items → Types (key ∷ []) old new
typed_quiet old new key r (Ok e) same is quiet line text shown =
    typed_key old new key r [] same is
    (subst (λ (gain : List Entry). Advances old.line (roles_from r) gain new.line) (quiet_gain old.line r quiet)
    (subst (λ (l : HalfLine). Advances old.line (roles_from r) (effect_entries (effect_of old.line r)) l) (sym line) (advances old.line r)))
    (shown ∙ sym (append-nil old.printed.items))
typed_quiet old new key r (Err e) same is quiet line (bytes, gives) shown = absurd (gives_none old.line r (entry.Text bytes) quiet gives)

-- keys that give no entry
pub typed_run : (old new : Typing) (keys : List ℕ) → new.roles ≡ old.roles
    → Advances old.line (roles_of old.roles keys) [] new.line → new.printed.items ≡ old.printed.items → Types keys old new
typed_run old new keys same moves shown = typed_more old new keys [] same moves (shown ∙ sym (append-nil old.printed.items))

-- keys that join the line as they are
pub plain_advance : (settings : Settings) (keys : List ℕ) (old new : HalfLine) → All (IsPlain settings) keys → new ≡ line_after_all old (ordinary_roles keys)
    → Advances old (roles_of settings keys) [] new
plain_advance settings keys old new plain is =
    quiet_advance settings keys old new (plain_quiet settings keys plain) (is ∙ ap (line_after_all old) (sym (plain_each settings keys plain)))

-- some of the keys, and the next one
pub types_next : (old mid new : Typing) (keys : List ℕ) (i : ℕ) → i < length keys → Types (take i keys) old mid → Types (get_or keys i 0 ∷ []) mid new
    → Types (take (i + 1) keys) old new
types_next old mid new keys i within a b =
    subst (λ xs. Types xs old new) (sym (take_more keys i 0 within)) (types_both old mid new (take i keys) (get_or keys i 0 ∷ []) a b)

-- some more of the keys that are left
pub types_front : (old mid new : Typing) (keys : List ℕ) (i n : ℕ) → Types (take i keys) old mid → Types (take n (take (length keys - i) (drop i keys))) mid new
    → Types (take (i + n) keys) old new
types_front old mid new keys i n a b =
    let left : take (length keys - i) (drop i keys) ≡ drop i keys = take_all (length keys - i) (drop i keys) (omega (arith, length-drop i keys)) in
    let front : Types (take n (drop i keys)) mid new = subst (λ xs. Types (take n xs) mid new) left b in
    subst (λ xs. Types xs old new) (sym (take-add i n keys)) (types_both old mid new (take i keys) (take n (drop i keys)) a front)
