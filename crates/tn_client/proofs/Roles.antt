-- The roles of a key if ISIG is set, and if it is clear.
use Rattle.std.proofs.Common.{◌≡◌, ℕ, Bool, true, false, ◌==◌, Option, Some, None, refl, if◌then◌else◌}
use Rattle.tn_discipline.specs.{Characters.{Characters, is_set_to}, declared.keys.Role.{Role, TheVariants.{Nl, Eol, Eol2, Eof, Erase, Kill, Signal}}}
use Rattle.tn_discipline.specs.Keys.{standard_flags, mapped_key, signal_of, role_by_signal, role_of_mapped, role_or_ignored, role_of_key}
use Rattle.tn_discipline.specs.declared.reads.Sig.{Sig}
use Rattle.tn_client.specs.Lines.{settings_by}

-- a role that is no signal
abbrev pub IsQuiet : Role → Type 0
IsQuiet r = (sig : Sig) → r ≡ Signal sig → ⊥

same_else : (b : Bool) (x y z : Role) → (IsQuiet y → y ≡ z) → IsQuiet (if b then x else y) → (if b then x else y) ≡ (if b then x else z)
same_else true x y z same quiet = refl
same_else false x y z same quiet = same quiet

same_signal : (signal : Option Sig) (byte : ℕ) → IsQuiet (role_by_signal true signal byte)
    → role_by_signal true signal byte ≡ role_by_signal false signal byte
same_signal None byte quiet = refl
same_signal (Some sig) byte quiet = absurd (quiet sig refl)

same_mapped : (c : Characters) (byte : ℕ) → IsQuiet (role_of_mapped (settings_by true c) byte)
    → role_of_mapped (settings_by true c) byte ≡ role_of_mapped (settings_by false c) byte
same_mapped c byte =
    same_else (byte == 10) Nl _ _
    (same_else (is_set_to c.eol byte) (Eol byte) _ _
    (same_else (is_set_to c.eol2 byte) (Eol2 byte) _ _
    (same_else (is_set_to c.eof byte) Eof _ _
    (same_else (is_set_to c.erase byte) Erase _ _
    (same_else (is_set_to c.kill byte) Kill _ _ (same_signal (signal_of c byte) byte))))))

same_option : (c : Characters) (mapped : Option ℕ) → IsQuiet (role_or_ignored (settings_by true c) mapped)
    → role_or_ignored (settings_by true c) mapped ≡ role_or_ignored (settings_by false c) mapped
same_option c None quiet = refl
same_option c (Some byte) quiet = same_mapped c byte quiet

-- a key that gives no signal if ISIG is set has one role
pub same_role_either : (c : Characters) (key : ℕ) → IsQuiet (role_of_key (settings_by true c) key)
    → role_of_key (settings_by true c) key ≡ role_of_key (settings_by false c) key
same_role_either c key quiet = same_option c (mapped_key standard_flags key) quiet
