-- The roles of the keys that a key becomes.
use Rattle.std.proofs.Common.{◌≡◌, ℕ, zero, suc, ◌==◌, Bool, true, false, ◌&&◌, IsFalse, Option, Some, None, [], ◌∷◌, ◌++◌, replicate, refl, sym, ap, ◌∙◌}
use Rattle.std.proofs.Common.{if◌then◌else◌, arith}
use Rattle.tn_codes.specs.declared.codes.Func.TheVariants as func
use Rattle.tn_discipline.specs.{Characters.{AreAllowed, is_set_to, is_reserved}, declared.{keys.Role.Role, termios.{Flags.Flags, Settings.Settings}}}
use Rattle.tn_discipline.specs.Keys.{mapped_key, role_or_ignored, role_of_mapped, role_of_key, roles_of, roles_from}
use Rattle.tn_discipline.specs.declared.keys.Role.TheVariants as role
use Rattle.tn_discipline.proofs.lemmas.{Functions.{set_to, is_set}, KeyRoles.{roles_of-one, roles_of-append}}
use Rattle.tn_editor.specs.{EditKeys.{Terminal, is_present, edit_role, edit_role_of_key}, declared.edit_keys.EditRole.TheVariants.{Plain, EraseWord, Reprint}}
use Rattle.tn_editor.specs.{Edited.Editing, Expanding.{times, becomes, erase_key, expanded_key, played_times}}

-- THE ERASE CHARACTER
pub not_ten : (byte : ℕ) → IsFalse (is_reserved byte) → (byte == 10) ≡ false
not_ten byte h = grind arith

not_thirteen : (byte : ℕ) → IsFalse (is_reserved byte) → (byte == 13) ≡ false
not_thirteen byte h = grind arith

pub mapped_to_itself : (flags : Flags) (byte : ℕ) → IsFalse (is_reserved byte) → mapped_key flags byte ≡ Some byte
mapped_to_itself flags byte h = rw (not_ten byte h, not_thirteen byte h)

-- no other character is the ERASE character
pub unset_by : (value : Option ℕ) (byte : ℕ) → (value ≡ Some byte → ⊥) → is_set_to value byte ≡ false
unset_by value byte unlike = by_test (is_set_to value byte) refl
  where
    by_test : (b : Bool) → is_set_to value byte ≡ b → is_set_to value byte ≡ false
    by_test true e = elim (unlike (set_to value byte e)) [ ]
    by_test false e = e

erase_of_mapped : (settings : Settings) (byte : ℕ) → AreAllowed settings.chars → settings.chars.erase ≡ Some byte → role_of_mapped settings byte ≡ role.Erase
erase_of_mapped settings byte allowed is =
    let free = allowed.unreserved func.Ec byte is in
    let eol = unset_by settings.chars.eol byte (λ h. cc (allowed.distinct func.Ec func.Forw1 byte is h)) in
    let eol2 = unset_by settings.chars.eol2 byte (λ h. cc (allowed.distinct func.Ec func.Forw2 byte is h)) in
    let eof = unset_by settings.chars.eof byte (λ h. cc (allowed.distinct func.Ec func.Eof byte is h)) in
    rw (not_ten byte free, eol, eol2, eof, is_set settings.chars.erase byte is)

pub erase_role : (settings : Settings) (byte : ℕ) → AreAllowed settings.chars → settings.chars.erase ≡ Some byte → role_of_key settings byte ≡ role.Erase
erase_role settings byte allowed is =
    ap (role_or_ignored settings) (mapped_to_itself settings.flags byte (allowed.unreserved func.Ec byte is)) ∙ erase_of_mapped settings byte allowed is

-- A KEY, TYPED SEVERAL TIMES
pub repeated : (settings : Settings) (key n : ℕ) (r : Role) → roles_of settings (key ∷ []) ≡ r ∷ [] → roles_of settings (replicate n key) ≡ replicate n r
repeated settings key zero r one = refl
repeated settings key (suc n) r one =
    roles_of-append settings (key ∷ []) (replicate n key) ∙ ap (λ roles. roles ++ roles_of settings (replicate n key)) one
    ∙ ap (λ roles. r ∷ roles) (repeated settings key n r one)

pub of_role : (settings : Settings) (key : ℕ) (r : Role) → role_of_key settings key ≡ r → roles_of settings (key ∷ []) ≡ roles_from r
of_role settings key r is = sym (roles_of-one settings key) ∙ ap roles_from is

present_by : (value : Option ℕ) (key : ℕ) → is_present value ≡ true → value ≡ Some (erase_key value key)
present_by None key h = cc
present_by (Some byte) key h = refl

both_true : (a b : Bool) → (a && b) ≡ true → b ≡ true
both_true true b h = h
both_true false b h = cc

none_at_all : (settings : Settings) (key n : ℕ) → roles_of settings (key ∷ []) ≡ [] → roles_of settings (replicate n key) ≡ []
none_at_all settings key zero none = refl
none_at_all settings key (suc n) none =
    roles_of-append settings (key ∷ []) (replicate n key) ∙ ap (λ roles. roles ++ roles_of settings (replicate n key)) none
    ∙ none_at_all settings key n none

module _ (t : Terminal) (allowed : AreAllowed t.canon.settings.chars) (e : Editing) (key : ℕ) where
  -- an ordinary byte is perhaps an editing key
  ordinary_by_tests : (byte : ℕ) (w p : Bool) → role_of_key t.canon.settings key ≡ role.Ordinary byte
      → (is_set_to t.keys.werase byte && is_present t.canon.settings.chars.erase) ≡ w
      → let r = if w then EraseWord else (if p then Reprint else Plain (role.Ordinary byte)) in
      roles_of t.canon.settings (replicate (times t e r) (becomes t.canon.settings.chars r key)) ≡ played_times r (times t e r)
  ordinary_by_tests byte true p is w =
      let erase = present_by t.canon.settings.chars.erase key (both_true (is_set_to t.keys.werase byte) _ w) in
      repeated t.canon.settings (erase_key t.canon.settings.chars.erase key) (times t e EraseWord) role.Erase
      (of_role t.canon.settings (erase_key t.canon.settings.chars.erase key) role.Erase
      (erase_role t.canon.settings (erase_key t.canon.settings.chars.erase key) allowed erase))
  ordinary_by_tests byte false true is w = refl
  ordinary_by_tests byte false false is w =
      repeated t.canon.settings key (times t e (Plain (role.Ordinary byte))) (role.Ordinary byte)
      (of_role t.canon.settings key (role.Ordinary byte) is)

  by_role : (r : Role) → role_of_key t.canon.settings key ≡ r
      → let er = edit_role t.canon.settings t.keys r in
      roles_of t.canon.settings (replicate (times t e er) (becomes t.canon.settings.chars er key)) ≡ played_times er (times t e er)
  by_role (role.Ordinary byte) is =
      ordinary_by_tests byte (is_set_to t.keys.werase byte && is_present t.canon.settings.chars.erase)
      (is_set_to t.keys.rprnt byte && t.canon.settings.flags.echo) is refl
  by_role role.Ignored is = none_at_all t.canon.settings key 1 (of_role t.canon.settings key role.Ignored is)
  by_role role.Erase is =
      repeated t.canon.settings key (times t e (Plain role.Erase)) role.Erase (of_role t.canon.settings key role.Erase is)
  by_role role.Kill is = repeated t.canon.settings key 1 role.Kill (of_role t.canon.settings key role.Kill is)
  by_role role.Nl is = repeated t.canon.settings key 1 role.Nl (of_role t.canon.settings key role.Nl is)
  by_role role.Eof is = repeated t.canon.settings key 1 role.Eof (of_role t.canon.settings key role.Eof is)
  by_role (role.Eol byte) is = repeated t.canon.settings key 1 (role.Eol byte) (of_role t.canon.settings key (role.Eol byte) is)
  by_role (role.Eol2 byte) is = repeated t.canon.settings key 1 (role.Eol2 byte) (of_role t.canon.settings key (role.Eol2 byte) is)
  by_role (role.Signal sig) is = repeated t.canon.settings key 1 (role.Signal sig) (of_role t.canon.settings key (role.Signal sig) is)

  -- the roles of the keys that one key becomes
  pub roles_of_expanded : let er = edit_role_of_key t key in
      roles_of t.canon.settings (expanded_key t e key) ≡ played_times er (times t e er)
  roles_of_expanded = by_role (role_of_key t.canon.settings key) refl
