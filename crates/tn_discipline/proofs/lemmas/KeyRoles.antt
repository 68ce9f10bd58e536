-- The roles of more keys.
use Rattle.std.proofs.Common.{◌≡◌, ℕ, ◌==◌, Bool, true, false, Option, Some, None, List, [], ◌∷◌, ◌++◌, map, refl, sym, ap, ◌∙◌, if◌then◌else◌}
use Rattle.std.proofs.lemmas.List.{map-append}
use Rattle.std.specs.List.{cons_option, filter_map}
use Rattle.tn_discipline.specs.{Characters.{Characters, is_set_to}, declared.{termios.Settings.Settings, reads.Sig.Sig, keys.Role.Role}}
use Rattle.tn_discipline.specs.Keys.{mapped_key, signal_of, role_by_signal, role_of_mapped, roles_of, role_or_ignored, role_of_key, roles_from, literal_role}
use Rattle.tn_discipline.specs.declared.keys.Role.TheVariants as role

-- a role that is not Ignored
abbrev IsOne : Role → Type 0
IsOne r = roles_from r ≡ r ∷ []

one_of : (b : Bool) (x y : Role) → IsOne x → IsOne y → IsOne (if b then x else y)
one_of true x y p q = p
one_of false x y p q = q

one_by_signal : (isig : Bool) (signal : Option Sig) (byte : ℕ) → IsOne (role_by_signal isig signal byte)
one_by_signal true (Some sig) byte = refl
one_by_signal true None byte = refl
one_by_signal false signal byte = refl

one_role : (settings : Settings) (byte : ℕ) → IsOne (role_of_mapped settings byte)
one_role settings byte =
    one_of (byte == 10) role.Nl _ refl
    (one_of (is_set_to settings.chars.eol byte) (role.Eol byte) _ refl
    (one_of (is_set_to settings.chars.eol2 byte) (role.Eol2 byte) _ refl
    (one_of (is_set_to settings.chars.eof byte) role.Eof _ refl
    (one_of (is_set_to settings.chars.erase byte) role.Erase _ refl
    (one_of (is_set_to settings.chars.kill byte) role.Kill _ refl
    (one_by_signal settings.flags.isig (signal_of settings.chars byte) byte))))))

roles_at : (settings : Settings) (mapped : Option ℕ) → roles_from (role_or_ignored settings mapped) ≡ map (role_of_mapped settings) (cons_option mapped [])
roles_at settings None = refl
roles_at settings (Some byte) = one_role settings byte

pub roles_of-one : (settings : Settings) (key : ℕ) → roles_from (role_of_key settings key) ≡ roles_of settings (key ∷ [])
roles_of-one settings key = roles_at settings (mapped_key settings.flags key)

joined : (o : Option ℕ) (xs ys : List ℕ) → cons_option o (xs ++ ys) ≡ cons_option o xs ++ ys
joined None xs ys = refl
joined (Some x) xs ys = refl

filter_map-append : (f : ℕ → Option ℕ) (xs ys : List ℕ) → filter_map f (xs ++ ys) ≡ filter_map f xs ++ filter_map f ys
filter_map-append f [] ys = refl
filter_map-append f (x ∷ xs) ys = ap (cons_option (f x)) (filter_map-append f xs ys) ∙ joined (f x) (filter_map f xs) (filter_map f ys)

pub roles_of-append : (settings : Settings) (xs ys : List ℕ) → roles_of settings (xs ++ ys) ≡ roles_of settings xs ++ roles_of settings ys
roles_of-append settings xs ys =
    ap (map (role_of_mapped settings)) (filter_map-append (mapped_key settings.flags) xs ys)
    ∙ map-append (role_of_mapped settings) (filter_map (mapped_key settings.flags) xs) (filter_map (mapped_key settings.flags) ys)

-- the roles of one more key
pub roles_of-push : (settings : Settings) (keys : List ℕ) (key : ℕ)
    → roles_of settings (keys ++ key ∷ []) ≡ roles_of settings keys ++ roles_from (role_of_key settings key)
roles_of-push settings keys key =
    roles_of-append settings keys (key ∷ []) ∙ ap (λ roles. roles_of settings keys ++ roles) (sym (roles_of-one settings key))

-- the role of a byte that is taken as it is is not Ignored
pub literal_roles : (chars : Characters) (byte : ℕ) → roles_from (literal_role chars byte) ≡ literal_role chars byte ∷ []
literal_roles chars byte =
    one_of (byte == 10) role.Nl _ refl
    (one_of (is_set_to chars.eol byte) (role.Eol byte) _ refl (one_of (is_set_to chars.eol2 byte) (role.Eol2 byte) (role.Ordinary byte) refl refl))
