-- Keys that edit a line and make no entry, and keys that close it.
use Rattle.std.proofs.Common.{◌≡◌, ◌<◌, ◌≤◌, ℕ, zero, suc, ◌+◌, Bool, true, false, All, List, [], ◌∷◌, ◌++◌, length, take, get_or, refl, sym, ap, subst, ◌∙◌}
use Rattle.std.proofs.{Common.{if◌then◌else◌, arith}, lemmas.List.{take_more, map-append}}
use Rattle.tn_discipline.specs.{declared.keys.Role.Role, Entries.line_of, Keys.{roles_of, role_of_key, gives_entry}, RolesTable.IsPlain, Advancing.Advances}
use Rattle.tn_discipline.specs.{declared.termios.Settings.Settings, HalfLine.{HalfLine, empty_line, has_held, has_ahead, effect_of, line_after, effect_entries}}
use Rattle.tn_discipline.specs.{Runs.{line_after_all, gains_from, each_role, ordinary_roles}, Editing.{IsQuiet, closing_byte, IsClosing, with_byte}}
use Rattle.tn_discipline.specs.declared.keys.Role.TheVariants as role
use Rattle.tn_discipline.specs.declared.half_line.Effect.TheVariants as effect
use Rattle.tn_discipline.proofs.lemmas.Runs.{line_after_all-append, ordinary_gains, keys_advance}

-- a step of a loop over keys
pub edited_more : (settings : Settings) (start line new : HalfLine) (keys : List ℕ) (i : ℕ) (r : Role) → i < length keys
    → r ≡ role_of_key settings (get_or keys i 0) → line ≡ line_after_all start (each_role settings (take i keys)) → new ≡ line_after line r
    → new ≡ line_after_all start (each_role settings (take (i + 1) keys))
edited_more settings start line new keys i r within is before after =
    let key = get_or keys i 0 in
    let typed : each_role settings (take (i + 1) keys) ≡ each_role settings (take i keys) ++ role_of_key settings key ∷ [] =
    ap (each_role settings) (take_more keys i 0 within) ∙ map-append (role_of_key settings) (take i keys) (key ∷ []) in
    after
    ∙ ap (line_after line) is
    ∙ ap (λ (l : HalfLine). line_after l (role_of_key settings key)) before
    ∙ sym (line_after_all-append start (each_role settings (take i keys)) (role_of_key settings key ∷ []))
    ∙ ap (line_after_all start) (sym typed)

erased_gains : (held ahead : Bool) → effect_entries (if held then effect.Erased else (if ahead then effect.ErasedAhead else effect.Nothing)) ≡ []
erased_gains true ahead = refl
erased_gains false true = refl
erased_gains false false = refl

-- a key that makes no entry gives none
pub quiet_gain : (line : HalfLine) (r : Role) → gives_entry r ≡ false → effect_entries (effect_of line r) ≡ []
quiet_gain line (role.Ordinary byte) quiet = ordinary_gains line byte
quiet_gain line role.Erase quiet = erased_gains (has_held line) (has_ahead line)
quiet_gain line role.Kill quiet = refl
quiet_gain line role.Ignored quiet = refl
quiet_gain line role.Nl quiet = cc
quiet_gain line (role.Eol byte) quiet = cc
quiet_gain line (role.Eol2 byte) quiet = cc
quiet_gain line role.Eof quiet = cc
quiet_gain line (role.Signal sig) quiet = cc

-- several keys that make no entry give none
pub quiet_gains : (settings : Settings) (keys : List ℕ) (line : HalfLine) → All (IsQuiet settings) keys → gains_from line (each_role settings keys) ≡ []
quiet_gains settings [] line quiet = refl
quiet_gains settings (key ∷ keys) line quiet =
    let r = role_of_key settings key in
    let first : gives_entry r ≡ false = quiet 0 0 (omega arith) in
    let rest : All (IsQuiet settings) keys = λ k d lt. quiet (suc k) d (omega (arith, lt)) in
    ap (λ es. es ++ gains_from (line_after line r) (each_role settings keys)) (quiet_gain line r first)
    ∙ quiet_gains settings keys (line_after line r) rest

-- their effect is the one that the whole lists of keys give
pub quiet_advance : (settings : Settings) (keys : List ℕ) (old new : HalfLine) → All (IsQuiet settings) keys
    → new ≡ line_after_all old (each_role settings keys) → Advances old (roles_of settings keys) [] new
quiet_advance settings keys old new quiet is =
    rw is (subst (λ gain. Advances old (roles_of settings keys) gain (line_after_all old (each_role settings keys))) (quiet_gains settings keys old quiet)
    (keys_advance settings keys old))

-- keys that join the line as they are make none
pub plain_quiet : (settings : Settings) (keys : List ℕ) → All (IsPlain settings) keys → All (IsQuiet settings) keys
plain_quiet settings keys plain = λ k d lt. ap gives_entry (plain k d lt)

-- keys that join the line as they are have ordinary roles
pub plain_each : (settings : Settings) (keys : List ℕ) → All (IsPlain settings) keys → each_role settings keys ≡ ordinary_roles keys
plain_each settings [] plain = refl
plain_each settings (key ∷ keys) plain =
    let first : IsPlain settings key = plain 0 0 (omega arith) in
    let rest : All (IsPlain settings) keys = λ k d lt. plain (suc k) d (omega (arith, lt)) in
    ap (λ r. r ∷ each_role settings keys) first ∙ ap (λ rs. role.Ordinary key ∷ rs) (plain_each settings keys rest)

-- keys that are looked at no further than some of them
pub take_within : (n m : ℕ) (keys : List ℕ) → n ≤ length (take m keys) → take n (take m keys) ≡ take n keys
take_within zero m keys within = refl
take_within (suc n) zero keys within = absurd (omega (arith, within))
take_within (suc n) (suc m) [] within = absurd (omega (arith, within))
take_within (suc n) (suc m) (key ∷ keys) within = ap (λ ks. key ∷ ks) (take_within n m keys (omega (arith, within)))

-- have the same first key
pub first_within : (m : ℕ) (keys : List ℕ) → 0 < m → 0 < length keys → (0 < length (take m keys)) × (get_or (take m keys) 0 0 ≡ get_or keys 0 0)
first_within zero keys some there = absurd (omega (arith, some))
first_within (suc m) [] some there = absurd (omega (arith, there))
first_within (suc m) (key ∷ keys) some there = (omega arith, refl)

-- the entry that a key which closes a line gives, and the line that it leaves
pub closing_effect : (line : HalfLine) (r : Role) → IsClosing r → effect_of line r ≡ effect.Gives (line_of (with_byte line.held (closing_byte r)))
closing_effect line role.Nl closes = refl
closing_effect line (role.Eol byte) closes = refl
closing_effect line (role.Eol2 byte) closes = refl
closing_effect line role.Eof closes = refl
closing_effect line role.Ignored closes = absurd closes
closing_effect line role.Erase closes = absurd closes
closing_effect line role.Kill closes = absurd closes
closing_effect line (role.Signal sig) closes = absurd closes
closing_effect line (role.Ordinary byte) closes = absurd closes

pub closing_leaves : (line : HalfLine) (r : Role) → IsClosing r → line_after line r ≡ empty_line line.limit
closing_leaves line role.Nl closes = refl
closing_leaves line (role.Eol byte) closes = refl
closing_leaves line (role.Eol2 byte) closes = refl
closing_leaves line role.Eof closes = refl
closing_leaves line role.Ignored closes = absurd closes
closing_leaves line role.Erase closes = absurd closes
closing_leaves line role.Kill closes = absurd closes
closing_leaves line (role.Signal sig) closes = absurd closes
closing_leaves line (role.Ordinary byte) closes = absurd closes
