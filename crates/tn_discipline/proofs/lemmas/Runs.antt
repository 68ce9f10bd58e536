-- Keys, one after another.
use Rattle.std.proofs.Common.{◌≡◌, ◌<◌, ◌≤◌, ℕ, ◌+◌, ◌-◌, min, Bool, true, false, List, [], ◌∷◌, ◌++◌, length, take, drop, refl, sym, ap, subst, ◌∙◌}
use Rattle.std.proofs.{Common.{if◌then◌else◌, arith, append-nil, append_assoc, length-append, length-take}, lemmas.List.{map-append, take-append-drop}}
use Rattle.tn_discipline.specs.{declared.{keys.Role.Role, reads.Entry.Entry, termios.Settings.Settings}, Limits.max_counted, Entries.entries_of}
use Rattle.tn_discipline.specs.{Keys.{roles_of, role_of_key, roles_from}, HalfLine.{HalfLine, line_length, is_full, effect_of, line_after, effect_entries}}
use Rattle.tn_discipline.specs.{Runs.{line_after_all, gains_from, each_role, ordinary_roles}, Advancing.{LeadsTo, Advances}}
use Rattle.tn_discipline.specs.declared.keys.Role.TheVariants as role
use Rattle.tn_discipline.specs.declared.half_line.Effect.TheVariants as effect
use Rattle.tn_discipline.proofs.lemmas.{KeyRoles.{roles_of-append, roles_of-one}, Lines.{advances, advances_nothing}}

-- two steps are one
pub advances_both : (old mid new : HalfLine) (xs ys : List Role) (gain more : List Entry) → Advances old xs gain mid → Advances mid ys more new
    → Advances old (xs ++ ys) (gain ++ more) new
advances_both old mid new xs ys gain more a b =
    record {
      half = λ history leads. subst (λ h. LeadsTo h new) (append_assoc history xs ys) (b.half (history ++ xs) (a.half history leads));
      entries = λ history leads none.
          let still : mid.ahead ≡ 0 = omega (arith, a.ahead, none) in
          ap (entries_of old.limit) (sym (append_assoc history xs ys))
          ∙ ap (λ n. entries_of n ((history ++ xs) ++ ys)) (sym a.limit)
          ∙ b.entries (history ++ xs) (a.half history leads) still
          ∙ ap (λ n. entries_of n (history ++ xs) ++ more) a.limit
          ∙ ap (λ es. es ++ more) (a.entries history leads none)
          ∙ append_assoc (entries_of old.limit history) gain more;
      ahead = omega (arith, a.ahead, b.ahead);
      limit = b.limit ∙ a.limit;
    }

-- the effect of typed keys, one after another, is the one that the whole lists of keys give
pub keys_advance : (settings : Settings) (keys : List ℕ) (line : HalfLine)
    → Advances line (roles_of settings keys) (gains_from line (each_role settings keys)) (line_after_all line (each_role settings keys))
keys_advance settings [] line = advances_nothing line
keys_advance settings (key ∷ keys) line =
    let r = role_of_key settings key in
    let more = keys_advance settings keys (line_after line r) in
    let split : roles_from r ++ roles_of settings keys ≡ roles_of settings (key ∷ keys) =
    ap (λ rs. rs ++ roles_of settings keys) (roles_of-one settings key) ∙ sym (roles_of-append settings (key ∷ []) keys) in
    subst (λ roles. Advances line roles (gains_from line (each_role settings (key ∷ keys))) (line_after_all line (each_role settings (key ∷ keys)))) split
    (advances_both line (line_after line r) (line_after_all (line_after line r) (each_role settings keys)) (roles_from r) (roles_of settings keys)
    (effect_entries (effect_of line r)) (gains_from (line_after line r) (each_role settings keys)) (advances line r) more)

pub line_after_all-append : (line : HalfLine) (xs ys : List Role) → line_after_all line (xs ++ ys) ≡ line_after_all (line_after_all line xs) ys
line_after_all-append line [] ys = refl
line_after_all-append line (r ∷ xs) ys = line_after_all-append (line_after line r) xs ys

kept_gains : (full : Bool) → effect_entries (if full then effect.Dropped else effect.Kept) ≡ []
kept_gains true = refl
kept_gains false = refl

-- an ordinary byte gives no entry
pub ordinary_gains : (line : HalfLine) (byte : ℕ) → effect_entries (effect_of line (role.Ordinary byte)) ≡ []
ordinary_gains line byte = kept_gains (is_full line)

-- ordinary bytes, one after another
pub ordinary_advance : (bytes : List ℕ) (line : HalfLine) → Advances line (ordinary_roles bytes) [] (line_after_all line (ordinary_roles bytes))
ordinary_advance [] line = advances_nothing line
ordinary_advance (byte ∷ bytes) line =
    let next = line_after line (role.Ordinary byte) in
    let one : Advances line (role.Ordinary byte ∷ []) [] next = subst (λ gain. Advances line (role.Ordinary byte ∷ []) gain next) (ordinary_gains line byte)
    (advances line (role.Ordinary byte)) in
    advances_both line next (line_after_all next (ordinary_roles bytes)) (role.Ordinary byte ∷ []) (ordinary_roles bytes) [] [] one
    (ordinary_advance bytes next)

-- the line has room
pub not_full : (line : HalfLine) → line_length line < max_counted line.limit → is_full line ≡ false
not_full line h = grind arith

-- the line has no room
pub is_filled : (line : HalfLine) → line_length line ≡ max_counted line.limit → is_full line ≡ true
is_filled line h = grind arith

-- a byte that fits is kept
pub one_kept : (line : HalfLine) (byte : ℕ) → line_length line < max_counted line.limit
    → line_after line (role.Ordinary byte) ≡ record line { held = line.held ++ byte ∷ [] }
one_kept line byte fits = ap (λ (t : Bool). if t then line else record line { held = line.held ++ byte ∷ [] }) (not_full line fits)

-- bytes that fit are kept
pub all_kept : (bytes : List ℕ) (line : HalfLine) → line_length line + length bytes ≤ max_counted line.limit
    → line_after_all line (ordinary_roles bytes) ≡ record line { held = line.held ++ bytes }
all_kept [] line fits = ap (λ (held : List ℕ). record line { held = held }) (sym (append-nil line.held))
all_kept (byte ∷ bytes) line fits =
    let mid = record line { held = line.held ++ byte ∷ [] } in
    ap (λ (l : HalfLine). line_after_all l (ordinary_roles bytes)) (one_kept line byte (omega (arith, fits)))
    ∙ all_kept bytes mid (omega (arith, fits, length-append line.held (byte ∷ [])))
    ∙ ap (λ (held : List ℕ). record line { held = held }) (append_assoc line.held (byte ∷ []) bytes)

-- bytes that do not fit are dropped
pub all_dropped : (bytes : List ℕ) (line : HalfLine) → line_length line ≡ max_counted line.limit → line_after_all line (ordinary_roles bytes) ≡ line
all_dropped [] line full = refl
all_dropped (byte ∷ bytes) line full =
    ap (λ (l : HalfLine). line_after_all l (ordinary_roles bytes))
    (ap (λ (t : Bool). if t then line else record line { held = line.held ++ byte ∷ [] }) (is_filled line full))
    ∙ all_dropped bytes line full

rest_dropped : (line : HalfLine) (rest : List ℕ) → (0 < length rest → line_length line ≡ max_counted line.limit)
    → line_after_all line (ordinary_roles rest) ≡ line
rest_dropped line [] full = refl
rest_dropped line (byte ∷ rest) full = all_dropped (byte ∷ rest) line (full (omega arith))

-- bytes of which as many as fit are kept, and the others are dropped
pub front_kept : (line : HalfLine) (bytes : List ℕ) (n : ℕ) → n ≡ min (max_counted line.limit - line_length line) (length bytes)
    → line_length line ≤ max_counted line.limit → line_after_all line (ordinary_roles bytes) ≡ record line { held = line.held ++ take n bytes }
front_kept line bytes n is fits =
    let mid = record line { held = line.held ++ take n bytes } in
    let front = length-take n bytes in
    let whole : length bytes ≡ length (take n bytes) + length (drop n bytes) =
    ap length (sym (take-append-drop n bytes)) ∙ length-append (take n bytes) (drop n bytes) in
    let long = length-append line.held (take n bytes) in
    ap (λ bs. line_after_all line (ordinary_roles bs)) (sym (take-append-drop n bytes))
    ∙ ap (line_after_all line) (map-append (λ b. role.Ordinary b) (take n bytes) (drop n bytes))
    ∙ line_after_all-append line (ordinary_roles (take n bytes)) (ordinary_roles (drop n bytes))
    ∙ ap (λ (l : HalfLine). line_after_all l (ordinary_roles (drop n bytes))) (all_kept (take n bytes) line (omega (arith, is, front, fits)))
    ∙ rest_dropped mid (drop n bytes) (λ some. omega (arith, is, front, whole, long, some, fits))
