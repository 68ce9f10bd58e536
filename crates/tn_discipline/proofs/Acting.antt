-- The effects of the calls on a line, by the effect of each role.
use Rattle.std.proofs.Common.{◌≡◌, ◌<◌, ℕ, Result, Ok, Err, IfOk, OnOk, List, [], ◌∷◌, length, refl, ap, ◌∙◌, arith}
use Rattle.tn_discipline.specs.{declared.{keys.Role.Role, half_line.Effect.Effect}, Entries.line_of, Keys.roles_from}
use Rattle.tn_discipline.specs.HalfLine.{HalfLine, empty_line, line_released, line_resumed, effect_of, line_after, effect_entries, GivesText}
use Rattle.tn_discipline.specs.Advancing.{Advances, DropsExactly, KeepsHalf, LeadsWhereLong}
use Rattle.tn_discipline.specs.declared.keys.Role.TheVariants as role
use Rattle.tn_discipline.specs.declared.reads.Entry.TheVariants as entry
use Rattle.tn_discipline.specs.declared.half_line.Effect.TheVariants as effect
use Rattle.tn_discipline.proofs.lemmas.Lines.{advances, advances_erase, drops_exactly, released_keeps, resumed_leads}

-- an effect and a line that are known to be those of a role advance so
pub advances_to : (old new : HalfLine) (r : Role) (e : Effect) → e ≡ effect_of old r → new ≡ line_after old r
    → Advances old (roles_from r) (effect_entries e) new
advances_to old new r e is leaves = rw (is, leaves) (advances old r)

pub erases_to : (old new : HalfLine) → new ≡ line_after old role.Erase → Advances old (role.Erase ∷ []) [] new
erases_to old new leaves = rw leaves (advances_erase old)

pub kills_to : (old new : HalfLine) → new ≡ empty_line old.limit → Advances old (role.Kill ∷ []) [] new
kills_to old new leaves = rw leaves (advances old role.Kill)

pub releases_to : (old new : HalfLine) → new ≡ line_released old → KeepsHalf old new
releases_to old new leaves = rw leaves (released_keeps old)

pub resumes_to : (old new : HalfLine) (ahead : ℕ) → new ≡ line_resumed old.limit ahead → LeadsWhereLong old.limit ahead new
resumes_to old new ahead leaves = rw leaves (resumed_leads old.limit ahead)

pub drops_to : (line : HalfLine) (r : Role) (e : Effect) → e ≡ effect_of line r → DropsExactly line (roles_from r) e
drops_to line r e is = rw is (drops_exactly line r)

-- a line with a byte is a text
line_of-text : (bytes : List ℕ) → 0 < length bytes → line_of bytes ≡ entry.Text bytes
line_of-text [] h = absurd (omega arith)
line_of-text (byte ∷ bytes) h = refl

-- a key that closes a line with a byte in it gives a text
pub gives_text : (old : HalfLine) (r : Role) (bytes : List ℕ) → effect_of old r ≡ effect.Gives (line_of bytes) → 0 < length bytes → GivesText old r
gives_text old r bytes gives some = (bytes, gives ∙ ap effect.Gives (line_of-text bytes some))

-- a call that may have been refused advances so, if it is Ok
pub advances_or : {E : Type 0} (r : Result Effect E) (old new : HalfLine) (role : Role) → IfOk r (λ e. e ≡ effect_of old role)
    → OnOk r (new ≡ line_after old role) → IfOk r (λ e. Advances old (roles_from role) (effect_entries e) new)
advances_or (Ok e) old new role is leaves = advances_to old new role e is leaves
advances_or (Err e) old new role is leaves = tt

pub drops_or : {E : Type 0} (r : Result Effect E) (line : HalfLine) (role : Role) → IfOk r (λ e. e ≡ effect_of line role)
    → IfOk r (DropsExactly line (roles_from role))
drops_or (Ok e) line role is = drops_to line role e is
drops_or (Err e) line role is = tt
