-- A key whose line could not be sent ahead is taken back.
use Rattle.std.proofs.Common.{◌≡◌, ℕ, Bool, true, false, Option, [], ◌∷◌, ◌++◌, sym, ap, ◌∙◌, if◌then◌else◌}
use Rattle.tn_codes.specs.declared.masks.Mask.{Mask}
use Rattle.tn_discipline.specs.{HalfLine.{HalfLine, is_full, effect_of, line_after, line_erased}, declared.{half_line.Effect.Effect, keys.Role.Role}}
use Rattle.tn_discipline.specs.declared.half_line.Effect.TheVariants as effect
use Rattle.tn_discipline.specs.declared.keys.Role.TheVariants as role
use Rattle.tn_discipline.proofs.lemmas.Lines.{kept_erased}
use Rattle.tn_client.specs.{Calls.End, Steps.sends_where}

-- a key that sends something ahead is an ordinary byte that was kept
undone_by_test : (f : Option Mask) (l : HalfLine) (byte : ℕ) (full : Bool)
    → sends_where f (role.Ordinary byte) (if full then effect.Dropped else effect.Kept) ≡ true
    → line_erased (if full then l else record l { held = l.held ++ byte ∷ [] }) ≡ l
undone_by_test f l byte true sends = cc
undone_by_test f l byte false sends = kept_erased l byte

undone_line : (f : Option Mask) (l : HalfLine) (r : Role) → sends_where f r (effect_of l r) ≡ true → line_erased (line_after l r) ≡ l
undone_line f l (role.Ordinary byte) sends = undone_by_test f l byte (is_full l) sends
undone_line f l _ sends = cc

pub undone : (old mid new : End) (kept back : HalfLine) (r : Role) (e : Effect) → kept ≡ line_after old.line r → mid ≡ record old { line = kept }
    → back ≡ line_erased mid.line → new ≡ record mid { line = back } → e ≡ effect_of old.line r → sends_where old.forward r e ≡ true → new ≡ old
undone old mid new kept back r e is_kept is_mid is_back is_new is_effect sends =
    is_new ∙ ap (λ (l : HalfLine). record mid { line = l }) is_back
    ∙ ap (λ (m : End). record m { line = line_erased m.line }) is_mid
    ∙ ap (λ (l : HalfLine). record old { line = line_erased l }) is_kept
    ∙ ap (λ (l : HalfLine). record old { line = l }) (undone_line old.forward old.line r (ap (sends_where old.forward r) (sym is_effect) ∙ sends))
