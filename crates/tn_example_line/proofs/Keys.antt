-- One key more of keys that are typed at one line.
use Rattle.std.proofs.Common.{◌≡◌, ℕ, List, [], ◌∷◌, ◌++◌, refl, sym, ap, ◌∙◌, subst, arith}
use Rattle.tn_discipline.specs.{Entries.entries_of, Characters.standard_characters, Keys.{roles_of, standard_flags}, Advancing.Advances, HalfLine.HalfLine}
use Rattle.tn_discipline.specs.{HalfLine.effect_entries, declared.{half_line.Effect.Effect, reads.Entry.Entry, keys.Role.Role, termios.Settings.Settings}}
use Rattle.tn_discipline.specs.declared.half_line.Effect.TheVariants as effect
use Rattle.tn_discipline.proofs.lemmas.KeyRoles.{roles_of-append}
use Rattle.tn_example_line.specs.Typed.{standard, TypesKey}

pub standard_is : (s : Settings) → s.flags ≡ standard_flags → s.chars ≡ standard_characters → s ≡ standard.settings
standard_is s flags chars =
    ap (λ x. record s { flags = x }) flags ∙ ap (λ x. record s { flags = standard_flags; chars = x }) chars

pub typed_more : (old new : HalfLine) (key : ℕ) (gain before after : List Entry)
    → Advances old (roles_of standard.settings (key ∷ [])) gain new → after ≡ before ++ gain
    → TypesKey key old before new after
typed_more old new key gain before after moves gained keys had =
    let roles = roles_of-append standard.settings keys (key ∷ []) in
    let typed = roles_of standard.settings keys in
    let entries = subst (λ limit. entries_of limit (typed ++ roles_of standard.settings (key ∷ [])) ≡ entries_of limit typed ++ gain) had.limit
    (moves.entries typed had.leads had.ahead) in
    record {
      limit = moves.limit ∙ had.limit;
      leads = rw roles (moves.half typed had.leads);
      ahead = omega (arith, had.ahead, moves.ahead);
      gave =
          gained ∙ ap (λ (xs : List Entry). xs ++ gain) had.gave ∙ sym entries
          ∙ ap (λ (rs : List Role). entries_of standard.limit rs) (sym roles);
    }

-- an effect that gives no entry
pub none_gained : (e : Effect) → ((entry : Entry) → e ≡ effect.Gives entry → ⊥) → effect_entries e ≡ []
none_gained effect.Nothing h = refl
none_gained effect.Kept h = refl
none_gained effect.Erased h = refl
none_gained effect.ErasedAhead h = refl
none_gained (effect.Killed n) h = refl
none_gained effect.Dropped h = refl
none_gained (effect.Gives entry) h = absurd (h entry refl)
