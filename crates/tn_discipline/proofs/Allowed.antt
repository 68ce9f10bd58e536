-- Special characters of which one is looked for or changed.
use Rattle.std.proofs.Common.{◌≡◌, ◌↔◌, ℕ, Bool, true, false, Option, Some, None, inl, inr, refl, sym, ap, ◌∙◌, if◌then◌else◌}
use Rattle.std.specs.Prelude.{find}
use Rattle.tn_codes.specs.declared.codes.Func.{Func}
use Rattle.tn_discipline.specs.Characters.{Characters, slot, with_slot, special_functions, is_settable, is_reserved, is_set_to, is_taken, value_fault}
use Rattle.tn_discipline.specs.{Characters.{char_fault, AreAllowed}, declared.characters.CharFault.{CharFault, TheVariants.{NotSettable, Reserved, Taken}}}
use Rattle.tn_discipline.proofs.lemmas.Functions.{set_to, is_set, settable_of_slot, finds, found, untaken, held_by}

-- the function that is found is the one whose character the byte is
pub found_exactly : (c : Characters) (byte : ℕ) (o : Option Func) → AreAllowed c → o ≡ find (λ f. is_set_to (slot c f) byte) special_functions → (g : Func)
    → (o ≡ Some g) ↔ (slot c g ≡ Some byte)
found_exactly c byte o allowed is g = (
  λ e. set_to (slot c g) byte (found (λ f. is_set_to (slot c f) byte) g special_functions (sym is ∙ e)).0,
  λ h. is ∙ finds (λ f. is_set_to (slot c f) byte) g special_functions (settable_of_slot c g byte h) (is_set (slot c g) byte h)
      (λ f e. allowed.distinct f g byte (set_to (slot c f) byte e) h),
)

fault_by : (reserved taken : Bool) → (if reserved then Some Reserved else (if taken then Some Taken else None)) ≡ None → (reserved ≡ false) × (taken ≡ false)
fault_by true taken h = cc
fault_by false true h = cc
fault_by false false h = (refl, refl)

settable_by : (settable : Bool) (fault : Option CharFault) → (if settable then fault else Some NotSettable) ≡ None → (settable ≡ true) × (fault ≡ None)
settable_by true fault h = (refl, h)
settable_by false fault h = cc

-- an accepted byte is neither reserved nor taken
accepted_byte : (c : Characters) (k : Func) (value : Option ℕ) (byte : ℕ) → value ≡ Some byte → char_fault c k value ≡ None → (is_reserved byte ≡ false)
    × (is_taken c k byte ≡ false)
accepted_byte c k value byte is fine =
    fault_by (is_reserved byte) (is_taken c k byte)
    (ap (value_fault c k) (sym is) ∙ (settable_by (is_settable k) (value_fault c k value) fine).1)

-- characters with an accepted value are allowed
pub allowed_with : (c : Characters) (k : Func) (value : Option ℕ) → AreAllowed c → char_fault c k value ≡ None → AreAllowed (with_slot c k value)
allowed_with c k value old fine =
    let settable = (settable_by (is_settable k) (value_fault c k value) fine).0 in
    record {
      distinct = λ f g byte hf hg.
          elim (held_by c k f value byte settable hf) [
            | inl p ↦ elim (held_by c k g value byte settable hg)
                [ inl q ↦ p.0 ∙ sym q.0 | inr q ↦ p.0 ∙ sym (untaken c k byte (accepted_byte c k value byte p.1 fine).1 g q) ]
            | inr p ↦ elim (held_by c k g value byte settable hg)
                [ inl q ↦ untaken c k byte (accepted_byte c k value byte q.1 fine).1 f p ∙ sym q.0 | inr q ↦ old.distinct f g byte p q ]
          ];
      unreserved = λ f byte hf.
          elim (held_by c k f value byte settable hf) [ inl p ↦ (accepted_byte c k value byte p.1 fine).0 | inr p ↦ old.unreserved f byte p ];
    }
