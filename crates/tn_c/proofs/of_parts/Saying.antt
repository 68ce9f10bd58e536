-- What is said for an owned option: an option message or a subnegotiation.
use Rattle.std.proofs.Common.{◌≡◌, ◌≢◌, inl, inr, ℕ, ◌<◌, ◌≤◌, Bool, true, false, Some, List, ◌++◌, length, refl, sym, subst, ◌∙◌, arith}
use Rattle.std.specs.Prelude.{◌↔◌, Vec}
use Rattle.tn_codes.specs.{Codes.verb_code, declared.codes.Verb.Verb}
use Rattle.tn_nvt.specs.{Spelling.{spelling, max_parameters}, Room.LacksRoom, declared.items.Item.Item, declared.items.Item.TheVariants.{Neg, Sub}}
use Rattle.tn_c.specs.parts.OwnOptions.{has_option, PutsItem, PutsWord, PutsSub}
use Rattle.tn_c.specs.declared.parts.codes.Code.TheVariants as code

pub both : (b : Bool) → b ≡ true → b ≡ false → ⊥
both b t f = let e = sym t ∙ f in cc

same_verb : (v w : Verb) → Some v ≡ Some w → v ≡ w
same_verb v w e = cc

module _ {Z : Type 0} (options : List ℕ) (option : ℕ) (old new : Vec ℕ Z) where
  put : (item : Item) → new.items ≡ old.items ++ spelling item → PutsItem item code.Done old new
  put item out = record { codes = inl refl; ok = λ _. out; err = λ e. absurd (cc); full = λ e. absurd (cc) }

  starved : (item : Item) → new.items ≡ old.items → LacksRoom old (length (spelling item)) → PutsItem item code.Memory old new
  starved item same lacks = record { codes = inr refl; ok = λ e. absurd (cc); err = λ _. same; full = λ _. lacks }

  pub word_put : (word : ℕ) (found : Verb) → has_option options option ≡ true → ((verb : Verb) → (Some found ≡ Some verb) ↔ (verb_code verb ≡ word))
      → new.items ≡ old.items ++ spelling (Neg found option) → PutsWord options option word code.Done old new
  word_put word found own is out =
      record {
        known = λ verb n _. subst (λ (v : Verb). PutsItem (Neg v option) code.Done old new) (same_verb found verb ((is verb).1 n)) (put (Neg found option) out);
        not_owned = (λ e. absurd (cc), λ f. absurd (both (has_option options option) own f));
        unknown = (λ e. absurd (cc), λ none. absurd (none.1 found ((is found).0 refl)));
        unsaid = λ other. absurd (other refl);
      }

  pub word_starved : (word : ℕ) (found : Verb) → has_option options option ≡ true → ((verb : Verb) → (Some found ≡ Some verb) ↔ (verb_code verb ≡ word))
      → new.items ≡ old.items → LacksRoom old (length (spelling (Neg found option))) → PutsWord options option word code.Memory old new
  word_starved word found own is same lacks =
      record {
        known = λ verb n _.
            subst (λ (v : Verb). PutsItem (Neg v option) code.Memory old new) (same_verb found verb ((is verb).1 n)) (starved (Neg found option) same lacks);
        not_owned = (λ e. absurd (cc), λ f. absurd (both (has_option options option) own f));
        unknown = (λ e. absurd (cc), λ none. absurd (none.1 found ((is found).0 refl)));
        unsaid = λ _. same;
      }

  pub word_unknown : (word : ℕ) → has_option options option ≡ true → ((verb : Verb) → verb_code verb ≢ word) → new.items ≡ old.items
      → PutsWord options option word code.NoCommand old new
  word_unknown word own none same =
      record {
        known = λ verb n _. absurd (none verb n);
        not_owned = (λ e. absurd (cc), λ f. absurd (both (has_option options option) own f));
        unknown = (λ _. (own, none), λ _. refl);
        unsaid = λ _. same;
      }

  pub word_not_owned : (word : ℕ) → has_option options option ≡ false → new.items ≡ old.items → PutsWord options option word code.NotOwned old new
  word_not_owned word other same =
      record {
        known = λ verb n own. absurd (both (has_option options option) own other);
        not_owned = (λ _. other, λ _. refl);
        unknown = (λ e. absurd (cc), λ none. absurd (both (has_option options option) none.0 other));
        unsaid = λ _. same;
      }

  pub sub_put : (params : List ℕ) → has_option options option ≡ true → length params ≤ max_parameters
      → new.items ≡ old.items ++ spelling (Sub option params) → PutsSub options option params code.Done old new
  sub_put params own short out =
      record {
        short = λ _ _. put (Sub option params) out;
        not_owned = (λ e. absurd (cc), λ f. absurd (both (has_option options option) own f));
        long = (λ e. absurd (cc), λ long. absurd (omega (arith, short, long.1)));
        unsaid = λ other. absurd (other refl);
      }

  pub sub_starved : (params : List ℕ) → has_option options option ≡ true → length params ≤ max_parameters → new.items ≡ old.items
      → LacksRoom old (length (spelling (Sub option params))) → PutsSub options option params code.Memory old new
  sub_starved params own short same lacks =
      record {
        short = λ _ _. starved (Sub option params) same lacks;
        not_owned = (λ e. absurd (cc), λ f. absurd (both (has_option options option) own f));
        long = (λ e. absurd (cc), λ long. absurd (omega (arith, short, long.1)));
        unsaid = λ _. same;
      }

  pub sub_long : (params : List ℕ) → has_option options option ≡ true → max_parameters < length params → new.items ≡ old.items
      → PutsSub options option params code.TooLong old new
  sub_long params own long same =
      record {
        short = λ _ short. absurd (omega (arith, short, long));
        not_owned = (λ e. absurd (cc), λ f. absurd (both (has_option options option) own f));
        long = (λ _. (own, long), λ _. refl);
        unsaid = λ _. same;
      }

  pub sub_not_owned : (params : List ℕ) → has_option options option ≡ false → new.items ≡ old.items → PutsSub options option params code.NotOwned old new
  sub_not_owned params other same =
      record {
        short = λ own _. absurd (both (has_option options option) own other);
        not_owned = (λ _. other, λ _. refl);
        long = (λ e. absurd (cc), λ long. absurd (both (has_option options option) long.0 other));
        unsaid = λ _. same;
      }
