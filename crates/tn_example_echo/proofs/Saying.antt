-- The bytes that are sent at one call after another.
use Rattle.std.proofs.Common.{◌≡◌, ℕ, List, ◌++◌, sym, ap, ◌∙◌, subst, append_assoc}
use Rattle.tn_nvt.specs.{Spelling.spells, declared.items.Item.Item}
use Rattle.tn_nvt.proofs.lemmas.Reading.{spells-append}
use Rattle.tn_server.specs.{Answering.Feeds, Calls.{End, LeadsTo}, Steps.{end_after, says, says_items}, Events.{Event, next, gets}, Replies.items_said}
use Rattle.tn_server.proofs.lemmas.Leading.{stands, says_as, stands_fed, says_all}
use Rattle.tn_example_echo.specs.Said.{SaysMore}

pub says_event : (old new : End) (e : Event) (before after : List ℕ) → new ≡ end_after old e
    → after ≡ before ++ spells (says old e) → SaysMore old before after new
says_event old new e before after step said =
    record {
      said = says old e;
      appended = said;
      later = λ h leads. record {
        history = next h e;
        leads = subst (LeadsTo (next h e)) (sym step) (stands h old e leads);
        says = ap (λ (xs : List Item). items_said h ++ xs) (says_as h old e leads);
      };
    }

pub says_piece : (old new : End) (piece before after : List ℕ) → Feeds old piece before after new
    → SaysMore old before after new
says_piece old new piece before after fed =
    record {
      said = says_items old fed.items;
      appended = fed.said;
      later = λ h leads. record {
        history = gets h fed.items;
        leads = stands_fed h old new piece before after fed leads;
        says = says_all h old fed.items leads;
      };
    }

pub says_then : (old mid new : End) (before between after : List ℕ) → SaysMore old before between mid
    → SaysMore mid between after new → SaysMore old before after new
says_then old mid new before between after one two =
    record {
      said = one.said ++ two.said;
      appended =
          two.appended ∙ ap (λ (xs : List ℕ). xs ++ spells two.said) one.appended
          ∙ append_assoc before (spells one.said) (spells two.said)
          ∙ ap (λ (xs : List ℕ). before ++ xs) (sym (spells-append one.said two.said));
      later = λ h leads.
          let mid_later = one.later h leads in
          let last = two.later mid_later.history mid_later.leads in
          record {
            history = last.history;
            leads = last.leads;
            says =
                last.says ∙ ap (λ (xs : List Item). xs ++ two.said) mid_later.says
                ∙ append_assoc (items_said h) one.said two.said;
          };
    }
