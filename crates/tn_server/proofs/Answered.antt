-- The server does not reply to a client's answers.
use Rattle.std.proofs.Common.{◌≡◌, ℕ, Bool, true, false, ◌&&◌, nat_le, Some, None, List, [], ◌++◌, length, refl, ◌∙◌, ap, if◌then◌else◌}
use Rattle.tn_codes.specs.{PayloadOf.payload_of, Payloads.parameters_of, declared.{payloads.Payload.TheVariants.Slc, triples.Triple.Triple}}
use Rattle.tn_codes.proofs.lemmas.Telling.{told}
use Rattle.tn_discipline.specs.Characters.{Characters}
use Rattle.tn_linemode.specs.{Exchange.{server_answers, server_is_asked}, Words.list_items}
use Rattle.tn_nvt.specs.declared.items.Item.{Item, TheVariants.Sub}
use Rattle.tn_option.specs.{Options.{state_of, is_yes}, declared.q_method.Side.TheVariants.Them}
use Rattle.tn_server.specs.{Events.{History, got}, Replies.{items_at, list_replies, table_items, replies}}
use Rattle.tn_server.specs.Terms.{options, flags, chars, terms, payload_at, chars_after}
use Rattle.tn_server.proofs.lemmas.Terms.{says_nothing}

module _ (h : History) (ts : List Triple) (none : (c : Characters) → server_answers c ts ≡ []) (asks : server_is_asked ts ≡ false) where
  abbrev params : List ℕ
  params = parameters_of (Slc ts)

  -- the payload that is read of it, if one is
  read_of : payload_of 34 params ≡ Some (Slc ts)
  read_of = told 34 params (Slc ts) (refl, refl)

  silent : (test : Bool) → payload_at (options h) (Sub 34 params) ≡ (if test then payload_of 34 params else None) → replies h (got (Sub 34 params)) ≡ []
  silent true e =
      let is : payload_at (options h) (Sub 34 params) ≡ Some (Slc ts) = e ∙ read_of in
      let answers : list_replies (chars h) (Some (Slc ts)) ≡ [] =
      ap (λ (xs : List Triple). list_items xs ++ table_items (server_is_asked ts) (chars_after (chars h) (Some (Slc ts)))) (none (chars h))
      ∙ ap (λ (b : Bool). table_items b (chars_after (chars h) (Some (Slc ts)))) asks in
      let said : items_at (flags h) (chars h) (terms h) (got (Sub 34 params)) ≡ [] = rw is (says_nothing (flags h) (chars h) (terms h) None refl) in
      ap (λ (xs : List Item). xs ++ list_replies (chars h) (payload_at (options h) (Sub 34 params))) said
      ∙ ap (list_replies (chars h)) is
      ∙ answers
  silent false e =
      let said : items_at (flags h) (chars h) (terms h) (got (Sub 34 params)) ≡ [] = rw e (says_nothing (flags h) (chars h) (terms h) None refl) in
      ap (λ (xs : List Item). xs ++ list_replies (chars h) (payload_at (options h) (Sub 34 params))) said
      ∙ ap (list_replies (chars h)) e

  pub unanswered : replies h (got (Sub 34 (parameters_of (Slc ts)))) ≡ []
  unanswered = silent (is_yes (state_of (options h) Them 34) && nat_le (length params) 512) refl
