-- After two rounds of delivery nothing is in flight.
use Rattle.std.proofs.Common.{◌≡◌, ℕ, ◌≤◌, Bool, true, false, Some, None, List, [], ◌∷◌, ◌++◌, length, take, refl, sym, ap, ◌∙◌, subst, if◌then◌else◌}
use Rattle.std.proofs.{Common.{append-nil, append_assoc}, lemmas.List.{append_cancel_left, drop_all, Elements.{All-nil, All-append}}}
use Rattle.std.specs.Prelude.{All}
use Rattle.tn_codes.specs.{Payloads.parameters_of, declared.triples.Triple.Triple}
use Rattle.tn_codes.specs.declared.payloads.Payload.TheVariants as payload
use Rattle.tn_codes.proofs.lemmas.Telling.{told}
use Rattle.tn_discipline.specs.Characters.{Characters}
use Rattle.tn_linemode.specs.{Exchange.{client_answers, server_answers, server_is_asked}, OptionWords.words_in}
use Rattle.tn_nvt.specs.{Feeding.{DecoderState, Advances}, Spelling.spells, declared.items.Item.{Item, TheVariants.Sub}}
use Rattle.tn_server.specs.Steps.{says_items as says_there}
use Rattle.tn_server.proofs.lemmas.{Leading.{stands_fed, says_all as says_all_there}, Words.pair}
use Rattle.tn_server.specs.Calls as server
use Rattle.tn_server.specs.Replies as server_says
use Rattle.tn_server.specs.Terms as server_terms
use Rattle.tn_server.specs.declared.faults.ServerFault.TheVariants as server_faults
use Rattle.tn_client.specs.Steps.{says_items}
use Rattle.tn_client.proofs.lemmas.Standings.{says_all, fed_failed}
use Rattle.tn_client.specs.Events as client_calls
use Rattle.tn_client.specs.Replies as client_says
use Rattle.tn_world.specs.{Flight.InFlight, Headline.NothingInFlight, Past.{HasPast, engines, WishesNothing}}
use Rattle.tn_world.specs.Worlds.{World, DeliversToServer, DeliversToClient}
use Rattle.tn_world.proofs.{Cut.{said_behind, cut_at, no_items}, Hearing.{IsNoList, AsksNothing, HasRead, all_read, all_silent}, Saying.answers_all}
use Rattle.tn_world.proofs.{Quieting.{IsWaiting, all_heard, is_pending, none_pending, IsCalm, calms_down}, Soundness.{call_goes_on, items_fit, sound_returns}}
use Rattle.tn_world.proofs.Stages.{at_stage}

server_goes_on : (end : server.End) → server.call_fault end ≡ None → end.failed ≡ false
server_goes_on end e = by_test end.failed refl
  where
    by_test : (b : Bool) → end.failed ≡ b → end.failed ≡ false
    by_test true is = absurd (let f : (if true then Some server_faults.Failed else None)
        ≡ None = ap (λ (b : Bool). if b then Some server_faults.Failed else None) (sym is) ∙ e in cc)
    by_test false is = is

-- all that is in flight is read
all_delivered : (old new : DecoderState) (n : ℕ) (flight : List ℕ) (items got : List Item) → length flight ≤ n → InFlight old flight items
    → Advances old (take n flight) got new → items ≡ got
all_delivered old new n flight items got whole f adds =
    let d = cut_at old new n flight items got f adds in
    d.all
    ∙ ap (λ (x : List Item). got ++ x) (no_items new d.left (subst (λ (x : List ℕ). InFlight new x d.left) (drop_all n flight whole) d.flight))
    ∙ append-nil got

-- THE FIRST ROUND leaves no contrary request at the server
module _ (w0 w1 w2 : World) (n m : ℕ) (s0 : HasPast w0) (back : DeliversToClient w0 n w1) (all_back : length w0.to_client ≤ n)
    (there : DeliversToServer w1 m w2) (all_there : length w1.to_server ≤ m) where
  s1 : HasPast w1
  s1 = sound_returns w0 w1 n back s0

  server_runs : w1.server.failed ≡ false
  server_runs = server_goes_on w1.server there.accepted

  client_runs : w1.client.failed ≡ false
  client_runs = fed_failed w0.client w1.client _ _ _ _ _ back.feeds ∙ call_goes_on w0.client back.accepted

  none_back : w1.to_client ≡ []
  none_back = ap (λ (w : World). w.to_client) back.rest ∙ drop_all n w0.to_client all_back

  quiet : (s1.to_client client_runs).0 ≡ []
  quiet =
      let y = s1.to_client client_runs in
      no_items w1.client.decoder y.0 (subst (λ (x : List ℕ). InFlight w1.client.decoder x y.0) none_back y.1)

  all_got : (s1.to_server server_runs).0 ≡ there.feeds.items
  all_got =
      let x = s1.to_server server_runs in
      all_delivered w1.server.decoder w2.server.decoder m w1.to_server x.0 there.feeds.items all_there x.1 there.feeds.reads

  waits : IsWaiting (engines w1 (s1.to_server server_runs).0 (s1.to_client client_runs).0)
  waits =
      let x = (s1.to_server server_runs).0 in
      let y = (s1.to_client client_runs).0 in
      all_heard (engines w1 x y) (at_stage (engines w1 x y) (s1.words server_runs client_runs)) (ap words_in quiet)

  waits_as : IsWaiting (pair (server_terms.options s1.history) w1.client.options (words_in there.feeds.items) [])
  waits_as =
      subst (λ (o : server_terms.Terms). IsWaiting (pair o.options w1.client.options (words_in there.feeds.items) [])) s1.server.terms
      (subst (λ (x : List Item). IsWaiting (pair w1.server.terms.options w1.client.options (words_in x) [])) all_got
      (subst (λ (y : List Item). IsWaiting (pair w1.server.terms.options w1.client.options (words_in (s1.to_server server_runs).0) (words_in y))) quiet waits))

  has_read : HasRead s1.history there.feeds.items w1.client.options []
  has_read = all_read there.feeds.items s1.history w1.client.options [] (subst (All WishesNothing) all_got (s1.unwished server_runs client_runs)) waits_as

  pub first_none : is_pending w2.server.terms.options ≡ false
  first_none =
      ap (λ (t : server_terms.Terms). is_pending t.options)
      (stands_fed s1.history w1.server w2.server (take m w1.to_server) w1.to_client w2.to_client there.feeds s1.server).terms
      ∙ none_pending _ has_read.waits refl

  pub first_empty : w2.to_server ≡ []
  first_empty = ap (λ (w : World). w.to_server) there.rest ∙ drop_all m w1.to_server all_there

-- WHAT A CLIENT ANSWERS
module _ (answered : (c s : Characters) (ts : List Triple) → server_answers s (client_answers c ts) ≡ [])
    (asked : (c : Characters) (ts : List Triple) → server_is_asked (client_answers c ts) ≡ false) where
  list_asks : (c : Characters) (ts : List Triple) → AsksNothing (Sub 34 (parameters_of (payload.Slc (client_answers c ts))))
  list_asks c ts =
      let us = client_answers c ts in
      subst IsNoList (sym (told 34 (parameters_of (payload.Slc us)) (payload.Slc us) (refl, refl))) ((λ s. answered c s ts), asked c ts)

  asks_nothing : (h : client_calls.History) (item : Item) → All AsksNothing (client_says.replies h (client_calls.got item))
  asks_nothing h item = answers_all AsksNothing (λ b. tt) tt (λ c. tt) (λ v o. tt) (λ w h. tt) (λ n fits. tt) tt tt list_asks h item

  record Answered (h : client_calls.History) (items : List Item) : Type 0 where
    pub said : List Item
    pub sends : client_says.items_said (client_calls.gets h items) ≡ client_says.items_said h ++ said
    pub asks : All AsksNothing said

  all_answered : (items : List Item) (h : client_calls.History) → Answered h items
  all_answered [] h = record { said = []; sends = sym (append-nil (client_says.items_said h)); asks = All-nil AsksNothing }
  all_answered (item ∷ items) h =
      let said = client_says.replies h (client_calls.got item) in
      let rest = all_answered items (client_calls.next h (client_calls.got item)) in
      record {
        said = said ++ rest.said;
        sends = rest.sends ∙ append_assoc (client_says.items_said h) said rest.said;
        asks = All-append AsksNothing said rest.said (asks_nothing h item) rest.asks;
      }

  -- THE SECOND ROUND
  module _ (w2 w3 w4 : World) (n m : ℕ) (s2 : HasPast w2) (empty : w2.to_server ≡ []) (pending : is_pending w2.server.terms.options ≡ false)
      (back : DeliversToClient w2 n w3) (all_back : length w2.to_client ≤ n) (there : DeliversToServer w3 m w4) (all_there : length w3.to_server ≤ m) where
    s3 : HasPast w3
    s3 = sound_returns w2 w3 n back s2

    last_server_runs : w3.server.failed ≡ false
    last_server_runs = server_goes_on w3.server there.accepted

    client_ran : w2.client.failed ≡ false
    client_ran = call_goes_on w2.client back.accepted

    last_client_runs : w3.client.failed ≡ false
    last_client_runs = fed_failed w2.client w3.client _ _ _ _ _ back.feeds ∙ client_ran

    same : w3.server ≡ w2.server
    same = ap (λ (w : World). w.server) back.rest

    last_none_back : w3.to_client ≡ []
    last_none_back = ap (λ (w : World). w.to_client) back.rest ∙ drop_all n w2.to_client all_back

    last_quiet : (s3.to_client last_client_runs).0 ≡ []
    last_quiet =
        let y = s3.to_client last_client_runs in
        no_items w3.client.decoder y.0 (subst (λ (x : List ℕ). InFlight w3.client.decoder x y.0) last_none_back y.1)

    last_all_got : (s3.to_server last_server_runs).0 ≡ there.feeds.items
    last_all_got =
        let x = s3.to_server last_server_runs in
        all_delivered w3.server.decoder w4.server.decoder m w3.to_server x.0 there.feeds.items all_there x.1 there.feeds.reads

    -- the items that are read are the client's answers
    all_said : there.feeds.items ≡ says_items w2.client back.feeds.items
    all_said =
        let at = (s2.client_course client_ran).1 in
        let z = s2.to_server (sym (ap (λ (e : server.End). e.failed) same) ∙ last_server_runs) in
        let f = back.feeds in
        let none : z.0 ≡ [] = no_items w2.server.decoder z.0 (subst (λ (x : List ℕ). InFlight w2.server.decoder x z.0) empty z.1) in
        let said = says_items w2.client f.items in
        let flight : InFlight w2.server.decoder w3.to_server (z.0 ++ said) =
        said_behind w2.server.decoder w2.to_server w3.to_server z.0 said f.said (items_fit at.history w2.client f.items at.leads) z.1 in
        sym (all_delivered w3.server.decoder w4.server.decoder m w3.to_server (z.0 ++ said) there.feeds.items all_there
        (subst (λ (e : server.End). InFlight e.decoder w3.to_server (z.0 ++ said)) (sym same) flight) there.feeds.reads)
        ∙ ap (λ (x : List Item). x ++ said) none

    asks : All AsksNothing there.feeds.items
    asks =
        let at = (s2.client_course client_ran).1 in
        let a = all_answered back.feeds.items at.history in
        let said = says_items w2.client back.feeds.items in
        let is : a.said ≡ said = append_cancel_left (client_says.items_said at.history) a.said said
        (sym a.sends ∙ says_all at.history w2.client back.feeds.items at.leads) in
        subst (All AsksNothing) (is ∙ sym all_said) a.asks

    calm : IsCalm (engines w3 (s3.to_server last_server_runs).0 (s3.to_client last_client_runs).0)
    calm =
        let x = (s3.to_server last_server_runs).0 in
        let y = (s3.to_client last_client_runs).0 in
        calms_down (engines w3 x y) (at_stage (engines w3 x y) (s3.words last_server_runs last_client_runs))
        (ap (λ (e : server.End). is_pending e.terms.options) same ∙ pending) (ap words_in last_quiet)

    calm_as : IsCalm (pair (server_terms.options s3.history) w3.client.options (words_in there.feeds.items) [])
    calm_as =
        subst (λ (o : server_terms.Terms). IsCalm (pair o.options w3.client.options (words_in there.feeds.items) [])) s3.server.terms
        (subst (λ (x : List Item). IsCalm (pair w3.server.terms.options w3.client.options (words_in x) [])) last_all_got
        (subst (λ (y : List Item). IsCalm (pair w3.server.terms.options w3.client.options (words_in (s3.to_server last_server_runs).0) (words_in y))) last_quiet
        calm))

    none_said : says_there w3.server there.feeds.items ≡ []
    none_said =
        let h = s3.history in
        append_cancel_left (server_says.items_said h) (says_there w3.server there.feeds.items) []
        (sym (says_all_there h w3.server there.feeds.items s3.server)
        ∙ all_silent there.feeds.items h w3.client.options [] (subst (All WishesNothing) last_all_got (s3.unwished last_server_runs last_client_runs)) asks
        calm_as
        ∙ sym (append-nil (server_says.items_said h)))

    pub second_empty : NothingInFlight w4
    second_empty = (
      ap (λ (w : World). w.to_server) there.rest ∙ drop_all m w3.to_server all_there,
      there.feeds.said ∙ ap (λ (x : List ℕ). x ++ spells (says_there w3.server there.feeds.items)) last_none_back
          ∙ ap (λ (x : List Item). spells x) none_said,
    )
