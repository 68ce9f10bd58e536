-- If nothing is in flight and no end has failed, the options of both ends agree.
use Rattle.std.proofs.Common.{◌≡◌, ℕ, Some, List, [], refl, subst}
use Rattle.tn_nvt.specs.declared.items.Item.{Item}
use Rattle.tn_option.specs.{EnginePair.LeadTo, Options.known_option, declared.known.Known.{Known, TheVariants.{Echo, SuppressGoAhead, Naws, Linemode}}}
use Rattle.tn_option.specs.declared.q_method.Side.{Side}
use Rattle.tn_option.proofs.lemmas.Agreement.{LeadTo-agree, moves-LeadTo}
use Rattle.tn_server.proofs.lemmas.Words.{opening_leads}
use Rattle.tn_server.specs.Terms as server_terms
use Rattle.tn_client.specs.Terms as client_terms
use Rattle.tn_world.specs.{Agreement.{AgreeOn, OptionsAgree}, Flight.InFlight, Headline.{NoneFailed, NothingInFlight}, Past.{HasPast, engines, opening_pair}}
use Rattle.tn_world.specs.Worlds.{World}
use Rattle.tn_world.proofs.Cut.{no_items}

pub agree_at_rest : (w : World) → HasPast w → NoneFailed w → NothingInFlight w → OptionsAgree w
agree_at_rest w s none nothing =
    let x = s.to_server none.0 in
    let y = s.to_client none.1 in
    let silent : x.0 ≡ [] = no_items w.server.decoder x.0 (subst (λ f. InFlight w.server.decoder f x.0) nothing.0 x.1) in
    let quiet : y.0 ≡ [] = no_items w.client.decoder y.0 (subst (λ f. InFlight w.client.decoder f y.0) nothing.1 y.1) in
    let began = s.words none.0 none.1 in
    let a = server_terms.agreement in
    let b = client_terms.agreement in
    let l : LeadTo a b (engines w [] []) =
    subst (λ (there : List Item). LeadTo a b (engines w there [])) silent
    (subst (λ (back : List Item). LeadTo a b (engines w x.0 back)) quiet
    (moves-LeadTo a b (opening_pair began.opening) (engines w x.0 y.0) began.talk (opening_leads began.opening b))) in
    let on : (side : Side) (code : ℕ) (option : Known) → known_option code ≡ Some option → AgreeOn w side code =
    λ side code option is. LeadTo-agree a b (engines w [] []) side code option is l refl refl in
    record {
      echo = λ side. on side 1 Echo refl;
      suppress_go_ahead = λ side. on side 3 SuppressGoAhead refl;
      naws = λ side. on side 31 Naws refl;
      linemode = λ side. on side 34 Linemode refl;
    }
