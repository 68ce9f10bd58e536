-- If the special characters are the standard ones, the relation of the ends holds of a world that was just
-- opened.
use Rattle.std.proofs.{Common.{◌≡◌, inl, inr, ℕ, false, List, [], ◌∷◌, refl, sym, ap, ◌∙◌, subst}, lemmas.List.Elements.{All-nil, All-cons}}
use Rattle.std.specs.Prelude.{All}
use Rattle.tn_discipline.specs.{Canon.Canon, Characters.standard_characters, declared.termios.Settings.Settings, HalfLine.HalfLine}
use Rattle.tn_codes.specs.declared.codes.Verb.TheVariants.{Will, DoIt}
use Rattle.tn_nvt.specs.{Spelling.Fits, declared.items.Item.TheVariants.Neg}
use Rattle.tn_nvt.specs.Feeding as nvt
use Rattle.tn_option.specs.{QMethod.cell, Options.{Options, agrees_to, new_options, options_after_wish, state_of}}
use Rattle.tn_option.specs.declared.q_method.Side.TheVariants.{Us, Them}
use Rattle.tn_server.specs.Calls as server
use Rattle.tn_server.specs.Events as server_calls
use Rattle.tn_server.specs.{Replies.opening, declared.openings.Opening.{Opening, TheVariants.{Keys, Lines}}}
use Rattle.tn_server.specs.Terms as server_terms
use Rattle.tn_server.proofs.lemmas.{Fitting.sent-fit, Ends.{line_is, waits_are}}
use Rattle.tn_client.specs.Calls as client
use Rattle.tn_client.specs.Events as client_calls
use Rattle.tn_client.proofs.lemmas.Ends.{held_is}
use Rattle.tn_linemode.specs.Modes.{Modes, edits}
use Rattle.tn_client.specs.Terms as client_terms
use Rattle.tn_world.specs.{Opened.IsOpened, Flight.InFlight, relation.Pictures.{Server, server_core, NeverEnds, IsFlagged, IsOffOrOn, ServerStays, ClientStays}}
use Rattle.tn_world.specs.{Past.HasPast, Worlds.World, relation.{Calm.{IsCalmToServer, IsCalmToClient, bits}, Relation.{Agrees, IsTied, IsRelated}}}
use Rattle.tn_world.proofs.{Bodies.open_sound, Engines.client_agrees, Cut.{said_behind, start}, Marking.core_is, Wishes.stays_at, Tied.rest-agrees}

-- LINEMODE is asked for, and off at both
asked_for : (o : Opening) → NeverEnds (state_of (server_terms.opening_options o) Them 34)
unfolding new_options options_after_wish state_of cell
asked_for Keys = tt
asked_for Lines = tt

off_there : (o : Opening) → server_terms.linemode (server_terms.opening_options o) ≡ false
unfolding new_options options_after_wish state_of cell
off_there Keys = refl
off_there Lines = refl

not_begun : IsOffOrOn (state_of (new_options client_terms.agreement) Us 34)
unfolding new_options state_of
not_begun = tt

off_here : client_terms.linemode (new_options client_terms.agreement) ≡ false
unfolding new_options state_of
off_here = refl

opening_calm : (o : Opening) (s : Settings) → s.chars ≡ standard_characters → All (IsCalmToClient s) (opening o)
opening_calm Lines s is =
    let P = IsCalmToClient s in
    All-cons P (Neg DoIt 34) (Neg DoIt 31 ∷ []) (inr (refl, refl, is)) (All-cons P (Neg DoIt 31) [] (inl refl) (All-nil P))
opening_calm Keys s is =
    let P = IsCalmToClient s in
    All-cons P (Neg DoIt 34) (Neg DoIt 31 ∷ Neg Will 3 ∷ Neg DoIt 3 ∷ Neg Will 1 ∷ []) (inr (refl, refl, is))
    (All-cons P (Neg DoIt 31) (Neg Will 3 ∷ Neg DoIt 3 ∷ Neg Will 1 ∷ []) (inl refl)
    (All-cons P (Neg Will 3) (Neg DoIt 3 ∷ Neg Will 1 ∷ []) (inl refl)
    (All-cons P (Neg DoIt 3) (Neg Will 1 ∷ []) (inl refl)
    (All-cons P (Neg Will 1) [] (inl refl) (All-nil P)))))

-- the state before anything came
server_kept : (o : Opening) (s : Canon) (end : server.End) → server.LeadsTo (server_calls.begun o s) end → ServerStays s end
server_kept o s end begins =
    stays_at s (server_calls.begun o s) end begins
    (subst (λ (t : server_terms.Terms). NeverEnds (state_of t.options Them 34)) (sym begins.terms) (asked_for o))
    (ap (λ (x : Settings). x.chars) begins.settings) (subst (λ (x : Settings). IsFlagged s x) (sym begins.settings) refl) begins.limit

client_kept : (s : Canon) (width height : ℕ) (c : client.End) → client.LeadsTo (client_calls.begun width height s.limit) c
    → s.settings.chars ≡ standard_characters → ClientStays s c
client_kept s width height c begins standard = record {
  agreed = ap (λ (o : Options). agrees_to o Us 34) begins.options ∙ client_agrees (client_calls.begun width height s.limit);
  linemode = subst (λ (o : Options). IsOffOrOn (state_of o Us 34)) (sym begins.options) not_begun;
  chars = begins.table ∙ sym standard;
  limit = begins.limit;
}

begun_agrees : (o : Opening) (s : Canon) (width height : ℕ) (v : server.End) (c : client.End) → server.LeadsTo (server_calls.begun o s) v
    → client.LeadsTo (client_calls.begun width height s.limit) c → Agrees s [] [] (server_core v) c
begun_agrees o s width height v c stands begins =
    let h = client_calls.begun width height s.limit in
    let start = server_calls.begun o s in
    let off : client_terms.linemode c.options ≡ false = ap client_terms.linemode begins.options ∙ off_here in
    let raw : edits c.mode ≡ false = ap edits begins.mode in
    let none : server_terms.linemode v.terms.options ≡ false = ap (λ (t : server_terms.Terms). server_terms.linemode t.options) stands.terms ∙ off_there o in
    subst (λ (x : Server). Agrees s [] [] x c)
    (sym (core_is (server_terms.linemode v.terms.options) (client_terms.linemode c.options) (edits v.modes.current) (edits c.mode)
    v.terminal.line.held v.terminal.entries (none ∙ sym off) (ap (λ (m : Modes). edits m.current) stands.modes ∙ sym raw)
    (ap (λ (l : HalfLine). l.held) (line_is start v stands)) (sym (waits_are start v stands))))
    (rest-agrees s c (inl (ap bits begins.mode)) (λ e. raw) (held_is h c begins) begins.ahead begins.trapped begins.plain)

pub begun_tied : (o : Opening) (s : Canon) (width height : ℕ) (v : server.End) (c : client.End) → s.settings.chars ≡ standard_characters
    → server.LeadsTo (server_calls.begun o s) v → client.LeadsTo (client_calls.begun width height s.limit) c → IsTied s [] [] [] (opening o) v c
begun_tied o s width height v c standard stands begins = record {
  fit = All-nil Fits;
  calm = All-nil (IsCalmToServer s.settings);
  calm_back = opening_calm o s.settings standard;
  agrees = begun_agrees o s width height v c stands begins;
  server = server_kept o s v stands;
  client = client_kept s width height c begins standard;
}

-- the ends of a world that was just opened
pub record Fresh (o : Opening) (s : Canon) (width height : ℕ) (w : World) : Type 0 where
  pub there : server.LeadsTo (server_calls.begun o s) w.server
  pub reads : nvt.LeadsTo [] [] w.server.decoder
  pub here : client.LeadsTo (client_calls.begun width height s.limit) w.client
  pub hears : nvt.LeadsTo [] [] w.client.decoder

pub fresh : (o : Opening) (s : Canon) (width height : ℕ) (w : World) → IsOpened o s width height w → Fresh o s width height w
fresh o s width height w is =
    let a = is.server in
    let b = is.client in
    record {
      there = subst (λ (h : server_calls.History). server.LeadsTo h w.server) a.reads_as a.leads;
      reads = subst (λ (h : server_calls.History). nvt.LeadsTo [] (server_calls.items h) w.server.decoder) a.reads_as a.reads;
      here = subst (λ (h : client_calls.History). client.LeadsTo h w.client) b.reads_as b.leads;
      hears = subst (λ (h : client_calls.History). nvt.LeadsTo [] (client_calls.items h) w.client.decoder) b.reads_as b.reads;
    }

pub opened_past : (o : Opening) (s : Canon) (width height : ℕ) (w : World) → IsOpened o s width height w → HasPast w
opened_past o s width height w is =
    let f = fresh o s width height w is in
    open_sound o s width height w f.there f.reads f.here f.hears (ap (λ (x : World). x.to_server) is.rest) (ap (λ (x : World). x.to_client) is.rest) is.takes_keys

pub opened_holds : (o : Opening) (s : Canon) (width height : ℕ) (w : World) → s.settings.chars ≡ standard_characters → IsOpened o s width height w → IsRelated s w
opened_holds o s width height w standard is =
    let f = fresh o s width height w is in
    record {
      items = [];
      flight = subst (λ (x : List ℕ). InFlight w.server.decoder x []) (sym (ap (λ (x : World). x.to_server) is.rest)) (start w.server.decoder f.reads);
      messages = opening o;
      back = said_behind w.client.decoder [] w.to_client [] (opening o) (ap (λ (x : World). x.to_client) is.rest) (sent-fit (server_calls.begun o s))
          (start w.client.decoder f.hears);
      tied = subst (λ x. IsTied s x w.taken [] (opening o) w.server w.client) (sym (ap (λ (x : World). x.typed) is.rest))
          (subst (λ x. IsTied s [] x [] (opening o) w.server w.client) (sym (ap (λ (x : World). x.taken) is.rest))
          (begun_tied o s width height w.server w.client standard f.there f.here));
      past = opened_past o s width height w is;
    }
