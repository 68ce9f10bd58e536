-- At a settled moment at rest the relation of the ends holds.
use Rattle.std.proofs.{Common.{◌≡◌, inl, inr, ℕ, Bool, true, false, List, [], refl, sym, ap, ◌∙◌, subst}, lemmas.List.Elements.All-nil}
use Rattle.tn_discipline.specs.{declared.{reads.Entry.Entry, termios.Settings.Settings}, Canon.Canon}
use Rattle.tn_linemode.specs.Modes.{Modes, edits}
use Rattle.tn_nvt.specs.Spelling.{Fits}
use Rattle.tn_option.specs.{Options.{Options, agrees_to, is_yes, state_of}, declared.q_method.Side.TheVariants.{Us, Them}}
use Rattle.tn_server.specs.Terms as terms
use Rattle.tn_server.specs.Terms.{asked_mask_while, allows_local}
use Rattle.tn_client.specs.Terms as client_terms
use Rattle.tn_world.specs.{Headline.{IsMark, AgreeOnLinemode}, relation.Calm.{IsCalmToServer, IsCalmToClient, bits, IsAskable}, Flight.InFlight, Worlds.World}
use Rattle.tn_world.specs.relation.{Pictures.{server_core, NeverEnds, IsAllowed, IsOffOrOn}, Relation.{Agrees, IsRelated, server_at}}
use Rattle.tn_world.proofs.{Cut.no_items, Engines.client_agrees, Tied.rest-agrees, Wishes.{wish_allowed, wish_asked, stays_at}}

askable_while : (s : Settings) (linemode : Bool) (wish : ℕ) → IsAllowed s.flags wish → IsAskable s (bits (asked_mask_while linemode wish))
askable_while s true wish h = (wish_asked s s.flags wish refl h).1
askable_while s false wish h = inl refl

-- the mask in force is one that the server may ask for
mark_askable : (s : Canon) (w : World) → IsMark s w → IsAskable s.settings (bits w.client.mode)
mark_askable s w m =
    let stands = m.past.server in
    let h = m.past.history in
    let flags : terms.flags h ≡ s.settings.flags = ap (λ (x : Settings). x.flags) (sym stands.settings ∙ ap (λ (x : Canon). x.settings) m.rules) in
    let mask : terms.asked_mask h ≡ w.client.mode = sym (ap (λ (x : Modes). x.asked) stands.modes) ∙ m.settled.agreed.mask.0 ∙ m.settled.agreed.mask.1 in
    subst (λ (n : ℕ). IsAskable s.settings (bits n)) mask
    (askable_while s.settings (terms.linemode (terms.options h)) (terms.terms h).wish (subst (λ f. IsAllowed f (terms.terms h).wish) flags (wish_allowed h)))

agreed_linemode : (w : World) → AgreeOnLinemode w.server.terms.options w.client.options
    → client_terms.linemode w.client.options ≡ terms.linemode w.server.terms.options
agreed_linemode w (inl p) = ap is_yes p.1 ∙ sym (ap is_yes p.0)
agreed_linemode w (inr p) = ap is_yes p.1 ∙ sym (ap is_yes p.0)

server_never : (w : World) → AgreeOnLinemode w.server.terms.options w.client.options → NeverEnds (state_of w.server.terms.options Them 34)
server_never w (inl p) = subst NeverEnds (sym p.0) tt
server_never w (inr p) = subst NeverEnds (sym p.0) tt

client_never : (w : World) → AgreeOnLinemode w.server.terms.options w.client.options → IsOffOrOn (state_of w.client.options Us 34)
client_never w (inl p) = subst IsOffOrOn (sym p.1) tt
client_never w (inr p) = subst IsOffOrOn (sym p.1) tt

-- without LINEMODE there is no mask
mark_off : (s : Canon) (w : World) → IsMark s w → client_terms.linemode w.client.options ≡ false → edits w.client.mode ≡ false
mark_off s w m off =
    let stands = m.past.server in
    let h = m.past.history in
    let mask : terms.asked_mask h ≡ w.client.mode = sym (ap (λ (x : Modes). x.asked) stands.modes) ∙ m.settled.agreed.mask.0 ∙ m.settled.agreed.mask.1 in
    let there : terms.linemode (terms.options h) ≡ false = ap (λ (t : terms.Terms). terms.linemode t.options) (sym stands.terms)
    ∙ sym (agreed_linemode w m.settled.agreed.linemode) ∙ off in
    ap edits (sym mask) ∙ ap (λ (l : Bool). edits (asked_mask_while l (terms.terms h).wish)) there

pub core_is : (l k e f : Bool) (half : List ℕ) (entries : List Entry) → l ≡ k → e ≡ f → half ≡ [] → entries ≡ []
    → record { linemode = l; edit = e; half = half; waiting = entries } ≡ server_at k f [] []
core_is l k e f half entries o p q r =
    ap (λ x. record { linemode = x; edit = e; half = half; waiting = entries }) o
    ∙ ap (λ x. record { linemode = k; edit = x; half = half; waiting = entries }) p
    ∙ ap (λ x. record { linemode = k; edit = f; half = x; waiting = entries }) q
    ∙ ap (λ x. record { linemode = k; edit = f; half = []; waiting = x }) r

mark_agrees : (s : Canon) (w : World) → IsMark s w → Agrees s w.typed w.taken (server_core w.server) w.client
mark_agrees s w m =
    let c = w.client in
    let settled = m.settled in
    let l = client_terms.linemode c.options in
    subst (λ x. Agrees s x w.taken (server_core w.server) c) (sym m.typed)
    (subst (λ x. Agrees s [] x (server_core w.server) c) (sym m.taken)
    (subst (λ x. Agrees s [] [] x c) (sym (core_is (terms.linemode w.server.terms.options) l (edits w.server.modes.current)
    (edits c.mode) w.server.terminal.line.held w.server.terminal.entries (sym (agreed_linemode w settled.agreed.linemode))
    (ap edits settled.agreed.mask.1) settled.empty.half settled.empty.waiting))
    (rest-agrees s c (mark_askable s w m) (mark_off s w m) settled.empty.held settled.empty.ahead settled.empty.counts.0 settled.empty.counts.1)))

pub mark_holds : (s : Canon) (w : World) → IsMark s w → IsRelated s w
mark_holds s w m =
    let stands = m.past.server in
    let is_settings : w.server.terminal.settings ≡ s.settings = ap (λ (x : Canon). x.settings) m.rules in
    let is_limit : w.server.terminal.line.limit ≡ s.limit = ap (λ (x : Canon). x.limit) m.rules in
    let chars : w.server.table ≡ s.settings.chars = stands.table ∙ sym (ap (λ (x : Settings). x.chars) stands.settings)
    ∙ ap (λ (x : Settings). x.chars) is_settings in
    let there = m.past.to_server m.settled.idle.server_failed in
    let back = m.past.to_client m.settled.idle.client_failed in
    let none : there.0 ≡ [] = no_items w.server.decoder there.0 (subst (λ x. InFlight w.server.decoder x there.0) m.settled.idle.to_server there.1) in
    let silent : back.0 ≡ [] = no_items w.client.decoder back.0 (subst (λ x. InFlight w.client.decoder x back.0) m.settled.idle.to_client back.1) in
    record {
      items = [];
      flight = subst (λ x. InFlight w.server.decoder w.to_server x) none there.1;
      messages = [];
      back = subst (λ x. InFlight w.client.decoder w.to_client x) silent back.1;
      tied = record {
        fit = All-nil Fits;
        calm = All-nil (IsCalmToServer s.settings);
        calm_back = All-nil (IsCalmToClient s.settings);
        agrees = mark_agrees s w m;
        server = stays_at s m.past.history w.server stands (server_never w m.settled.agreed.linemode) (ap (λ (x : Settings). x.chars) is_settings)
            (subst (λ (x : Settings). w.server.terminal.settings.flags ≡ record (x.flags) { echo = w.server.terminal.settings.flags.echo }) is_settings refl) is_limit;
        client = record {
          agreed = let c = (m.past.client_course m.settled.idle.client_failed).1 in
              subst (λ (o : Options). agrees_to o Us 34 ≡ true) (sym c.leads.options) (client_agrees c.history);
          linemode = client_never w m.settled.agreed.linemode;
          chars = sym m.settled.agreed.chars ∙ chars;
          limit = m.past.limit m.settled.idle.client_failed ∙ is_limit;
        };
      };
      past = m.past;
    }
