-- The text that a world which settles adds to Output.
use Rattle.std.proofs.Common.{◌≡◌, inl, inr, ℕ, zero, suc, false, List, [], ◌++◌, length, sym, ap, ◌∙◌, subst, append-nil, append_assoc}
use Rattle.std.proofs.lemmas.Grind.{flat_map-append}
use Rattle.tn_discipline.specs.declared.echo.Symbol.{Symbol}
use Rattle.tn_client.specs.Screen.{symbol_shown}
use Rattle.tn_world.specs.{Output.{screen, IsOutput, OutputGrows, OutputSettles, OutputStopsSettling}, Past.HasPast, Worlds.{World, RunsEvent, Refuses}}
use Rattle.tn_world.specs.{Settling.{RefusesRound, RunsRounds, Settles, StopsSettling}, declared.events.Event.TheVariants.{ToServer, ToClient}}
use Rattle.tn_world.specs.declared.faults.Cause.{Cause}
use Rattle.tn_world.proofs.{Happening.does_keeps, Showing.{output_grows, refused_grows}, Soundness.{sound_does, refusal_of}}

none_settles : (w : World) (text : List ℕ) → IsOutput w text → OutputSettles w w text
none_settles w text o =
    record { symbols = []; took = sym (append-nil w.server.terminal.queue); output = subst (λ (x : List ℕ). IsOutput w x) (sym (append-nil text)) o }

-- one after another
joins : (old mid new : World) (text : List ℕ) → (a : OutputSettles old mid text) → OutputSettles mid new (text ++ screen a.symbols) → OutputSettles old new text
joins old mid new text a b =
    record {
      symbols = a.symbols ++ b.symbols;
      took = b.took ∙ ap (λ (q : List Symbol). q ++ b.symbols) a.took ∙ append_assoc old.server.terminal.queue a.symbols b.symbols;
      output = subst (λ (x : List ℕ). IsOutput new x)
          (append_assoc text (screen a.symbols) (screen b.symbols) ∙ ap (λ (x : List ℕ). text ++ x) (sym (flat_map-append symbol_shown a.symbols b.symbols)))
          b.output;
    }

-- a delivery
to_client_settles : (old new : World) (n : ℕ) (text : List ℕ) → OutputGrows old (ToClient n) new text → OutputSettles old new text
to_client_settles old new n text g = record { symbols = g.symbols; took = g.took; output = g.output }

to_server_settles : (old new : World) (n : ℕ) (text : List ℕ) → OutputGrows old (ToServer n) new text → OutputSettles old new text
to_server_settles old new n text g = record { symbols = g.symbols; took = g.took; output = g.output }

-- a world after some deliveries, which has a past, whose client has not failed, with its Output
record Settled (old new : World) (text : List ℕ) : Type 0 where
  pub past : HasPast new
  pub runs : new.client.failed ≡ false
  pub output : OutputSettles old new text

then_to_client : (old mid new : World) (n : ℕ) (text : List ℕ) → Settled old mid text → RunsEvent mid (ToClient n) new → Settled old new text
then_to_client old mid new n text s r = record {
  past = sound_does mid new (ToClient n) r s.past;
  runs = (does_keeps mid new (ToClient n) r).1 ∙ s.runs;
  output = joins old mid new text s.output (to_client_settles mid new n (text ++ screen s.output.symbols)
      (output_grows mid new (ToClient n) (text ++ screen s.output.symbols) s.past s.runs r s.output.output));
}

then_to_server : (old mid new : World) (n : ℕ) (text : List ℕ) → Settled old mid text → RunsEvent mid (ToServer n) new → Settled old new text
then_to_server old mid new n text s r = record {
  past = sound_does mid new (ToServer n) r s.past;
  runs = (does_keeps mid new (ToServer n) r).1 ∙ s.runs;
  output = joins old mid new text s.output (to_server_settles mid new n (text ++ screen s.output.symbols)
      (output_grows mid new (ToServer n) (text ++ screen s.output.symbols) s.past s.runs r s.output.output));
}

rounds_settle : (count : ℕ) (old new : World) (text : List ℕ) → HasPast old → old.client.failed ≡ false → IsOutput old text → RunsRounds count old new
    → Settled old new text
rounds_settle zero old new text past runs o is =
    subst (λ (w : World). Settled old w text) (sym is) (record { past = past; runs = runs; output = none_settles old text o })
rounds_settle (suc count) old new text past runs o r =
    let q = r.3 in
    then_to_server old q.mid new (length q.mid.to_server) text
    (then_to_client old r.0 q.mid (length r.0.to_client) text (rounds_settle count old r.0 text past runs o r.1) q.to_client) q.to_server

pub settles_output : (old new : World) → HasPast old → Settles old new → (text : List ℕ) → IsOutput old text → old.client.failed ≡ false
    → OutputSettles old new text
settles_output old new past s text o runs = (rounds_settle s.count old new text past runs o s.rounds).output

-- a delivery that is refused
refused_to_client : (old mid new : World) (n : ℕ) (cause : Cause) (text : List ℕ) → Settled old mid text → Refuses mid (ToClient n) cause new
    → OutputStopsSettling old cause new text
refused_to_client old mid new n cause text s r = record {
  mid = mid;
  before = s.output;
  delivery = ToClient n;
  refuses = r;
  refused = λ on. joins old mid new text s.output (to_client_settles mid new n (text ++ screen s.output.symbols)
      (refused_grows mid new (ToClient n) (text ++ screen s.output.symbols) s.past (refusal_of mid new (ToClient n) cause r) s.output.output on));
}

refused_to_server : (old mid new : World) (n : ℕ) (cause : Cause) (text : List ℕ) → Settled old mid text → Refuses mid (ToServer n) cause new
    → OutputStopsSettling old cause new text
refused_to_server old mid new n cause text s r = record {
  mid = mid;
  before = s.output;
  delivery = ToServer n;
  refuses = r;
  refused = λ on. joins old mid new text s.output (to_server_settles mid new n (text ++ screen s.output.symbols)
      (refused_grows mid new (ToServer n) (text ++ screen s.output.symbols) s.past (refusal_of mid new (ToServer n) cause r) s.output.output on));
}

round_refused : (old mid new : World) (at : ℕ) (cause : Cause) (text : List ℕ) → Settled old mid text → RefusesRound mid at cause new
    → OutputStopsSettling old cause new text
round_refused old mid new at cause text s (inl x) = refused_to_client old mid new (length mid.to_client) cause text s x.1
round_refused old mid new at cause text s (inr x) =
    refused_to_server old x.0 new (length x.0.to_server) cause text (then_to_client old mid x.0 (length mid.to_client) text s x.2) x.3

pub stops_output : (old new : World) (at : ℕ) (cause : Cause) → HasPast old → StopsSettling old at cause new → (text : List ℕ) → IsOutput old text
    → old.client.failed ≡ false → OutputStopsSettling old cause new text
stops_output old new at cause past s text o runs =
    round_refused old s.mid new s.place cause text (rounds_settle s.count old s.mid text past runs o s.rounds) s.refuses

-- if nothing is in flight
pub stays_output : (w : World) (text : List ℕ) → IsOutput w text → w.client.failed ≡ false → OutputSettles w w text
stays_output w text o runs = none_settles w text o
