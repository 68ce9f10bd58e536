-- Both ends act as the relation requires, so that it holds in every world.
use Rattle.std.proofs.Common.{◌≡◌, inl, inr, ℕ, List, [], ◌∷◌, ◌++◌, ◌≤◌, ◌<◌, ◌+◌, suc, take, drop, refl, sym, ap, ◌∙◌, subst, length, arith}
use Rattle.std.proofs.{Math.{ListN.get_or, Seq.drop-cons}, lemmas.List.{take_more, take_all, take-append-drop, length-take-le}}
use Rattle.tn_discipline.specs.{declared.reads.Entry.Entry, Canon.Canon, Characters.standard_characters}
use Rattle.tn_server.specs.declared.openings.Opening.{Opening}
use Rattle.tn_world.specs.{Past.HasPast, Opened.{IsOpened, with_new_lists}, declared.{events.Event.Event, faults.Cause.Cause}, relation.Relation.IsRelated}
use Rattle.tn_world.specs.Headline.{local_entries, local_half, PassesQuietly, IsQuiet, AreQuietEvents, IsBeginning, Follows, NoneFailed, IsSettled}
use Rattle.tn_world.specs.{Headline.{entries_made, half_made, Headline}, Worlds.{World, RunsEvent, Refuses, Runs, StopsWithin, canon_of}, Flight.InFlight}
use Rattle.tn_nvt.specs.Prefixes.{IsPrefixOf}
use Rattle.tn_world.proofs.{Following.holds_passes, Marking.mark_holds, Failing.{both, stage_begins, stage_passes}, Opening.opened_holds, Cut.no_items}
use Rattle.tn_world.proofs.Tied.{tied-complete, tied-half}

none_flies : (s : Canon) (w : World) (r : IsRelated s w) → w.to_server ≡ [] → r.items ≡ []
none_flies s w r nothing = no_items w.server.decoder r.items (subst (λ x. InFlight w.server.decoder x r.items) nothing r.flight)

-- the headline, if the relation holds of the first world and no end has failed
related_headline : (s : Canon) (start w : World) (events : List Event) → NoneFailed start → IsRelated s start → PassesQuietly start events w → Headline s w
related_headline s start w events runs h p = record {
  prefix = stage_begins s w (stage_passes s start w events p (both runs h));
  complete = λ none nothing. let r = holds_passes s start w events none p h in tied-complete r.tied (none_flies s w r nothing);
  half = λ none nothing. let r = holds_passes s start w events none p h in tied-half r.tied (none_flies s w r nothing);
}

-- the relation holds at each beginning
begins_related : (s : Canon) (w : World) → IsBeginning s w → IsRelated s w
begins_related s w (inl m) = mark_holds s w m
begins_related s w (inr o) = opened_holds o.opening s o.width o.height w o.standard o.opened

begins_running : (s : Canon) (w : World) → IsBeginning s w → NoneFailed w
begins_running s w (inl m) = (m.settled.idle.server_failed, m.settled.idle.client_failed)
begins_running s w (inr o) = (o.opened.server_runs, o.opened.client_runs)

passes_headline : (s : Canon) (start w : World) (events : List Event) → IsBeginning s start → PassesQuietly start events w → Headline s w
passes_headline s start w events b p = related_headline s start w events (begins_running s start b) (begins_related s start b) p

pub passes_prefix : (s : Canon) (start new : World) (events : List Event) → IsBeginning s start → PassesQuietly start events new
    → IsPrefixOf (entries_made new) (local_entries s new.typed)
passes_prefix s start new events b p = (passes_headline s start new events b p).prefix

pub passes_complete : (s : Canon) (start new : World) (events : List Event) → IsBeginning s start → PassesQuietly start events new → NoneFailed new
    → new.to_server ≡ [] → entries_made new ≡ local_entries s new.typed
passes_complete s start new events b p none nothing = (passes_headline s start new events b p).complete none nothing

pub passes_half : (s : Canon) (start new : World) (events : List Event) → IsBeginning s start → PassesQuietly start events new → NoneFailed new
    → new.to_server ≡ [] → half_made new ≡ local_half s new.typed
passes_half s start new events b p none nothing = (passes_headline s start new events b p).half none nothing

pub headline : (s : Canon) (w : World) → Follows s w → Headline s w
headline s w f = passes_headline s f.start w f.events f.begins f.passes

pub related : (s : Canon) (w : World) → Follows s w → NoneFailed w → IsRelated s w
related s w f none = holds_passes s f.start w f.events none f.passes (begins_related s f.start f.begins)

passes_on : (old mid new : World) (xs ys : List Event) → PassesQuietly old xs mid → PassesQuietly mid ys new → PassesQuietly old (xs ++ ys) new
passes_on old mid new [] ys p q = subst (λ w. PassesQuietly w ys new) p q
passes_on old mid new (e ∷ xs) ys p q = (p.0, p.1, passes_on p.0 mid new xs ys p.2 q)

pub follows_on : (s : Canon) (old new : World) (events : List Event) → Follows s old → PassesQuietly old events new → Follows s new
follows_on s old new events f p = record {
  start = f.start;
  begins = f.begins;
  events = f.events ++ events;
  passes = passes_on f.start old new f.events events f.passes p;
}

pub just_opened : (o : Opening) (s : Canon) (width height : ℕ) (w : World) → IsOpened o s width height w → s.settings.chars ≡ standard_characters → Follows s w
just_opened o s width height w is standard =
    record { start = w; begins = inr (record { standard = standard; width = width; height = height; opening = o; opened = is }); events = []; passes = refl }

-- a run of quiet events
pub runs_pass : (old new : World) (events : List Event) → IsQuiet old events → Runs old events new → PassesQuietly old events new
runs_pass old new [] quiet r = r
runs_pass old new (e ∷ events) quiet r =
    let here = quiet r.0 r.1 in
    (r.0, inl (here.0, r.1), runs_pass r.0 new events here.1 r.2)

-- a run up to the event that was refused
ends_pass : (old mid new : World) (done left : List Event) (e : Event) (cause : Cause) → IsQuiet old (done ++ e ∷ left) → Runs old done mid
    → Refuses mid e cause new → PassesQuietly old (done ++ e ∷ []) new
ends_pass old mid new [] left e cause quiet r refused = subst (λ w. PassesQuietly w (e ∷ []) new) r (new, inr (cause, refused), refl)
ends_pass old mid new (d ∷ done) left e cause quiet r refused =
    let here = quiet r.0 r.1 in
    (r.0, inl (here.0, r.1), ends_pass r.0 mid new done left e cause here.1 r.2 refused)

pub follows_runs : (s : Canon) (old new : World) (events : List Event) → Follows s old → IsQuiet old events → Runs old events new → Follows s new
follows_runs s old new events f quiet r = follows_on s old new events f (runs_pass old new events quiet r)

stops_pass : (old new : World) (events : List Event) (at : ℕ) (cause : Cause) → IsQuiet old events → (e : StopsWithin old events at cause new)
    → PassesQuietly old (e.done ++ e.event ∷ []) new
stops_pass old new events at cause quiet e = ends_pass old e.mid new e.done e.left e.event cause (subst (λ l. IsQuiet old l) e.whole quiet) e.runs e.refuses

pub follows_ends : (s : Canon) (old new : World) (events : List Event) (at : ℕ) (cause : Cause) → Follows s old → IsQuiet old events
    → StopsWithin old events at cause new → Follows s new
follows_ends s old new events at cause f quiet e = follows_on s old new (e.done ++ e.event ∷ []) f (stops_pass old new events at cause quiet e)

-- quiet events are quiet wherever they are done
pub quiet_always : (w : World) (events : List Event) → AreQuietEvents events → IsQuiet w events
quiet_always w [] q = tt
quiet_always w (e ∷ events) q = λ mid does. (q.0 w, quiet_always mid events q.1)

-- the world whose lists are reset
pub new_lists_settled : (w : World) → IsSettled w → IsSettled (with_new_lists w)
new_lists_settled w m =
    record {
      idle = record {
        to_server = m.idle.to_server;
        to_client = m.idle.to_client;
        server_stopped = m.idle.server_stopped;
        server_failed = m.idle.server_failed;
        client_stopped = m.idle.client_stopped;
        client_failed = m.idle.client_failed;
      };
      agreed = record {
        linemode = m.agreed.linemode;
        mask = m.agreed.mask;
        chars = m.agreed.chars;
        server_steady = m.agreed.server_steady;
        client_steady = m.agreed.client_steady;
      };
      empty = record { half = m.empty.half; held = m.empty.held; ahead = m.empty.ahead; counts = m.empty.counts; waiting = m.empty.waiting };
    }

pub new_lists_sound : (w : World) → HasPast w → HasPast (with_new_lists w)
new_lists_sound w s =
    record {
      history = s.history;
      server = s.server;
      server_course = s.server_course;
      client_course = s.client_course;
      limit = s.limit;
      takes_keys = s.takes_keys;
      to_server = s.to_server;
      to_client = s.to_client;
      words = s.words;
      unwished = s.unwished;
    }

pub mark_follows : (w : World) → HasPast w → IsSettled w → Follows (canon_of w) (with_new_lists w)
mark_follows w s m =
    record {
      start = with_new_lists w;
      begins = inl (record { past = new_lists_sound w s; settled = new_lists_settled w m; rules = refl; typed = refl; taken = refl });
      events = [];
      passes = refl;
    }

pub marked : (old w : World) (typed : List ℕ) (taken : List Entry) → w ≡ old → HasPast w → IsSettled old → typed ≡ [] → taken ≡ []
    → Follows (canon_of old) (record w { typed = typed; taken = taken })
marked old w typed taken is sound settled no_keys no_entries =
    subst (λ x. Follows (canon_of old) (record w { typed = x; taken = taken })) (sym no_keys)
    (subst (λ x. Follows (canon_of old) (record w { typed = []; taken = x })) (sym no_entries)
    (subst (λ x. Follows (canon_of x) (with_new_lists w)) is (mark_follows w sound (subst (λ x. IsSettled x) (sym is) settled))))

-- the run goes on
pub runs_on : (old mid new : World) (xs : List Event) (e : Event) → Runs old xs mid → RunsEvent mid e new → Runs old (xs ++ e ∷ []) new
runs_on old mid new [] e r d = (new, subst (λ w. RunsEvent w e new) r d, refl)
runs_on old mid new (x ∷ xs) e r d = (r.0, r.1, runs_on r.0 mid new xs e r.2 d)

pub runs_more : (old mid new : World) (events : List Event) (n : ℕ) (e : Event) → n < length events → e ≡ get_or events n e → Runs old (take n events) mid
    → RunsEvent mid e new → Runs old (take (n + 1) events) new
runs_more old mid new events n e within is r d =
    subst (λ l. Runs old l new) (ap (λ x. take n events ++ x ∷ []) is ∙ sym (take_more events n e within)) (runs_on old mid new (take n events) e r d)

pub runs_whole : (old new : World) (events : List Event) (n : ℕ) → length events ≤ n → Runs old (take n events) new → Runs old events new
runs_whole old new events n over r = subst (λ l. Runs old l new) (take_all n events over) r

pub runs_stop : (old mid new : World) (events : List Event) (n : ℕ) (e : Event) (cause : Cause) → n < length events → e ≡ get_or events n e
    → Runs old (take n events) mid → Refuses mid e cause new → StopsWithin old events n cause new
runs_stop old mid new events n e cause within is r refuses =
    record {
      done = take n events;
      event = e;
      left = drop (suc n) events;
      whole = sym (take-append-drop n events) ∙ ap (λ l. take n events ++ l) (drop-cons events n e within ∙ ap (λ x. x ∷ drop (suc n) events) (sym is));
      place = length-take-le n events (omega (arith, within));
      mid = mid;
      runs = r;
      refuses = refuses;
    }

-- the promises of a run
pub run_follows : (old new : World) (events : List Event) → Runs old events new → (s : Canon) → Follows s old → IsQuiet old events → Follows s new
run_follows old new events r s f quiet = follows_runs s old new events f quiet r

pub end_follows : (old new : World) (events : List Event) (at : ℕ) (cause : Cause) → StopsWithin old events at cause new → (s : Canon) → Follows s old
    → IsQuiet old events → Follows s new
end_follows old new events at cause e s f quiet = follows_ends s old new events at cause f quiet e
