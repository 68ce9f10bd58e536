-- A talk goes on.
use Rattle.std.proofs.Common.{◌≡◌, ◌≤◌, ℕ, Bool, List, [], ◌∷◌, ◌++◌, Option, refl, sym, ap, ◌∙◌, subst, append_assoc, append-nil, arith, length, take, drop}
use Rattle.std.proofs.Common.{take-append-drop}
use Rattle.std.specs.Io.KnownBytes.{Appends, Consumes, Keeps}
use Rattle.tn_lines.specs.{Edges.{HasShown, at_screen}, Said.{LeadsTo, said_of}, Logs.bytes_in, declared.{line_ends.LineEnd.LineEnd, talk.Talk.Talk}}
use Rattle.tn_lines.specs.Talking.{Begins, Streams, streams, Leads, LeadsBy, TypesKeys, ShowsBytes}
use Rattle.tn_lines.proofs.{FirstBytes.{rises_more, rises_none}, Writing.{consumes_more, consumes_kept, consumes_none}}
use Rattle.tn_cores.proofs.lemmas.streams.Writing.{appends_more, appends_kept, appends_none}

-- the logs name these keys and these bytes
named : (e : LineEnd) (at : Bool) (first last : Streams) (talk : Talk) (all seen : List ℕ) → bytes_in talk.typed ≡ all → bytes_in talk.heard ≡ seen
    → LeadsBy all seen e at first last talk → Leads e at first last talk
named e at first last talk all seen is_all is_seen had =
    subst (λ (l : List ℕ). LeadsBy l (bytes_in talk.heard) e at first last talk) (sym is_all)
    (subst (λ (l : List ℕ). LeadsBy all l e at first last talk) (sym is_seen) had)

-- nothing waits
none_of : (xs : List ℕ) → length xs ≤ 0 → xs ≡ []
none_of [] h = refl
none_of (x ∷ xs) h = absurd (omega arith)

-- KEYS

pub keys_more : (e : LineEnd) (at : Bool) (first : Streams) (keys keys_after service told screen : Option (List ℕ)) (warned : Option ℕ) (piece : List ℕ)
    (old new : Talk)
    → length old.waiting ≤ 0 → Consumes keys keys_after piece → TypesKeys piece old new
    → Leads e at first (streams keys service told screen warned) old → Leads e at first (streams keys_after service told screen warned) new
keys_more e at first keys keys_after service told screen warned piece old new none reads types had =
    let t = had.talked in
    let keys_were = bytes_in old.typed in
    let all_told : t.told ≡ said_of e keys_were =
    sym (append-nil t.told) ∙ ap (λ (l : List ℕ). t.told ++ l) (sym (none_of old.waiting none)) ∙ t.lines in
    let says = subst (λ (x : LineEnd). said_of x (keys_were ++ piece) ≡ said_of x keys_were ++ new.waiting) had.line_end_is
    (types.takes.says keys_were had.typed) in
    named e at first (streams keys_after service told screen warned) new (keys_were ++ piece) (bytes_in old.heard) types.typed types.heard
    (record {
      talked = record {
        told = t.told;
        keys = consumes_more first.keys keys keys_after keys_were piece t.keys reads;
        service = t.service;
        tells = t.tells;
        shows = t.shows;
        lines = ap (λ (l : List ℕ). l ++ new.waiting) all_told ∙ sym says;
        warns = t.warns;
      };
      typed = types.takes.leads keys_were had.typed;
      line_end_is = types.takes.line_end ∙ had.line_end_is;
      shown = subst (λ edge. HasShown (bytes_in old.heard) edge) (sym types.edge) had.shown;
      terminal = ap (λ edge. edge.at_terminal) types.edge ∙ had.terminal;
      opening = types.opening ∙ had.opening;
    })

-- BYTES OF THE SERVICE

pub bytes_more : (e : LineEnd) (at : Bool) (first : Streams) (keys service service_after told seen shown : Option (List ℕ)) (warned tells : Option ℕ)
    (piece : List ℕ) (old new : Talk)
    → Consumes service service_after piece → ShowsBytes piece seen warned old shown tells new
    → Leads e at first (streams keys service told seen warned) old → Leads e at first (streams keys service_after told shown tells) new
bytes_more e at first keys service service_after told seen shown warned tells piece old new reads shows had =
    let t = had.talked in
    let b = shows.bytes in
    let came_before = bytes_in old.heard in
    named e at first (streams keys service_after told shown tells) new (bytes_in old.typed) (came_before ++ piece) shows.typed shows.heard
    (record {
      talked = record {
        told = t.told;
        keys = t.keys;
        service = consumes_more first.service service service_after came_before piece t.service reads;
        tells = t.tells;
        shows =
            subst (λ (l : List ℕ). Appends first.screen shown l)
            (sym (subst (λ (x : Bool). at_screen x (came_before ++ piece) ≡ at_screen x came_before ++ b) had.terminal
            (shows.takes.shows came_before had.shown)))
            (appends_more first.screen seen shown (at_screen at came_before) b t.shows shows.shows);
        lines = ap (λ (l : List ℕ). t.told ++ l) shows.waiting ∙ t.lines;
        warns = rises_more first.warned warned tells came_before piece old.opening new.opening shows.listens had.opening t.warns;
      };
      typed = subst (λ lines. LeadsTo (bytes_in old.typed) lines) (sym shows.lines) had.typed;
      line_end_is = ap (λ lines. lines.line_end) shows.lines ∙ had.line_end_is;
      shown = shows.takes.leads came_before had.shown;
      terminal = shows.takes.at_terminal ∙ had.terminal;
      opening = shows.listens.hears.leads came_before had.opening;
    })

-- WHAT WAITS

pub told_more : (e : LineEnd) (at : Bool) (first : Streams) (keys service told told_after screen : Option (List ℕ)) (warned : Option ℕ) (old new : Talk) (n : ℕ)
    → Appends told told_after (take n old.waiting) → new.waiting ≡ drop n old.waiting → new.lines ≡ old.lines → new.edge ≡ old.edge
    → new.typed ≡ old.typed → new.heard ≡ old.heard → new.opening ≡ old.opening
    → Leads e at first (streams keys service told screen warned) old → Leads e at first (streams keys service told_after screen warned) new
told_more e at first keys service told told_after screen warned old new n wrote waiting lines edge same_typed same_heard same_opening had =
    let t = had.talked in
    let left = old.waiting in
    named e at first (streams keys service told_after screen warned) new (bytes_in old.typed) (bytes_in old.heard) (ap bytes_in same_typed)
    (ap bytes_in same_heard)
    (record {
      talked = record {
        told = t.told ++ take n left;
        keys = t.keys;
        service = t.service;
        tells = appends_more first.told told told_after t.told (take n left) t.tells wrote;
        shows = t.shows;
        lines =
            ap (λ (l : List ℕ). (t.told ++ take n left) ++ l) waiting
            ∙ append_assoc t.told (take n left) (drop n left)
            ∙ ap (λ (l : List ℕ). t.told ++ l) (take-append-drop n left)
            ∙ t.lines;
        warns = t.warns;
      };
      typed = subst (λ l. LeadsTo (bytes_in old.typed) l) (sym lines) had.typed;
      line_end_is = ap (λ l. l.line_end) lines ∙ had.line_end_is;
      shown = subst (λ e. HasShown (bytes_in old.heard) e) (sym edge) had.shown;
      terminal = ap (λ e. e.at_terminal) edge ∙ had.terminal;
      opening = same_opening ∙ had.opening;
    })

-- NOTHING IS DONE

pub kept_more : (e : LineEnd) (at : Bool) (first : Streams) (keys keys_after service service_after told told_after screen : Option (List ℕ)) (warned : Option ℕ)
    (old new : Talk)
    → Keeps keys keys_after → Keeps service service_after → Keeps told told_after
    → new.waiting ≡ old.waiting → new.lines ≡ old.lines → new.edge ≡ old.edge → new.typed ≡ old.typed → new.heard ≡ old.heard → new.opening ≡ old.opening
    → Leads e at first (streams keys service told screen warned) old → Leads e at first (streams keys_after service_after told_after screen warned) new
kept_more e at first keys keys_after service service_after told told_after screen warned old new same_keys same_service same_told waiting lines edge
    same_typed same_heard same_opening had =
    let t = had.talked in
    named e at first (streams keys_after service_after told_after screen warned) new (bytes_in old.typed) (bytes_in old.heard) (ap bytes_in same_typed)
    (ap bytes_in same_heard)
    (record {
      talked = record {
        told = t.told;
        keys = consumes_kept first.keys keys keys_after (bytes_in old.typed) t.keys same_keys;
        service = consumes_kept first.service service service_after (bytes_in old.heard) t.service same_service;
        tells = appends_kept first.told told told_after t.told t.tells same_told;
        shows = t.shows;
        lines = ap (λ (l : List ℕ). t.told ++ l) waiting ∙ t.lines;
        warns = t.warns;
      };
      typed = subst (λ l. LeadsTo (bytes_in old.typed) l) (sym lines) had.typed;
      line_end_is = ap (λ l. l.line_end) lines ∙ had.line_end_is;
      shown = subst (λ e. HasShown (bytes_in old.heard) e) (sym edge) had.shown;
      terminal = ap (λ e. e.at_terminal) edge ∙ had.terminal;
      opening = same_opening ∙ had.opening;
    })

pub begun : (e : LineEnd) (at : Bool) (first : Streams) (talk : Talk) → Begins e at talk → Leads e at first first talk
begun e at first talk b = named e at first first talk [] [] b.typed b.heard
    (record {
      talked = record {
        told = [];
        keys = consumes_none first.keys;
        service = consumes_none first.service;
        tells = appends_none first.told;
        shows = appends_none first.screen;
        lines = b.waiting;
        warns = rises_none first.warned;
      };
      typed = b.lines;
      line_end_is = b.line_end_is;
      shown = b.edge;
      terminal = b.terminal;
      opening = b.opening;
    })

-- what stands by it was asked what can be done
pub waited : (e : LineEnd) (at : Bool) (first : Streams) (keys service told screen : Option (List ℕ)) (was now : Option ℕ) (talk : Talk) → now ≡ was
    → Leads e at first (streams keys service told screen was) talk → Leads e at first (streams keys service told screen now) talk
waited e at first keys service told screen was now talk same had =
    subst (λ (w : Option ℕ). Leads e at first (streams keys service told screen w) talk) (sym same) had
