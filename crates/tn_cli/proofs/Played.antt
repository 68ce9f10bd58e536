-- Lines that are done one after another.
use Rattle.std.proofs.Common.{◌≡◌, ◌⊎◌, inl, inr, ℕ, zero, suc, ◌+◌, ◌*◌, ◌<◌, ◌≤◌, List, [], ◌∷◌, ◌++◌, length, take, drop, get_or, refl, sym, ap, ◌∙◌, subst}
use Rattle.std.proofs.Common.{subst₂, Some, append_assoc, append-nil, arith, take-append-drop, drop-cons, length-take, map, Bor}
use Rattle.std.proofs.lemmas.List.{take_more, map-append, take-map, get_or-map, length-map}
use Rattle.tn_world.specs.{Headline.NothingInFlight, Settling.RunsRounds, Worlds.World, declared.faults.Cause.Cause}
use Rattle.tn_world.specs.Settling as world_settling
use Rattle.tn_cli.specs.Playing.{RefusesToSettle, RunsLine, RunsLines, LeadsTo, StopsWithin, EndsWith, IsBad, RefusesLine, AppendsPrint, Prints}
use Rattle.tn_cli.specs.declared.fault.CliFault.TheVariants as fault

plays_more : (old mid new : World) (lines : List (List ℕ)) (line text head : List ℕ) → RunsLines old lines text mid → RunsLine mid line head new
    → RunsLines old (lines ++ line ∷ []) (text ++ head) new
plays_more old mid new [] line text head (none, same) plays =
    (new, head, [], subst (λ (w : World). RunsLine w line head new) same plays, (refl, refl), ap (λ (xs : List ℕ). xs ++ head) none ∙ sym (append-nil head))
plays_more old mid new (first ∷ lines) line text head (next, front, rest, done, all, whole) plays = (
  next,
  front,
  rest ++ head,
  done,
  plays_more next mid new lines line rest head all plays,
  ap (λ (xs : List ℕ). xs ++ head) whole
      ∙ append_assoc front rest head,
)

-- one line more
played_more : (mid new : World) (lines : List (List ℕ)) (line before now after : List ℕ) → AppendsPrint (λ text. LeadsTo lines text mid) before now
    → Prints (RunsLine mid line) now after new → AppendsPrint (λ text. LeadsTo (lines ++ line ∷ []) text new) before after
played_more mid new lines line before now after (text, played, added) (head, plays, printed) = (
  text ++ head,
  record { start = played.start; opened = played.opened; plays = plays_more played.start mid new lines line text head played.plays plays },
  printed ∙ ap (λ (xs : List ℕ). xs ++ head) added ∙ append_assoc before text head,
)

abbrev stop_at : (lines : List (List ℕ)) (i : ℕ) (text : List ℕ) (world : World) → i < length lines → LeadsTo (take i lines) text world
    → StopsWithin lines (i + 1) text
stop_at lines i text world within played = record {
  done = take i lines;
  line = get_or lines i [];
  left = drop (suc i) lines;
  whole = sym (take-append-drop i lines) ∙ ap (λ (xs : List (List ℕ)). take i lines ++ xs) (drop-cons lines i [] within);
  place = omega (arith, length-take i lines);
  world = world;
  played = played;
}

-- more lines that are lent
pub lent_played_more : (mid new : World) (lines : List (Bor (List ℕ))) (i : ℕ) (d : Bor (List ℕ)) (before now after : List ℕ) → i < length lines
    → AppendsPrint (λ text. LeadsTo (map (λ line. line.now) (take i lines)) text mid) before now → Prints (RunsLine mid (get_or lines i d).now) now after new
    → AppendsPrint (λ text. LeadsTo (map (λ line. line.now) (take (i + 1) lines)) text new) before after
lent_played_more mid new lines i d before now after within adds prints =
    let more : map (λ (line : Bor (List ℕ)). line.now) (take (i + 1) lines) ≡ map (λ (line : Bor (List ℕ)). line.now) (take i lines) ++ (get_or lines i d).now
    ∷ [] =
    ap (map (λ (line : Bor (List ℕ)). line.now)) (take_more lines i d within)
    ∙ map-append (λ (line : Bor (List ℕ)). line.now) (take i lines) (get_or lines i d ∷ []) in
    rw more (played_more mid new (map (λ (line : Bor (List ℕ)). line.now) (take i lines)) (get_or lines i d).now before now after adds prints)

-- a line that is not done
lent_stop_at : (lines : List (Bor (List ℕ))) (i : ℕ) (d : Bor (List ℕ)) (text : List ℕ) (world : World) → i < length lines
    → LeadsTo (map (λ line. line.now) (take i lines)) text world → (stop : StopsWithin (map (λ line. line.now) lines) (i + 1) text)
    × (stop.line ≡ (get_or lines i d).now) × (stop.world ≡ world)
lent_stop_at lines i d text world within played =
    let texts = map (λ (line : Bor (List ℕ)). line.now) lines in
    let here : get_or texts i [] ≡ (get_or lines i d).now = get_or-map (λ (line : Bor (List ℕ)). line.now) lines i d [] within in (
      stop_at texts i text world (omega (arith, length-map lines (λ (line : Bor (List ℕ)). line.now)))
          (rw (take-map (λ (line : Bor (List ℕ)). line.now) i lines) played),
      here,
      refl,
    )

pub lent_bad : (world : World) (lines : List (Bor (List ℕ))) (i : ℕ) (d : Bor (List ℕ)) (before now after : List ℕ) → i < length lines
    → AppendsPrint (λ text. LeadsTo (map (λ line. line.now) (take i lines)) text world) before now → IsBad (get_or lines i d).now × (after ≡ now)
    → AppendsPrint (EndsWith (map (λ line. line.now) lines) (Some (fault.Script (i + 1)))) before after
lent_bad world lines i d before now after within (text, played, added) (bad, same) =
    let stop = lent_stop_at lines i d text world within played in
    (text, (stop.0, subst IsBad (sym stop.1) bad), same ∙ added)

pub lent_refused : (world : World) (lines : List (Bor (List ℕ))) (i : ℕ) (d : Bor (List ℕ)) (before now after : List ℕ) → i < length lines
    → AppendsPrint (λ text. LeadsTo (map (λ line. line.now) (take i lines)) text world) before now → RefusesLine world (get_or lines i d).now × (after ≡ now)
    → AppendsPrint (EndsWith (map (λ line. line.now) lines) (Some (fault.World (i + 1)))) before after
lent_refused world lines i d before now after within (text, played, added) (refused, same) =
    let stop = lent_stop_at lines i d text world within played in
    (text, (stop.0, subst₂ RefusesLine (sym stop.2) (sym stop.1) refused), same ∙ added)

-- some rounds more
record Rounds (n m : ℕ) (old new : World) : Type 0 where
  pub count : ℕ
  pub is_count : count ≡ n + m
  pub rounds : RunsRounds count old new

more_rounds : (n m : ℕ) (old mid new : World) → RunsRounds n old mid → RunsRounds m mid new → Rounds n m old new
more_rounds n zero old mid new before is = record { count = n; is_count = omega arith; rounds = subst (λ (w : World). RunsRounds n old w) (sym is) before }
more_rounds n (suc m) old mid new before r =
    let rest = more_rounds n m old mid r.0 before r.1 in
    record { count = suc rest.count; is_count = let e = rest.is_count in omega arith; rounds = (r.0, rest.rounds, r.2, r.3) }

-- this number of rounds was run, twice as many as the settlings of the world at which something was in flight
pub record SettledBefore (settlings : ℕ) (old new : World) : Type 0 where
  pub count : ℕ
  pub rounds : RunsRounds count old new
  pub most : count ≤ 2 * settlings
  pub ended : NothingInFlight new ⊎ (count ≡ 2 * settlings)

all_run : (n : ℕ) (w : World) (count : ℕ) → ¬ NothingInFlight w → (NothingInFlight w ⊎ (count ≡ n)) → count ≡ n
all_run n w count flies (inl none) = absurd (flies none)
all_run n w count flies (inr is) = is

pub settles_again : (n : ℕ) (old mid new : World) → SettledBefore n old mid → ¬ NothingInFlight mid → world_settling.Settles mid new
    → SettledBefore (n + 1) old new
settles_again n old mid new before flies s =
    let all = more_rounds before.count s.count old mid new before.rounds s.rounds in
    let is : before.count ≡ 2 * n = all_run (2 * n) mid before.count flies before.ended in
    let more : all.count ≡ before.count + s.count = all.is_count in
    let few : s.count ≤ 2 = s.most in
    record { count = all.count; rounds = all.rounds; most = omega arith; ended = by_end s.ended more is }
  where
    by_end : {count : ℕ} {a b : ℕ} → (NothingInFlight new ⊎ (b ≡ 2)) → count ≡ a + b → a ≡ 2 * n → NothingInFlight new ⊎ (count ≡ 2 * (n + 1))
    by_end (inl none) e is = inl none
    by_end (inr two) e is = inr (omega arith)

pub settling_refused : (n : ℕ) (old mid new : World) (at : ℕ) (cause : Cause) → n < 32 → SettledBefore n old mid → ¬ NothingInFlight mid
    → world_settling.StopsSettling mid at cause new → RefusesToSettle old
settling_refused n old mid new at cause within before flies s =
    let all = more_rounds before.count s.count old mid s.mid before.rounds s.rounds in
    let is : before.count ≡ 2 * n = all_run (2 * n) mid before.count flies before.ended in
    let more : all.count ≡ before.count + s.count = all.is_count in
    let less : s.count + 1 ≤ 2 = s.less in
    record {
      count = all.count;
      mid = s.mid;
      rounds = all.rounds;
      less = omega arith;
      flies = s.flies;
      place = s.place;
      cause = cause;
      new = new;
      refuses = s.refuses;
    }
