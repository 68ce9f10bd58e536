-- The parts of an end that the history that leads to it determines.
use Rattle.std.proofs.Common.{◌≡◌, ◌≤◌, ℕ, ◌+◌, nat_lt, Bool, true, false, List, [], ◌∷◌, ◌++◌, length, take, drop, refl, sym, ap, ◌∙◌, arith, if◌then◌else◌}
use Rattle.std.proofs.{Common.{append-nil, length-append, take-add}, lemmas.Bool.{ltb-true, ltb-false}, Math.Seq.drop-append_seam}
use Rattle.std.proofs.lemmas.List.{take-append-drop, take-append-le, length-take-le, drop_all}
use Rattle.tn_discipline.proofs.lemmas.Histories.{entries-all}
use Rattle.tn_discipline.specs.{Entries.half_of, Keys.roles_from, Steps.gain_all, HalfLine.HalfLine, declared.reads.Entry.Entry}
use Rattle.tn_nvt.specs.{Feeding.failed, declared.items.Item.Item}
use Rattle.tn_server.specs.{Events.{History, begun, next, got, took, limit, breaks}, Lines.{roles, role_of_item, half, entries, taken_count, line, waiting}}
use Rattle.tn_server.specs.{Calls.{End, LeadsTo}, Screen.{queue, size, due}, Terms.{terms, asked_mask, mode, chars, settings}}

-- if nothing is ahead, the half-typed line is the held bytes
pub line_is : (h : History) (end : End) → LeadsTo h end → end.terminal.line ≡ line h
line_is h end s = go s.line.sent (s.line.count ∙ s.ahead) s.line.bytes
  where
    l : HalfLine
    l = end.terminal.line

    go : (sent : List ℕ) → length sent ≡ 0 → half_of end.terminal.line.limit (roles h) ≡ sent ++ end.terminal.line.held → end.terminal.line ≡ line h
    go [] e f =
        ap (λ (a : ℕ). record (end.terminal.line) { ahead = a }) s.ahead
        ∙ ap (λ (held : List ℕ). record { held = held; ahead = 0; limit = end.terminal.line.limit }) (sym f)
        ∙ ap (λ (n : ℕ). record { held = half_of n (roles h); ahead = 0; limit = n }) s.limit
    go (b ∷ bs) e f = absurd (omega (arith, e))

drop_read : (read rest : List Entry) (n : ℕ) (es : List Entry) → length read ≡ n → es ≡ read ++ rest → drop n es ≡ rest
drop_read read rest n es e f = rw (← e, f) (drop-append_seam read rest)

-- the entries that wait are those that the end holds
pub waits_are : (h : History) (end : End) → LeadsTo h end → waiting h ≡ end.terminal.entries
waits_are h end s = drop_read s.read end.terminal.entries (taken_count h) (entries h) s.count s.waits

-- AN END that a history leads to
abbrev pub end_at : History → End
end_at h =
    record {
      decoder = failed;
      terms = terms h;
      modes = record { asked = asked_mask h; current = mode h };
      table = chars h;
      terminal = record {
        settings = settings h;
        line = line h;
        entries = waiting h;
        queue = queue h;
        width = (size h).0;
        height = (size h).1;
        closed = false;
      };
      pulled = due h;
      breaks = breaks h;
      failed = false;
    }

-- the entries that were taken
abbrev pub taken_at : History → List Entry
taken_at h = take (taken_count h) (entries h)

more_entries : (h : History) (item : Item)
    → entries (next h (got item)) ≡ entries h ++ gain_all (limit h) (half h) (roles_from (role_of_item h item))
more_entries h item = entries-all (limit h) (roles h) (roles_from (role_of_item h item))

one_more_fits : (b : Bool) (n m : ℕ) → nat_lt n m ≡ b → n ≤ m → (if b then n + 1 else n) ≤ m
one_more_fits true n m e fits = let less = ltb-true n m e in omega (arith, less)
one_more_fits false n m e fits = fits

taken_fits : (h : History) → taken_count h ≤ length (entries h)
taken_fits (begun o canon) = omega arith
taken_fits (next h (got item)) =
    omega (
      arith,
      taken_fits h,
      ap length (more_entries h item),
      length-append (entries h) (gain_all (limit h) (half h) (roles_from (role_of_item h item))),
    )
taken_fits (next h took) = one_more_fits (nat_lt (taken_count h) (length (entries h))) (taken_count h) (length (entries h)) refl (taken_fits h)
taken_fits (next h _) = taken_fits h

pub stands_there : (h : History) → LeadsTo h (end_at h)
stands_there h = record {
  settings = refl;
  table = refl;
  terms = refl;
  modes = refl;
  limit = refl;
  line = record { sent = []; count = refl; bytes = refl };
  ahead = refl;
  read = taken_at h;
  count = length-take-le (taken_count h) (entries h) (taken_fits h);
  waits = sym (take-append-drop (taken_count h) (entries h));
  queue = refl;
  size = refl;
  due = refl;
  breaks = refl;
}

-- an item takes none
pub taken_got : (h : History) (item : Item) → taken_at (next h (got item)) ≡ taken_at h
taken_got h item =
    ap (take (taken_count h)) (more_entries h item)
    ∙ take-append-le (taken_count h) (entries h) (gain_all (limit h) (half h) (roles_from (role_of_item h item))) (taken_fits h)

-- a job takes the first entry that waits, if one does
pub taken_took : (h : History) → taken_at (next h took) ≡ taken_at h ++ take 1 (waiting h)
taken_took h = go (nat_lt (taken_count h) (length (entries h))) refl
  where
    go : (b : Bool) → nat_lt (taken_count h) (length (entries h)) ≡ b → take (if b then taken_count h + 1 else taken_count h) (entries h)
        ≡ take (taken_count h) (entries h) ++ take 1 (drop (taken_count h) (entries h))
    go true e = take-add (taken_count h) 1 (entries h)
    go false e =
        let past = ltb-false (taken_count h) (length (entries h)) e in
        sym (ap (λ (xs : List Entry). take (taken_count h) (entries h) ++ take 1 xs) (drop_all (taken_count h) (entries h) (omega (arith, past)))
        ∙ append-nil (take (taken_count h) (entries h)))
