-- The end of a history, and that each end that stands there is that one.
use Rattle.std.proofs.{Common.{◌≡◌, ℕ, Bool, true, false, Option, take, refl, sym, ap, ◌∙◌}, lemmas.List.length-take-le}
use Rattle.tn_codes.specs.declared.masks.Mask.{Mask}
use Rattle.tn_discipline.specs.Advancing as discipline
use Rattle.tn_discipline.specs.{Characters.Characters, HalfLine.HalfLine}
use Rattle.tn_nvt.specs.Feeding.{DecoderState, failed}
use Rattle.tn_option.specs.Options.{Options}
use Rattle.tn_client.specs.{Events.{Event, History, next}, Terms.{options, mode, forward, chars, size}, Calls.{End, LeadsTo}, Steps.end_after}
use Rattle.tn_client.specs.Lines.{edited_roles, half_line, ahead, count_under, line}
use Rattle.tn_client.proofs.lemmas.{Histories.{ahead-within, parts-whole}, Ends.line_is, Standings.stands}

abbrev pub end_with : History → DecoderState → Bool → End
end_with h d f =
    record {
      decoder = d;
      options = options h;
      mode = mode h;
      forward = forward h;
      table = chars h;
      line = line h;
      trapped = count_under true h;
      plain = count_under false h;
      width = (size h).0;
      height = (size h).1;
      failed = f;
    }

-- an end that stands there
abbrev pub end_at : History → End
end_at h = end_with h failed false

leaves-line : (h : History) → discipline.LeadsTo (edited_roles h) (line h)
leaves-line h = record { sent = take (ahead h) (half_line h); count = length-take-le (ahead h) (half_line h) (ahead-within h); bytes = parts-whole h }

pub stands_there : (h : History) → LeadsTo h (end_at h)
stands_there h = record {
  options = refl;
  mode = refl;
  forward = refl;
  table = refl;
  line = leaves-line h;
  ahead = refl;
  limit = refl;
  trapped = refl;
  plain = refl;
  size = refl;
}

-- Each end that stands there is that one, but for its decoder and a failure.
pub end_is : (h : History) (end : End) → LeadsTo h end → end ≡ end_with h end.decoder end.failed
end_is h end s =
    ap (λ (o : Options). record end { options = o }) s.options
    ∙ ap (λ (m : ℕ). record end { options = options h; mode = m }) s.mode
    ∙ ap (λ (f : Option Mask). record end { options = options h; mode = mode h; forward = f }) s.forward
    ∙ ap (λ (c : Characters). record end { options = options h; mode = mode h; forward = forward h; table = c }) s.table
    ∙ ap (λ (l : HalfLine). record (end_with h end.decoder end.failed) {
      line = l;
      trapped = end.trapped;
      plain = end.plain;
      width = end.width;
      height = end.height;
    }) (line_is h end s)
    ∙ ap (λ (n : ℕ). record (end_with h end.decoder end.failed) { trapped = n; plain = end.plain; width = end.width; height = end.height }) s.trapped
    ∙ ap (λ (n : ℕ). record (end_with h end.decoder end.failed) { plain = n; width = end.width; height = end.height }) s.plain
    ∙ ap (λ (z : ℕ × ℕ). record (end_with h end.decoder end.failed) { width = z.0; height = z.1 }) s.size

-- one event more
pub end_next : (h : History) (e : Event) → end_at (next h e) ≡ record (end_after (end_at h) e) { decoder = failed; failed = false }
end_next h e =
    ap (λ (x : End). record x { decoder = failed; failed = false }) (sym (end_is (next h e) (end_after (end_at h) e) (stands h (end_at h) e (stands_there h))))

-- the half-typed line after one event more
pub line_next : (h : History) (e : Event) → line (next h e) ≡ (end_after (end_at h) e).line
line_next h e = ap (λ (x : End). x.line) (end_next h e)
