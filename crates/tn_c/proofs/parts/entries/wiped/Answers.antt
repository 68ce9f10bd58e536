use Rattle.std.proofs.Common.{◌≡◌, ◌∙◌, ap, sym, Some, ℕ, List, length}
use Rattle.std.specs.Prelude.{replicate, vec_len}
use Rattle.tn_discipline.specs.declared.reads.Entry.TheVariants as entry
use Rattle.tn_c.specs.parts.Entries.{wiped_entry}
use Rattle.tn_c.proofs.parts.entries.wiped.Goals as goal

pub returns-in-Some-Text : goal.returns-in-Some-Text
returns-in-Some-Text c =
    let same : length c.into-bytes.result.items ≡ length c.in-Some-Text.text = ap (λ (text : List ℕ). length text) c.into-bytes.ensures in
    let long : vec_len c.into-bytes.result ≡ length c.in-Some-Text.text = c.into-bytes.result.ok.0 ∙ same in
    let some : c.args.entry ≡ Some c.in-Some-Text.field-0 = c.in-Some-Text.is in
    let text : c.in-Some-Text.field-0 ≡ entry.Text c.in-Some-Text.text = c.in-Some-Text.field-0-is in
    ap (λ (text : List ℕ). Some (entry.Text text)) (c.into.ensures ∙ c.fill.ensures.items (λ y e. e) ∙ ap (λ (n : ℕ). replicate n 0) long)
    ∙ sym (ap wiped_entry (some ∙ ap Some text))
