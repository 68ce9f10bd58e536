-- Lines in Telnet.
use Rattle.std.proofs.{Common.{◌≡◌, ℕ, Bool, List, ◌++◌, sym, ap, ap₂, ◌∙◌, append_assoc}, lemmas.Grind.flat_map-append}
use Rattle.tn_nvt.specs.Spelling.{spelling}
use Rattle.tn_serve.specs.services.{NewLines.{ends_by_return, new_lines, settled, waiting}, Telnet.{item_of, spelled}}
use Rattle.tn_serve.proofs.of_services.NewLines.{all}

-- what is spelled at once, and what waits behind it, are all
pub spelled_all : (before after text bytes : List ℕ) (waits : Bool) → text ≡ settled bytes → waits ≡ ends_by_return bytes
    → after ≡ (before ++ spelled text) ++ spelled (waiting waits) → after ≡ before ++ spelled (new_lines bytes)
spelled_all before after text bytes waits so holds put =
    put
    ∙ ap₂ (λ (l : List ℕ) (w : Bool). (before ++ spelled l) ++ spelled (waiting w)) so holds
    ∙ append_assoc before (spelled (settled bytes)) (spelled (waiting (ends_by_return bytes)))
    ∙ ap (λ (l : List ℕ). before ++ l) (sym (flat_map-append (λ byte. spelling (item_of byte)) (settled bytes) (waiting (ends_by_return bytes))) ∙ ap spelled (all bytes))
