-- The bytes read from a service that has no byte left are all that it gave.
use Rattle.std.proofs.Common.{◌≡◌, ℕ, List, ◌++◌, Option, Some, None, IfSome, sym, ap, ◌∙◌, append-nil}
use Rattle.std.specs.Io.KnownBytes.{Consumes, IsAtEnd}

pub heard_all : (old new : Option (List ℕ)) (bytes : List ℕ) → Consumes old new bytes → IsAtEnd new → IfSome old (λ all. bytes ≡ all)
heard_all None new bytes read none = tt
heard_all (Some all) None bytes read none = absurd read
heard_all (Some all) (Some rest) bytes read none = sym (read ∙ ap (λ l. bytes ++ l) none ∙ append-nil bytes)
