-- Bytes that are copied to a buffer.
use Rattle.std.specs.Prelude.{◌≡◌, ℕ, List, length, min, take, drop}

-- The first of these bytes, as many as fit, were copied to the front of a buffer.
pub record Copies (bytes old new : List ℕ) (count : ℕ) : Type 0 where
  pub fits : count ≡ min (length bytes) (length old)
  pub front : take count new ≡ take count bytes
  pub rest : drop count new ≡ drop count old

-- The first of these bytes, as many as fit, were copied to the front of a buffer, and all of them were
-- counted.
pub record Gives (bytes old new : List ℕ) (whole : ℕ) : Type 0 where
  pub counts : whole ≡ length bytes
  pub copies : Copies bytes old new (min (length bytes) (length old))
