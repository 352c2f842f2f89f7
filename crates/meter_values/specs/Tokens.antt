-- What is written token by token.
use Rattle.std.specs.Prelude.{◌≡◌, ℕ, List, [], ◌∷◌, ◌++◌, Option, Some, None}
use Rattle.json.specs.Token.{Token, key, string}
use Rattle.json.specs.Written.{Written}

abbrev pub row_tokens : List ℕ × Option (List ℕ) → List Token
row_tokens (name, None) = []
row_tokens (name, Some text) = key name ∷ string text ∷ []

-- the tokens are written after what stood there
pub record Adds (old new : Written) (added : List Token) : Type 0 where
  pub before : new.before ≡ old.before
  pub tokens : new.tokens ≡ old.tokens ++ added
