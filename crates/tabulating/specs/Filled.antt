-- A section of a list stored, and nothing else.
use Rattle.std.specs.Prelude.{◌≡◌, List, ℕ, ◌+◌, ◌≤◌, ◌<◌, length, get_or}

-- The n entries of u from a on are f 0, f 1, ..; the others are those of t.
pub record Filled (a n : ℕ) (f : ℕ → ℕ) (t u : List ℕ) : Type 0 where
  pub size : length u ≡ length t
  pub inside : (k : ℕ) → k < n → get_or u (a + k) 0 ≡ f k
  pub below : (k : ℕ) → k < a → get_or u k 0 ≡ get_or t k 0
  pub above : (k : ℕ) → a + n ≤ k → get_or u k 0 ≡ get_or t k 0
