-- The leading words of polynomials that lie in a package, as words that lie in its bytes.
use Rattle.std.specs.Prelude.{◌≡◌, List, ℕ, ◌≤◌, ◌<◌, get_or}
use Rattle.words.specs.Laid.{laid_words, Laid}
use Rattle.overlaps.specs.Overlaps.{leads}
use Rattle.working.specs.Family.{family_at}

-- The n words that heads and headlens lay in the bytes are the leading words of n polynomials, with at most 24 letters each.
pub record HeadsOf (coefs starts lens bytes firsts : List ℕ) (base n : ℕ) (heads headlens : List ℕ) : Type 0 where
  pub laid : Laid heads headlens bytes n
  pub short : (g : ℕ) → g < n → get_or headlens g 0 ≤ 24
  pub leading : laid_words heads headlens bytes n ≡ leads (family_at coefs starts lens bytes firsts base n)
