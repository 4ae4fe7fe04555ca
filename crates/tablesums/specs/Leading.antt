-- Leading words of the basis of a table.
use Rattle.std.specs.Prelude.{◌≡◌, List, ℕ}
use Rattle.words.specs.Word.{Word}
use Rattle.words.specs.Laid.{laid_words, Laid}
use Rattle.algebra.specs.Ideal.{family}
use Rattle.algebra.specs.Groebner.{lead}
use Rattle.overlaps.specs.Overlaps.{leads}
use Rattle.overlapsearch.specs.declared.leading.LeadingWords.{LeadingWords}
use Rattle.overlapsearch.specs.Leading.{words_in}
use Rattle.table.specs.Table.{basis_count_in}
use Rattle.table.specs.Polynomials.{basis_in}

-- The leading word of basis polynomial g.
abbrev pub lead_in : List ℕ → ℕ → Word
lead_in t g = lead (family (basis_in t) g)

-- The words that heads and headlens lay in the bytes are the leading words of the basis.
pub record HeadsIn (t heads headlens bytes : List ℕ) : Type 0 where
  pub laid : Laid heads headlens bytes (basis_count_in t)
  pub leading : laid_words heads headlens bytes (basis_count_in t) ≡ leads (basis_in t)

-- The same of leading words as a value: as many as the basis has polynomials.
pub record LeadsIn (t : List ℕ) (words : LeadingWords) : Type 0 where
  pub count : words.count ≡ basis_count_in t
  pub leading : words_in words ≡ leads (basis_in t)
