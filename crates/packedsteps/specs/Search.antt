-- The search for the first term in whose word a leading word stands, said of packed words alone: the list ls has the leading words as words of codes.
use Rattle.std.specs.Prelude.{◌≡◌, List, ℕ, ◌%◌, ◌≤◌, ◌<◌, get_or, Option, Some, None}
use Rattle.words.specs.Word.{Word}
use Rattle.algebra.specs.Spot.{nowhere, found}
use Rattle.packedwords.specs.Packed.{unpacked, Packs}
use Rattle.leads.specs.SpotOfWords.{spot_of_words}
use Rattle.packedsteps.specs.declared.Target.{Target}
use Rattle.packedterms.specs.declared.WorkingFormula.{WorkingFormula}
use Rattle.packedterms.specs.Formula.{blocks_at}

-- The codes of the word of term i.
abbrev pub codes_at : WorkingFormula → ℕ → Word
codes_at f i = unpacked (get_or f.sizes (get_or f.places i 0) 0 % 256) (blocks_at f.blocks (get_or f.places i 0))

-- The entries of the terms are places, and the blocks at the place of each pack a word.
pub record Placed (f : WorkingFormula) : Type 0 where
  pub count : f.terms ≤ 560
  pub place : (i : ℕ) → i < f.terms → get_or f.places i 0 < 560
  pub packs : (i : ℕ) → i < f.terms → Packs (get_or f.sizes (get_or f.places i 0) 0 % 256) (blocks_at f.blocks (get_or f.places i 0))

-- In no word from term `from` on, before term k, a leading word stands.
abbrev pub NoneBetween : List Word → (ℕ → Word) → ℕ → ℕ → Type 0
NoneBetween ls W from k = (j : ℕ) → from ≤ j → j < k → spot_of_words ls (W j) ≡ nowhere

-- The answer tells the first term from `from` on, before term n, in whose word a leading word stands, and where.
unfoldable pub FirstFound : List Word → (ℕ → Word) → ℕ → ℕ → Option Target → Type 0
FirstFound ls W from n None = NoneBetween ls W from n
FirstFound ls W from n (Some a) =
    (from ≤ a.term) × (a.term < n) × (spot_of_words ls (W a.term) ≡ found a.place a.number) × NoneBetween ls W from a.term
