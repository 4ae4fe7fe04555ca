-- The working formula as a value: its terms, the polynomial that it holds, and what holds of it. And packed words as values. The words are read as the
-- table t has them.
use Rattle.std.specs.Prelude.{◌≡◌, List, ℕ}
use Rattle.algebra.specs.Poly.{Term, Poly}
use Rattle.words.specs.Word.{Word}
use Rattle.table.specs.Words.{word_of, Sixfold, Built}
use Rattle.packedterms.specs.declared.PackedWord.{PackedWord}
use Rattle.packedterms.specs.declared.WorkingFormula.{WorkingFormula}
use Rattle.packedterms.specs.Formula.{term_at, formula, Holds, Working}

-- Term i.
abbrev pub term_in : List ℕ → WorkingFormula → ℕ → Term
term_in t f = term_at t f.coefs f.sizes f.blocks f.places

-- The polynomial.
abbrev pub formula_in : List ℕ → WorkingFormula → Poly
formula_in t f = formula t f.coefs f.sizes f.blocks f.places f.terms

-- The blocks at the place of each term hold a word of the size there.
abbrev pub HoldsIn : List ℕ → WorkingFormula → Type 0
HoldsIn t f = Holds t f.coefs f.sizes f.blocks f.places f.terms

-- The polynomial is in written form too.
abbrev pub WorkingIn : List ℕ → WorkingFormula → Type 0
WorkingIn t f = Working t f.coefs f.sizes f.blocks f.places f.terms

-- The places have the same numbers.
pub record SameNumbers (f g : WorkingFormula) : Type 0 where
  pub coefs : g.coefs ≡ f.coefs
  pub sizes : g.sizes ≡ f.sizes
  pub blocks : g.blocks ≡ f.blocks

-- The word in letters.
abbrev pub letters_in : {n : ℕ} → List ℕ → PackedWord n → Word
letters_in t w = word_of t w.size w.blocks

-- It has at most 72 letters, and six blocks.
abbrev pub SixfoldIn : {n : ℕ} → List ℕ → PackedWord n → Type 0
SixfoldIn t w = Sixfold t w.size w.blocks

-- It has at most 72 letters, and nine blocks, where products are made.
abbrev pub BuiltIn : {n : ℕ} → List ℕ → PackedWord n → Type 0
BuiltIn t w = Built t w.size w.blocks
