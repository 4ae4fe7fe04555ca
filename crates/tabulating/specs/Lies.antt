-- What is asked of the slices that a table is filled from.
use Rattle.std.specs.Prelude.{List, ℕ, ◌+◌, ◌≤◌, ◌<◌, length, get_or}
use Rattle.lists.specs.All.{All}
use Rattle.field.specs.Field.{Field, field_of}
use Rattle.words.specs.Word.{Letter}
use Rattle.words.specs.Laid.{laid_word}
use Rattle.words.specs.Order.{word_order}
use Rattle.algebra.specs.Written.{Written}
use Rattle.working.specs.Family.{family_at, Terms, Runs}
use Rattle.package.specs.declared.Head.{Head}

-- Each of the m words is one of the letters `a` to `z`.
abbrev pub Lettered : List ℕ → List ℕ → List ℕ → ℕ → Type 0
Lettered starts lens bytes m = (i : ℕ) → i < m → All (Letter 26) (laid_word starts lens bytes i)

-- m words of letters lie in the bytes, each of at most 24.
pub record WordsLie (starts lens bytes : List ℕ) (m : ℕ) : Type 0 where
  pub starting : m ≤ length starts
  pub ending : m ≤ length lens
  pub inside : (i : ℕ) → i < m → get_or starts i 0 + get_or lens i 0 ≤ length bytes
  pub short : (i : ℕ) → i < m → get_or lens i 0 ≤ 24
  pub letters : Lettered starts lens bytes m

-- A package that was read lies in the slices: its numbers are within document 01's bounds, its m terms are well formed and have words of letters, its
-- relations and then its basis start where firsts says, and their polynomials are in written form.
pub record Lies (h : Head) (coefs starts lens bytes firsts : List ℕ) (m : ℕ) : Type 0 where
  pub prime : h.p ≤ 65521
  pub field : Field (field_of h.p)
  pub alphabet : h.letters ≤ 26
  pub gens : h.gens ≤ 32
  pub basis : h.basis ≤ 64
  pub count : m ≤ 1024
  pub terms : Terms h.p coefs starts lens bytes m
  pub letters : Lettered starts lens bytes m
  pub relation_runs : Runs firsts 1 h.gens m
  pub basis-runs : Runs firsts (h.gens + 1) h.basis m
  pub relations-written : All (Written (field_of h.p) word_order) (family_at coefs starts lens bytes firsts 1 h.gens)
  pub basis-written : All (Written (field_of h.p) word_order) (family_at coefs starts lens bytes firsts (h.gens + 1) h.basis)
