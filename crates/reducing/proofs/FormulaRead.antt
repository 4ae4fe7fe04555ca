-- What `read_formula` answers lies in the slices, cut to the terms that were read, as `load` asks.
use mathlib.Core.Path.{◌≡◌, subst}
use mathlib.Core.List.{List}
use Prim.Native.Nat.{ℕ, ◌-◌, ◌≤◌, ◌<◌}
use native.Mathlib.Omega.{arith}
use lib.ListN.{length, take, length-take}
use Rattle.lists.specs.All.{All}
use Rattle.field.specs.Field.{field_of}
use Rattle.words.specs.Word.{Letter}
use Rattle.words.specs.Laid.{laid_word}
use Rattle.words.specs.Order.{word_order}
use Rattle.algebra.specs.Written.{Written}
use Rattle.working.specs.Polynomial.{poly_at, Given}
use Rattle.std.specs.Prelude.{Result, Ok}
use Rattle.package.specs.declared.Refusal.{Refusal}
use Rattle.package.specs.Held.{seen_formula, count_formula, WordsInside}
use Rattle.package.specs.Formula.{formula, read_formula}
use Rattle.acceptance.specs.Reduction.{formula_limits}
use Rattle.acceptance.proofs.FormulaSlices.{formula-held, held-written, held_given}
use Rattle.tablelies.proofs.FormulaWords.{formula-words_lie}

-- The formula's bytes are read as the polynomial that lies in the slices, of at most 48 terms, with words of letters.
pub record Read (p letters : ℕ) (fc fs fl text : List ℕ) : Type 0 where
  pub reads : read_formula p letters formula_limits text ≡ formula (poly_at fc fs fl text)
  pub given : Given p fc fs fl text
  pub written : Written (field_of p) word_order (poly_at fc fs fl text)
  pub few : length fc ≤ 48
  pub lettered : (i : ℕ) → i < length fc → All (Letter 26) (laid_word fs fl text i)

module _ (p letters : ℕ) (s cs os ls : List ℕ) (n : ℕ) (e : seen_formula s cs os ls (Ok n) ≡ read_formula p letters formula_limits s)
    (alphabet : letters ≤ 26) (few : n ≤ 48) (inside : WordsInside s os ls n) (lc : length cs ≡ 48) (lo : length os ≡ 48) (ll : length ls ≡ 48) where
  reads : read_formula p letters formula_limits s ≡ formula (poly_at (take n cs) (take n os) (take n ls) s)
  reads = formula-held p letters formula_limits s cs os ls n e (omega arith)

  given : Given p (take n cs) (take n os) (take n ls) s
  given = held_given p letters formula_limits s cs os ls n e (omega arith) (omega arith) (omega arith) inside (omega arith)

  formula-read : Read p letters (take (n - 0) cs) (take (n - 0) os) (take (n - 0) ls) s
  formula-read =
      let z : n ≡ n - 0 = omega arith in
      subst (λ (j : ℕ). Read p letters (take j cs) (take j os) (take j ls) s) z (record {
        reads = reads;
        given = given;
        written = held-written p letters formula_limits s cs os ls n e (omega arith);
        few = omega (arith, length-take n cs);
        lettered = (formula-words_lie p letters formula_limits (take n cs) (take n os) (take n ls) s alphabet reads given).letters;
      })

-- The same from the reader's answer r, as its contract tells, for a field and letters that are those of a table.
pub answered : (p letters q k : ℕ) (s cs os ls : List ℕ) (n : ℕ) (r : Result ℕ Refusal) → q ≡ p → k ≡ letters → r ≡ Ok n
    → seen_formula s cs os ls r ≡ read_formula q k formula_limits s → (count_formula r ≤ 48) × WordsInside s os ls (count_formula r) → letters ≤ 26
    → length cs ≡ 48 → length os ≡ 48 → length ls ≡ 48 → Read p letters (take (n - 0) cs) (take (n - 0) os) (take (n - 0) ls) s
unfolding count_formula
answered p letters q k s cs os ls n r prime alphabet whole e inside few lc lo ll =
    let (most, words) : (n ≤ 48) × WordsInside s os ls n = rw whole at inside in
    formula-read p letters s cs os ls n (rw (whole, prime, alphabet) at e) few most words lc lo ll
