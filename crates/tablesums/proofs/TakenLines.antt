-- A multiple that is added with the opposite of its coefficient is a line taken away, of the basis or of the relations.
use mathlib.Core.Path.{◌≡◌, ap₂}
use mathlib.Core.List.{List}
use Prim.Native.Nat.{ℕ, zero, suc, ◌+◌, ◌≤◌}
use native.Mathlib.Omega.{arith}
use Rattle.words.specs.Word.{Word}
use Rattle.text.specs.Pieces.{part}
use Rattle.algebra.specs.Poly.{Poly, scale, shift}
use Rattle.algebra.specs.Ideal.{family}
use Rattle.algebra.specs.Steps.{take_away}
use Rattle.algebra.specs.Written.{plus}
use Rattle.package.specs.declared.SumAt.{SumAt}
use Rattle.sumlines.specs.Lines.{taken_line}
use Rattle.table.specs.Polynomials.{polynomial_in, relations_in, basis_in}
use Rattle.table.specs.Table.{field_in, order_in, gens_in, basis_count_in}
use Rattle.table.proofs.Families.{family-relations, family-basis}
use Rattle.packedterms.specs.declared.PackedWord.{PackedWord}
use Rattle.packedterms.specs.InFormula.{letters_in}
use Rattle.tablesums.specs.Lines.{line_in}
use Rattle.tablesums.specs.ShortWords.{HoldsShort}

module _ (t : List ℕ) (f : Poly) (x : ℕ) (left right : PackedWord 6) where
  -- what `take_item` leaves, where the polynomial is that of an item
  abbrev pub without : ℕ → Poly
  without item =
      plus (field_in t) (order_in t) f
      (scale (field_in t) ((field_in t).neg x) (shift (letters_in t left) (letters_in t right) (polynomial_in t item)))

  pub without-basis : (of : ℕ) → 1 ≤ of → of ≤ basis_count_in t
      → without (gens_in t + of) ≡ take_away (field_in t) (order_in t) (family (basis_in t)) f (line_in t x left of right)
  unfolding take_away
  without-basis zero some most = absurd (omega arith)
  without-basis (suc k) some most = rw (family-basis t k (omega arith))

  pub without_relation : (of : ℕ) → 1 ≤ of → of ≤ gens_in t
      → without of ≡ take_away (field_in t) (order_in t) (family (relations_in t)) f (line_in t x left of right)
  unfolding take_away
  without_relation zero some most = absurd (omega arith)
  without_relation (suc k) some most = rw (family-relations t k (omega arith))

-- The line whose words `pack_sides` packed is the line in the bytes.
pub line-packed : (t bytes : List ℕ) (s : SumAt) (left right : PackedWord 6)
    → HoldsShort t (part bytes s.left s.left_len) left → HoldsShort t (part bytes s.right s.right_len) right
    → line_in t s.coef left s.of right ≡ taken_line bytes s
line-packed t bytes s left right l r =
    ap₂ (λ (u v : Word). record { coef = s.coef; left = u; of = s.of; right = v }) l.word r.word
