-- The greatest word of a line, made in nine blocks, compared by numbers with an overlap word.
use mathlib.Core.Path.{◌≡◌, refl, sym, ap, ◌∙◌}
use mathlib.Core.List.{List}
use Prim.Native.Nat.{ℕ, ◌/◌}
use lib.ListN.{take}
use Rattle.std.specs.Ordering.{is_lt}
use Rattle.std.specs.declared.cmp.Ordering.{Ordering}
use Rattle.std.specs.declared.cmp.Ordering.TheVariants.{Less, Equal, Greater}
use Rattle.words.specs.Order.{by_number_of, by_letters}
use Rattle.words.specs.Word.{Word, around}
use Rattle.packedwords.specs.Codes.{itself}
use Rattle.algebra.specs.Groebner.{top}
use Rattle.algebra.specs.Ideal.{family, Line}
use Rattle.acceptance.specs.Check.{is_under}
use Rattle.table.specs.Polynomials.{basis_in}
use Rattle.table.specs.Table.{order_in}
use Rattle.table.specs.Words.{word_of, block_count, Suits, Built}
use Rattle.packedterms.proofs.BuiltWords.{built-six, built-held, built-word, built-compares}
use Rattle.tablesums.specs.Leading.{lead_in}

-- Weights and blocks say how two words in nine blocks stand in the table's order.
pub built-stand : (t : List ℕ) → Suits t → (z e : ℕ) (u v : List ℕ) → Built t z u → Built t e v
    → by_number_of (z / 256) (e / 256) (by_letters itself (take (block_count z) u) (take (block_count z) v)) ≡ order_in t (word_of t z u) (word_of t e v)
built-stand t s z e u v a b =
    built-compares t z u a s e v (built-six t e v b) (built-held t e v b) ∙ ap (order_in t (word_of t z u)) (built-word t e v b)

-- How the greatest word w of a line stands to m decides whether the line is under m.
pub under_is : (t : List ℕ) (x : Line) (m : Word) (q : Ordering) (w : Word) → q ≡ order_in t w m → w ≡ around x.left x.right (lead_in t x.of)
    → is_lt q ≡ is_under (order_in t) (family (basis_in t)) m x
unfolding is_under top
under_is t x m q w e d = go q refl
  where
    stands : order_in t (top (family (basis_in t)) x) m ≡ q
    stands = ap (λ (v : Word). order_in t v m) (sym d) ∙ sym e

    go : (o : Ordering) → q ≡ o → is_lt q ≡ is_under (order_in t) (family (basis_in t)) m x
    go Less h = rw (is_under, stands, h)
    go Equal h = rw (is_under, stands, h)
    go Greater h = rw (is_under, stands, h)
