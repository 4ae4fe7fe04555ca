-- The facts of acceptance (document 01, and document 02, P2 and P4), as statements about polynomials, with no order of judgement and no procedure.
use Rattle.std.specs.Prelude.{◌≡◌, ◌≢◌, List, [], ◌∷◌, ◌++◌, ℕ, suc, ◌≤◌, ◌<◌, length, get_or}
use Rattle.field.specs.Field.{Operations, field_of}
use Rattle.lists.specs.All.{All}
use Rattle.words.specs.Order.{Order, Lt, word_order}
use Rattle.algebra.specs.Poly.{Poly, Same, sub}
use Rattle.algebra.specs.Written.{Written}
use Rattle.algebra.specs.Ideal.{Family, family, Line, value}
use Rattle.algebra.specs.Groebner.{top}
use Rattle.overlaps.specs.Pairs.{Pair}
use Rattle.overlaps.specs.Overlaps.{leads, overlaps, overlap_word, difference}
use Rattle.package.specs.Names.{sum_b, sum_g, sum_o}
use Rattle.package.specs.Sums.{SumLine}
use Rattle.package.specs.Package.{Package}
use Rattle.acceptance.specs.Content.{relations, basis, sum_of, lines_of}

-- No line of a sum meets refusal 10: after each line, target minus the sum so far has at most 512 terms.
abbrev pub FewTerms : Operations → Order → Family → Poly → List Line → Type 0
FewTerms K O G f xs =
    (before : List Line) (x : Line) (after : List Line) → before ++ (x ∷ after) ≡ xs
    → (g : Poly) → Written K O g → Same K g (sub K f (value K G (before ++ (x ∷ [])))) → length g ≤ 512

-- A sum equals its target, and meets no refusal 10.
pub record SumHolds (K : Operations) (O : Order) (G : Family) (f : Poly) (xs : List Line) : Type 0 where
  pub equal : Same K f (value K G xs)
  pub few : FewTerms K O G f xs

-- Pair number k of the list of overlaps and inclusions, counted from 1; the number names none where there are fewer.
abbrev pub overlap_at : List Poly → ℕ → Pair
overlap_at ps k =
    get_or (record { first = 0; second = 0; shared = 0; at = 0 } ∷ overlaps (leads ps)) k (record { first = 0; second = 0; shared = 0; at = 0 })

-- What holds of relations rs, basis ps and sum lines ss.
pub record Facts (K : Operations) (O : Order) (rs ps : List Poly) (ss : List SumLine) : Type 0 where
  -- every basis polynomial is nonzero
  pub nonzero : All (λ f. f ≢ []) ps
  -- B sums equal the basis
  pub basis-sums : (i : ℕ) → i < length ps → SumHolds K O (family rs) (get_or ps i []) (lines_of (sum_of sum_b (suc i) ss))
  -- G sums equal the relations
  pub relation_sums : (i : ℕ) → i < length rs → SumHolds K O (family ps) (get_or rs i []) (lines_of (sum_of sum_g (suc i) ss))
  -- no O item is above the count of overlaps and inclusions
  pub items : All (λ s. s.kind ≡ sum_o → s.item ≤ length (overlaps (leads ps))) ss
  -- O sums equal the differences of the overlaps and inclusions
  pub overlap_sums_lem : (i : ℕ) → i < length (overlaps (leads ps))
      → SumHolds K O (family ps) (difference K (family ps) (overlap_at ps (suc i))) (lines_of (sum_of sum_o (suc i) ss))
  -- in each O line left × leading word × right is strictly below the overlap word
  pub overlap_below : (i : ℕ) → i < length (overlaps (leads ps))
      → All (λ x. Lt O (top (family ps) x) (overlap_word (family ps) (overlap_at ps (suc i)))) (lines_of (sum_of sum_o (suc i) ss))

-- The facts of acceptance hold of a package that reads.
abbrev pub Acceptable : Package → Type 0
Acceptable P = Facts (field_of P.head.p) word_order (relations P) (basis P) P.sums
