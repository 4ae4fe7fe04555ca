-- The entry of term k moved behind the others: the arrays hold the other terms, in written form if all were, and a word that belongs behind term k
-- belongs among them one term earlier.
use mathlib.Core.Path.{◌≡◌, ap, ◌∙◌}
use mathlib.Core.Bool.{Bool}
use mathlib.Core.List.{List, [], ◌∷◌, ◌++◌}
use Prim.Native.Nat.{ℕ, ◌+◌, ◌-◌, ◌/◌, ◌≤◌, ◌<◌}
use native.Mathlib.Decide.{dec_lt}
use native.Mathlib.Omega.{arith}
use lib.ListN.{length}
use Rattle.field.specs.Field.{Operations}
use Rattle.lists.specs.All.{All, ◌also◌}
use Rattle.lists.proofs.Every.{all_append, all_split}
use Rattle.std.specs.declared.cmp.Ordering.{Ordering}
use Rattle.std.specs.declared.cmp.Ordering.TheVariants.{Less}
use Rattle.words.specs.Order.{Order}
use Rattle.algebra.specs.Poly.{Term, Poly}
use Rattle.algebra.specs.Written.{Written}
use Rattle.algebra.specs.Written as W
use Rattle.working.specs.Working.{terms}
use Rattle.working.specs.Rotation.{Moved, rotated_right, rotated_left}
use Rattle.working.specs.Change.{without}
use Rattle.working.proofs.RotationLeft.{left-low, left_mid}
use Rattle.working.proofs.Rotations.{right-left, left_below}
use Rattle.working.proofs.Terms.{terms-next, terms-cut, terms-left}
use Rattle.table.specs.Table.{field_in, order_in}
use Rattle.table.specs.Words.{block_count}
use Rattle.packedterms.specs.Finding.{by_numbers, standing, BelowFirst, Belonging}
use Rattle.packedterms.specs.Formula.{placed, term_at, formula, Holds, Working}
use Rattle.packedterms.proofs.Halving.{index_from}
use Rattle.packedterms.proofs.Places.{holds-less, holds_moved}

all_without : {P : Term → Type 0} (a : Poly) (s : Term) (b : Poly) → All P (a ++ (s ∷ b)) → All P (a ++ b)
all_without {P} a s b h = let (x, y) = all_split a (s ∷ b) h in all_append x (rest y)
  where
    rest : All P (s ∷ b) → All P b
    rest (p also q) = q

written-without : (K : Operations) (O : Order) (a : Poly) (s : Term) (b : Poly) → Written K O (a ++ (s ∷ b)) → Written K O (a ++ b)
written-without K O [] s b (W.term p q all w) = w
written-without K O (x ∷ a) s b (W.term p q all w) = W.term p q (all_without a s b all) (written-without K O a s b w)

pub without-written : (t c l w o : List ℕ) (n k : ℕ) → k < n → Working t c l w o n → Written (field_in t) (order_in t) (without (term_at t c l w o) n k)
without-written t c l w o n k h f =
    let F : ℕ → Term = term_at t c l w o in
    let cut : formula t c l w o n ≡ terms F 0 k ++ (F k ∷ terms F (k + 1) (n - (k + 1))) = terms-cut F k n (omega arith) ∙ rw (terms-next F k n h) in
    written-without (field_in t) (order_in t) (terms F 0 k) (F k) (terms F (k + 1) (n - (k + 1))) (rw cut at f.written)

module _ (t c l w o : List ℕ) (n k : ℕ) (h : k < n) (o' : List ℕ) (mv : Moved (rotated_left k (n - 1)) o o') where
  abbrev F : ℕ → Term
  F = term_at t c l w o

  last : k ≤ n - 1
  last = omega arith

  pub left-out-holds : Holds t c l w o n → Holds t c l w o' (n - 1)
  left-out-holds f =
      let g = f.count in
      let p = f.room.places in
      holds-less t c l w o' n (holds_moved t c l w o o' n (rotated_left k (n - 1)) (rotated_right k (n - 1)) (right-left k (n - 1) last)
      (λ j z. left_below k (n - 1) last (length o) j (omega arith) z) (λ j z. left_below k (n - 1) last n j (omega arith) z) mv f) (n - 1) (omega arith)

  pub left-out-formula : formula t c l w o' (n - 1) ≡ without F n k
  left-out-formula =
      let d : n - 1 - k ≡ n - (k + 1) = omega arith in
      terms-left (term_at t c l w o') F k (n - 1) last (λ j. ap (placed t c l w) (mv.at j)) ∙ rw d

  pub left-out-working : Working t c l w o n → Working t c l w o' (n - 1)
  left-out-working f = record { holds = left-out-holds f.holds; written = rw left-out-formula (without-written t c l w o n k h f) }

  -- a word that is below the first k + 1 words
  module _ (v : List ℕ) (e : ℕ) (first : BelowFirst (standing v e l w o) (k + 1) n) where
    abbrev S : ℕ → Ordering
    S = standing v e l w o

    moved : (i : ℕ) → standing v e l w o' i ≡ S (rotated_left k (n - 1) i)
    moved i = ap (by_numbers v (e / 256) (block_count e) l w) (mv.at i)

    low : (i : ℕ) → i < k → standing v e l w o' i ≡ S i
    low i q = moved i ∙ ap S (left-low k (n - 1) i last q)

    high : (i : ℕ) → k ≤ i → i < n - 1 → standing v e l w o' i ≡ S (i + 1)
    high i p q = moved i ∙ ap S (left_mid k (n - 1) i p q)

    pub left-out_belonging : (j : ℕ) {present : Bool} → Belonging S n j present → Belonging (standing v e l w o') (n - 1) (j - 1) present
    left-out_belonging j b =
        let from = index_from S n first b in
        let most = b.low in
        let same : j - 1 + 1 ≡ j = omega arith in
        let at : j < n → standing v e l w o' (j - 1) ≡ S j = λ q. high (j - 1) (omega arith) (omega arith) ∙ ap S same in
        record {
          low = omega arith;
          below = λ i q. go i q (dec_lt i k);
          equal = λ p. let (x, y) = b.equal p in (omega arith, at x ∙ y);
          new = λ p q. at (omega arith) ∙ b.new p (omega arith);
        }
      where
        go : (i : ℕ) → i < j - 1 → Dec (i < k) → standing v e l w o' i ≡ Less
        go i q (yes r) = low i r ∙ b.below i (omega arith)
        go i q (no r) = let most = b.low in high i (omega arith) (omega arith) ∙ b.below (i + 1) (omega arith)
