-- No step makes a word longer than the longest of a polynomial; so no word of a short form has more letters than the longest of the formula.
use mathlib.Core.Path.{◌≡◌}
use mathlib.Core.Logic.{inl, inr}
use mathlib.Core.List.{List}
use Prim.Native.Nat.{ℕ, ◌≤◌}
use native.Mathlib.Omega.{arith}
use lib.ListN.{length}
use Rattle.lists.specs.All.{All}
use Rattle.lists.proofs.Every.{all_map}
use Rattle.field.specs.Field.{Operations, Field}
use Rattle.words.specs.Word.{Word}
use Rattle.words.specs.Order.{word_order}
use Rattle.words.proofs.Admissible.{Le}
use Rattle.words.proofs.WordOrder.{word-order-admissible}
use Rattle.algebra.specs.Poly.{Term, Poly}
use Rattle.algebra.specs.Ideal.{Line}
use Rattle.algebra.specs.Written.{Written}
use Rattle.algebra.specs.Spot.{spot, found}
use Rattle.algebra.specs.Steps.{stepped, Sequence, ended, step, answer, run}
use Rattle.algebra.proofs.Insertion.{plus-words}
use Rattle.algebra.proofs.Running.{run_sequence}
use Rattle.algebra.proofs.Spots.{target-reducible}
use Rattle.packedsteps.proofs.NotLonger.{below_length}
use Rattle.packedsteps.proofs.TermsBefore.{stepped_is, taken-le}

-- Every word of f has at most so many letters.
abbrev pub ShortWords : ℕ → Poly → Type 0
ShortWords most f = All (λ t. length t.word ≤ most) f

le-length : (u v : Word) → Le word_order u v → length u ≤ length v
le-length u v (inl p) = below_length u v p
le-length u v (inr p) = rw p (omega arith)

module _ {K : Operations} (laws : Field K) (ps : List Poly) (valid : All (λ f. Written K word_order f) ps) (most : ℕ) where
  stepped-short : (f : Poly) (t : Term) (i g : ℕ) → ShortWords most f → length t.word ≤ most → spot ps t.word ≡ found i g
      → ShortWords most (stepped K word_order ps f t i g)
  stepped-short f t i g h l e =
      let q = taken-le laws word-order-admissible ps valid t i g e in
      rw (stepped_is laws word-order-admissible ps valid f t i g)
      (plus-words K word_order (λ u. length u ≤ most) f _ h (all_map (λ s x. let y = le-length s.word t.word x in omega arith) q))

  sequence_short : {f N : Poly} {xs : List Line} → Sequence K word_order ps f xs N → ShortWords most f → ShortWords most N
  sequence_short (ended e) h = h
  sequence_short (step {f} {N} {xs} {t} {i} {n} e s) h =
      let (l, found_at) = target-reducible ps (λ u. length u.word ≤ most) f t i n h e in
      sequence_short s (stepped-short f t i n h l found_at)

  pub run_short : (limit b m : ℕ) (f N : Poly) → run limit K word_order ps b 0 f ≡ answer N m → ShortWords most f → ShortWords most N
  run_short limit b m f N e h = let (xs, s, size) = run_sequence limit K word_order ps b f N m e in sequence_short s h
