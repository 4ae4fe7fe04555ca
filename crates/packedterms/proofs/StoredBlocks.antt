-- Six blocks stored at a place: the place has them, and every other place has the blocks that it had.
use mathlib.Core.Path.{◌≡◌, refl, sym, ap, ◌∙◌}
use mathlib.Core.List.{List, [], ◌∷◌, ◌++◌, append_assoc}
use Prim.Native.Nat.{ℕ, suc, ◌+◌, ◌*◌, ◌≤◌, ◌<◌}
use native.Mathlib.Omega.{arith}
use lib.ListN.{length, get_or, take, drop, set}
use lib.Seq.{sets, sets-eq, length-sets, length-take-le, take_at, drop_at, get_or-set_other, ext_get_or}
use Rattle.lists.proofs.Parts.{part_length}
use Rattle.lists.proofs.Entries.{part_at}
use Rattle.packedterms.specs.Formula.{blocks_at}

-- The entries that were stored.
part-new : (w v : List ℕ) (a : ℕ) → a + length v ≤ length w → take (length v) (drop a (sets w a v)) ≡ v
part-new w v a h =
    let n : length (take a w) ≡ a = length-take-le a w (omega arith) in
    ap (λ (x : List ℕ). take (length v) (drop a x)) (sets-eq v w a h ∙ append_assoc (take a w) v (drop (a + length v) w))
    ∙ ap (take (length v)) (drop_at (take a w) (v ++ drop (a + length v) w) a n)
    ∙ take_at v (drop (a + length v) w) (length v) refl

-- An entry where nothing was stored.
sets_other : (v w : List ℕ) (a j : ℕ) → ((i : ℕ) → i < length v → j ≡ a + i → ⊥) → get_or (sets w a v) j 0 ≡ get_or w j 0
sets_other [] w a j d = refl
sets_other (x ∷ v) w a j d =
    sets_other v (set w a x) (suc a) j (λ i h e. d (suc i) (omega arith) (omega arith)) ∙ get_or-set_other w a j x 0 (λ e. d 0 (omega arith) (omega arith))

module _ (w v : List ℕ) (s : ℕ) (six : length v ≡ 6) (inside : s * 6 + 6 ≤ length w) where
  pub blocks-new : blocks_at (sets w (s * 6) v) s ≡ v
  blocks-new = let h : s * 6 + length v ≤ length w = omega arith in rw six at (part-new w v (s * 6) h)

  pub blocks-kept : (r : ℕ) → r * 6 + 6 ≤ length w → (r ≡ s → ⊥) → blocks_at (sets w (s * 6) v) r ≡ blocks_at w r
  blocks-kept r there d =
      let w' = sets w (s * 6) v in
      let m = length-sets w (s * 6) v in
      let a = part_length (r * 6) 6 w' (omega arith) in
      let b = part_length (r * 6) 6 w there in
      ext_get_or 0 (blocks_at w' r) (blocks_at w r) (a ∙ sym b) (λ j h.
      part_at w' (r * 6) 6 j (omega arith)
      ∙ sets_other v w (s * 6) (r * 6 + j) (λ i q e. d (omega arith))
      ∙ sym (part_at w (r * 6) 6 j (omega arith)))
