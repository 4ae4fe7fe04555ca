-- A kind's field: one byte, and a space behind it.
use mathlib.Core.Path.{◌≡◌, refl, sym, ◌∙◌}
use mathlib.Core.List.{List, [], ◌∷◌}
use Prim.Native.Nat.{ℕ, ◌+◌, ◌<◌}
use native.Mathlib.Omega.{arith}
use lib.ListN.{length, get_or, drop}
use Rattle.text.proofs.Bytewise.{rank_one, rank-many}
use Rattle.text.specs.Field.{none, some, num_then, rank_from, rank}
use Rattle.text.specs.Pieces.{pieces}
use Rattle.std.specs.Prelude.{Option, Some, None}
use Rattle.fieldreading.proofs.Fronts.{front_here, num_none, num_one, num_one_wrong, num_more}

module _ (ks l : List ℕ) (at : ℕ) (k : at < length l) where
  pub kind-empty : get_or l at 0 ≡ 32 → none ≡ num_then (rank ks) (pieces 32 (drop at l))
  kind-empty e = num_none (rank ks) (drop at l) (rw (front_here 32 l at k e) (rank-many ks [] (λ y. omega arith)))

  module _ (n : get_or l at 0 ≡ 32 → ⊥) where
    pub kind_long : (get_or l (at + 1) 0 ≡ 32 → ⊥) → none ≡ num_then (rank ks) (pieces 32 (drop at l))
    kind_long e = num_more l at k n (rank ks) e (λ f h y. rank-many ks f (λ z. omega arith))

    pub kind_wrong : (r : Option ℕ) → get_or l (at + 1) 0 ≡ 32 → r ≡ rank_from 1 ks (get_or l at 0) → r ≡ None → none ≡ num_then (rank ks) (pieces 32 (drop at l))
    kind_wrong r e q w = num_one_wrong l at k n (rank ks) e (rank_one ks (get_or l at 0 ∷ []) refl ∙ sym q ∙ w)

    pub kind-some : (r : Option ℕ) (v : ℕ) → get_or l (at + 1) 0 ≡ 32 → r ≡ rank_from 1 ks (get_or l at 0) → r ≡ Some v
        → some v (pieces 32 (drop (at + 2) l)) ≡ num_then (rank ks) (pieces 32 (drop at l))
    kind-some r v e q w = num_one l at k n (rank ks) v e (rank_one ks (get_or l at 0 ∷ []) refl ∙ sym q ∙ w)
