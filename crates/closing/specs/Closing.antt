-- Terms without those whose coefficient is 0.
use Rattle.std.specs.Prelude.{true, false, List, [], ◌∷◌, ◌++◌, ℕ, eqb, length, take, drop}
use Rattle.closing.specs.declared.Term.{Term}

-- The terms whose coefficient is not 0, in their order.
unfoldable pub kept : List Term → List Term
kept [] = []
kept (t ∷ ts) = elim (eqb t.coef 0) [ true ↦ kept ts | false ↦ t ∷ kept ts ]

-- The first n terms closed up: the kept ones first, and every entry behind these as it was.
unfoldable pub closed : ℕ → List Term → List Term
unfolding kept
closed n ts = kept (take n ts) ++ drop (length (kept (take n ts))) ts
