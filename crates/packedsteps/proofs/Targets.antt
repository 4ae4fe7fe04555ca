-- The target of a polynomial, where no word of its first terms has a leading word inside.
use mathlib.Core.Path.{◌≡◌, refl, sym, ◌∙◌, ap}
use mathlib.Core.List.{List, [], ◌∷◌, ◌++◌, append-nil}
use Prim.Native.Nat.{ℕ, suc, ◌+◌, ◌≤◌, ◌<◌}
use native.Mathlib.Numerals.{add-one}
use lib.ListN.{length, take, drop}
use lib.Seq.{take-suc, take_all, split_at}
use Rattle.lists.specs.All.{All, done, ◌also◌}
use Rattle.lists.proofs.Every.{all_append}
use Rattle.algebra.specs.Poly.{Term, Poly}
use Rattle.algebra.specs.Spot.{spot, nowhere, found, reduced, reducible, target_of, target}
use Rattle.working.specs.Change.{single}
use Rattle.packedsteps.specs.Spots.{term_of_of, NoSpots}

module _ (ps : List Poly) where
  target_past : (p f : Poly) → All (λ t. spot ps t.word ≡ nowhere) p → target ps (p ++ f) ≡ target ps f
  unfolding target target_of
  target_past [] f done = refl
  target_past (t ∷ p) f (h also hs) = rw (target, h) (target_past p f hs)

  target_here : (t : Term) (f : Poly) (i g : ℕ) → spot ps t.word ≡ found i g → target ps (t ∷ f) ≡ reducible t i g
  unfolding target target_of
  target_here t f i g e = rw (target, e)

  target_none : target ps [] ≡ reduced
  unfolding target
  target_none = refl

  module _ (f : Poly) (k : ℕ) (h : NoSpots ps f k) where
    pub no_spots_next : k < length f → spot ps (term_of_of f k).word ≡ nowhere → NoSpots ps f (k + 1)
    no_spots_next l e = rw (add-one k, take-suc f k (single 0 []) l) (all_append h (e also done))

    pub target_found : k < length f → (i g : ℕ) → spot ps (term_of_of f k).word ≡ found i g → target ps f ≡ reducible (term_of_of f k) i g
    target_found l i g e =
        ap (target ps) (split_at f k (single 0 []) l)
        ∙ target_past (take k f) (term_of_of f k ∷ drop (suc k) f) h
        ∙ target_here (term_of_of f k) (drop (suc k) f) i g e

    pub target-reduced : length f ≤ k → target ps f ≡ reduced
    target-reduced l = ap (target ps) (sym (append-nil f)) ∙ target_past f [] (rw (take_all k f l) at h) ∙ target_none
