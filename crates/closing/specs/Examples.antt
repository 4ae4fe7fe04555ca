-- Slices before and after, by computation: terms with coefficient 0 at the front, in the middle, at the end, everywhere and nowhere.
use Rattle.std.specs.Prelude.{◌≡◌, refl, List, [], ◌∷◌, ℕ, length, take}
use Rattle.lists.specs.All.{All, done, ◌also◌}
use Rattle.closing.specs.declared.Term.{Term}
use Rattle.closing.specs.Closing.{kept, closed}

-- The term with coefficient c whose word is the byte at s.
abbrev pub at : ℕ → ℕ → Term
at c s = record { coef = c; start = s; len = 1 }

-- The first n terms of a slice closed up: how many are left, and the slice at exit.
pub record Case : Type 0 where
  pub n : ℕ
  pub before : List Term
  pub count : ℕ
  pub after : List Term

-- The definitions give the count and the slice of the case.
abbrev pub Answered : Case → Type 0
Answered c = (length (kept (take c.n c.before)) ≡ c.count) × (closed c.n c.before ≡ c.after)

-- The cases.
abbrev pub cases : List Case
cases =
    -- at the front
    record { n = 3; before = at 0 1 ∷ at 5 2 ∷ at 6 3 ∷ []; count = 2; after = at 5 2 ∷ at 6 3 ∷ at 6 3 ∷ [] }
    -- in the middle
    ∷ record { n = 3; before = at 5 1 ∷ at 0 2 ∷ at 6 3 ∷ []; count = 2; after = at 5 1 ∷ at 6 3 ∷ at 6 3 ∷ [] }
    -- at the end: nothing moves
    ∷ record { n = 3; before = at 5 1 ∷ at 6 2 ∷ at 0 3 ∷ []; count = 2; after = at 5 1 ∷ at 6 2 ∷ at 0 3 ∷ [] }
    -- two next to each other and one apart
    ∷ record { n = 6; before = at 1 1 ∷ at 0 2 ∷ at 0 3 ∷ at 4 4 ∷ at 0 5 ∷ at 6 6 ∷ []; count = 3; after = at 1 1 ∷ at 4 4 ∷ at 6 6 ∷ at 4 4 ∷ at 0 5 ∷ at 6 6 ∷ [] }
    -- everywhere
    ∷ record { n = 3; before = at 0 1 ∷ at 0 2 ∷ at 0 3 ∷ []; count = 0; after = at 0 1 ∷ at 0 2 ∷ at 0 3 ∷ [] }
    -- nowhere
    ∷ record { n = 3; before = at 5 1 ∷ at 6 2 ∷ at 5 3 ∷ []; count = 3; after = at 5 1 ∷ at 6 2 ∷ at 5 3 ∷ [] }
    -- entries behind the first n are neither looked at nor changed
    ∷ record { n = 2; before = at 0 1 ∷ at 5 2 ∷ at 0 3 ∷ at 6 4 ∷ []; count = 1; after = at 5 2 ∷ at 5 2 ∷ at 0 3 ∷ at 6 4 ∷ [] }
    -- no terms, and no entries
    ∷ record { n = 0; before = at 0 1 ∷ at 5 2 ∷ []; count = 0; after = at 0 1 ∷ at 5 2 ∷ [] }
    ∷ record { n = 0; before = []; count = 0; after = [] }
    ∷ []

-- They are all as the definitions say, by computation.
pub cases-answered : All Answered cases
unfolding closed
cases-answered =
    (refl, refl)
    also (refl, refl)
    also (refl, refl)
    also (refl, refl)
    also (refl, refl)
    also (refl, refl)
    also (refl, refl)
    also (refl, refl)
    also (refl, refl)
    also done
