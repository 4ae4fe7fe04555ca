-- Texts and their pieces: a text is the pieces that it is cut into put together again, and pieces that hold no byte b are what their text is cut into.
use mathlib.Core.Path.{◌≡◌, refl, ap, subst, ◌∙◌}
use mathlib.Core.Bool.{Bool, true, false}
use mathlib.Core.List.{List, [], ◌∷◌, ◌++◌}
use Prim.Native.Nat.{ℕ}
use lib.Dec.{eqb}
use borrow.Author.Tests.{eq-eqb, ne_eqb, eqb-true, eqb-false}
use Rattle.text.specs.Pieces.{Pieces, final, piece, onto, pieces, lines, fields, joined, write_fields, write_lines, Without, empty, apart, Clear, clear, clears}

-- A text is its pieces put together.
pub joined-pieces : (b : ℕ) (l : List ℕ) → joined b (pieces b l) ≡ l
unfolding pieces joined onto
joined-pieces b [] = refl
joined-pieces b (x ∷ l) = go (eqb x b) refl (joined-pieces b l)
  where
    put_on : (ps : Pieces) → joined b (onto x ps) ≡ x ∷ joined b ps
    put_on (final m) = refl
    put_on (piece m ps) = refl

    go : (t : Bool) → eqb x b ≡ t → joined b (pieces b l) ≡ l → joined b (pieces b (x ∷ l)) ≡ x ∷ l
    go true e ih =
        let q : x ≡ b = eqb-true x b e in
        rw (pieces, e, joined, ih, q)
    go false e ih = rw (pieces, e, put_on (pieces b l), ih)

-- A text is cut into pieces without the byte b.
pub clear-pieces : (b : ℕ) (l : List ℕ) → Clear b (pieces b l)
unfolding pieces onto
clear-pieces b [] = clear empty
clear-pieces b (x ∷ l) = go (eqb x b) refl (clear-pieces b l)
  where
    put_on : (x ≡ b → ⊥) → {ps : Pieces} → Clear b ps → Clear b (onto x ps)
    put_on n (clear w) = clear (apart n w)
    put_on n (clears w r) = clears (apart n w) r

    go : (t : Bool) → eqb x b ≡ t → Clear b (pieces b l) → Clear b (pieces b (x ∷ l))
    go true e r = rw (pieces, e) (clears empty r)
    go false e r = rw (pieces, e) (put_on (eqb-false x b e) r)

-- A list without b in front of bytes goes into their first piece.
module _ (b : ℕ) where
  pub pieces-last : {l : List ℕ} → Without b l → pieces b l ≡ final l
  unfolding pieces onto
  pieces-last empty = refl
  pieces-last (apart {x} {xs} n w) = rw (pieces, ne_eqb x b n, pieces-last w)

  pub pieces-first : {l : List ℕ} → Without b l → (m : List ℕ) → pieces b (l ++ (b ∷ m)) ≡ piece l (pieces b m)
  unfolding pieces onto
  pieces-first empty m = rw (pieces, eq-eqb b b refl)
  pieces-first (apart {x} {xs} n w) m = rw (pieces, ne_eqb x b n, pieces-first w m)

  -- Pieces without b are what their text is cut into.
  pub pieces-joined : {ps : Pieces} → Clear b ps → pieces b (joined b ps) ≡ ps
  unfolding joined
  pieces-joined (clear w) = pieces-last w
  pieces-joined (clears {l} {ps} w r) = pieces-first w (joined b ps) ∙ ap (piece l) (pieces-joined r)

-- Fields of a line that was written from fields without a space; lines of a text that was written from lines without byte 10.
pub fields-written : {fs : Pieces} → Clear 32 fs → fields (write_fields fs) ≡ fs
fields-written c = pieces-joined 32 c

pub lines-written : {ls : Pieces} → Clear 10 ls → lines (write_lines ls) ≡ ls
lines-written c = pieces-joined 10 c

-- A byte that is in no piece, and is not the byte between them, is not in their text.
pub without-append : {x : ℕ} {l m : List ℕ} → Without x l → Without x m → Without x (l ++ m)
without-append empty v = v
without-append (apart n w) v = apart n (without-append w v)

pub without-joined : {x b : ℕ} {ps : Pieces} → (b ≡ x → ⊥) → Clear x ps → Without x (joined b ps)
unfolding joined
without-joined n (clear w) = w
without-joined n (clears w r) = without-append w (apart n (without-joined n r))

-- A text that is cut into one piece holds no byte b.
clear-final : {b : ℕ} {l : List ℕ} → Clear b (final l) → Without b l
clear-final (clear w) = w

pub without-final : {b : ℕ} (l : List ℕ) → pieces b l ≡ final l → Without b l
without-final {b} l e = clear-final (subst (Clear b) e (clear-pieces b l))
