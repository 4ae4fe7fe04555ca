-- Cutting a text at a byte: what `find` says of the pieces of the text.
use mathlib.Core.Path.{◌≡◌, refl, sym, ◌∙◌}
use mathlib.Core.Bool.{Bool, true, false, cond}
use mathlib.Core.List.{List, [], ◌∷◌}
use Prim.Native.Nat.{ℕ, suc, ◌+◌, ◌-◌, ◌≤◌, ◌<◌}
use native.Mathlib.Numerals.{add-one}
use native.Mathlib.Omega.{arith}
use lib.Dec.{eqb, ltb}
use lib.ListN.{length, get_or, take, drop, length-drop, drop_of_length-le}
use lib.Seq.{drop-cons, drop-drop}
use borrow.Author.Tests.{eq-eqb, ne_eqb, ltb-false}
use Rattle.std.specs.Prelude.{Option, Some, None, position}
use Rattle.std.specs.List.{position_or_len}
use Rattle.std.proofs.lemmas.Option.{none-some, cond_some}
use Rattle.std.proofs.lemmas.List.Recursion.{is_position_or_len}
use Rattle.text.specs.Pieces.{final, piece, onto, pieces, stop}

-- How far the first byte b is, turn by turn.
module _ (b : ℕ) (s : List ℕ) (i : ℕ) where
  pub stop_here : i < length s → get_or s i 0 ≡ b → i + stop b (drop i s) ≡ i
  unfolding stop
  stop_here h e = rw (drop-cons s i 0, stop, eq-eqb (get_or s i 0) b e) (omega arith)

  pub stop-later : i < length s → (get_or s i 0 ≡ b → ⊥) → i + 1 + stop b (drop (i + 1) s) ≡ i + stop b (drop i s)
  unfolding stop
  stop-later h n = rw (drop-cons s i 0, stop, ne_eqb (get_or s i 0) b n, add-one i) (omega arith)

  pub stop-end : length s ≤ i → i + stop b (drop i s) ≡ i
  unfolding stop
  stop-end h = rw drop_of_length-le (omega arith)

pub stop_le : (b : ℕ) (l : List ℕ) → stop b l ≤ length l
unfolding stop
stop_le b [] = omega arith
stop_le b (x ∷ l) = go (eqb x b) (stop_le b l)
  where
    go : (t : Bool) → stop b l ≤ length l → ◌≤◌ (elim t [ true ↦ 0 | false ↦ suc (stop b l) ]) (suc (length l))
    go true h = omega arith
    go false h = omega arith

pub pieces-cut : (b : ℕ) (l : List ℕ) → stop b l < length l → pieces b l ≡ piece (take (stop b l) l) (pieces b (drop (suc (stop b l)) l))
unfolding pieces stop onto
pieces-cut b [] h = absurd (omega arith)
pieces-cut b (x ∷ l) h = go (eqb x b) refl (pieces-cut b l)
  where
    go : (t : Bool) → eqb x b ≡ t → (stop b l < length l → pieces b l ≡ piece (take (stop b l) l) (pieces b (drop (suc (stop b l)) l)))
        → pieces b (x ∷ l) ≡ piece (take (stop b (x ∷ l)) (x ∷ l)) (pieces b (drop (suc (stop b (x ∷ l))) (x ∷ l)))
    go true e ih = rw (pieces, stop, e)
    go false e ih =
        let k : stop b (x ∷ l) ≡ suc (stop b l) = rw (stop, e) in
        rw (k, pieces, e, ih (omega arith))

pub pieces_end : (b : ℕ) (l : List ℕ) → length l ≤ stop b l → pieces b l ≡ final l
unfolding pieces stop onto
pieces_end b [] h = refl
pieces_end b (x ∷ l) h = go (eqb x b) refl (pieces_end b l)
  where
    go : (t : Bool) → eqb x b ≡ t → (length l ≤ stop b l → pieces b l ≡ final l) → pieces b (x ∷ l) ≡ final (x ∷ l)
    go true e ih =
        let k : stop b (x ∷ l) ≡ 0 = rw (stop, e) in
        absurd (omega arith)
    go false e ih =
        let k : stop b (x ∷ l) ≡ suc (stop b l) = rw (stop, e) in
        rw (pieces, e, ih (omega arith))

-- Cutting at a place that `find` gives.
module _ (b : ℕ) (l : List ℕ) (at e : ℕ) (h : e ≡ at + stop b (drop at l)) where
  pub cut-more : e < length l → pieces b (drop at l) ≡ piece (take (e - at) (drop at l)) (pieces b (drop (e + 1) l))
  cut-more k =
      let q : e - at ≡ stop b (drop at l) = omega arith in
      let d : at + suc (e - at) ≡ e + 1 = omega arith in
      let z : stop b (drop at l) < length (drop at l) = rw (length-drop at l) (omega arith) in
      rw (← d, ← drop-drop (suc (e - at)) at l, q) (pieces-cut b (drop at l) z)

  pub cut-end : length l ≤ e → pieces b (drop at l) ≡ final (drop at l)
  cut-end k = pieces_end b (drop at l) (rw (length-drop at l) (omega arith))

-- How far the first byte b is, as the library counts it.
stop_position : (b : ℕ) (l : List ℕ) → stop b l ≡ position_or_len (λ x. eqb x b) l
unfolding stop
stop_position b l = is_position_or_len (stop b) (λ x. eqb x b) refl (λ x xs. go x xs (eqb x b) refl) l
  where
    go : (x : ℕ) (xs : List ℕ) (t : Bool) → eqb x b ≡ t → stop b (x ∷ xs) ≡ cond (eqb x b) 0 (1 + stop b xs)
    go x xs true e = rw (stop, e)
    go x xs false e = rw (stop, e) (omega arith)

-- What the library's search for the byte b says: the first b, or none in all the bytes.
module _ (b : ℕ) (l : List ℕ) (r : Option ℕ) (h : r ≡ position (λ x. eqb x b) l) where
  pub stop_found : (n : ℕ) → r ≡ Some n → stop b l ≡ n
  stop_found n e = stop_position b l ∙ (cond_some _ _ _ (sym h ∙ e)).1

  pub stop_not-found : r ≡ None → stop b l ≡ length l
  stop_not-found e = go (ltb (position_or_len (λ x. eqb x b) l) (length l)) refl
    where
      go : (t : Bool) → ltb (position_or_len (λ x. eqb x b) l) (length l) ≡ t → stop b l ≡ length l
      go true q = let n : r ≡ Some (position_or_len (λ x. eqb x b) l) = rw q at h in absurd (none-some _ (sym e ∙ n))
      go false q = omega (arith, stop_position b l, stop_le b l, ltb-false _ _ q)
