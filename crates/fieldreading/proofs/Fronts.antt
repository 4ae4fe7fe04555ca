-- The first field of bytes, byte by byte: what looking at one byte more does to the field that is left to read.
-- A byte b ends it: a space, or a newline where it is the last of its line.
use mathlib.Core.Path.{◌≡◌, refl, sym, ap, ◌∙◌}
use mathlib.Core.Bool.{Bool, true, false}
use mathlib.Core.List.{List, [], ◌∷◌}
use mathlib.Core.Logic.{◌⊎◌, inl, inr, ⊎_elim}
use Prim.Native.Nat.{ℕ, ◌+◌, ◌-◌, ◌≤◌, ◌<◌}
use native.Mathlib.Decide.{dec_lt}
use native.Mathlib.Numerals.{add-one}
use native.Mathlib.Omega.{arith}
use lib.Dec.{eqb}
use lib.ListN.{length, get_or, take, drop, get_or-eq_default}
use lib.Seq.{drop-cons, get_or-drop, length-take-le}
use borrow.Author.Tests.{eq-eqb, ne_eqb}
use Rattle.text.proofs.Cutting.{stop_here, stop-later, stop-end, stop_le, pieces-cut, pieces_end}
use Rattle.text.specs.Field.{none, some, got_of, num_then}
use Rattle.text.specs.Pieces.{pieces, stop}
use Rattle.std.specs.Prelude.{Option, Some, None}
use Rattle.fieldreading.proofs.FieldReading.{num_end, num_value}

-- The bytes before the first byte b.
abbrev pub front : ℕ → List ℕ → List ℕ
front b s = take (stop b s) s

-- One byte more.
module _ (b : ℕ) (l : List ℕ) (i : ℕ) where
  pub front_here : i < length l → get_or l i 0 ≡ b → front b (drop i l) ≡ []
  unfolding stop
  front_here h e = rw (drop-cons l i 0, stop, eq-eqb (get_or l i 0) b e)

  pub front-later : i < length l → (get_or l i 0 ≡ b → ⊥) → front b (drop i l) ≡ get_or l i 0 ∷ front b (drop (i + 1) l)
  unfolding stop
  front-later h n = rw (drop-cons l i 0, stop, ne_eqb (get_or l i 0) b n, add-one i)

pub length_front : (b : ℕ) (s : List ℕ) → length (front b s) ≡ stop b s
length_front b s = length-take-le (stop b s) s (stop_le b s)

-- The field starts with the first of the bytes, if it is not empty.
front-first : (b : ℕ) (s : List ℕ) (x : ℕ) → (x ≡ 0 → ⊥) → get_or (front b s) 0 0 ≡ x → get_or s 0 0 ≡ x
unfolding stop
front-first b [] x n e = e
front-first b (y ∷ s) x n e = go (eqb y b) refl
  where
    go : (t : Bool) → eqb y b ≡ t → y ≡ x
    go true q = absurd (n (sym (rw (stop, q) at e)))
    go false q = rw (stop, q) at e

pub front_not_first : (b : ℕ) (l : List ℕ) (at x : ℕ) → (x ≡ 0 → ⊥) → (get_or l at 0 ≡ x → ⊥) → get_or (front b (drop at l)) 0 0 ≡ x → ⊥
front_not_first b l at x n z e =
    let a : get_or (drop at l) 0 0 ≡ x = front-first b (drop at l) x n e in
    let q : at + 0 ≡ at = omega arith in
    z (rw (get_or-drop at l 0 0, q) at a)

-- A byte that is not 0 is a byte of the line: behind its end stands none.
pub byte_inside : (b : ℕ) (l : List ℕ) (i : ℕ) → 0 < b → get_or l i 0 ≡ b → i < length l
byte_inside b l i p e = elim (dec_lt i (length l)) [ yes h ↦ h | no h ↦ absurd (omega (arith, get_or-eq_default l 0 {n = i} (omega arith))) ]

pub space_inside : (l : List ℕ) (i : ℕ) → get_or l i 0 ≡ 32 → i < length l
space_inside l i e = byte_inside 32 l i (omega arith) e

-- A first field that says no number.
pub num_none : (form : List ℕ → Option ℕ) (s : List ℕ) → form (front 32 s) ≡ None → none ≡ num_then form (pieces 32 s)
unfolding num_then got_of
num_none form s w = elim (dec_lt (stop 32 s) (length s)) [ yes k ↦ rw (pieces-cut 32 s k, w) | no k ↦ rw (pieces_end 32 s (omega arith)) ]

-- A piece that starts with a byte that does not end it: it has no other byte, or it has.
module _ (b : ℕ) (pos : 0 < b) (l : List ℕ) (at : ℕ) (k : at < length l) (n : get_or l at 0 ≡ b → ⊥) where
  pub front_one : get_or l (at + 1) 0 ≡ b → front b (drop at l) ≡ get_or l at 0 ∷ []
  front_one e = rw (front-later b l at k n, front_here b l (at + 1) (byte_inside b l (at + 1) pos e) e)

  pub stop_one : get_or l (at + 1) 0 ≡ b → at + 1 ≡ at + stop b (drop at l)
  stop_one e = sym (stop_here b l (at + 1) (byte_inside b l (at + 1) pos e) e) ∙ stop-later b l at k n

  -- The line ends behind the byte, or the field has another byte.
  pub front-more : (get_or l (at + 1) 0 ≡ b → ⊥) → ((length l ≤ at + 1) × (at + 1 ≡ at + stop b (drop at l))) ⊎
      ((2 ≤ length (front b (drop at l))) × (get_or (front b (drop at l)) 0 0 ≡ get_or l at 0))
  front-more e = elim (dec_lt (at + 1) (length l)) [
    | yes a ↦
        let f = front-later b l at k n in
        inr (rw (f, front-later b l (at + 1) a e) (omega arith), ap (λ (g : List ℕ). get_or g 0 0) f)
    | no a ↦ let z : length l ≤ at + 1 = omega arith in inl (z, sym (stop-end b l (at + 1) z) ∙ stop-later b l at k n)
  ]

-- What a field that starts with a byte that is no space says as a number.
module _ (l : List ℕ) (at : ℕ) (k : at < length l) (n : get_or l at 0 ≡ 32 → ⊥) (form : List ℕ → Option ℕ) where
  pub num_one : (v : ℕ) → get_or l (at + 1) 0 ≡ 32 → form (get_or l at 0 ∷ []) ≡ Some v
      → some v (pieces 32 (drop (at + 2) l)) ≡ num_then form (pieces 32 (drop at l))
  num_one v e w =
      let m : at + 1 - at ≡ stop 32 (drop at l) = omega (arith, stop_one 32 (omega arith) l at k n e) in
      let d : at + 1 + 1 ≡ at + 2 = omega arith in
      rw d at (num_value form l at (at + 1) (stop_one 32 (omega arith) l at k n e) v (space_inside l (at + 1) e) (rw (m, front_one 32 (omega arith) l at k n e) w))

  pub num_one_wrong : get_or l (at + 1) 0 ≡ 32 → form (get_or l at 0 ∷ []) ≡ None → none ≡ num_then form (pieces 32 (drop at l))
  num_one_wrong e w = num_none form (drop at l) (rw (front_one 32 (omega arith) l at k n e) w)

  pub num_more : (get_or l (at + 1) 0 ≡ 32 → ⊥) → ((f : List ℕ) → 2 ≤ length f → get_or f 0 0 ≡ get_or l at 0 → form f ≡ None)
      → none ≡ num_then form (pieces 32 (drop at l))
  num_more e w =
      ⊎_elim (λ a. num_end form l at (at + 1) a.1 a.0) (λ a. num_none form (drop at l) (w (front 32 (drop at l)) a.0 a.1)) (front-more 32 (omega arith) l at k n e)
