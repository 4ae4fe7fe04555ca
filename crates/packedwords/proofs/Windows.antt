-- Twelve letters at any place: of a word, from the two blocks around the place; of a product; of a right part and of a left part.
use mathlib.Core.Path.{◌≡◌, refl, sym, ◌∙◌, ap, ap₂}
use mathlib.Core.List.{[], ◌∷◌, ◌++◌}
use Prim.Native.Nat.{ℕ, zero, suc, ◌+◌, ◌-◌, ◌*◌, ◌/◌, ◌%◌, ◌^◌, ◌≤◌, ◌<◌}
use native.Mathlib.Nat.{add-zero, zero-add, add_assoc, div-eq_of_lt}
use native.Mathlib.Decide.{dec_lt}
use native.Mathlib.Omega.{arith}
use lib.ListN.{length, get_or, take, drop, replicate, length-take, get_or-eq_default}
use lib.Seq.{get_or-take, get_or-drop}
use borrow.Author.Tests.{lt-ltb, le-ltb}
use Rattle.words.specs.Word.{Word}
use Rattle.packedwords.specs.Packed.{Codes, value, window, front}
use Rattle.packedwords.proofs.Values.{after, value_same, value-zero, value-sum, value-add, value-lt, value-front, value_split}

-- the letters from place i on, behind the end zeros
abbrev from : Word → ℕ → ℕ → ℕ
from w i j = get_or w (i + j) 0

letter-eq : (w : Word) {i j : ℕ} → i ≡ j → get_or w i 0 ≡ get_or w j 0
letter-eq w e = ap (λ (x : ℕ). get_or w x 0) e

pub window-lt : (w : Word) → Codes w → (i : ℕ) → window w i < 2 ^ 60
window-lt w c i = value-lt (from w i) (λ j. c (i + j)) 12

-- behind the end of a word
pub window-end : (w : Word) (i : ℕ) → length w ≤ i → window w i ≡ 0
window-end w i h =
    value-zero (from w i) 12 (λ j l. let o : length w ≤ i + j = omega arith in get_or-eq_default w 0 o)

-- Twelve letters from r letters behind i on: the last t of the twelve from i on, and the first r of the twelve that follow.
pub window-blocks : (w : Word) → Codes w → (i r t : ℕ) → r + t ≡ 12
    → window w (i + r) ≡ window w i * 2 ^ (5 * r) % 2 ^ 60 + window w (i + 12) / 2 ^ (5 * t)
window-blocks w c i r t e =
    let s : t + r ≡ 12 = omega arith in
    value_same (from w (i + r)) (after r (from w i)) 12 (λ j l. letter-eq w (add_assoc i r j))
    ∙ rw (e, s) at (value_split (from w i) (λ j. c (i + j)) r t)
    ∙ ap (λ (x : ℕ). window w i * 2 ^ (5 * r) % 2 ^ 60 + x / 2 ^ (5 * t))
    (value_same (after 12 (from w i)) (from w (i + 12)) 12 (λ j l. letter-eq w (sym (add_assoc i 12 j))))

-- Twelve letters, moved on by a letter: what is in front, and what comes in behind.
module _ (w : Word) (c : Codes w) (i : ℕ) where
  pub window-front : window w i / 2 ^ 55 ≡ get_or w i 0
  unfolding value
  window-front = value-front (from w i) (λ j. c (i + j)) 1 11 ∙ zero-add (get_or w (i + 0) 0) ∙ letter-eq w (add-zero i)

module _ (w : Word) (c : Codes w) (i : ℕ) where
  pub window-next : window w (i + 1) ≡ window w i * 2 ^ 5 % 2 ^ 60 + get_or w (i + 12) 0
  window-next = window-blocks w c i 1 11 refl ∙ ap (λ (x : ℕ). window w i * 2 ^ 5 % 2 ^ 60 + x) (window-front w c (i + 12))

  -- nothing comes in behind the end
  pub window-last : length w ≤ i + 12 → window w (i + 1) ≡ window w i * 2 ^ 5 % 2 ^ 60
  window-last h = window-next ∙ ap (λ (x : ℕ). window w i * 2 ^ 5 % 2 ^ 60 + x) (get_or-eq_default w 0 h) ∙ add-zero (window w i * 2 ^ 5 % 2 ^ 60)

-- Products. The letters of u ++ v are those of u, and those of v behind as many zeros as u has letters, added place by place.

-- v behind m zeros
abbrev pub behind : ℕ → Word → Word
behind m v = replicate m 0 ++ v

letter-product : (u v : Word) (i : ℕ) → get_or (u ++ v) i 0 ≡ get_or u i 0 + get_or (behind (length u) v) i 0
letter-product [] v i = omega arith
letter-product (x ∷ u) v zero = omega arith
letter-product (x ∷ u) v (suc i) = letter-product u v i

behind-before : (m : ℕ) (v : Word) (i : ℕ) → i < m → get_or (behind m v) i 0 ≡ 0
behind-before zero v i h = absurd (omega arith)
behind-before (suc m) v zero h = refl
behind-before (suc m) v (suc i) h = behind-before m v i (omega arith)

behind_at : (m : ℕ) (v : Word) (i j : ℕ) → i ≡ m + j → get_or (behind m v) i 0 ≡ get_or v j 0
behind_at zero v i j e = letter-eq v (omega arith)
behind_at (suc m) v zero j e = absurd (omega arith)
behind_at (suc m) v (suc i) j e = behind_at m v i j (omega arith)

pub window-product : (u v : Word) (i : ℕ) → window (u ++ v) i ≡ window u i + window (behind (length u) v) i
window-product u v i =
    let z = behind (length u) v in
    value_same (from (u ++ v) i) (λ (j : ℕ). from u i j + from z i j) 12 (λ j l. letter-product u v (i + j))
    ∙ value-sum (from u i) (from z i) 12

module _ (v : Word) (c : Codes v) (m i : ℕ) where
  -- twelve of the zeros
  pub behind-zero : i + 12 ≤ m → window (behind m v) i ≡ 0
  behind-zero h = value-zero (from (behind m v) i) 12 (λ j l. behind-before m v (i + j) (omega arith))

  module _ (r t : ℕ) (e : r + t ≡ 12) where
    -- r zeros and the front of v
    pub behind-first : i + r ≡ m → window (behind m v) i ≡ window v 0 / 2 ^ (5 * r)
    behind-first h =
        let f = from (behind m v) i in
        let s : t + r ≡ 12 = omega arith in
        let zeros : value f r ≡ 0 = value-zero f r (λ j l. behind-before m v (i + j) (omega arith)) in
        let letters : value (after r f) t ≡ value (from v 0) t =
        value_same (after r f) (from v 0) t (λ j l. behind_at m v (i + (r + j)) (0 + j) (omega arith)) in
        let both : value f 12 ≡ value f r * 2 ^ (5 * t) + value (after r f) t = rw e at (value-add f r t) in
        let front : window v 0 / 2 ^ (5 * r) ≡ value (from v 0) t = rw s at (value-front (from v 0) (λ j. c (0 + j)) t r) in
        both ∙ ap₂ (λ (x y : ℕ). x * 2 ^ (5 * t) + y) zeros letters ∙ omega arith ∙ sym front

    -- twelve letters of v, from s + t on
    pub behind-later : (s : ℕ) → i ≡ m + t + s → window (behind m v) i ≡ window v s * 2 ^ (5 * t) % 2 ^ 60 + window v (s + 12) / 2 ^ (5 * r)
    behind-later s h =
        value_same (from (behind m v) i) (from v (s + t)) 12 (λ j l. behind_at m v (i + j) (s + t + j) (omega arith))
        ∙ window-blocks v c s t r (omega arith)

-- Parts.

pub window-drop : (n : ℕ) (w : Word) (i : ℕ) → window (drop n w) i ≡ window w (n + i)
window-drop n w i =
    value_same (from (drop n w) i) (from w (n + i)) 12 (λ j l. get_or-drop n w (i + j) 0 ∙ letter-eq w (sym (add_assoc n i j)))

pub front_cut : (x r : ℕ) → r < 12 → front x r ≡ x / 2 ^ (60 - r * 5) * 2 ^ (60 - r * 5)
unfolding front
front_cut x r h = rw (front, lt-ltb r 12 h)

pub front-whole : (x r : ℕ) → 12 ≤ r → front x r ≡ x
unfolding front
front-whole x r h = rw (front, le-ltb r 12 h)

module _ (n : ℕ) (w : Word) (i : ℕ) where
  -- the part goes on for twelve letters
  pub window-whole : i + 12 ≤ n → window (take n w) i ≡ window w i
  window-whole h = value_same (from (take n w) i) (from w i) 12 (λ j l. get_or-take n w (i + j) 0 (omega arith))

  -- the part ends r letters behind i
  window-cut : Codes w → (r t : ℕ) → r + t ≡ 12 → i + r ≡ n → window (take n w) i ≡ window w i / 2 ^ (5 * t) * 2 ^ (5 * t)
  window-cut c r t e h =
      let f = from (take n w) i in
      let none : (j : ℕ) → n ≤ j → get_or (take n w) j 0 ≡ 0 =
      λ j l. let o : length (take n w) ≤ j = omega (arith, length-take n w) in get_or-eq_default (take n w) 0 o in
      let zeros : value (after r f) t ≡ 0 = value-zero (after r f) t (λ j l. none (i + (r + j)) (omega arith)) in
      let letters : value f r ≡ value (from w i) r = value_same f (from w i) r (λ j l. get_or-take n w (i + j) 0 (omega arith)) in
      let both : value f 12 ≡ value f r * 2 ^ (5 * t) + value (after r f) t = rw e at (value-add f r t) in
      let cut : window w i / 2 ^ (5 * t) ≡ value (from w i) r = rw e at (value-front (from w i) (λ j. c (i + j)) r t) in
      both ∙ ap₂ (λ (x y : ℕ). x * 2 ^ (5 * t) + y) (letters ∙ sym cut) zeros ∙ add-zero (window w i / 2 ^ (5 * t) * 2 ^ (5 * t))

  -- Of the twelve letters from i on a left part of n letters has n - i; none where n is at most i.
  pub window-take : Codes w → window (take n w) i ≡ front (window w i) (n - i)
  window-take c = go (dec_lt n i) (dec_lt (n - i) 12)
    where
      go : Dec (n < i) → Dec (n - i < 12) → window (take n w) i ≡ front (window w i) (n - i)
      go (yes h) _ =
          let none : n - i ≡ 0 = omega arith in
          window-end (take n w) i (omega (arith, length-take n w))
          ∙ sym (ap (front (window w i)) none ∙ front_cut (window w i) 0 (omega arith) ∙ ap (λ (x : ℕ). x * 2 ^ 60) (div-eq_of_lt (window-lt w c i)))
      go (no h) (no l) = window-whole (omega arith) ∙ sym (front-whole (window w i) (n - i) (omega arith))
      go (no h) (yes l) =
          let e : 5 * (12 - (n - i)) ≡ 60 - (n - i) * 5 = omega arith in
          rw e at (window-cut c (n - i) (12 - (n - i)) (omega arith) (omega arith)) ∙ sym (front_cut (window w i) (n - i) l)
