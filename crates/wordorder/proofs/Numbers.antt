-- Letters as a number, the first as the highest byte: of two numbers of letters the greater is that with the later letter at the first difference.
use mathlib.Core.Path.{◌≡◌, refl, sym, ◌∙◌, ap}
use mathlib.Core.Logic.{◌⊎◌, inl, inr}
use Prim.Native.Nat.{ℕ, zero, suc, ◌+◌, ◌*◌, ◌≤◌, ◌<◌}
use native.Mathlib.Nat.{add-zero}
use native.Mathlib.Decide.{dec_lt}
use native.Mathlib.Omega.{arith}
use lib.ListN.{length, get_or, drop}
use Rattle.std.specs.declared.cmp.Ordering.{Ordering}
use Rattle.words.specs.Word.{Word}
use Rattle.words.specs.Order.{letter_rank, by_number_of, by_letters}
use Rattle.words.proofs.Lexicographic.{number-less, number-greater, number_same}
use Rattle.wordorder.proofs.OrderTurns.{letter-later, letter_earlier, letter-equal}

-- the first r letters as one number
unfoldable pub value : (ℕ → ℕ) → ℕ → ℕ
value f zero = 0
value f (suc r) = value f r * 256 + f r

-- of two numbers one is less, or they are equal
pub less_or_same : (a b : ℕ) → (a < b) ⊎ ((b < a) ⊎ (a ≡ b))
less_or_same a b = go (dec_lt a b) (dec_lt b a)
  where
    go : Dec (a < b) → Dec (b < a) → (a < b) ⊎ ((b < a) ⊎ (a ≡ b))
    go (yes p) _ = inl p
    go (no p) (yes q) = inr (inl q)
    go (no p) (no q) = inr (inr (omega arith))

-- where two numbers differ, nothing else counts
pub number_decides : (a b : ℕ) (c d : Ordering) → (a ≡ b → ⊥) → by_number_of a b c ≡ by_number_of a b d
number_decides a b c d n = go (less_or_same a b)
  where
    go : (a < b) ⊎ ((b < a) ⊎ (a ≡ b)) → by_number_of a b c ≡ by_number_of a b d
    go (inl l) = number-less c l ∙ sym (number-less d l)
    go (inr (inl l)) = number-greater c l ∙ sym (number-greater d l)
    go (inr (inr e)) = absurd (n e)

-- the last letter counts where the letters before it agree
last_letter : (x y a b : ℕ) (c : Ordering) → a < 256 → b < 256 → by_number_of (x * 256 + a) (y * 256 + b) c ≡ by_number_of x y (by_number_of a b c)
last_letter x y a b c p q = go (less_or_same x y) (less_or_same a b)
  where
    go : (x < y) ⊎ ((y < x) ⊎ (x ≡ y)) → (a < b) ⊎ ((b < a) ⊎ (a ≡ b)) → by_number_of (x * 256 + a) (y * 256 + b) c ≡ by_number_of x y (by_number_of a b c)
    go (inl l) _ = number-less c (omega arith) ∙ sym (number-less _ l)
    go (inr (inl l)) _ = number-greater c (omega arith) ∙ sym (number-greater _ l)
    go (inr (inr e)) (inl l) = number-less c (omega arith) ∙ sym (number_same _ e ∙ number-less c l)
    go (inr (inr e)) (inr (inl l)) = number-greater c (omega arith) ∙ sym (number_same _ e ∙ number-greater c l)
    go (inr (inr e)) (inr (inr l)) = number_same c (omega arith) ∙ sym (number_same _ e ∙ number_same c l)

-- one letter of the words: the later letter is the lower word's
pub letter-number : (u v : Word) (i : ℕ) → i < length u → i < length v → get_or u i 0 < 256 → get_or v i 0 < 256
    → by_number_of (get_or v i 0) (get_or u i 0) (by_letters letter_rank (drop (i + 1) u) (drop (i + 1) v)) ≡ by_letters letter_rank (drop i u) (drop i v)
letter-number u v i h k p q = go (less_or_same (get_or v i 0) (get_or u i 0))
  where
    go : (get_or v i 0 < get_or u i 0) ⊎ ((get_or u i 0 < get_or v i 0) ⊎ (get_or v i 0 ≡ get_or u i 0))
        → by_number_of (get_or v i 0) (get_or u i 0) (by_letters letter_rank (drop (i + 1) u) (drop (i + 1) v)) ≡ by_letters letter_rank (drop i u) (drop i v)
    go (inl l) = number-less _ l ∙ sym (letter-later u v i h k p q l)
    go (inr (inl l)) = number-greater _ l ∙ sym (letter_earlier u v i h k p q l)
    go (inr (inr e)) = number_same _ e ∙ letter-equal u v i h k (sym e)

-- The letters of u and v from place i on, as f and g. The first r of them as numbers, and what follows them, say what all of them say.
pub letters-number : (u v : Word) (i : ℕ) (f g : ℕ → ℕ) → ((j : ℕ) → f j < 256) → ((j : ℕ) → g j < 256)
    → (r : ℕ) → i + r ≤ length u → i + r ≤ length v → ((j : ℕ) → j < r → get_or u (i + j) 0 ≡ f j) → ((j : ℕ) → j < r → get_or v (i + j) 0 ≡ g j)
    → by_number_of (value g r) (value f r) (by_letters letter_rank (drop (i + r) u) (drop (i + r) v)) ≡ by_letters letter_rank (drop i u) (drop i v)
unfolding value
letters-number u v i f g p q zero h k a b = rw (add-zero i) (number_same _ refl)
letters-number u v i f g p q (suc r) h k a b =
    let e : i + suc r ≡ i + r + 1 = omega arith in
    let s = a r (omega arith) in
    let t = b r (omega arith) in
    let m = p r in
    let n = q r in
    let l = letter-number u v (i + r) (omega arith) (omega arith) (omega arith) (omega arith) in
    rw e (last_letter (value g r) (value f r) (g r) (f r) _ (q r) (p r) ∙ ap (λ (c : Ordering). by_number_of (value g r) (value f r) c) (rw (s, t) at l) ∙ letters-number u v i f g p q r (omega arith) (omega arith) (λ j d. a j (omega arith)) (λ j d. b j (omega arith)))
