-- Codes as one number: what `value` says of codes that are joined, cut, added or moved. Each law is one argument over the number of codes.
use mathlib.Core.Path.{◌≡◌, refl, sym, ◌∙◌, ap, ap₂}
use Prim.Native.Nat.{ℕ, zero, suc, ◌+◌, ◌*◌, ◌/◌, ◌%◌, ◌^◌, ◌<◌}
use native.Mathlib.Nat.{add-zero, add-suc, add_assoc, mul_assoc, add-mul}
use native.Mathlib.Omega.{arith}
use lib.Pow.{pow-add, high, low, shl_lt}
use Rattle.packedwords.specs.Packed.{value}

-- five bits for one code more
pow-code : (n : ℕ) → 2 ^ (5 * suc n) ≡ 2 ^ (5 * n) * 32
pow-code n = ap (λ (x : ℕ). 2 ^ x) (omega arith) ∙ pow-add 2 (5 * n) 5

-- The codes of f behind the first a of them.
abbrev pub after : ℕ → (ℕ → ℕ) → ℕ → ℕ
after a f j = f (a + j)

-- The first a codes stand above the next b.
pub value-add : (f : ℕ → ℕ) (a b : ℕ) → value f (a + b) ≡ value f a * 2 ^ (5 * b) + value (after a f) b
unfolding value
value-add f a zero = rw (add-zero a) (omega arith)
value-add f a (suc b) =
    let rest = value-add f a b in
    let m : value f a * 2 ^ (5 * suc b) ≡ value f a * 2 ^ (5 * b) * 32 =
    ap (λ (x : ℕ). value f a * x) (pow-code b) ∙ sym (mul_assoc (value f a) (2 ^ (5 * b)) 32) in
    rw (add-suc a b, m) (omega arith)

pub value_same : (f g : ℕ → ℕ) (n : ℕ) → ((j : ℕ) → j < n → f j ≡ g j) → value f n ≡ value g n
unfolding value
value_same f g zero h = refl
value_same f g (suc n) h =
    let before = value_same f g n (λ j l. h j (omega arith)) in
    let last = h n (omega arith) in
    omega arith

pub value-zero : (f : ℕ → ℕ) (n : ℕ) → ((j : ℕ) → j < n → f j ≡ 0) → value f n ≡ 0
unfolding value
value-zero f zero h = refl
value-zero f (suc n) h =
    let before = value-zero f n (λ j l. h j (omega arith)) in
    let last = h n (omega arith) in
    omega arith

-- Where codes are added place by place, the numbers are added.
pub value-sum : (f g : ℕ → ℕ) (n : ℕ) → value (λ (j : ℕ). f j + g j) n ≡ value f n + value g n
unfolding value
value-sum f g zero = refl
value-sum f g (suc n) = let before = value-sum f g n in omega arith

-- n codes have 5 * n bits.
pub value-lt : (f : ℕ → ℕ) → ((j : ℕ) → f j < 32) → (n : ℕ) → value f n < 2 ^ (5 * n)
unfolding value
value-lt f p zero = omega arith
value-lt f p (suc n) = let before = value-lt f p n in let last = p n in rw (pow-code n) (omega arith)

module _ (f : ℕ → ℕ) (p : (j : ℕ) → f j < 32) (a b : ℕ) where
  rest_lt : value (after a f) b < 2 ^ (5 * b)
  rest_lt = value-lt (after a f) (λ j. p (a + j)) b

  -- Moved down by b codes, a + b codes are the first a.
  pub value-front : value f (a + b) / 2 ^ (5 * b) ≡ value f a
  value-front = rw (value-add f a b) (high (value f a) (5 * b) rest_lt)

  -- Moved up by a codes and cut, they are the last b with zeros behind them.
  value-up : value f (a + b) * 2 ^ (5 * a) % 2 ^ (5 * (a + b)) ≡ value (after a f) b * 2 ^ (5 * a)
  value-up =
      let A = value f a in
      let B = value (after a f) b in
      let s : 5 * b + 5 * a ≡ 5 * (a + b) = omega arith in
      let q : 2 ^ (5 * b) * 2 ^ (5 * a) ≡ 2 ^ (5 * (a + b)) = sym (pow-add 2 (5 * b) (5 * a)) ∙ ap (λ (x : ℕ). 2 ^ x) s in
      let l : B * 2 ^ (5 * a) < 2 ^ (5 * (a + b)) = rw s at (shl_lt (5 * b) (5 * a) rest_lt) in
      let moved = ap (λ (x : ℕ). x * 2 ^ (5 * a)) (value-add f a b)
      ∙ spread A (2 ^ (5 * b)) B (2 ^ (5 * a)) ∙ ap (λ (x : ℕ). A * x + B * 2 ^ (5 * a)) q in
      ap (λ (x : ℕ). x % 2 ^ (5 * (a + b))) moved ∙ low A (5 * (a + b)) l
    where
      spread : (x y z t : ℕ) → (x * y + z) * t ≡ x * (y * t) + z * t
      spread x y z t = add-mul (x * y) z t ∙ ap (λ (m : ℕ). m + z * t) (mul_assoc x y t)

-- The law of moving: a + b codes behind the first a are the last b of the a + b codes that start at 0, moved up, and the first a of the
-- a + b codes that follow these, moved down.
pub value_split : (f : ℕ → ℕ) → ((j : ℕ) → f j < 32) → (a b : ℕ)
    → value (after a f) (b + a) ≡ value f (a + b) * 2 ^ (5 * a) % 2 ^ (5 * (a + b)) + value (after (a + b) f) (a + b) / 2 ^ (5 * b)
value_split f p a b =
    let next = after (a + b) f in
    value-add (after a f) b a
    ∙ ap₂ (λ (x y : ℕ). x + y) (sym (value-up f p a b))
    (value_same (λ (j : ℕ). f (a + (b + j))) next a (λ j l. ap f (sym (add_assoc a b j))) ∙ sym (value-front next (λ j. p (a + b + j)) a b))
