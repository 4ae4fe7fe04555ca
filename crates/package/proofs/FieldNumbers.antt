-- The test for numbers that mean a field finds exactly these: 256 and the primes in bounds; so of the higher powers of primes it lets 256 pass alone.
use mathlib.Core.Path.{◌≡◌, sym, ◌∙◌}
use mathlib.Core.Bool.{true, false, false≢true}
use mathlib.Core.Logic.{◌⊎◌, inl, inr, ◌≢◌, ◌↔◌}
use Prim.Native.Nat.{ℕ, zero, suc, ◌*◌, ◌%◌, ◌^◌, ◌≤◌, ◌<◌}
use native.Mathlib.Nat.{pow-zero, pow-suc, mul-mod_left, mul-le-mul}
use native.Mathlib.Decide.{ℕ_discrete, dec_lt}
use native.Mathlib.Omega.{arith}
use borrow.Author.Tests.{eq-eqb, ne_eqb, lt-ltb, le-ltb}
use Rattle.field.specs.Prime.{Prime, is_prime}
use Rattle.field.proofs.Primality.{prime_iff}
use Rattle.package.specs.Head.{MeansField, field_fits}

-- One law for each way through the test.
module _ (p : ℕ) where
  pub fits_256 : p ≡ 256 → field_fits p ≡ true
  unfolding field_fits
  fits_256 e = rw (field_fits, eq-eqb p 256 e)

  pub fits_not : p ≢ 256 → 65521 < p → field_fits p ≡ false
  unfolding field_fits
  fits_not n h = rw (field_fits, ne_eqb p 256 n, lt-ltb 65521 p h)

  pub fits-prime : p ≢ 256 → p ≤ 65521 → field_fits p ≡ is_prime p
  unfolding field_fits
  fits-prime n h = rw (field_fits, ne_eqb p 256 n, le-ltb 65521 p h)

pub fits_iff : (p : ℕ) → (field_fits p ≡ true) ↔ MeansField p
fits_iff p = (sound (ℕ_discrete p 256) (dec_lt 65521 p), complete (ℕ_discrete p 256))
  where
    sound : Dec (p ≡ 256) → Dec (65521 < p) → field_fits p ≡ true → MeansField p
    sound (yes e) d t = inl e
    sound (no n) (yes h) t = absurd (false≢true (sym (fits_not p n h) ∙ t))
    sound (no n) (no h) t =
        let m : p ≤ 65521 = omega arith in
        inr ((prime_iff p (omega arith)).0 (sym (fits-prime p n m) ∙ t), m)

    complete : Dec (p ≡ 256) → MeansField p → field_fits p ≡ true
    complete (yes e) m = fits_256 p e
    complete (no n) (inl e) = absurd (n e)
    complete (no n) (inr (h, m)) = fits-prime p n m ∙ (prime_iff p (omega arith)).1 h

pub means_most : (p : ℕ) → MeansField p → p ≤ 65521
means_most p (inl e) = omega arith
means_most p (inr (h, m)) = m

pub means_prime : (p : ℕ) → MeansField p → (p ≡ 256) ⊎ Prime p
means_prime p (inl e) = inl e
means_prime p (inr (h, m)) = inr h

-- q^(k + 2) is no prime: q divides it
power_composite : (q k : ℕ) → 2 ≤ q → Prime (q ^ suc (suc k)) → ⊥
power_composite q k h P = go (P.divisors q divided)
  where
    divided : q ^ suc (suc k) % q ≡ 0
    divided = rw (pow-suc q (suc k)) (mul-mod_left (q ^ suc k) q)

    above : (n : ℕ) → 1 ≤ q ^ n
    above zero = rw (pow-zero q) (omega arith)
    above (suc n) = rw (pow-suc q n) (let l : 1 ≤ q = omega arith in mul-le-mul (above n) l)

    greater : 2 * q ≤ q ^ suc (suc k)
    greater = rw (pow-suc q (suc k)) (mul-le-mul two (omega arith))
      where
        two : 2 ≤ q ^ suc k
        two = rw (pow-suc q k) (mul-le-mul (above k) h)

    go : (q ≡ 1) ⊎ (q ≡ q ^ suc (suc k)) → ⊥
    go (inl e) = omega arith
    go (inr e) = omega (arith, greater)

pub powers_256 : (q k : ℕ) → Prime q → field_fits (q ^ suc (suc k)) ≡ true → q ^ suc (suc k) ≡ 256
powers_256 q k h t = go ((fits_iff (q ^ suc (suc k))).0 t)
  where
    go : MeansField (q ^ suc (suc k)) → q ^ suc (suc k) ≡ 256
    go (inl e) = e
    go (inr (P, m)) = absurd (power_composite q k h.least P)
