-- The inverse as a loop computes it modulo p: the factor so far, times the inverse of what is left, is the inverse that is sought.
use mathlib.Core.Path.{◌≡◌, refl, sym, ◌∙◌, ap}
use mathlib.Core.Logic.{◌≢◌, if_pos, if_neg}
use Prim.Native.Nat.{ℕ, zero, suc, ◌-◌, ◌*◌, ◌/◌, ◌%◌, ◌≤◌, ◌<◌}
use native.Mathlib.Nat.{mod-lt, mod-eq_of_lt, mul_assoc, mul-one}
use native.Mathlib.Decide.{dec_lt}
use native.Mathlib.Omega.{arith}
use Rattle.field.specs.Field.{Operations, inverse_mod, modular, field_of}
use Rattle.field.proofs.Modular.{mod-mul-mod, mul-mod-mod}
use Rattle.field.proofs.ByteField.{inverse_byte, inverse_of_one}
use Rattle.field.proofs.Fields.{field_other, by_field}

module _ (p : ℕ) where
  -- of 1 (and of 0, which has none) the recursion gives 1
  last-inverse : (k r : ℕ) → r ≤ 1 → inverse_mod p k r ≡ 1
  unfolding inverse_mod
  last-inverse zero r h = refl
  last-inverse (suc k) r h = if_neg (dec_lt 1 r) (λ l. omega arith) ((p - p / r) * inverse_mod p k (p % r) % p) 1

  next-inverse : (k r : ℕ) → 1 < r → inverse_mod p (suc k) r ≡ (p - p / r) * inverse_mod p k (p % r) % p
  unfolding inverse_mod
  next-inverse k r h = if_pos (dec_lt 1 r) h ((p - p / r) * inverse_mod p k (p % r) % p) 1

  -- the bound of the recursion does not matter, where it is no less than r
  bound_free : (k m r : ℕ) → r ≤ k → r ≤ m → inverse_mod p k r ≡ inverse_mod p m r
  bound_free zero m r a b = last-inverse zero r (omega arith) ∙ sym (last-inverse m r (omega arith))
  bound_free (suc k) zero r a b = last-inverse (suc k) r (omega arith) ∙ sym (last-inverse zero r (omega arith))
  bound_free (suc k) (suc m) r a b = go (dec_lt 1 r) (bound_free k m (p % r))
    where
      go : Dec (1 < r) → (p % r ≤ k → p % r ≤ m → inverse_mod p k (p % r) ≡ inverse_mod p m (p % r)) → inverse_mod p (suc k) r ≡ inverse_mod p (suc m) r
      go (no l) rest = last-inverse (suc k) r (omega arith) ∙ sym (last-inverse (suc m) r (omega arith))
      go (yes l) rest =
          let s : p % r < r = mod-lt p (omega arith) in
          next-inverse k r l
          ∙ ap (λ (x : ℕ). (p - p / r) * x % p) (rest (omega arith) (omega arith))
          ∙ sym (next-inverse m r l)

  -- one turn of the loop
  pub inverse-turn : (f r : ℕ) → 1 < r → (f * (p - p / r) % p) * inverse_mod p (p % r) (p % r) % p ≡ f * inverse_mod p r r % p
  inverse-turn f zero l = absurd (omega arith)
  inverse-turn f (suc r) l =
      let less : p % suc r < suc r = mod-lt p (omega arith) in
      let i = inverse_mod p (p % suc r) (p % suc r) in
      mod-mul-mod p (f * (p - p / suc r)) i
      ∙ ap (λ (x : ℕ). x % p) (mul_assoc f (p - p / suc r) i)
      ∙ sym (mul-mod-mod p f ((p - p / suc r) * i))
      ∙ ap (λ (x : ℕ). f * x % p)
      (sym (next-inverse r (suc r) l ∙ ap (λ (x : ℕ). (p - p / suc r) * x % p) (bound_free r (p % suc r) (p % suc r) (omega arith) (omega arith))))

  inverse-lt : (k r : ℕ) → 1 < p → inverse_mod p k r < p
  unfolding inverse_mod
  inverse-lt zero r h = h
  inverse-lt (suc k) r h = go (dec_lt 1 r)
    where
      go : Dec (1 < r) → inverse_mod p (suc k) r < p
      go (no l) = rw (last-inverse (suc k) r (omega arith)) h
      go (yes l) = rw (next-inverse k r l) (mod-lt _ (omega arith))

  pub inverse-start : (r : ℕ) → 1 < p → 1 * inverse_mod p r r % p ≡ inverse_mod p r r
  inverse-start r h = ap (λ (x : ℕ). x % p) (omega arith) ∙ mod-eq_of_lt (inverse-lt r r h)

  pub inverse-end : (f r : ℕ) → f < p → r ≤ 1 → f * inverse_mod p r r % p ≡ f
  inverse-end f r h l = ap (λ (x : ℕ). f * x % p) (last-inverse r r l) ∙ ap (λ (x : ℕ). x % p) (mul-one f) ∙ mod-eq_of_lt h

  -- what `field_of p` says of it
  pub inverse-mod : (a : ℕ) → p ≢ 256 → a < p → inverse_mod p a a ≡ (field_of p).inv a
  unfolding modular
  inverse-mod a n h = sym (ap (λ (K : Operations). K.inv a) (field_other p n) ∙ rw (mod-eq_of_lt h))

-- an inverse is an element
pub inv-lt : (p a : ℕ) → 1 < p → (field_of p).inv a < p
unfolding modular
inv-lt p a = by_field (λ p K. 1 < p → K.inv a < p) (λ h. inverse_byte a) (λ p h. inverse-lt p (a % p) (a % p) h) p

-- that of 1 is 1
pub inv_one : (p : ℕ) → 1 < p → ◌≡◌ {A = ℕ} ((field_of p).inv 1) 1
unfolding modular
inv_one p h = by_field (λ p K. 1 < p → ◌≡◌ {A = ℕ} (K.inv 1) 1) (λ q. sym (inverse_of_one 1 (omega arith) (omega arith) refl)) modular_one p h
  where
    modular_one : (p : ℕ) → 1 < p → ◌≡◌ {A = ℕ} ((modular p).inv 1) 1
    modular_one p q = ap (λ (x : ℕ). inverse_mod p x x) (mod-eq_of_lt q) ∙ last-inverse p 1 1 (omega arith)
