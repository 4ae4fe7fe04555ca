-- Numbers as texts: a written number is read back, and what reads as a number is the writing of it.
use mathlib.Core.Path.{◌≡◌, refl, sym, ap, ◌∙◌}
use mathlib.Core.Bool.{Bool, true, false}
use mathlib.Core.List.{List, [], ◌∷◌, ◌++◌, append_assoc, append-nil}
use Prim.Native.Nat.{ℕ, zero, suc, ◌+◌, ◌*◌, ◌-◌, ◌/◌, ◌%◌, ◌≤◌, ◌<◌}
use native.Mathlib.Omega.{arith}
use native.Mathlib.Decide.{dec_lt}
use native.Mathlib.Nat.{add-zero}
use lib.Dec.{eqb}
use lib.ListN.{length, get_or, get_or-append}
use borrow.Author.Tests.{ne_eqb, eqb-true, eqb-false}
use Rattle.text.proofs.Bytewise.{within_in, within-bounds}
use Rattle.text.proofs.Decimal.{write_digit, write_more, length_more, length-digit, length_some}
use Rattle.text.proofs.Digits.{pow, pow_five, pow_more}
use Rattle.text.specs.Bytes.{within}
use Rattle.text.specs.Number.{digits, number, decimal, write_number}
use Rattle.std.specs.Prelude.{Option, Some, None}

-- One digit more behind digits that say m.
digits_snoc : (acc m d : ℕ) (xs : List ℕ) → 48 ≤ d → d ≤ 57 → digits acc xs ≡ Some m → digits acc (xs ++ (d ∷ [])) ≡ Some (m * 10 + (d - 48))
unfolding digits
digits_snoc acc m d [] lo hi h =
    let e : acc ≡ m = cc in
    rw (digits, within_in 48 57 d lo hi, e)
digits_snoc acc m d (x ∷ xs) lo hi h = go (within 48 57 x) refl (digits_snoc (acc * 10 + (x - 48)) m d xs lo hi)
  where
    go : (t : Bool) → within 48 57 x ≡ t → (digits (acc * 10 + (x - 48)) xs ≡ Some m → digits (acc * 10 + (x - 48)) (xs ++ (d ∷ [])) ≡ Some (m * 10 + (d - 48)))
        → digits acc ((x ∷ xs) ++ (d ∷ [])) ≡ Some (m * 10 + (d - 48))
    go true e ih = rw (digits, e) (ih (rw (digits, e) at h))
    go false e ih = absurd (let q : None ≡ Some m = rw (digits, e) at h in let y : ◌≡◌ {A = ℕ} 0 1 = cc in omega arith)

-- The digits of a number say it.
one_digit : (n : ℕ) → n < 10 → digits 0 (write_number n) ≡ Some n
unfolding digits
one_digit n l = rw (write_digit n l, digits, within_in 48 57 (48 + n) (omega arith) (omega arith)) (ap Some (omega arith))

more-digits : (n : ℕ) → 10 ≤ n → digits 0 (write_number (n / 10)) ≡ Some (n / 10) → digits 0 (write_number n) ≡ Some n
more-digits n l ih =
    rw (write_more n l) (digits_snoc 0 (n / 10) (48 + n % 10) (write_number (n / 10)) (omega arith) (omega arith) ih ∙ ap Some (omega arith))

digits-written : (k n : ℕ) → n ≤ k → digits 0 (write_number n) ≡ Some n
digits-written zero n h = one_digit n (omega arith)
digits-written (suc k) n h = go (dec_lt n 10) (λ (l : 10 ≤ n). digits-written k (n / 10) (omega arith))
  where
    go : Dec (n < 10) → (10 ≤ n → digits 0 (write_number (n / 10)) ≡ Some (n / 10)) → digits 0 (write_number n) ≡ Some n
    go (yes l) ih = one_digit n l
    go (no l) ih = let m : 10 ≤ n = omega arith in more-digits n m (ih m)

-- A number below 10 ^ (k + 1) has at most k + 1 digits.
pub few-digits : (k n : ℕ) → n < pow (suc k) → length (write_number n) ≤ suc k
unfolding pow
few-digits zero n h = omega (arith, length-digit n (omega arith))
few-digits (suc k) n h = go (dec_lt n 10) (λ (l : 10 ≤ n). few-digits k (n / 10) (omega arith))
  where
    go : Dec (n < 10) → (10 ≤ n → length (write_number (n / 10)) ≤ suc k) → length (write_number n) ≤ suc (suc k)
    go (yes l) ih = omega (arith, length-digit n l)
    go (no l) ih = let m : 10 ≤ n = omega arith in omega (arith, length_more n m, ih m)

-- No number but 0 begins with `0`.
no_leading-zero : (k n : ℕ) → n ≤ k → 1 ≤ n → (get_or (write_number n) 0 0 ≡ 48 → ⊥)
no_leading-zero zero n h p e = omega arith
no_leading-zero (suc k) n h p e = go (dec_lt n 10) (λ (l : 10 ≤ n). no_leading-zero k (n / 10) (omega arith) (omega arith))
  where
    go : Dec (n < 10) → (10 ≤ n → (get_or (write_number (n / 10)) 0 0 ≡ 48 → ⊥)) → ⊥
    go (yes l) ih = let q : 48 + n ≡ 48 = rw (write_digit n l) at e in omega arith
    go (no l) ih =
        let m : 10 ≤ n = omega arith in
        let s : 0 < length (write_number (n / 10)) = omega (arith, length_some (n / 10)) in
        ih m (sym (get_or-append (write_number (n / 10)) ((48 + n % 10) ∷ []) 0 0 s) ∙ (rw (write_more n m) at e))

-- Reading a written number of at most five digits gives it back.
pub read-written-number : (n : ℕ) → n < 100000 → number (write_number n) ≡ Some n
unfolding number write_number decimal pow
read-written-number zero h = refl
read-written-number (suc n) h =
    rw (
      number,
      within_in 1 5 (length (write_number (suc n))) (length_some (suc n)) (few-digits 4 (suc n) h),
      ne_eqb (get_or (write_number (suc n)) 0 0) 48 (no_leading-zero (suc n) (suc n) (omega arith) (omega arith)),
    )
    (digits-written (suc n) (suc n) (omega arith))

-- The digits of a number with one digit more behind it.
write_snoc : (a c : ℕ) → 1 ≤ a → c ≤ 9 → write_number (a * 10 + c) ≡ write_number a ++ ((48 + c) ∷ [])
write_snoc a c h k =
    let d : (a * 10 + c) / 10 ≡ a = omega arith in
    let m : (a * 10 + c) % 10 ≡ c = omega arith in
    rw (write_more (a * 10 + c) (omega arith), d, m)

-- Digits behind the digits of a number other than 0 say the number that is written with all of them.
digits_are_written : (acc n : ℕ) (f : List ℕ) → 1 ≤ acc → digits acc f ≡ Some n → write_number acc ++ f ≡ write_number n
unfolding digits
digits_are_written acc n [] h e = let q : acc ≡ n = cc in rw (append-nil, q)
digits_are_written acc n (d ∷ ds) h e = go (within 48 57 d) refl (digits_are_written (acc * 10 + (d - 48)) n ds (omega arith))
  where
    go : (t : Bool) → within 48 57 d ≡ t → (digits (acc * 10 + (d - 48)) ds ≡ Some n → write_number (acc * 10 + (d - 48)) ++ ds ≡ write_number n)
        → write_number acc ++ (d ∷ ds) ≡ write_number n
    go true t ih =
        let b = within-bounds 48 57 d t in
        let q : 48 + (d - 48) ≡ d = omega arith in
        let w : write_number (acc * 10 + (d - 48)) ≡ write_number acc ++ (d ∷ []) = write_snoc acc (d - 48) h (omega arith) ∙ ap
        (λ (x : ℕ). write_number acc ++ (x ∷ [])) q in
        let i : digits (acc * 10 + (d - 48)) ds ≡ Some n = rw (digits, t) at e in
        sym (append_assoc (write_number acc) (d ∷ []) ds) ∙ (rw w at (ih i))
    go false t ih = absurd (let q : None ≡ Some n = rw (digits, t) at e in let y : ◌≡◌ {A = ℕ} 0 1 = cc in omega arith)

-- A number of i digits read and some more is below a power of ten.
digits-below : (acc n i : ℕ) (f : List ℕ) → acc < pow i → digits acc f ≡ Some n → n < pow (i + length f)
unfolding digits
digits-below acc n i [] h e = let q : acc ≡ n = cc in rw (add-zero, ← q) h
digits-below acc n i (d ∷ ds) h e = go (within 48 57 d) refl (digits-below (acc * 10 + (d - 48)) n (i + 1) ds)
  where
    go : (t : Bool) → within 48 57 d ≡ t → (acc * 10 + (d - 48) < pow (i + 1) → digits (acc * 10 + (d - 48)) ds ≡ Some n → n < pow
        (i + 1 + length ds)) → n < pow (i + suc (length ds))
    go true t ih =
        let b = within-bounds 48 57 d t in
        let s : i + 1 + length ds ≡ i + suc (length ds) = omega arith in
        rw s at (ih (pow_more i acc (d - 48) h (omega arith)) (rw (digits, t) at e))
    go false t ih = absurd (let q : None ≡ Some n = rw (digits, t) at e in let y : ◌≡◌ {A = ℕ} 0 1 = cc in omega arith)

-- A list of digits that does not begin with `0`.
no_zero-written : (f : List ℕ) (n : ℕ) → 1 ≤ length f → (get_or f 0 0 ≡ 48 → ⊥) → digits 0 f ≡ Some n → f ≡ write_number n
unfolding digits
no_zero-written [] n h z e = absurd (omega arith)
no_zero-written (d ∷ ds) n h z e = go (within 48 57 d) refl
  where
    go : (t : Bool) → within 48 57 d ≡ t → d ∷ ds ≡ write_number n
    go true t =
        let b = within-bounds 48 57 d t in
        let q : 48 + (d - 48) ≡ d = omega arith in
        let w : write_number (d - 48) ≡ d ∷ [] = write_digit (d - 48) (omega arith) ∙ ap (λ (x : ℕ). x ∷ []) q in
        let y : d ≡ 48 → ⊥ = z in
        let m : d - 48 ≡ 0 * 10 + (d - 48) = omega arith in
        let i : digits (d - 48) ds ≡ Some n = ap (λ (x : ℕ). digits x ds) m ∙ (rw (digits, t) at e) in
        rw w at (digits_are_written (d - 48) n ds (omega arith) i)
    go false t = absurd (let q : None ≡ Some n = rw (digits, t) at e in let y : ◌≡◌ {A = ℕ} 0 1 = cc in omega arith)

only_zero : (f : List ℕ) → length f ≡ 1 → get_or f 0 0 ≡ 48 → f ≡ 48 ∷ []
only_zero [] h e = absurd (omega arith)
only_zero (d ∷ []) h e = rw e
only_zero (d ∷ c ∷ f) h e = absurd (omega arith)

-- What reads as a number is the writing of it, and below 100,000.
pub number_is_written : (f : List ℕ) (n : ℕ) → number f ≡ Some n → (f ≡ write_number n) × (n < 100000)
unfolding number write_number decimal pow
number_is_written f n h = go (within 1 5 (length f)) (eqb (get_or f 0 0) 48) (eqb (length f) 1) refl refl refl h
  where
    go : (t u v : Bool) → within 1 5 (length f) ≡ t → eqb (get_or f 0 0) 48 ≡ u → eqb (length f) 1 ≡ v
        → ◌≡◌ {A = Option ℕ} (elim t [ false ↦ None | true ↦ elim u [ true ↦ elim v [ true ↦ Some 0 | false ↦ None ] | false ↦ digits 0 f ] ]) (Some n)
        → (f ≡ write_number n) × (n < 100000)
    go false u v a b c e = absurd (let y : ◌≡◌ {A = ℕ} 0 1 = cc in omega arith)
    go true true false a b c e = absurd (let y : ◌≡◌ {A = ℕ} 0 1 = cc in omega arith)
    go true true true a b c e =
        let q : 0 ≡ n = cc in
        rw (← q) (only_zero f (eqb-true (length f) 1 c) (eqb-true (get_or f 0 0) 48 b), omega arith)
    go true false v a b c e =
        let l = within-bounds 1 5 (length f) a in
        let z : 0 + length f ≡ length f = omega arith in
        let p : n < pow (length f) = rw z at (digits-below 0 n 0 f (omega arith) e) in
        (no_zero-written f n l.0 (eqb-false (get_or f 0 0) 48 b) e, omega (arith, pow_five (length f) l.1))

-- So no two numbers below 100,000 are written alike.
pub written-number_injective : (m n : ℕ) → m < 100000 → n < 100000 → write_number m ≡ write_number n → m ≡ n
written-number_injective m n h k e =
    let a : number (write_number m) ≡ Some m = read-written-number m h in
    let b : number (write_number n) ≡ Some n = read-written-number n k in
    let c : number (write_number m) ≡ number (write_number n) = ap number e in
    cc
