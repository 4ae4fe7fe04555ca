-- Laws of the search at one place of a packed word: what each turn of `begun_by` leaves in its two masks.
use mathlib.Core.Path.{◌≡◌, refl, sym, ap, ◌∙◌}
use mathlib.Core.Bool.{true, true≢false}
use mathlib.Core.Logic.{◌⊎◌, inl, inr}
use mathlib.Core.List.{List, [], ◌∷◌}
use Prim.Native.Nat.{ℕ, ◌+◌, ◌*◌, ◌/◌, ◌%◌, ◌^◌, ◌≤◌, ◌<◌}
use native.Mathlib.Decide.{dec_lt}
use native.Mathlib.Nat.{add-zero}
use native.Mathlib.Omega.{arith}
use lib.ListN.{length, get_or, get_or-eq_default}
use lib.Bits.{bit_and, bit_or}
use Rattle.lists.proofs.Every.{all_at}
use Rattle.words.specs.Word.{Word}
use Rattle.words.specs.Place.{begins}
use Rattle.leads.specs.Masks.{bit}
use Rattle.leads.specs.CodeIndex.{CodeMarked, HasCode, HasPair, CodeIndexed}
use Rattle.leads.specs.CodeSearch.{Fronted}
use Rattle.leads.specs.SpotOfWords.{BegunBy}
use Rattle.leads.proofs.Agreement.{begins-letters, letters-begin}
use Rattle.leads.proofs.Bits.{and_out, and_in, or_out, or_left, or_right, bit-zero, bit-all}
use Rattle.packedwords.proofs.Windows.{window-front}
use Rattle.leads.proofs.Sliding.{window-second}

-- Before the turn of row k: `begun` has words that u begins with; the first k letters of the words in `left` are u's, with zeros behind the ends;
-- and of the words that u begins with, the shorter ones are in `begun`, the others in `left`.
pub record CodeSieve (ls : List Word) (u : Word) (k left begun : ℕ) : Type 0 where
  pub whole : (g : ℕ) → bit begun g ≡ 1 → (g < length ls) × (begins (get_or ls g []) u ≡ true)
  pub agree : (g : ℕ) → bit left g ≡ 1 → (j : ℕ) → j < k → get_or (get_or ls g []) j 0 ≡ get_or u j 0
  pub taken : (g : ℕ) → g < length ls → begins (get_or ls g []) u ≡ true → length (get_or ls g []) < k → bit begun g ≡ 1
  pub kept : (g : ℕ) → g < length ls → begins (get_or ls g []) u ≡ true → k ≤ length (get_or ls g []) → bit left g ≡ 1

module _ {ls : List Word} {t : List ℕ} (i : CodeIndexed ls t) where
  -- a mark in column 0 is that of a word's end
  end_there : (g k : ℕ) → k < 25 → bit (get_or t (k * 32) 0) g ≡ 1 → (g < length ls) × (length (get_or ls g []) ≡ k)
  end_there g k few b =
      let (h, m) = i.only g k 0 few (omega arith) (rw (add-zero (k * 32)) b) in
      (h, go h m (dec_lt k (length (get_or ls g []))))
    where
      go : g < length ls → CodeMarked (get_or ls g []) k 0 → Dec (k < length (get_or ls g [])) → length (get_or ls g []) ≡ k
      go h m (yes l) = let z : 1 ≤ get_or (get_or ls g []) k 0 = all_at i.words.nonzero [] g h k l in absurd (omega (arith, m.at))
      go h m (no l) = omega (arith, m.row)

  ends_marked : (g k : ℕ) → g < length ls → k < 25 → length (get_or ls g []) ≡ k → bit (get_or t (k * 32) 0) g ≡ 1
  ends_marked g k h few e =
      let o : length (get_or ls g []) ≤ k = omega arith in
      rw (add-zero (k * 32)) at (i.held g k 0 h few (omega arith) (record { row = omega arith; at = get_or-eq_default (get_or ls g []) 0 o }))

  -- the words of no letters stand behind the end of every word
  pub codes-empty : BegunBy ls [] (get_or t 0 0)
  unfolding begins
  codes-empty g = (λ b. whole (end_there g 0 (omega arith) b), λ q. ends_marked g 0 q.0 (omega arith) (none (get_or ls g []) q.1))
    where
      none : (b : Word) → begins b [] ≡ true → length b ≡ 0
      none [] e = refl
      none (x ∷ b) e = absurd (true≢false (sym e))

      whole : (g < length ls) × (length (get_or ls g []) ≡ 0) → (g < length ls) × (begins (get_or ls g []) [] ≡ true)
      whole (h, e) = (h, letters-begin (get_or ls g []) [] (all_at i.words.nonzero [] g h) (λ j l. absurd (omega arith)))

module _ {ls : List Word} {t : List ℕ} {u : Word} (i : CodeIndexed ls t) where
  -- all words are left
  pub codes-start : CodeSieve ls u 0 18446744073709551615 0
  codes-start = record {
    whole = λ g b. absurd (bit-zero g b);
    agree = λ g b j h. absurd (omega arith);
    taken = λ g h e l. absurd (omega arith);
    kept = λ g h e l. bit-all 64 g (let f = i.words.few in omega arith);
  }

  module _ {k left begun : ℕ} (few : k < 25) (s : CodeSieve ls u k left begun) where
    abbrev begun' : ℕ
    begun' = bit_or begun (bit_and left (get_or t (k * 32) 0))

    whole' : (g : ℕ) → bit begun' g ≡ 1 → (g < length ls) × (begins (get_or ls g []) u ≡ true)
    whole' g b = go (or_out begun (bit_and left (get_or t (k * 32) 0)) g b)
      where
        go : (bit begun g ≡ 1) ⊎ (bit (bit_and left (get_or t (k * 32) 0)) g ≡ 1) → (g < length ls) × (begins (get_or ls g []) u ≡ true)
        go (inl p) = s.whole g p
        go (inr p) =
            let (l, m) = and_out left (get_or t (k * 32) 0) g p in
            let (h, e) = end_there i g k few m in
            (h, letters-begin (get_or ls g []) u (all_at i.words.nonzero [] g h) (λ j q. s.agree g l j (omega arith)))

    taken' : (g : ℕ) → g < length ls → begins (get_or ls g []) u ≡ true → length (get_or ls g []) < k + 1 → bit begun' g ≡ 1
    taken' g h e l = go (dec_lt (length (get_or ls g [])) k)
      where
        go : Dec (length (get_or ls g []) < k) → bit begun' g ≡ 1
        go (yes p) = or_left begun (bit_and left (get_or t (k * 32) 0)) g (s.taken g h e p)
        go (no p) =
            or_right begun (bit_and left (get_or t (k * 32) 0)) g
            (and_in left (get_or t (k * 32) 0) g (s.kept g h e (omega arith)) (ends_marked i g k h few (omega arith)))

    -- no word has more than 24 letters
    pub codes-end : k ≡ 24 → BegunBy ls u begun'
    codes-end e g = (whole' g, λ q. let m : length (get_or ls g []) ≤ 24 = all_at i.words.short [] g q.0 in taken' g q.0 q.1 (omega arith))

    module _ {x : ℕ} (c : x ≡ get_or u k 0) (low : x < 32) where
      abbrev left' : ℕ
      left' = bit_and left (get_or t (k * 32 + x) 0)

      -- one letter more
      pub codes-next : CodeSieve ls u (k + 1) left' begun'
      codes-next = record {
        whole = whole';
        agree = λ g b j h. agree g (and_out left (get_or t (k * 32 + x) 0) g b) j (dec_lt j k) h;
        taken = taken';
        kept = λ g h e l.
            let f : get_or (get_or ls g []) k 0 ≡ x = begins-letters (get_or ls g []) u e k (omega arith) ∙ sym c in
            and_in left (get_or t (k * 32 + x) 0) g (s.kept g h e (omega arith)) (i.held g k x h few low (record { row = omega arith; at = f }));
      }
        where
          agree : (g : ℕ) → (bit left g ≡ 1) × HasCode t g k x → (j : ℕ) → Dec (j < k) → j < k + 1 → get_or (get_or ls g []) j 0 ≡ get_or u j 0
          agree g (p, q) j (yes l) h = s.agree g p j l
          agree g (p, q) j (no l) h =
              let e : j ≡ k = omega arith in
              rw e ((i.only g k x few low q).1.at ∙ c)

      -- no word is left
      pub codes-none : left' ≡ 0 → BegunBy ls u begun'
      codes-none e g = (whole' g, λ q. go q.0 q.1 (dec_lt (length (get_or ls g [])) (k + 1)))
        where
          go : g < length ls → begins (get_or ls g []) u ≡ true → Dec (length (get_or ls g []) < k + 1) → bit begun' g ≡ 1
          go h b (yes l) = taken' g h b l
          go h b (no l) = absurd (bit-zero g (rw e at (codes-next.kept g h b (omega arith))))

  -- no word may begin one with u's first two letters
  pub codes_unopened : {x y : ℕ} → Fronted u x y → (bit (get_or t (800 + x / 2 ^ 55) 0) (x / 2 ^ 50 % 32) ≡ 1 → ⊥) → BegunBy ls u 0
  codes_unopened {x} {y} f n g = (λ b. absurd (bit-zero g b), λ q. absurd (n (here q.0 q.1)))
    where
      c : x / 2 ^ 55 ≡ get_or u 0 0
      c = ap (λ (z : ℕ). z / 2 ^ 55) (sym f.first) ∙ window-front u f.codes 0

      d : x / 2 ^ 50 % 32 ≡ get_or u 1 0
      d = ap (λ (z : ℕ). z / 2 ^ 50 % 32) (sym f.first) ∙ window-second u f.codes 0

      here : g < length ls → begins (get_or ls g []) u ≡ true → HasPair t (x / 2 ^ 55) (x / 2 ^ 50 % 32)
      here h e =
          rw (c, d)
          (i.opens g (get_or u 0 0) (get_or u 1 0) h (f.codes 0) (f.codes 1)
          (record { first = begins-letters (get_or ls g []) u e 0; second = begins-letters (get_or ls g []) u e 1 }))
