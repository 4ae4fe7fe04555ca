-- Twelve letters in a row, moved on by a letter: what is in front, and what comes in behind.
use mathlib.Core.Path.{◌≡◌, sym, ◌∙◌, ap}
use Prim.Native.Nat.{ℕ, ◌+◌, ◌*◌, ◌/◌, ◌%◌, ◌^◌, ◌≤◌, ◌<◌}
use native.Mathlib.Nat.{add-zero}
use native.Mathlib.Decide.{dec_lt, ℕ_discrete}
use native.Mathlib.Omega.{arith}
use lib.ListN.{get_or, take, drop, length-take}
use lib.Seq.{get_or-take}
use Rattle.words.specs.Word.{Word}
use Rattle.packedwords.specs.Packed.{Codes, value, window}
use Rattle.packedwords.proofs.Values.{value-front}
use Rattle.packedwords.proofs.Windows.{window-front, window-last, window-drop, window-whole}
use Rattle.packedwords.proofs.Parts.{codes-drop, codes-take}
use Rattle.lists.proofs.Entries.{part_at}
use Rattle.leads.specs.CodeSearch.{Fronted}

module _ (w : Word) (c : Codes w) (i : ℕ) where
  pub window-second : window w i / 2 ^ 50 % 32 ≡ get_or w (i + 1) 0
  unfolding value
  window-second =
      ap (λ (x : ℕ). x % 32) (value-front (λ (j : ℕ). get_or w (i + j) 0) (λ j. c (i + j)) 2 10)
      ∙ last (get_or w (i + 0) 0) (get_or w (i + 1) 0) (c (i + 1))
    where
      last : (x y : ℕ) → y < 32 → ((0 * 32 + x) * 32 + y) % 32 ≡ y
      last x y l = omega arith

-- The twelve letters from place a on as a word; moved up by r letters it has those behind its first r.
abbrev pub block_from : Word → ℕ → Word
block_from w a = take 12 (drop a w)

module _ (w : Word) (c : Codes w) (a : ℕ) where
  abbrev block : Word
  block = block_from w a

  block-codes : Codes block
  block-codes = codes-take 12 (drop a w) (codes-drop a w c)

  pub block_start : window w a ≡ window block 0
  block_start =
      sym (window-whole 12 (drop a w) 0 (omega arith) ∙ window-drop a w 0 ∙ ap (window w) (add-zero a))

  pub block-front : (r : ℕ) → r < 12 → window block r / 2 ^ 55 ≡ get_or w (a + r) 0
  block-front r h = window-front block block-codes r ∙ part_at w a 12 r h

  pub block-next : (r : ℕ) → window block (r + 1) ≡ window block r * 2 ^ 5 % 2 ^ 60
  block-next r = window-last block block-codes r (omega (arith, length-take 12 (drop a w)))

-- v has the letters of u from place k on in front: up to the twelfth, and behind it up to the 24th.
pub record Ahead (u : Word) (k v : ℕ) : Type 0 where
  pub low : k < 12 → v ≡ window (take 12 u) k
  pub high : 12 ≤ k → v ≡ window (take 24 u) k

module _ {u : Word} {x y : ℕ} (f : Fronted u x y) where
  pub ahead_start : Ahead u 0 x
  ahead_start = record {
    low = λ h. sym f.first ∙ sym (window-whole 12 u 0 (omega arith));
    high = λ h. absurd (omega arith);
  }

  module _ (k v : ℕ) (s : Ahead u k v) where
    pub ahead_letter : k < 24 → v / 2 ^ 55 ≡ get_or u k 0
    ahead_letter h = go (dec_lt k 12)
      where
        go : Dec (k < 12) → v / 2 ^ 55 ≡ get_or u k 0
        go (yes l) = ap (λ (z : ℕ). z / 2 ^ 55) (s.low l) ∙ window-front (take 12 u) (codes-take 12 u f.codes) k ∙ get_or-take 12 u k 0 l
        go (no l) = ap (λ (z : ℕ). z / 2 ^ 55) (s.high (omega arith)) ∙ window-front (take 24 u) (codes-take 24 u f.codes) k ∙ get_or-take 24 u k 0 h

    pub ahead_next : (r : ℕ) → (k + 1 ≡ 12 → r ≡ y) → ((k + 1 ≡ 12 → ⊥) → r ≡ v * 2 ^ 5 % 2 ^ 60) → Ahead u (k + 1) r
    ahead_next r p q = record { low = low; high = λ h. high h (ℕ_discrete (k + 1) 12) }
      where
        low : k + 1 < 12 → r ≡ window (take 12 u) (k + 1)
        low h =
            q (λ e. omega arith) ∙ ap (λ (z : ℕ). z * 2 ^ 5 % 2 ^ 60) (s.low (omega arith))
            ∙ sym (window-last (take 12 u) (codes-take 12 u f.codes) k (omega (arith, length-take 12 u)))

        high : 12 ≤ k + 1 → Dec (k + 1 ≡ 12) → r ≡ window (take 24 u) (k + 1)
        high h (yes e) = p e ∙ sym f.second ∙ sym (window-whole 24 u 12 (omega arith)) ∙ ap (window (take 24 u)) (sym e)
        high h (no n) =
            q n ∙ ap (λ (z : ℕ). z * 2 ^ 5 % 2 ^ 60) (s.high (omega arith))
            ∙ sym (window-last (take 24 u) (codes-take 24 u f.codes) k (omega (arith, length-take 24 u)))
