-- A table whose first sections are kept reads words as it did, and has their order.
use mathlib.Core.Path.{◌≡◌, refl, sym, ◌∙◌, ap, ap₂}
use mathlib.Core.List.{List, [], ◌∷◌, map}
use Prim.Native.Nat.{ℕ, suc, ◌+◌, ◌/◌, ◌%◌, ◌<◌}
use lib.ListN.{get_or}
use Rattle.words.specs.Word.{Word}
use Rattle.words.specs.Weighted.{weight}
use Rattle.packedwords.specs.Packed.{Codes, unpacked}
use Rattle.packedwords.proofs.Packing.{unpacked-codes}
use Rattle.table.specs.Table.{letter_in, weight_in}
use Rattle.table.specs.Words.{word_of, Held, Suits}
use Rattle.tabulating.proofs.KeptKeys.{entry_kept}

module _ (t u : List ℕ) (kept : (k : ℕ) → k < 80 → get_or u k 0 ≡ get_or t k 0) where
  letters-kept : (cs : Word) → Codes cs → map (letter_in u) cs ≡ map (letter_in t) cs
  letters-kept [] h = refl
  letters-kept (c ∷ cs) h = ap₂ ◌∷◌ (ap (λ (x : ℕ). x % 256) (entry_kept t u kept c (h 0))) (letters-kept cs (λ i. h (suc i)))

  weights-kept : (cs : Word) → Codes cs → weight (weight_in u) cs ≡ weight (weight_in t) cs
  unfolding weight
  weights-kept [] h = refl
  weights-kept (c ∷ cs) h = ap₂ ◌+◌ (ap (λ (x : ℕ). x / 256) (entry_kept t u kept c (h 0))) (weights-kept cs (λ i. h (suc i)))

  pub word_kept : (z : ℕ) (bs : List ℕ) → word_of u z bs ≡ word_of t z bs
  word_kept z bs = letters-kept (unpacked (z % 256) bs) (unpacked-codes (z % 256) bs)

  pub held_kept : {z : ℕ} {bs : List ℕ} → Held t z bs → Held u z bs
  held_kept {z} {bs} h = record { packs = h.packs; weighed = h.weighed ∙ sym (weights-kept (unpacked (z % 256) bs) (unpacked-codes (z % 256) bs)) }

  held-before : {z : ℕ} {bs : List ℕ} → Held u z bs → Held t z bs
  held-before {z} {bs} h = record { packs = h.packs; weighed = h.weighed ∙ weights-kept (unpacked (z % 256) bs) (unpacked-codes (z % 256) bs) }

  pub suits-kept : Suits t → Suits u
  suits-kept s = record {
    admissible = s.admissible;
    compares = λ y z a b p q h k. rw (word_kept y a, word_kept z b) (s.compares y z a b p q (held-before h) (held-before k));
  }
