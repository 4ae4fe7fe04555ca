-- The texts of answers: how long their lines are, and what is stored one behind the other.
use mathlib.Core.Path.{◌≡◌}
use mathlib.Core.List.{List, [], ◌∷◌, ◌++◌}
use Prim.Native.Nat.{ℕ, ◌+◌, ◌^◌, ◌≤◌, ◌<◌}
use native.Mathlib.Nat.{lt_of_lt_of_le}
use native.Mathlib.Omega.{arith}
use lib.Dec.{lit≤}
use lib.ListN.{length, get_or, take, drop, length-append}
use lib.Seq.{sets, sets-eq, take-append_seam}
use Rattle.words.specs.Word.{Word}
use Rattle.text.specs.Ascii.{ascii}
use Rattle.lists.proofs.Stores.{stored-then}
use Rattle.printing.specs.Printed.{numbers_line, printed_text}
use Rattle.printing.proofs.NumbersLine.{numbers_length}
use Rattle.lending.specs.Kept.{count_kept_of}
use Rattle.trials.specs.PackedBlocks.{six_blocks}
use Rattle.trials.proofs.PackedLetters.{first_six, blocks-low}
use Rattle.cases.specs.CaseTexts.{output_text, program_text}

-- Two to five numbers of 64 bits in a line.
pub two_numbers_length : (a b : ℕ) → a < 2 ^ 64 → b < 2 ^ 64 → length (numbers_line (a ∷ b ∷ [])) ≤ 43
unfolding numbers_line
two_numbers_length a b x y = omega (arith, numbers_length a (b ∷ []) x, numbers_length b [] y)

module _ (a b c : ℕ) (x : a < 2 ^ 64) (y : b < 2 ^ 64) (z : c < 2 ^ 64) where
  pub three_numbers_length : length (numbers_line (a ∷ b ∷ c ∷ [])) ≤ 64
  three_numbers_length = omega (arith, numbers_length a (b ∷ c ∷ []) x, two_numbers_length b c y z)

  pub four_numbers_length : (n : ℕ) → n < 2 ^ 64 → length (numbers_line (n ∷ a ∷ b ∷ c ∷ [])) ≤ 85
  four_numbers_length n h = omega (arith, numbers_length n (a ∷ b ∷ c ∷ []) h, three_numbers_length)

  pub five_numbers_length : (m n : ℕ) → m < 2 ^ 64 → n < 2 ^ 64 → length (numbers_line (m ∷ n ∷ a ∷ b ∷ c ∷ [])) ≤ 106
  five_numbers_length m n g h = omega (arith, numbers_length m (n ∷ a ∷ b ∷ c ∷ []) g, four_numbers_length n h)

-- A number, and the six of a word that is packed.
pub seven_numbers_length : (n : ℕ) (w : Word) (bs : List ℕ) → n < 2 ^ 64 → bs ≡ six_blocks w → length (numbers_line (n ∷ first_six bs)) ≤ 148
seven_numbers_length n w bs h e =
    let rest = block 1 ∷ block 2 ∷ block 3 ∷ block 4 ∷ block 5 ∷ [] in
    omega (
      arith,
      numbers_length n (block 0 ∷ rest) h,
      numbers_length (block 0) rest (low 0 (omega arith)),
      five_numbers_length (block 3) (block 4) (block 5) (low 3 (omega arith)) (low 4 (omega arith)) (low 5 (omega arith)) (block 1) (block 2) (low 1 (omega arith)) (low 2 (omega arith)),
    )
  where
    block : ℕ → ℕ
    block j = get_or bs j 0

    low : (j : ℕ) → j < 6 → get_or bs j 0 < 2 ^ 64
    low j k = rw e (lt_of_lt_of_le (blocks-low w j k) (lit≤ tt))

-- Two texts, stored one behind the other.
pub stored_both : (l l₁ l₂ : List ℕ) (at a b : ℕ) (xs ys : List ℕ) → (a ≡ at + length xs) × (l₁ ≡ sets l at xs) → (b ≡ a + length ys) × (l₂ ≡ sets l₁ a ys)
    → (b ≡ at + length (xs ++ ys)) × (l₂ ≡ sets l at (xs ++ ys))
stored_both l l₁ l₂ at a b xs ys (p, e) (q, f) = (omega (arith, length-append xs ys), stored-then l l₁ l₂ at a xs ys e p f)

-- The line of five numbers and the bytes written.
pub output-stored : (l l₁ l₂ : List ℕ) (at a b n k m w kept : ℕ) (out : List ℕ) → kept ≡ count_kept_of (drop w out)
    → (a ≡ at + length (numbers_line (n ∷ k ∷ m ∷ w ∷ kept ∷ []))) × (l₁ ≡ sets l at (numbers_line (n ∷ k ∷ m ∷ w ∷ kept ∷ [])))
    → (b ≡ a + length (take w out)) × (l₂ ≡ sets l₁ a (take w out))
    → (b ≡ at + length (output_text n k m w out)) × (l₂ ≡ sets l at (output_text n k m w out))
unfolding output_text
output-stored l l₁ l₂ at a b n k m w kept out e f g =
    rw e at (stored_both l l₁ l₂ at a b (numbers_line (n ∷ k ∷ m ∷ w ∷ kept ∷ [])) (take w out) f g)

-- What was stored at the start is what stands there.
pub take-stored : (l xs : List ℕ) → length xs ≤ length l → take (length xs) (sets l 0 xs) ≡ xs
take-stored l xs h = rw (sets-eq xs l 0 (omega arith)) (take-append_seam xs (drop (0 + length xs) l))

-- The line ` prints` and what is printed, n bytes at the start of a slice.
pub printed_stored : (l l₁ l₂ : List ℕ) (at a b n : ℕ) (out₀ out bytes : List ℕ) → n ≡ length (printed_text bytes) → n ≤ 65536 → length out₀ ≡ 65536 → out ≡ sets out₀ 0 (printed_text bytes)
    → (a ≡ at + 8) × (l₁ ≡ sets l at (ascii " prints\n")) → (b ≡ a + length (take n out)) × (l₂ ≡ sets l₁ a (take n out))
    → (b ≡ at + length (program_text bytes)) × (l₂ ≡ sets l at (program_text bytes))
unfolding program_text
printed_stored l l₁ l₂ at a b n out₀ out bytes e h k f p q =
    let t : take n out ≡ printed_text bytes = rw (e, f) (take-stored out₀ (printed_text bytes) (omega arith)) in
    stored_both l l₁ l₂ at a b (ascii " prints\n") (printed_text bytes) p (rw t at q)
