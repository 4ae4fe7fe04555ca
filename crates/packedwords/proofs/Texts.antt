-- Words of the letters a..z and their codes: document 01's order and the places of words are those of the codes, and so of the blocks.
use mathlib.Core.Path.{◌≡◌, refl, sym, ◌∙◌, ap, ap₂}
use mathlib.Core.Logic.{◌↔◌}
use mathlib.Core.List.{List, [], ◌∷◌}
use Prim.Native.Nat.{ℕ, zero, suc, ◌*◌, ◌≤◌, ◌<◌}
use native.Mathlib.Omega.{arith}
use lib.ListN.{length, length-map}
use Rattle.lists.specs.All.{All, done, ◌also◌}
use Rattle.lists.proofs.Every.{all_map, all_by_index}
use Rattle.words.specs.Word.{Word, Letter}
use Rattle.words.specs.Order.{letter_rank, by_number_of, by_letters, word_order}
use Rattle.words.specs.Place.{stands_at, leftmost}
use Rattle.words.proofs.Lexicographic.{number_same}
use Rattle.words.proofs.WordOrder.{rank_lt}
use Rattle.packedwords.specs.Codes.{itself, code, coded}
use Rattle.packedwords.specs.Packed.{Codes, Nonzero, packed, unpacked, Packs}
use Rattle.packedwords.proofs.Packing.{unpacked-packed, unpacked-length, unpacked-codes}
use Rattle.packedwords.proofs.BlockOrder.{nonzero-order, held-order}
use Rattle.packedwords.proofs.Coding.{order_by_codes, stands_by_codes, leftmost_by_codes}

-- the numbers that are not above 123: bytes of letters are, and codes are
abbrev Low : ℕ → Type 0
Low a = a ≤ 123

code_lt : (a b : ℕ) → Low a → (b < a) ↔ (code a < code b)
unfolding code
code_lt a b k = (λ l. omega arith, λ l. omega arith)

code-low : (a : ℕ) → Low (code a)
unfolding code
code-low a = omega arith

code-code : (a : ℕ) → Low a → code (code a) ≡ a
unfolding code
code-code a h = omega arith

code_range : (a : ℕ) → Letter 26 a → (1 ≤ code a) × (code a < 32)
unfolding code
code_range a s = let h = s.least in let k = s.most in (omega arith, omega arith)

code-own : (a b : ℕ) → Letter 26 a → Letter 26 b → code a ≡ code b → a ≡ b
unfolding code
code-own a b s t e = let k = s.most in let m = t.most in omega arith

letters-low : (w : Word) → All (Letter 26) w → All Low w
letters-low w p = all_map (λ a l. let m = l.most in omega arith) p

codes-low : (w : Word) → Codes w → All Low w
codes-low w c = all_by_index w 0 (λ i h. let l = c i in omega arith)

coded-low : (w : Word) → All Low (coded w)
coded-low [] = done
coded-low (a ∷ w) = code-low a also coded-low w

coded_twice : (w : Word) → All Low w → coded (coded w) ≡ w
coded_twice [] done = refl
coded_twice (a ∷ w) (p also ps) = ap₂ ◌∷◌ (code-code a p) (coded_twice w ps)

order-low : (u v : Word) → All Low u → All Low v → by_letters letter_rank u v ≡ by_letters itself (coded u) (coded v)
order-low u v p q = order_by_codes Low letter_rank code agree u v p q
  where
    agree : (a b : ℕ) → Low a → Low b → (letter_rank a < letter_rank b) ↔ (code a < code b)
    agree a b k m =
        let r = rank_lt a b (omega arith) (omega arith) in
        let s = code_lt a b k in
        (λ x. s.0 (r.0 x), λ x. r.1 (s.1 x))

-- The codes of letters are codes other than 0, and the letters come back from them.

pub coded-codes : (w : Word) → All (Letter 26) w → Codes (coded w)
coded-codes [] done i = omega arith
coded-codes (a ∷ w) (p also ps) zero = (code_range a p).1
coded-codes (a ∷ w) (p also ps) (suc i) = coded-codes w ps i

pub coded-nonzero : (w : Word) → All (Letter 26) w → Nonzero (coded w)
coded-nonzero [] done i h = absurd (omega arith)
coded-nonzero (a ∷ w) (p also ps) zero h = (code_range a p).0
coded-nonzero (a ∷ w) (p also ps) (suc i) h = coded-nonzero w ps i (omega arith)

pub coded-coded : (w : Word) → All (Letter 26) w → coded (coded w) ≡ w
coded-coded w p = coded_twice w (letters-low w p)

-- Order and places.

pub coded-order : (u v : Word) → All (Letter 26) u → All (Letter 26) v → by_letters letter_rank u v ≡ by_letters itself (coded u) (coded v)
coded-order u v p q = order-low u v (letters-low u p) (letters-low v q)

pub coded-stands : (b w : Word) (i : ℕ) → All (Letter 26) b → All (Letter 26) w → stands_at (coded b) (coded w) i ≡ stands_at b w i
coded-stands b w i p q = stands_by_codes (Letter 26) code code-own b w i p q

pub coded-leftmost : (b w : Word) → All (Letter 26) b → All (Letter 26) w → leftmost (coded b) (coded w) ≡ leftmost b w
coded-leftmost b w p q = leftmost_by_codes (Letter 26) code code-own b w p q

-- Document 01's order of any two words: the lengths decide, and where they agree the blocks.
pub word-order-packed : (k : ℕ) (u v : Word) → All (Letter 26) u → All (Letter 26) v → length u ≤ 12 * k → length v ≤ 12 * k
    → word_order u v ≡ by_number_of (length u) (length v) (by_letters itself (packed k (coded u)) (packed k (coded v)))
unfolding word_order
word-order-packed k u v p q h l =
    let a = length-map u code in
    let b = length-map v code in
    let blocks = nonzero-order k (coded u) (coded v) (coded-codes u p) (coded-codes v q) (coded-nonzero u p) (coded-nonzero v q) (omega arith) (omega arith) in
    ap (by_number_of (length u) (length v)) (coded-order u v p q ∙ sym blocks)

-- Document 01's order of the words in two rooms of as many blocks, where the words have one length: the blocks decide, whatever the letters are.
pub place-order : (n : ℕ) (bs cs : List ℕ) → length bs ≡ length cs → Packs n bs → Packs n cs
    → word_order (coded (unpacked n bs)) (coded (unpacked n cs)) ≡ by_letters itself bs cs
unfolding word_order
place-order n bs cs e h k =
    let u = unpacked n bs in
    let v = unpacked n cs in
    let l : length (coded u) ≡ length (coded v) = length-map u code ∙ unpacked-length n bs ∙ sym (length-map v code ∙ unpacked-length n cs) in
    number_same _ l
    ∙ order-low (coded u) (coded v) (coded-low u) (coded-low v)
    ∙ ap₂ (by_letters itself) (coded_twice u (codes-low u (unpacked-codes n bs))) (coded_twice v (codes-low v (unpacked-codes n cs)))
    ∙ sym (held-order n bs cs e h k)

-- A word packed and unpacked is the word.
pub written_back : (k : ℕ) (w : Word) → All (Letter 26) w → length w ≤ 12 * k → coded (unpacked (length w) (packed k (coded w))) ≡ w
written_back k w p h =
    ap (λ (n : ℕ). coded (unpacked n (packed k (coded w)))) (sym (length-map w code))
    ∙ ap coded (unpacked-packed (coded w) (coded-codes w p) k (omega (arith, length-map w code)))
    ∙ coded-coded w p
