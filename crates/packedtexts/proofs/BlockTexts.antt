-- The letters of a packed word, block by block, and stored one behind the other.
use mathlib.Core.Path.{◌≡◌, refl, sym, ◌∙◌, ap}
use mathlib.Core.List.{List, [], ◌∷◌, map}
use Prim.Native.Nat.{ℕ, zero, suc, ◌+◌, ◌-◌, ◌*◌, ◌/◌, ◌%◌, ◌^◌, ◌≤◌, ◌<◌, min}
use native.Mathlib.Nat.{add-zero}
use native.Mathlib.Omega.{arith}
use lib.ListN.{length, get_or, take, drop, set, length-take, length-drop, length-map}
use lib.Seq.{sets, drop-cons, drop-drop}
use Rattle.words.specs.Word.{Word}
use Rattle.lists.proofs.Maps.{map_at, map-take, map-drop}
use Rattle.lists.proofs.Parts.{part_length}
use Rattle.lists.proofs.Stores.{sets_more, sets_none}
use Rattle.packedwords.specs.Packed.{Codes, window, unpacked, Packs}
use Rattle.packedwords.proofs.Windows.{window-front, window-last}
use Rattle.packedwords.proofs.Packing.{unpacked-length, unpacked-codes}
use Rattle.packedwords.proofs.Blocks.{packs_any}
use Rattle.packedwords.proofs.Parts.{packs-part}
use Rattle.lists.proofs.Entries.{part_at}
use Rattle.packedterms.specs.Formula.{blocks_at}

-- The front of a run stored, and then what is behind it.
sets_parts : (out v : List ℕ) (a n : ℕ) → sets (sets out a (take n v)) (a + n) (drop n v) ≡ sets out a v
sets_parts out v a zero = rw add-zero
sets_parts out [] a (suc n) = refl
sets_parts out (x ∷ v) a (suc n) = let e : a + suc n ≡ suc a + n = omega arith in rw e (sets_parts (set out a x) v (suc a) n)

-- The r letters of the block x.
module _ (L : ℕ → ℕ) (x r : ℕ) (p : Packs r (x ∷ [])) where
  abbrev codes : Word
  codes = unpacked r (x ∷ [])

  abbrev letters : Word
  letters = map L codes

  all_codes : Codes codes
  all_codes = unpacked-codes r (x ∷ [])

  length-letters : length letters ≡ r
  length-letters = length-map codes L ∙ unpacked-length r (x ∷ [])

  pub moved_start : x ≡ window (unpacked r (x ∷ [])) 0
  moved_start = packs_any r (x ∷ []) p 0

  pub moved_next : (i y z : ℕ) → y ≡ window (unpacked r (x ∷ [])) i → z ≡ y * 2 ^ 5 % 2 ^ 60 → z ≡ window (unpacked r (x ∷ [])) (i + 1)
  moved_next i y z e q =
      q ∙ ap (λ (k : ℕ). k * 2 ^ 5 % 2 ^ 60) e ∙ sym (window-last codes all_codes i (omega (arith, p.fits, unpacked-length r (x ∷ []))))

  pub moved_code : (i y : ℕ) → y ≡ window (unpacked r (x ∷ [])) i → y / 2 ^ 55 < 32
  moved_code i y e = rw (ap (λ (k : ℕ). k / 2 ^ 55) e ∙ window-front codes all_codes i) (all_codes i)

  -- stored up to letter i, whose code is in front of y
  pub letter-stored : (out whole : List ℕ) (at i y a : ℕ) → i < r → y ≡ window (unpacked r (x ∷ [])) i → a ≡ L (y / 2 ^ 55)
      → sets out (at + i) (drop i (map L (unpacked r (x ∷ [])))) ≡ whole
      → sets (set out (at + i) a) (at + (i + 1)) (drop (i + 1) (map L (unpacked r (x ∷ [])))) ≡ whole
  letter-stored out whole at i y a h e d s =
      let same : a ≡ get_or letters i 0 =
      d ∙ ap (λ (k : ℕ). L (k / 2 ^ 55)) e ∙ ap L (window-front codes all_codes i) ∙ sym (map_at L codes i (omega (arith, unpacked-length r (x ∷ [])))) in
      let b : at + (i + 1) ≡ at + i + 1 = omega arith in
      rw (same, b) (sets_more letters out i (at + i) (omega (arith, length-letters)) ∙ s)

  pub letters-stored : (out whole : List ℕ) (at i : ℕ) → r ≤ i → sets out at (drop i (map L (unpacked r (x ∷ [])))) ≡ whole → out ≡ whole
  letters-stored out whole at i h s = sym (sets_none letters out i at (omega (arith, length-letters))) ∙ s

-- The blocks at a place: block j has the twelve letters from 12 × j on, or as many as are left.
module _ (L : ℕ → ℕ) (w : List ℕ) (s m : ℕ) (size : s * 6 + 6 ≤ length w) (p : Packs m (blocks_at w s)) where
  abbrev pub letters_at : Word
  letters_at = map L (unpacked m (blocks_at w s))

  pub letters-length : length letters_at ≡ m
  letters-length = length-map (unpacked m (blocks_at w s)) L ∙ unpacked-length m (blocks_at w s)

  six : length (blocks_at w s) ≡ 6
  six = part_length (s * 6) 6 w size

  pub letters-few : m ≤ 72
  letters-few = omega (arith, p.fits, six)

  pub all-stored : (out whole : List ℕ) (at i : ℕ) → m ≤ i → sets out at (drop i letters_at) ≡ whole → out ≡ whole
  all-stored out whole at i h v = sym (sets_none letters_at out i at (omega (arith, letters-length))) ∙ v

  module _ (j i x r : ℕ) (e : i ≡ 12 * j) (h : i < m) (q : x ≡ get_or w (s * 6 + j) 0) (d : r ≡ min 12 (m - i)) where
    inside : j < 6
    inside = omega (arith, letters-few)

    one : take 1 (drop j (blocks_at w s)) ≡ x ∷ []
    one = let h : j < length (blocks_at w s) = omega (arith, six, inside) in rw (drop-cons (blocks_at w s) j 0) (ap (λ (y : ℕ). y ∷ []) (part_at w (s * 6) 6 j inside ∙ sym q))

    count : length (take 12 (drop (12 * j) (unpacked m (blocks_at w s)))) ≡ r
    count =
        let u = unpacked m (blocks_at w s) in
        omega (arith, length-take 12 (drop (12 * j) u), length-drop (12 * j) u, unpacked-length m (blocks_at w s))

    part : Packs r (x ∷ []) × (unpacked r (x ∷ []) ≡ take 12 (drop (12 * j) (unpacked m (blocks_at w s))))
    part = rw one at (packs-part m (blocks_at w s) p j 1 r (omega (arith, six)) count)

    pub part-packs : Packs r (x ∷ [])
    part-packs = part.0

    pub part-letters : map L (unpacked r (x ∷ [])) ≡ take 12 (drop i letters_at)
    part-letters =
        let u = unpacked m (blocks_at w s) in
        ap (map L) part.1 ∙ rw (← e) (map-take L 12 (drop i u) ∙ ap (λ (v : Word). take 12 v) (map-drop L i u))

    pub part-stored : (out out' whole : List ℕ) (at : ℕ) → out' ≡ sets out (at + i) (map L (unpacked r (x ∷ [])))
        → sets out (at + i) (drop i letters_at) ≡ whole → sets out' (at + (i + 12)) (drop (i + 12) letters_at) ≡ whole
    part-stored out out' whole at z v =
        let a : at + (i + 12) ≡ at + i + 12 = omega arith in
        let b : drop 12 (drop i letters_at) ≡ drop (i + 12) letters_at = drop-drop 12 i letters_at in
        rw (z, part-letters, a, ← b) (sets_parts out (drop i letters_at) (at + i) 12 ∙ v)
