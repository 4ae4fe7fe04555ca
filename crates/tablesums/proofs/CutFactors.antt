-- The factors of a pair, cut from its leading words, and the overlap word that they make.
use mathlib.Core.Path.{◌≡◌, refl, sym, ap, ◌∙◌}
use mathlib.Core.List.{List, [], ◌∷◌, map, ◌++◌}
use Prim.Native.Nat.{ℕ, suc, ◌+◌, ◌-◌, ◌*◌, ◌%◌, ◌≤◌, ◌<◌}
use native.Mathlib.Numerals.{add-one}
use native.Mathlib.Omega.{arith}
use lib.ListN.{length, get_or, take, drop, replicate, length-append, drop_of_length-le}
use lib.Seq.{drop-cons}
use Rattle.lists.proofs.Maps.{map-take, map-drop}
use Rattle.lists.proofs.Parts.{part_length}
use Rattle.words.specs.Word.{Word, around}
use Rattle.algebra.specs.Ideal.{family}
use Rattle.overlaps.specs.Overlaps.{overlap_word, rest_of, front_of, back_of}
use Rattle.overlapsearch.specs.declared.PairAt.{PairAt}
use Rattle.overlapsearch.specs.Position.{pair_of}
use Rattle.packedwords.specs.Packed.{unpacked, Packs}
use Rattle.packedwords.proofs.Blocks.{packs_widen}
use Rattle.table.specs.Polynomials.{word_in, basis_in}
use Rattle.table.specs.Table.{gens_in, basis_count_in, terms_in, letter_in, first_in, size_in, blocks_in}
use Rattle.table.specs.Tabled.{Tabled}
use Rattle.table.proofs.LeadingTerms.{lead-term}
use Rattle.table.proofs.WordSizes.{even-held}
use Rattle.tablesums.specs.Leading.{lead_in}
use Rattle.tablesums.specs.Factors.{LeadPacked}
use Rattle.tablesums.specs.ShortWords.{ShortWord}

-- Two entries of a table.
pub two_entries : (t : List ℕ) (at : ℕ) → at + 2 ≤ length t → take 2 (drop at t) ≡ get_or t at 0 ∷ get_or t (at + 1) 0 ∷ []
two_entries t at h =
    ap (take 2) (drop-cons t at 0 (omega arith)) ∙ ap (λ (u : List ℕ). get_or t at 0 ∷ take 1 u) (drop-cons t (suc at) 0 (omega arith))
    ∙ ap (λ (k : ℕ). get_or t at 0 ∷ get_or t k 0 ∷ []) (sym (add-one at))

-- The leading term of basis polynomial g, where i is the number of its item's first term.
pub record LeadFound (t : List ℕ) (g i : ℕ) : Type 0 where
  pub inside : i < terms_in t
  pub few : size_in t i % 256 ≤ 24
  pub letters : length (lead_in t g) ≡ size_in t i % 256
  pub word : word_in t i ≡ lead_in t g

pub lead-found : (t : List ℕ) → Tabled t → (g i j : ℕ) → i ≡ first_in t j → j ≡ gens_in t + g → 1 ≤ g → g ≤ basis_count_in t → LeadFound t g i
lead-found t T g i j e f some most =
    let L = lead-term t T g some most in
    rw (e, f) (record { inside = L.inside; few = T.short (first_in t (gens_in t + g)) L.inside; letters = L.letters; word = L.word })

module _ {t : List ℕ} (T : Tabled t) (g : ℕ) where
  -- Its word, copied to six blocks.
  pub lead-packed : (i : ℕ) → LeadFound t g i → (z : ℕ) (word : List ℕ) → z ≡ size_in t i → word ≡ blocks_in t i ++ replicate 4 0 → LeadPacked t g (z % 256) word
  lead-packed i L z word e w = rw (e, w) (record {
    letters = L.letters;
    few = L.few;
    six = six;
    packs = widened.0;
    word = ap (map (letter_in t)) widened.1 ∙ L.word;
  })
    where
      widened : Packs (size_in t i % 256) (blocks_in t i ++ replicate 4 0)
          × (unpacked (size_in t i % 256) (blocks_in t i ++ replicate 4 0) ≡ unpacked (size_in t i % 256) (blocks_in t i))
      widened = packs_widen (size_in t i % 256) (blocks_in t i) (T.held i L.inside).packs 4

      six : length (blocks_in t i ++ replicate 4 0) ≡ 6
      six =
          let inside = L.inside in
          let most = T.terms in
          let size = T.size in
          let none : ℕ = 0 in
          length-append (blocks_in t i) (replicate 4 none) ∙ ap (λ (k : ℕ). k + 4) (part_length (353 + 3 * i) 2 t (omega arith))

  module _ {n : ℕ} {word : List ℕ} (P : LeadPacked t g n word) (bs : List ℕ) (six : length bs ≡ 6) where
    -- k codes in six blocks hold the word of their letters, of size 257 × k
    part : (k : ℕ) → k ≤ n → (u : Word) → Packs k bs → map (letter_in t) (unpacked k bs) ≡ u → ShortWord t u (257 * k) bs
    part k l u packs word =
        let letters : 257 * k % 256 ≡ k = let f = P.few in omega arith in
        let few = P.few in
        record {
          short = record {
            six = record { six = six; short = omega (arith, letters); held = even-held t T.keys k bs (omega arith) packs };
            few = omega (arith, letters);
          };
          word = ap (λ (j : ℕ). map (letter_in t) (unpacked j bs)) letters ∙ word;
        }

    -- its first k letters, and those behind the first k, as the code cuts them
    pub front-short : (k : ℕ) → k ≤ length (lead_in t g) → Packs k bs → unpacked k bs ≡ take k (unpacked n word) → ShortWord t (take k (lead_in t g)) (257 * k) bs
    front-short k l packs q =
        let m = P.letters in
        part k (omega arith) (take k (lead_in t g)) packs (ap (map (letter_in t)) q ∙ map-take (letter_in t) k (unpacked n word) ∙ ap (take k) P.word)

    pub back-short : (k : ℕ) → k ≤ n → Packs (n - k) bs → unpacked (n - k) bs ≡ drop k (unpacked n word) → ShortWord t (drop k (lead_in t g)) (257 * (n - k)) bs
    back-short k l packs q =
        part (n - k) (omega arith) (drop k (lead_in t g)) packs (ap (map (letter_in t)) q ∙ map-drop (letter_in t) k (unpacked n word) ∙ ap (drop k) P.word)

-- What is cut from the leading words of a pair are its factors.
module _ (t : List ℕ) (f : PairAt) where
  pub front_cut : take f.at (lead_in t (suc f.first)) ≡ front_of (family (basis_in t)) (pair_of f)
  unfolding front_of
  front_cut = refl

  pub back_cut : (n : ℕ) → n ≡ length (lead_in t (suc f.second)) → drop (f.at + n) (lead_in t (suc f.first)) ≡ back_of (family (basis_in t)) (pair_of f)
  unfolding back_of
  back_cut n e = ap (λ (k : ℕ). drop (f.at + k) (lead_in t (suc f.first))) e

  -- where the second leading word reaches to the end of the first or beyond it, nothing is right of it
  pub back_none : (n m : ℕ) → n ≡ length (lead_in t (suc f.second)) → length (lead_in t (suc f.first)) ≡ m → m ≤ f.at + n
      → [] ≡ back_of (family (basis_in t)) (pair_of f)
  back_none n m e d l =
      let k : length (lead_in t (suc f.first)) ≤ f.at + n = omega arith in
      sym (drop_of_length-le (lead_in t (suc f.first)) k) ∙ back_cut n e

  pub rest-cut : drop f.shared (lead_in t (suc f.second)) ≡ rest_of (family (basis_in t)) (pair_of f)
  unfolding rest_of
  rest-cut = refl

-- The first leading word and the rest of the second are the overlap word.
pub overlap_made : (t : List ℕ) (f : PairAt) (u v w : Word) → u ≡ [] → v ≡ rest_of (family (basis_in t)) (pair_of f) → w ≡ lead_in t (suc f.first)
    → around u v w ≡ overlap_word (family (basis_in t)) (pair_of f)
unfolding overlap_word rest_of
overlap_made t f u v w a b c = rw (a, b, c)
