-- Document 01's package E and its refusals, and the cases of the readings of documents 01 and 02, by computation.
use Rattle.std.specs.Prelude.{◌≡◌, refl, Bool, true, false, List, [], ◌∷◌, ◌++◌, map, ℕ, zero, suc, ◌-◌, eqb, length, take, drop, set, replicate}
use Prim.Native.String.{String}
use Rattle.package.specs.Formula.{FormulaOutcome, wrong_at, formula, read_formula}
use Rattle.package.specs.Names.{term_g, term_b, sum_b, sum_g, sum_o}
use Rattle.package.specs.Package.{Package, Outcome, refused, read, package_limits, read_package}
use Rattle.package.specs.Sums.{SumLine}
use Rattle.package.specs.Terms.{TermLine}
use Rattle.text.specs.Ascii.{ascii}
use Rattle.text.specs.Number.{write_number}

-- A text from its lines, each ended by byte 10.
unfoldable pub text : List (List ℕ) → List ℕ
text [] = []
text (l ∷ ls) = l ++ (10 ∷ text ls)

-- The package E, line by line.
unfoldable pub lines_e : List (List ℕ)
lines_e =
    ascii "p letters gens basis"
    ∷ ascii "7 2 1 2"
    ∷ ascii "kind item coef word"
    ∷ ascii "G 1 1 aa"
    ∷ ascii "G 1 6 b"
    ∷ ascii "B 1 1 aa"
    ∷ ascii "B 1 6 b"
    ∷ ascii "B 2 1 ab"
    ∷ ascii "B 2 6 ba"
    ∷ ascii "kind item coef left of right"
    ∷ ascii "B 1 1 - 1 -"
    ∷ ascii "B 2 1 - 1 a"
    ∷ ascii "B 2 6 a 1 -"
    ∷ ascii "G 1 1 - 1 -"
    ∷ ascii "O 1 1 - 2 -"
    ∷ ascii "O 2 1 - 2 a"
    ∷ ascii "O 2 1 b 1 -"
    ∷ []

unfoldable pub package_e : List ℕ
unfolding text lines_e
package_e = text lines_e

-- E with line n put in place of its own; with line n cut; its first n lines; E and bytes behind it.
unfoldable pub put : ℕ → String → List ℕ
unfolding text lines_e
put n l = text (set lines_e (n - 1) (ascii l))

pub cut : ℕ → List ℕ
unfolding text lines_e
cut n = text (take (n - 1) lines_e ++ drop n lines_e)

pub first_lines : ℕ → List ℕ
unfolding text lines_e
first_lines n = text (take n lines_e)

pub behind : String → List ℕ
unfolding package_e
behind l = package_e ++ ascii l

-- All words of n letters a and b, greatest first, and so many terms of G 1 with them.
pub words : ℕ → List (List ℕ)
words zero = [] ∷ []
words (suc n) = map (λ w. 97 ∷ w) (words n) ++ map (λ w. 98 ∷ w) (words n)

pub many_terms : ℕ → String → List ℕ
unfolding text words
many_terms n extra =
    text (ascii "p letters gens basis" ∷ ascii "7 2 1 0" ∷ ascii "kind item coef word" ∷ map (λ w. ascii "G 1 1 " ++ w) (take n (words 6)))
    ++ ascii extra
    ++ ascii "kind item coef left of right\n"

-- A package, and its number and place: 0 and 0 where it reads.
pub data Case : Type 0 where
  gives : List ℕ → ℕ → ℕ → Case

unfoldable pub answers : ℕ → ℕ → Outcome → Bool
answers n k (refused m j) = elim (eqb n m) [ true ↦ eqb k j | false ↦ false ]
answers n k (read p) = elim (eqb n 0) [ true ↦ eqb k 0 | false ↦ false ]

unfoldable pub all_answered : List Case → Bool
unfolding answers read_package
all_answered [] = true
all_answered (gives b n k ∷ rs) = elim (answers n k (read_package b)) [ true ↦ all_answered rs | false ↦ false ]

-- Document 01's column of inputs for refusals 2 to 7, and its edges.
pub document : List Case
unfolding package_e put many_terms
document =
    gives package_e 0 0
    ∷ gives (put 1 "p letters basis gens") 2 1
    ∷ gives (put 2 "9 2 1 2") 3 2
    ∷ gives (put 2 "7 27 1 2") 4 2
    ∷ gives (put 4 "G 1 7 aa") 5 4
    ∷ gives (text (set (set lines_e 3 (ascii "G 1 6 b")) 4 (ascii "G 1 1 aa"))) 6 5
    ∷ gives (many_terms 49 "") 7 52
    ∷ gives (many_terms 48 "") 0 0
    ∷ gives (put 4 "G 1 1 aaaaaaaaaaaaaaaaaaaaaaaa") 0 0
    ∷ gives (put 4 "G 1 1 aaaaaaaaaaaaaaaaaaaaaaaaa") 5 4
    ∷ gives (put 2 "65521 2 1 2") 0 0
    ∷ gives (put 2 "65537 2 1 2") 3 2
    ∷ gives (put 2 "1 2 1 2") 3 2
    ∷ []

-- Shape: unfinished and missing lines (A1 to A3), names lines and blocks (A4, A5), spaces (A7), numbers (A8), words (A9), fields in other places (A10), kinds (A11).
pub shapes : List Case
unfolding package_e put cut first_lines behind
shapes =
    gives (take 213 package_e) 2 17
    ∷ gives (ascii "p letters gens basis\n9 2 1 2") 2 2
    ∷ gives (behind "O 9 9 c 9 c") 2 18
    ∷ gives (first_lines 9 ++ ascii "kind item coef left of right") 2 10
    ∷ gives [] 2 1
    ∷ gives (first_lines 1) 2 2
    ∷ gives (first_lines 2) 2 3
    ∷ gives (first_lines 9) 2 10
    ∷ gives (first_lines 3) 2 4
    ∷ gives (behind "\n") 2 18
    ∷ gives (10 ∷ []) 2 1
    ∷ gives (cut 10) 2 10
    ∷ gives (put 10 "kind item coef left of right ") 2 10
    ∷ gives (put 11 "kind item coef left of right") 2 11
    ∷ gives (put 6 "kind item coef word") 2 6
    ∷ gives (put 3 "7 2 1 2") 2 3
    ∷ gives (put 4 "G  1 1 aa") 2 4
    ∷ gives (put 4 "G 1 1 aa ") 2 4
    ∷ gives (put 4 "G 1 1 aa\r") 2 4
    ∷ gives (put 4 "G\t1 1 aa") 2 4
    ∷ gives (put 2 "100003 2 1 2") 2 2
    ∷ gives (put 2 "07 2 1 2") 2 2
    ∷ gives (put 4 "G 1 100000 aa") 2 4
    ∷ gives (behind "O 100000 1 - 1 -\n") 2 18
    ∷ gives (behind "O 99999 1 - 1 -\n") 0 0
    ∷ gives (put 4 "G 1 1 aA") 2 4
    ∷ gives (put 4 "G 1 1 AAAAAAAAAAAAAAAAAAAAAAAAA") 2 4
    ∷ gives (put 4 "G 1 1 a-") 2 4
    ∷ gives (put 4 "G 1 1 --") 2 4
    ∷ gives (put 11 "B 1 1 1 - -") 2 11
    ∷ gives (put 4 "G 1 a 1") 2 4
    ∷ gives (put 4 "G 1 - aa") 2 4
    ∷ gives (put 4 "O 1 1 aa") 2 4
    ∷ gives (put 4 "g 1 1 aa") 2 4
    ∷ gives (put 15 "C 1 1 - 2 -") 2 15
    ∷ []

-- Counts (A12), coefficients of sum lines (A13), items (A14), `of` (A15), words (A9).
pub bounds : List Case
unfolding put
bounds =
    gives (put 2 "9 27 1 2") 3 2
    ∷ gives (put 2 "9 2 1 x") 2 2
    ∷ gives (put 2 "7 0 1 2") 4 2
    ∷ gives (put 2 "7 2 33 2") 4 2
    ∷ gives (put 2 "7 2 1 65") 4 2
    ∷ gives (put 2 "63001 2 1 2") 3 2
    ∷ gives (ascii "p letters gens basis\n2 1 0 0\nkind item coef word\nkind item coef left of right\n") 0 0
    ∷ gives (put 11 "B 1 0 - 1 -") 5 11
    ∷ gives (put 11 "B 1 8 - 1 -") 5 11
    ∷ gives (put 4 "G 0 1 aa") 5 4
    ∷ gives (put 4 "G 2 1 aa") 5 4
    ∷ gives (put 15 "O 0 1 - 2 -") 5 15
    ∷ gives (put 2 "7 2 0 2") 5 4
    ∷ gives (put 11 "B 1 1 - 2 -") 5 11
    ∷ gives (put 14 "G 1 1 - 3 -") 5 14
    ∷ gives (put 4 "G 1 1 ac") 5 4
    ∷ gives (put 11 "B 1 1 aaaaaaaaaaaaaaaaaaaaaaaa 1 aaaaaaaaaaaaaaaaaaaaaaaa") 0 0
    ∷ gives (put 11 "B 1 1 aaaaaaaaaaaaaaaaaaaaaaaaa 1 -") 5 11
    ∷ []

-- Falling is strict (A16), kinds and items do not fall (A17), 5 before 6 before 7 (A18), the order of words is not that of bytes (A43).
pub orders : List Case
unfolding put behind many_terms
orders =
    gives (put 5 "G 1 6 aa") 6 5
    ∷ gives (put 9 "G 1 6 ba") 6 9
    ∷ gives (behind "B 2 1 - 1 -\n") 6 18
    ∷ gives (put 5 "G 1 7 aa") 5 5
    ∷ gives (many_terms 48 "G 1 1 aaaaaa\n") 6 52
    ∷ gives (text (set (set lines_e 7 (ascii "B 2 1 ba")) 8 (ascii "B 2 6 ab"))) 6 9
    ∷ []

pub document_answered : all_answered document ≡ true
unfolding all_answered document
document_answered = refl

pub shapes_answered : all_answered shapes ≡ true
unfolding all_answered shapes
shapes_answered = refl

pub bounds_answered : all_answered bounds ≡ true
unfolding all_answered bounds
bounds_answered = refl

pub orders_answered : all_answered orders ≡ true
unfolding all_answered orders
orders_answered = refl

-- What E is read as, whole.
term_line : ℕ → ℕ → ℕ → String → TermLine
term_line k i c w = record { kind = k; item = i; coef = c; word = ascii w }

sum_line_of : ℕ → ℕ → ℕ → ℕ → String → ℕ → String → SumLine
sum_line_of n k i c l o r = record { line = n; kind = k; item = i; coef = c; left = ascii l; of = o; right = ascii r }

pub read_e : Package
unfolding term_line sum_line_of
read_e = record {
  head = record { p = 7; letters = 2; gens = 1; basis = 2 };
  terms = term_line term_g 1 1 "aa" ∷ term_line term_g 1 6 "b" ∷ term_line term_b 1 1 "aa" ∷ term_line term_b 1 6 "b" ∷ term_line term_b 2 1 "ab" ∷ term_line term_b 2 6 "ba" ∷ [];
  sums =
      sum_line_of 11 sum_b 1 1 "" 1 ""
      ∷ sum_line_of 12 sum_b 2 1 "" 1 "a"
      ∷ sum_line_of 13 sum_b 2 6 "a" 1 ""
      ∷ sum_line_of 14 sum_g 1 1 "" 1 ""
      ∷ sum_line_of 15 sum_o 1 1 "" 2 ""
      ∷ sum_line_of 16 sum_o 2 1 "" 2 "a"
      ∷ sum_line_of 17 sum_o 2 1 "b" 1 ""
      ∷ [];
}

pub package_read : read_package package_e ≡ read read_e
unfolding read_package package_e read_e
package_read = refl

-- Length (refusal 1, A6).
pub lengths : List Case
lengths = gives (replicate 65537 120) 1 0 ∷ gives (replicate 65536 120) 2 1 ∷ []

-- 1,024 term lines: 32 relations and 32 basis polynomials of 16 terms, and a line behind them (A19).
item_lines_of : String → ℕ → List (List ℕ)
unfolding words write_number
item_lines_of kind zero = []
item_lines_of kind (suc i) = item_lines_of kind i ++ map (λ w. ascii kind ++ (32 ∷ write_number (suc i)) ++ ascii " 1 " ++ w) (words 4)

pub full_block : String → List ℕ
unfolding text item_lines_of
full_block line =
    text (ascii "p letters gens basis" ∷ ascii "7 2 32 33" ∷ ascii "kind item coef word" ∷ item_lines_of "G" 32 ++ item_lines_of "B" 32)
    ++ ascii line
    ++ ascii "kind item coef left of right\n"

pub full : List Case
unfolding full_block
full = gives (full_block "") 0 0 ∷ gives (full_block "B 33 1 a\n") 7 1028 ∷ gives (full_block "B 33 1 a-\n") 2 1028 ∷ []

pub full_answered : all_answered full ≡ true
unfolding all_answered full
full_answered = refl

pub lengths_answered : all_answered lengths ≡ true
unfolding all_answered lengths
lengths_answered = refl

-- Formulas under E (A31, A32, A43, A44): a text, and the line that 16 names, or 0 and the number of terms.
pub data FormulaCase : Type 0 where
  says : List ℕ → ℕ → ℕ → FormulaCase

pub formula_answers : ℕ → ℕ → FormulaOutcome → Bool
formula_answers n k (wrong_at m) = eqb n m
formula_answers n k (formula ts) = elim (eqb n 0) [ true ↦ eqb k (length ts) | false ↦ false ]

pub all_said : List FormulaCase → Bool
unfolding formula_answers read_formula
all_said [] = true
all_said (says b n k ∷ rs) = elim (formula_answers n k (read_formula 7 2 package_limits b)) [ true ↦ all_said rs | false ↦ false ]

pub formula_terms : ℕ → List ℕ
unfolding text words
formula_terms n = text (ascii "coef word" ∷ map (λ w. ascii "1 " ++ w) (take n (words 6)))

pub formulas : List FormulaCase
unfolding formula_terms
formulas =
    says (ascii "coef word\n") 0 0
    ∷ says (ascii "coef word\n1 a\n1 b\n") 0 2
    ∷ says (ascii "coef word\n0 a\n") 2 0
    ∷ says [] 1 0
    ∷ says (ascii "coef word") 1 0
    ∷ says (ascii "coef words\n") 1 0
    ∷ says (ascii "coef word\n7 a\n") 2 0
    ∷ says (ascii "coef word\n1 c\n") 2 0
    ∷ says (ascii "coef word\n1 bbbbbbbbbbbbbbbbbbbbbbbbb\n") 2 0
    ∷ says (ascii "coef word\n1 bbbbbbbbbbbbbbbbbbbbbbbb\n") 0 1
    ∷ says (ascii "coef word\n1 b\n1 a\n") 3 0
    ∷ says (ascii "coef word\n1 a\n1 a\n") 3 0
    ∷ says (ascii "coef word\n1 a\n\n") 3 0
    ∷ says (ascii "coef word\n1 a\n1 b") 3 0
    ∷ says (formula_terms 48) 0 48
    ∷ says (formula_terms 49) 50 0
    ∷ []

pub formulas_said : all_said formulas ≡ true
unfolding all_said formulas
formulas_said = refl
