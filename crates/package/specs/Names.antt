-- The names lines and the kinds: each names line must be these bytes and no others.
use Rattle.std.specs.Prelude.{List, ℕ}
use Rattle.text.specs.Ascii.{ascii}

-- Block 1: p, the number of letters, of relations and of basis polynomials.
abbrev pub head_names : List ℕ
head_names = ascii "p letters gens basis"

-- Block 2: terms.
abbrev pub term_names : List ℕ
term_names = ascii "kind item coef word"

-- Block 3: sum lines.
abbrev pub sum_names : List ℕ
sum_names = ascii "kind item coef left of right"

-- A formula.
abbrev pub formula_names : List ℕ
formula_names = ascii "coef word"

-- The kinds of block 2 in their order: G (relations), then B (basis). A kind goes by its rank, its place in this list counted from 1.
abbrev pub term_kinds : List ℕ
term_kinds = ascii "GB"

-- The ranks of the kinds of block 2. Terms of relations.
abbrev pub term_g : ℕ
term_g = 1

-- Terms of basis polynomials.
abbrev pub term_b : ℕ
term_b = 2

-- The kinds of block 3 in their order: B, then G, then O (overlaps and inclusions).
abbrev pub sum_kinds : List ℕ
sum_kinds = ascii "BGO"

-- The ranks of the kinds of block 3. Sums that equal basis polynomials.
abbrev pub sum_b : ℕ
sum_b = 1

-- Sums that equal relations.
abbrev pub sum_g : ℕ
sum_g = 2

-- Sums that equal differences of overlaps and inclusions.
abbrev pub sum_o : ℕ
sum_o = 3
