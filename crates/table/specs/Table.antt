-- A package that was read is one table of 3,424 numbers. Its sections, by the entry that each starts with:
--     0  the head: p, the letters in use, the relations, the relations of a second house (none as yet), the basis polynomials, the terms
--    16  for each letter its key, code + 32 × weight, at the entry 16 + letter % 32
--    48  for each code its letter + 256 × weight
--    80  for each basis polynomial the inverse of its leading coefficient
--   144  for each basis polynomial the letters of its longest word (0: not filled as yet)
--   208  for each item where its terms start: relations from item 1 on, and the basis behind them
--   352  for each term three numbers: coefficient × 2^32 + size, and the two blocks of its word
-- A size is 256 × weight + number of letters. Contracts cite the names below and in the files beside this one; only the
-- crate that fills the table knows the entries besides.
use Rattle.std.specs.Prelude.{List, ℕ, ◌+◌, ◌*◌, ◌/◌, ◌%◌, get_or, take, drop}
use Rattle.field.specs.Field.{Operations, field_of}
use Rattle.words.specs.Order.{Order, word_order}

-- How many numbers a table has.
abbrev pub table_size : ℕ
table_size = 3424

-- The head's numbers.
abbrev pub prime_in : List ℕ → ℕ
prime_in t = get_or t 0 0

abbrev pub letters_in : List ℕ → ℕ
letters_in t = get_or t 1 0

abbrev pub gens_in : List ℕ → ℕ
gens_in t = get_or t 2 0

abbrev pub basis_count_in : List ℕ → ℕ
basis_count_in t = get_or t 4 0

abbrev pub terms_in : List ℕ → ℕ
terms_in t = get_or t 5 0

-- How many items there are: relations and basis polynomials.
abbrev pub items_in : List ℕ → ℕ
items_in t = gens_in t + basis_count_in t

-- The field of the coefficients, and the order of the words.
abbrev pub field_in : List ℕ → Operations
field_in t = field_of (prime_in t)

abbrev pub order_in : List ℕ → Order
order_in t = word_order

-- The key of the letter a: its code, and its weight.
abbrev pub key_in : List ℕ → ℕ → ℕ
key_in t a = get_or t (16 + a % 32) 0

abbrev pub code_in : List ℕ → ℕ → ℕ
code_in t a = key_in t a % 32

abbrev pub key_weight_in : List ℕ → ℕ → ℕ
key_weight_in t a = key_in t a / 32

-- The letter that the code c stands for, and its weight.
abbrev pub letter_in : List ℕ → ℕ → ℕ
letter_in t c = get_or t (48 + c) 0 % 256

abbrev pub weight_in : List ℕ → ℕ → ℕ
weight_in t c = get_or t (48 + c) 0 / 256

-- The inverse of the leading coefficient of basis polynomial g, from 0.
abbrev pub inverse_in : List ℕ → ℕ → ℕ
inverse_in t g = get_or t (80 + g) 0

-- The number of item j's first term; its terms end before the first of item j + 1.
abbrev pub first_in : List ℕ → ℕ → ℕ
first_in t j = get_or t (208 + j) 0

-- Term i: its coefficient, the size of its word, and the word's two blocks.
abbrev pub coef_in : List ℕ → ℕ → ℕ
coef_in t i = get_or t (352 + 3 * i) 0 / 4294967296

abbrev pub size_in : List ℕ → ℕ → ℕ
size_in t i = get_or t (352 + 3 * i) 0 % 4294967296

abbrev pub blocks_in : List ℕ → ℕ → List ℕ
blocks_in t i = take 2 (drop (353 + 3 * i) t)
