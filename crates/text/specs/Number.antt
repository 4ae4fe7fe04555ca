-- Numbers as texts: decimal, one to five digits, no leading zero except `0` itself.
use Rattle.std.specs.Prelude.{true, false, List, [], ◌∷◌, ◌++◌, ℕ, Option, Some, None, zero, suc, ◌+◌, ◌*◌, ◌-◌, ◌/◌, ◌%◌, eqb, ltb, length, get_or}
use Rattle.text.specs.Bytes.{within}

-- The number that the digits say behind those that said acc. The digit `0` is byte 48, `9` is 57.
unfoldable pub digits : ℕ → List ℕ → Option ℕ
unfolding within
digits acc [] = Some acc
digits acc (d ∷ ds) = elim (within 48 57 d) [ true ↦ digits (acc * 10 + (d - 48)) ds | false ↦ None ]

-- The number that a field says.
unfoldable pub number : List ℕ → Option ℕ
unfolding digits
number f = elim (within 1 5 (length f)) [
  | false ↦ None
  | true ↦ elim (eqb (get_or f 0 0) 48) [ true ↦ elim (eqb (length f) 1) [ true ↦ Some 0 | false ↦ None ] | false ↦ digits 0 f ]
]

-- The decimal digits of n: those of n / 10, and behind them the last one. At most k + 1 of them.
unfoldable pub decimal : ℕ → ℕ → List ℕ
decimal zero n = (48 + n) ∷ []
decimal (suc k) n = elim (ltb n 10) [ true ↦ (48 + n) ∷ [] | false ↦ decimal k (n / 10) ++ ((48 + n % 10) ∷ []) ]

-- A number as it is written: it has no more than n + 1 digits.
unfoldable pub write_number : ℕ → List ℕ
unfolding decimal
write_number n = decimal n n
