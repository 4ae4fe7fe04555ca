-- The numbers of a case's head line.
use Rattle.std.specs.Prelude.{true, false, List, [], ◌∷◌, ℕ, ◌+◌, ◌*◌, ◌-◌, min, ltb}
use Rattle.text.specs.Pieces.{part}

-- The number that a byte says as a digit; 0 for a byte that is none. The digit `0` is byte 48, `9` is 57.
unfoldable pub digit : ℕ → ℕ
digit d = elim (ltb d 48) [ true ↦ 0 | false ↦ elim (ltb 57 d) [ true ↦ 0 | false ↦ d - 48 ] ]

-- The number that the digits say behind those that said acc.
unfoldable pub said : ℕ → List ℕ → ℕ
unfolding digit
said acc [] = acc
said acc (d ∷ ds) = said (acc * 10 + digit d) ds

-- The bytes of room that a head line says, 65,536 at most.
unfoldable pub room_said : List ℕ → ℕ
unfolding said
room_said head = min (said 0 (part head 52 5)) 65536

-- The package's bytes that a head line says, 65,537 at most.
unfoldable pub package_said : List ℕ → ℕ
unfolding said
package_said head = min (said 0 (part head 58 5)) 65537

-- The formula's bytes that a head line says.
unfoldable pub formula_said : List ℕ → ℕ
unfolding said
formula_said head = said 0 (part head 64 5)

-- The budget that a head line says, 4,294,967,295 at most.
unfoldable pub budget_said : List ℕ → ℕ
unfolding said
budget_said head = min (said 0 (part head 70 10)) 4294967295
