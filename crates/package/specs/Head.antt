-- Block 1 has one value line: p, which says which field, the number of letters, of relations (generators) and of basis polynomials.
use Rattle.std.specs.Prelude.{◌≡◌, Bool, true, false, ◌⊎◌, ℕ, ◌≤◌, eqb, ltb}
use Rattle.field.specs.Prime.{Prime, is_prime}
use Rattle.package.specs.declared.Head.{Head}
use Rattle.text.specs.Bytes.{within}
use Rattle.text.specs.Field.{none, some, num_then, num_last}
use Rattle.text.specs.Number.{number}
use Rattle.text.specs.Pieces.{Pieces}
use Rattle.std.specs.Prelude.{None, Some}

-- What a line says as the value line of block 1.
pub data HeadForm : Type 0 where
  no_head : HeadForm
  head : Head → HeadForm

-- Four numbers: p letters gens basis.
unfoldable pub head_form : Pieces → HeadForm
unfolding num_then num_last number
head_form ps = elim (num_then number ps) [
  | none ↦ no_head
  | some p ps₁ ↦ elim (num_then number ps₁) [
    | none ↦ no_head
    | some l ps₂ ↦ elim (num_then number ps₂) [
      | none ↦ no_head
      | some g ps₃ ↦ elim (num_last ps₃) [ None ↦ no_head | Some b ↦ head (record { p = p; letters = l; gens = g; basis = b }) ]
    ]
  ]
]

-- The numbers that mean a field: 256, and the primes up to 65,521.
abbrev pub MeansField : ℕ → Type 0
MeansField p = (p ≡ 256) ⊎ (Prime p × (p ≤ 65521))

-- The test for one.
unfoldable pub field_fits : ℕ → Bool
unfolding is_prime
field_fits p = elim (eqb p 256) [ true ↦ true | false ↦ elim (ltb 65521 p) [ true ↦ false | false ↦ is_prime p ] ]

-- Letters 1 to 26; relations 0 to 32; basis 0 to 64.
unfoldable pub counts_fit : Head → Bool
unfolding within
counts_fit h = elim (within 1 26 h.letters) [
  | false ↦ false
  | true ↦ elim (ltb 32 h.gens) [ true ↦ false | false ↦ elim (ltb 64 h.basis) [ true ↦ false | false ↦ true ] ]
]
