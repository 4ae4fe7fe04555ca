-- Block 3 holds sum lines, all B, then G, then O, items not falling; lines of one item in any order, repeats allowed.
use Rattle.std.specs.Prelude.{Bool, true, false, List, [], ◌∷◌, ℕ, suc, leb, ltb, eqb}
use Rattle.package.specs.Answer.{Answer, refused, read}
use Rattle.package.specs.Bounds.{coef_fits, word_fits_of}
use Rattle.package.specs.Names.{sum_kinds, sum_b, sum_g}
use Rattle.package.specs.declared.Head.{Head}
use Rattle.package.specs.declared.Limits.{Limits}
use Rattle.text.specs.Bytes.{within}
use Rattle.text.specs.Field.{none, some, num_then, none_word, some_word, word_then, word_last, rank}
use Rattle.text.specs.Number.{number}
use Rattle.text.specs.Pieces.{Pieces, final, piece, pieces, fields}
use Rattle.text.specs.Word.{no_word, word}

-- A sum line with its line number: it adds coef × left × (polynomial number of) × right.
pub record SumLine : Type 0 where
  pub line : ℕ
  pub kind : ℕ
  pub item : ℕ
  pub coef : ℕ
  pub left : List ℕ
  pub of : ℕ
  pub right : List ℕ

-- What a line says as a sum line.
pub data SumForm : Type 0 where
  no_sum : SumForm
  sum : ℕ → ℕ → ℕ → List ℕ → ℕ → List ℕ → SumForm

-- Six fields: kind item coef left of right.
unfoldable pub sum_form : Pieces → SumForm
unfolding num_then word_then word_last rank number
sum_form ps = elim (num_then (rank sum_kinds) ps) [
  | none ↦ no_sum
  | some k ps₁ ↦ elim (num_then number ps₁) [
    | none ↦ no_sum
    | some i ps₂ ↦ elim (num_then number ps₂) [
      | none ↦ no_sum
      | some c ps₃ ↦ elim (word_then ps₃) [
        | none_word ↦ no_sum
        | some_word l ps₄ ↦ elim (num_then number ps₄) [
          | none ↦ no_sum
          | some o ps₅ ↦ elim (word_last ps₅) [ no_word ↦ no_sum | word r ↦ sum k i c l o r ]
        ]
      ]
    ]
  ]
]

-- The item of a B line is a basis polynomial, of a G line a relation; an O item has no upper bound but refusal 15's.
unfoldable pub sum_item_fits : Head → ℕ → ℕ → Bool
unfolding within
sum_item_fits h k i = elim (eqb k sum_b) [ true ↦ within 1 h.basis i | false ↦ elim (eqb k sum_g) [ true ↦ within 1 h.gens i | false ↦ leb 1 i ] ]

-- `of` names a relation for kind B, a basis polynomial for G and O.
unfoldable pub ofs : Head → ℕ → ℕ
ofs h k = elim (eqb k sum_b) [ true ↦ h.gens | false ↦ h.basis ]

-- Not refusal 5: item, coef, `of`, letters and word lengths are in bounds.
unfoldable pub sum_fits : Head → Limits → ℕ → ℕ → ℕ → List ℕ → ℕ → List ℕ → Bool
unfolding within sum_item_fits coef_fits ofs word_fits_of
sum_fits h m k i c l o r = elim (sum_item_fits h k i) [
  | false ↦ false
  | true ↦ elim (coef_fits h.p c) [
    | false ↦ false
    | true ↦ elim (within 1 (ofs h k) o) [
      | false ↦ false
      | true ↦ elim (word_fits_of m.len h.letters l) [ false ↦ false | true ↦ word_fits_of m.len h.letters r ]
    ]
  ]
]

-- Not refusal 6, behind a line of kind k' and item i' (0 and 0 above the first line): kinds and items do not fall.
unfoldable pub sum_follows : ℕ → ℕ → ℕ → ℕ → Bool
sum_follows k' i' k i = elim (eqb k k') [ false ↦ ltb k' k | true ↦ leb i' i ]

-- What a sum line is judged: refused by a number, or in order, with its kind and item.
pub data SumVerdict : Type 0 where
  refused_by : ℕ → SumVerdict
  accept : ℕ → ℕ → SumVerdict

-- In one line 2, 5, 6.
unfoldable pub judged3 : Head → Limits → ℕ → ℕ → SumForm → SumVerdict
unfolding sum_fits sum_follows
judged3 h m k' i' no_sum = refused_by 2
judged3 h m k' i' (sum k i c l o r) = elim (sum_fits h m k i c l o r) [
  | false ↦ refused_by 5
  | true ↦ elim (sum_follows k' i' k i) [ false ↦ refused_by 6 | true ↦ accept k i ]
]

-- The line l from its bytes.
unfoldable pub judge_sum : Head → Limits → ℕ → ℕ → List ℕ → SumVerdict
unfolding judged3 sum_form pieces
judge_sum h m k' i' l = judged3 h m k' i' (sum_form (fields l))

-- Block 3 leaves nothing behind.
abbrev pub sums_read : Answer (Unit {0})
sums_read = read tt

-- Nothing follows the last byte 10, or else line n is unfinished.
unfoldable pub at_end : ℕ → List ℕ → Answer (Unit {0})
at_end n [] = sums_read
at_end n (x ∷ xs) = refused 2 n

-- Sum lines from line n on, behind a line of kind k' and item i'.
unfoldable pub block3 : Head → Limits → ℕ → ℕ → ℕ → Pieces → Answer (Unit {0})
unfolding judge_sum at_end
block3 h m k' i' n (final x) = at_end n x
block3 h m k' i' n (piece l ls) = elim (judge_sum h m k' i' l) [ refused_by r ↦ refused r n | accept k i ↦ block3 h m k i (suc n) ls ]

-- The sum lines xs, with line n before them where it says one.
unfoldable pub with_sum : ℕ → SumForm → List SumLine → List SumLine
with_sum n no_sum xs = xs
with_sum n (sum k i c l o r) xs = record { line = n; kind = k; item = i; coef = c; left = l; of = o; right = r } ∷ xs

-- The sum lines from line n on, with their numbers.
unfoldable pub sums_of : ℕ → Pieces → List SumLine
unfolding with_sum sum_form pieces
sums_of n (final x) = []
sums_of n (piece l ls) = with_sum n (sum_form (fields l)) (sums_of (suc n) ls)
