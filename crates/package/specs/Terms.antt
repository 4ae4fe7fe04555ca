-- Block 2 holds terms: all G (relations), then all B (basis), items not falling, words of one item falling.
use Rattle.std.specs.Prelude.{Bool, true, false, List, [], ◌∷◌, ◌++◌, ℕ, suc, ltb, eqb, length}
use Rattle.package.specs.Answer.{Answer, refused, read}
use Rattle.package.specs.Bounds.{coef_fits, word_fits_of}
use Rattle.words.specs.Below.{is_below}
use Rattle.package.specs.Names.{sum_names, term_kinds, term_g}
use Rattle.package.specs.declared.Head.{Head}
use Rattle.package.specs.declared.Limits.{Limits}
use Rattle.text.specs.Bytes.{within}
use Rattle.lists.specs.Same.{same}
use Rattle.text.specs.Field.{none, some, num_then, word_last, rank}
use Rattle.text.specs.Number.{number}
use Rattle.text.specs.Pieces.{Pieces, final, piece, pieces, fields}
use Rattle.text.specs.Word.{no_word, word}

-- A term line; the kind goes by its rank.
pub record TermLine : Type 0 where
  pub kind : ℕ
  pub item : ℕ
  pub coef : ℕ
  pub word : List ℕ

-- What a line says as a term line.
pub data TermForm : Type 0 where
  no_term : TermForm
  term : ℕ → ℕ → ℕ → List ℕ → TermForm

-- Four fields: kind item coef word.
unfoldable pub term_form : Pieces → TermForm
unfolding num_then word_last rank number
term_form ps = elim (num_then (rank term_kinds) ps) [
  | none ↦ no_term
  | some k ps₁ ↦ elim (num_then number ps₁) [
    | none ↦ no_term
    | some i ps₂ ↦ elim (num_then number ps₂) [
      | none ↦ no_term
      | some c ps₃ ↦ elim (word_last ps₃) [ no_word ↦ no_term | word w ↦ term k i c w ]
    ]
  ]
]

-- How many items a kind of block 2 has: relations for G, basis polynomials for B.
unfoldable pub items_of : Head → ℕ → ℕ
items_of h k = elim (eqb k term_g) [ true ↦ h.gens | false ↦ h.basis ]

-- Not refusal 5: item, coef, letters and word length are in bounds.
unfoldable pub term_fits : Head → Limits → ℕ → ℕ → ℕ → List ℕ → Bool
unfolding within items_of coef_fits word_fits_of
term_fits h m k i c w = elim (within 1 (items_of h k) i) [
  | false ↦ false
  | true ↦ elim (coef_fits h.p c) [ false ↦ false | true ↦ word_fits_of m.len h.letters w ]
]

-- What is known of the line above: its kind, item and word, and how many terms its item has so far.
pub record LineAbove : Type 0 where
  pub kind : ℕ
  pub item : ℕ
  pub word : List ℕ
  pub count : ℕ

-- Above the first line stands none: kind 0, which no line has.
unfoldable pub start : LineAbove
start = record { kind = 0; item = 0; word = []; count = 0 }

-- Not refusal 6: all G, then all B, items not falling, words of one item falling.
unfoldable pub follows : LineAbove → ℕ → ℕ → List ℕ → Bool
unfolding is_below
follows a k i w = elim (eqb k a.kind) [
  | false ↦ ltb a.kind k
  | true ↦ elim (eqb i a.item) [ false ↦ ltb a.item i | true ↦ is_below w a.word ]
]

-- How many terms the item has with this line.
unfoldable pub counted : LineAbove → ℕ → ℕ → ℕ
counted a k i = elim (eqb k a.kind) [ false ↦ 1 | true ↦ elim (eqb i a.item) [ false ↦ 1 | true ↦ suc a.count ] ]

-- Not refusal 7: neither one term of an item too many nor the 1,025th term line.
unfoldable pub has_room : Limits → LineAbove → ℕ → ℕ → ℕ → Bool
unfolding counted
has_room m a total k i = elim (ltb m.terms (counted a k i)) [ true ↦ false | false ↦ ltb total 1024 ]

-- What a term line is judged: refused by a number, or in order.
pub data TermVerdict : Type 0 where
  refused_by : ℕ → TermVerdict
  accept : ℕ → ℕ → ℕ → List ℕ → TermVerdict

-- In one line 2, 5, 6, 7.
unfoldable pub judged : Head → Limits → LineAbove → ℕ → TermForm → TermVerdict
unfolding term_fits follows has_room
judged h m a total no_term = refused_by 2
judged h m a total (term k i c w) = elim (term_fits h m k i c w) [
  | false ↦ refused_by 5
  | true ↦ elim (follows a k i w) [
    | false ↦ refused_by 6
    | true ↦ elim (has_room m a total k i) [ false ↦ refused_by 7 | true ↦ accept k i c w ]
  ]
]

-- The line l from its bytes.
unfoldable pub judge_term : Head → Limits → LineAbove → ℕ → List ℕ → TermVerdict
unfolding judged term_form pieces
judge_term h m a total l = judged h m a total (term_form (fields l))

-- What block 2 leaves: the counts above it, its terms, the number of the line below it, and the lines from there on.
pub record TermBlock : Type 0 where
  pub head : Head
  pub terms : List TermLine
  pub line : ℕ
  pub rest : Pieces

-- Block 2, read with these.
abbrev pub terms_read : Head → List TermLine → ℕ → Pieces → Answer TermBlock
terms_read h ts n ls = read (record { head = h; terms = ts; line = n; rest = ls })

-- Term lines from line n on down to the names line of block 3, behind the terms ts.
unfoldable pub block2 : Head → Limits → LineAbove → List TermLine → ℕ → Pieces → Answer TermBlock
unfolding judge_term counted same
block2 h m a ts n (final x) = refused 2 n
block2 h m a ts n (piece l ls) = elim (same l sum_names) [
  | true ↦ terms_read h ts (suc n) ls
  | false ↦ elim (judge_term h m a (length ts) l) [
    | refused_by r ↦ refused r n
    | accept k i c w ↦
        block2 h m (record { kind = k; item = i; word = w; count = counted a k i }) (ts ++ (record { kind = k; item = i; coef = c; word = w } ∷ [])) (suc n) ls
  ]
]
