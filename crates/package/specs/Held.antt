-- What the answers of the readers and the lent slices hold: numbers and places are read as counts, terms and sum lines.
use Rattle.std.specs.Prelude.{◌≡◌, List, [], ◌∷◌, ◌++◌, ℕ, zero, suc, ◌+◌, ◌≤◌, ◌<◌, length, get_or, drop, Option, Some, None, Result, Ok, Err}
use Rattle.algebra.specs.Poly.{Term}
use Rattle.package.specs.Answer.{Answer, refused, read}
use Rattle.package.specs.Formula.{FormulaOutcome, wrong_at, formula, TermRow, no_row, row}
use Rattle.package.specs.Head.{HeadForm, no_head, head}
use Rattle.package.specs.Items.{slot, first_of}
use Rattle.package.specs.Package.{Outcome, CountsBlock, HeadBlock, first_sum}
use Rattle.package.specs.Sums.{SumForm, no_sum, sum, sum_form, sums_read, block3, sums_of}
use Rattle.package.specs.Terms.{TermLine, TermForm, no_term, term, LineAbove, TermVerdict, refused_by, accept, TermBlock, terms_read}
use Rattle.package.specs.declared.CountsAt.{CountsAt}
use Rattle.package.specs.declared.Head.{Head}
use Rattle.package.specs.declared.HeadAt.{HeadAt}
use Rattle.package.specs.declared.Last.{Last}
use Rattle.package.specs.declared.Limits.{Limits}
use Rattle.package.specs.declared.PackageAt.{PackageAt}
use Rattle.package.specs.declared.Refusal.{Refusal}
use Rattle.package.specs.declared.RowAt.{RowAt}
use Rattle.package.specs.declared.SumAt.{SumAt}
use Rattle.package.specs.declared.TermAt.{TermAt}
use Rattle.package.specs.declared.TermsAt.{TermsAt}
use Rattle.text.specs.Answers.{seen_word_until}
use Rattle.text.specs.Field.{GotWord}
use Rattle.text.specs.Pieces.{Pieces, final, piece, pieces, lines, fields, part}
use Rattle.text.specs.declared.WordAt.{WordAt}

-- A names line of the text s.
unfoldable pub seen_names : List ℕ → Result ℕ Refusal → Answer Pieces
unfolding pieces
seen_names s (Err r) = refused r.number r.place
seen_names s (Ok e) = read (lines (drop e s))

-- The line behind it starts in the text.
unfoldable pub NamesHeld : List ℕ → Result ℕ Refusal → Type 0
NamesHeld s (Err r) = Unit {0}
NamesHeld s (Ok e) = e ≤ length s

-- The value line of block 1.
unfoldable pub seen_head : Option Head → HeadForm
seen_head None = no_head
seen_head (Some h) = head h

-- Line 2 of the text s.
unfoldable pub seen_counts : List ℕ → Result CountsAt Refusal → Answer CountsBlock
unfolding pieces
seen_counts s (Err r) = refused r.number r.place
seen_counts s (Ok c) = read (record { head = c.head; rest = lines (drop c.at s) })

-- Counts that are not refused are in bounds, and the line behind them starts in the text.
unfoldable pub CountsHeld : List ℕ → Result CountsAt Refusal → Type 0
CountsHeld s (Err r) = Unit {0}
CountsHeld s (Ok c) = ((c.head.letters ≤ 26) × (c.head.gens ≤ 32) × (c.head.basis ≤ 64)) × (c.at ≤ length s)

-- The head lines of the text s.
unfoldable pub seen_head_lines : List ℕ → Result HeadAt Refusal → Answer HeadBlock
unfolding pieces
seen_head_lines s (Err r) = refused r.number r.place
seen_head_lines s (Ok b) = read (record { head = b.head; line = b.line; rest = lines (drop b.at s) })

-- Head lines that are not refused leave counts in bounds, and a line that starts in the text. Each line takes a byte or more, but for four.
unfoldable pub HeadHeld : List ℕ → Result HeadAt Refusal → Type 0
HeadHeld s (Err r) = Unit {0}
HeadHeld s (Ok b) =
    ((b.head.letters ≤ 26) × (b.head.gens ≤ 32) × (b.head.basis ≤ 64)) × (b.at ≤ length s) × (b.line ≤ b.at + 4)

-- A term line of the line l.
unfoldable pub seen_term : List ℕ → Option TermAt → TermForm
seen_term l None = no_term
seen_term l (Some t) = term t.kind t.item t.coef (part l t.start t.len)

-- Where its word ends.
unfoldable pub reach : Option TermAt → ℕ
reach None = 0
reach (Some t) = t.start + t.len

-- What a term line of s is judged.
unfoldable pub seen_judged : List ℕ → Result TermAt Refusal → TermVerdict
seen_judged s (Err r) = refused_by r.number
seen_judged s (Ok t) = accept t.kind t.item t.coef (part s t.start t.len)

-- Where its word ends.
unfoldable pub reach_judged : Result TermAt Refusal → ℕ
reach_judged (Err r) = 0
reach_judged (Ok t) = t.start + t.len

-- The line above.
abbrev pub above_of : List ℕ → Last → LineAbove
above_of s last = record { kind = last.kind; item = last.item; word = part s last.start last.len; count = last.count }

-- The term at the place n of the slices, and the first n terms that they hold.
abbrev pub held_term : List ℕ → List ℕ → List ℕ → List ℕ → List ℕ → List ℕ → ℕ → TermLine
held_term s ks is cs os ls n = record { kind = get_or ks n 0; item = get_or is n 0; coef = get_or cs n 0; word = part s (get_or os n 0) (get_or ls n 0) }

unfoldable pub held_terms : List ℕ → List ℕ → List ℕ → List ℕ → List ℕ → List ℕ → ℕ → List TermLine
held_terms s ks is cs os ls zero = []
held_terms s ks is cs os ls (suc n) = held_terms s ks is cs os ls n ++ (held_term s ks is cs os ls n ∷ [])

-- Block 2 of the text s, behind the counts h.
unfoldable pub seen_terms : Head → List ℕ → List ℕ → List ℕ → List ℕ → List ℕ → List ℕ → Result TermsAt Refusal → Answer TermBlock
unfolding held_terms pieces
seen_terms h s ks is cs os ls (Err r) = refused r.number r.place
seen_terms h s ks is cs os ls (Ok t) = terms_read h (held_terms s ks is cs os ls t.terms) t.line (lines (drop t.at s))

-- Every word that the slices hold lies in the bytes.
abbrev pub WordsInside : List ℕ → List ℕ → List ℕ → ℕ → Type 0
WordsInside s os ls n = (i : ℕ) → i < n → get_or os i 0 + get_or ls i 0 ≤ length s

-- Terms that are not refused are at most 1,024, their words lie in the text, and the first sum line starts in it. Each line takes a byte or more, but for four.
unfoldable pub TermsHeld : List ℕ → List ℕ → List ℕ → Result TermsAt Refusal → Type 0
TermsHeld s os ls (Err r) = Unit {0}
TermsHeld s os ls (Ok t) = ((t.terms ≤ 1024) × WordsInside s os ls t.terms) × (t.at ≤ length s) × (t.line ≤ t.at + 4)

-- The numbers of the items of the first n terms.
unfoldable pub slots_held : Head → List ℕ → List ℕ → ℕ → List ℕ
unfolding slot
slots_held h ks is zero = []
slots_held h ks is (suc n) = slots_held h ks is n ++ (slot h (get_or ks n 0) (get_or is n 0) ∷ [])

-- A word read in the text s from the place at on, with the lines behind it.
unfoldable pub seen_line_word : List ℕ → ℕ → Option WordAt → GotWord
unfolding seen_word_until
seen_line_word s at w = seen_word_until 10 s at w

-- A sum line and the lines behind it.
pub data GotSum : Type 0 where
  none_sum : GotSum
  some_sum : ℕ → ℕ → ℕ → List ℕ → ℕ → List ℕ → Pieces → GotSum

-- What a line says, with the lines behind it.
unfoldable pub got_sum_of : SumForm → Pieces → GotSum
got_sum_of no_sum ls = none_sum
got_sum_of (sum k i c l o r) ls = some_sum k i c l o r ls

-- The next line, which is ended, and is a sum line.
unfoldable pub next_sum : Pieces → GotSum
unfolding got_sum_of sum_form pieces
next_sum (final x) = none_sum
next_sum (piece l ls) = got_sum_of (sum_form (fields l)) ls

-- A sum line read in the text s, with the lines behind it.
unfoldable pub seen_sum : List ℕ → Option SumAt → GotSum
unfolding pieces
seen_sum s None = none_sum
seen_sum s (Some t) = some_sum t.kind t.item t.coef (part s t.left t.left_len) t.of (part s t.right t.right_len) (lines (drop t.next s))

-- If it stands at the place at, its words lie in the text, and it ends behind the place.
unfoldable pub SumInside : List ℕ → ℕ → Option SumAt → Type 0
SumInside s at None = Unit {0}
SumInside s at (Some t) = (t.left + t.left_len ≤ length s) × (t.right + t.right_len ≤ length s) × (at < t.next) × (t.next ≤ length s)

-- The item of a sum line and the number of the polynomial that it names have at most 32 bits.
abbrev pub Numbers32 : SumAt → Type 0
Numbers32 t = (t.item < 4294967296) × (t.of < 4294967296)

-- What line n of the text s is judged: block 3 ends with a refusal, or it goes on behind the line.
unfoldable pub seen_sum_judged : Head → Limits → List ℕ → ℕ → Result SumAt Refusal → Answer (Unit {0})
unfolding block3 pieces
seen_sum_judged h lim s n (Err r) = refused r.number n
seen_sum_judged h lim s n (Ok t) = block3 h lim t.kind t.item (suc n) (lines (drop t.next s))

-- If it stands at the place at, it ends behind the place.
unfoldable pub JudgedInside : List ℕ → ℕ → Result SumAt Refusal → Type 0
JudgedInside s at (Err r) = Unit {0}
JudgedInside s at (Ok t) = (at < t.next) × (t.next ≤ length s)

-- Block 3.
unfoldable pub seen_sums : Result (Unit {0}) Refusal → Answer (Unit {0})
seen_sums (Err r) = refused r.number r.place
seen_sums (Ok u) = sums_read

-- A package.
unfoldable pub seen_all : List ℕ → List ℕ → List ℕ → List ℕ → List ℕ → List ℕ → Result PackageAt Refusal → Outcome
unfolding held_terms pieces sums_of
seen_all s ks is cs os ls (Err r) = refused r.number r.place
seen_all s ks is cs os ls (Ok p) = read (record { head = p.head; terms = held_terms s ks is cs os ls p.terms; sums = sums_of p.line (lines (drop p.at s)) })

-- Its number of terms, of relations and of basis polynomials, where its sum lines start, and the number of the first of them.
unfoldable pub count_all : Result PackageAt Refusal → ℕ
count_all (Err r) = 0
count_all (Ok p) = p.terms

unfoldable pub gens_all : Result PackageAt Refusal → ℕ
gens_all (Err r) = 0
gens_all (Ok p) = p.head.gens

unfoldable pub basis_all : Result PackageAt Refusal → ℕ
basis_all (Err r) = 0
basis_all (Ok p) = p.head.basis

unfoldable pub spot_all : Result PackageAt Refusal → ℕ
spot_all (Err r) = 0
spot_all (Ok p) = p.at

unfoldable pub line_all : Result PackageAt Refusal → ℕ
line_all (Err r) = 0
line_all (Ok p) = p.line

-- Where a package reads, its first sum line has the number behind the terms.
unfoldable pub LineHeld : Result PackageAt Refusal → Type 0
LineHeld (Err r) = Unit {0}
LineHeld (Ok p) = p.line ≡ first_sum p.terms

-- For each item number j up to the one after the last, fs says where the terms of item j start among the first n.
abbrev pub StartsMarked : Head → List ℕ → List ℕ → ℕ → List ℕ → Type 0
StartsMarked h ks is n fs = (j : ℕ) → j < h.gens + h.basis + 2 → get_or fs j 0 ≡ first_of j (slots_held h ks is n)

unfoldable pub FirstsHeld : List ℕ → List ℕ → List ℕ → Result PackageAt Refusal → Type 0
unfolding slots_held first_of
FirstsHeld ks is fs (Err r) = Unit {0}
FirstsHeld ks is fs (Ok p) = StartsMarked p.head ks is p.terms fs

-- A term of a formula in the line l, and where its word ends.
unfoldable pub seen_row : List ℕ → Option RowAt → TermRow
seen_row l None = no_row
seen_row l (Some t) = row t.coef (part l t.start t.len)

unfoldable pub reach_row : Option RowAt → ℕ
reach_row None = 0
reach_row (Some t) = t.start + t.len

-- The first n terms of a formula that the slices hold.
unfoldable pub rows_held : List ℕ → List ℕ → List ℕ → List ℕ → ℕ → List Term
rows_held s cs os ls zero = []
rows_held s cs os ls (suc n) = rows_held s cs os ls n ++ (record { coef = get_or cs n 0; word = part s (get_or os n 0) (get_or ls n 0) } ∷ [])

-- A formula, and its number of terms.
unfoldable pub seen_formula : List ℕ → List ℕ → List ℕ → List ℕ → Result ℕ Refusal → FormulaOutcome
unfolding rows_held
seen_formula s cs os ls (Err r) = wrong_at r.place
seen_formula s cs os ls (Ok n) = formula (rows_held s cs os ls n)

unfoldable pub count_formula : Result ℕ Refusal → ℕ
count_formula (Err r) = 0
count_formula (Ok n) = n
