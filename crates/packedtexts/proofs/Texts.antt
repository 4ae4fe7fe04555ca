-- The bytes of a formula line by line: the names line, then term after term.
use mathlib.Core.Path.{◌≡◌, refl, sym, ◌∙◌, ap}
use mathlib.Core.Bool.{Bool, true, false}
use mathlib.Core.List.{List, [], ◌∷◌, ◌++◌, append_assoc}
use Prim.Native.Nat.{ℕ, zero, suc, ◌+◌, ◌-◌, ◌/◌, ◌%◌, ◌≤◌, ◌<◌}
use native.Mathlib.Nat.{sub-zero}
use native.Mathlib.Numerals.{add-one}
use native.Mathlib.Omega.{arith}
use lib.Dec.{ltb}
use lib.ListN.{length, get_or, set, length-append}
use lib.Seq.{sets}
use Rattle.algebra.specs.Poly.{Term, Poly}
use Rattle.text.specs.Ascii.{ascii}
use Rattle.text.specs.Number.{decimal, write_number}
use Rattle.text.specs.Pieces.{joined}
use Rattle.text.specs.Word.{write_word}
use Rattle.lists.proofs.Stores.{sets_append}
use Rattle.working.specs.Change.{single}
use Rattle.working.specs.Working.{terms}
use Rattle.working.proofs.Terms.{terms-next, terms-end, terms_at}
use Rattle.package.specs.Writing.{row_fields, row_lines, write_formula}
use Rattle.packedtexts.specs.FormulaText.{rows_text, row_text}

-- the names line, byte 10 included
abbrev pub names_line : List ℕ
names_line = ascii "coef word\n"

text_names : (f : Poly) → write_formula f ≡ names_line ++ rows_text f
unfolding write_formula rows_text joined
text_names f = refl

rows_next : (t : Term) (f : Poly) → rows_text (t ∷ f) ≡ row_text t.coef t.word ++ rows_text f
unfolding rows_text row_lines row_text joined
rows_next t f = sym (append_assoc (joined 32 (row_fields t.coef t.word)) (10 ∷ []) (joined 10 (row_lines f)))

rows_none : rows_text [] ≡ []
unfolding rows_text row_lines joined
rows_none = refl

-- the four parts of a line
pub row_parts : (c : ℕ) (v : List ℕ) → row_text c v ≡ write_number c ++ (32 ∷ (write_word v ++ (10 ∷ [])))
unfolding row_text row_fields joined
row_parts c v = append_assoc (write_number c) (32 ∷ write_word v) (10 ∷ [])

pub row_length : (c : ℕ) (v : List ℕ) → length (row_text c v) ≡ length (write_number c) + length (write_word v) + 2
row_length c v =
    ap (λ (x : List ℕ). length x) (row_parts c v)
    ∙ length-append (write_number c) (32 ∷ (write_word v ++ (10 ∷ [])))
    ∙ omega (arith, length-append (write_word v) (10 ∷ []))

decimal-length : (k n : ℕ) → length (decimal k n) ≤ suc k
unfolding decimal
decimal-length zero n = omega arith
decimal-length (suc k) n = go (ltb n 10) (decimal-length k (n / 10))
  where
    go : (b : Bool) → length (decimal k (n / 10)) ≤ suc k → length {A = ℕ} (elim b [ true ↦ (48 + n) ∷ [] | false ↦ decimal k (n / 10) ++ ((48 + n % 10) ∷ []) ]) ≤ suc (suc k)
    go true h = omega arith
    go false h = omega (arith, length-append (decimal k (n / 10)) ((48 + n % 10) ∷ []))

-- a number has no more digits than it is great, or one
pub number_length : (n : ℕ) → length (write_number n) ≤ n + 1
unfolding write_number
number_length n = omega (arith, decimal-length n n)

-- a line written in four parts
pub row-stored : (out out1 out2 : List ℕ) (at a b c : ℕ) (v : List ℕ) → out1 ≡ sets out at (write_number c) → a ≡ at + length (write_number c)
    → out2 ≡ sets (set out1 a 32) (a + 1) (write_word v) → b ≡ a + 1 + length (write_word v) → set out2 b 10 ≡ sets out at (row_text c v)
row-stored out out1 out2 at a b c v e d f g =
    let x : sets out at (row_text c v) ≡ sets (set out1 a 32) (suc a) (write_word v ++ (10 ∷ [])) =
    ap (sets out at) (row_parts c v) ∙ sym (sets_append out at (write_number c) (32 ∷ (write_word v ++ (10 ∷ [])))) ∙ rw (← e, ← d) in
    let y : sets (set out1 a 32) (suc a) (write_word v ++ (10 ∷ [])) ≡ set (sets (set out1 a 32) (suc a) (write_word v)) (suc a + length (write_word v)) 10 =
    sym (sets_append (set out1 a 32) (suc a) (write_word v) (10 ∷ [])) in
    rw (f, g, add-one a) (sym (x ∙ y))

-- the text of a run of n terms, whatever holds them
module _ (F : ℕ → Term) (n : ℕ) where
  -- the lines from term k on
  abbrev pub rest_text : ℕ → List ℕ
  rest_text k = rows_text (terms F k (n - k))

  pub rest-next : (k x : ℕ) (v : List ℕ) → k < n → get_or (terms F 0 n) k (single 0 []) ≡ single x v → rest_text k ≡ row_text x v ++ rest_text (k + 1)
  rest-next k x v h e =
      let q : F k ≡ single x v = sym (terms_at F n k (single 0 []) h) ∙ e in
      ap rows_text (terms-next F k n h)
      ∙ rows_next (F k) (terms F (k + 1) (n - (k + 1)))
      ∙ ap (λ (t : Term). row_text t.coef t.word ++ rest_text (k + 1)) q

  pub rest_end : (k : ℕ) → n ≤ k → rest_text k ≡ []
  rest_end k h = ap rows_text (terms-end F k n h) ∙ rows_none

  pub text-start : write_formula (terms F 0 n) ≡ names_line ++ rest_text 0
  text-start = text_names (terms F 0 n) ∙ rw sub-zero

  pub text-start-length : 10 + length (rest_text 0) ≡ length (write_formula (terms F 0 n))
  text-start-length = sym (ap (λ (x : List ℕ). length x) text-start ∙ length-append names_line (rest_text 0))

  -- counted to r before term k
  pub counted_next : (k x r whole : ℕ) (v : List ℕ) → k < n → get_or (terms F 0 n) k (single 0 []) ≡ single x v
      → r + length (rest_text k) ≡ whole → r + length (row_text x v) + length (rest_text (k + 1)) ≡ whole
  counted_next k x r whole v h e s =
      let q : length (rest_text k) ≡ length (row_text x v) + length (rest_text (k + 1)) =
      ap (λ (y : List ℕ). length y) (rest-next k x v h e) ∙ length-append (row_text x v) (rest_text (k + 1)) in
      omega arith

  pub counted-end : (k r whole : ℕ) → n ≤ k → r + length (rest_text k) ≡ whole → r ≡ whole
  counted-end k r whole h s = let q : length (rest_text k) ≡ 0 = ap (λ (y : List ℕ). length y) (rest_end k h) in omega arith

  -- written up to the place at before term k
  pub stored_next : (out out' whole : List ℕ) (at k x : ℕ) (v : List ℕ) → k < n → get_or (terms F 0 n) k (single 0 []) ≡ single x v
      → sets out at (rest_text k) ≡ whole → out' ≡ sets out at (row_text x v) → sets out' (at + length (row_text x v)) (rest_text (k + 1)) ≡ whole
  stored_next out out' whole at k x v h e s d =
      rw d (sets_append out at (row_text x v) (rest_text (k + 1))) ∙ ap (sets out at) (sym (rest-next k x v h e)) ∙ s

  pub stored-start : (out : List ℕ) → sets (sets out 0 names_line) 10 (rest_text 0) ≡ sets out 0 (write_formula (terms F 0 n))
  stored-start out = sets_append out 0 names_line (rest_text 0) ∙ ap (sets out 0) (sym text-start)

  pub stored-end : (out whole : List ℕ) (at k : ℕ) → n ≤ k → sets out at (rest_text k) ≡ whole → out ≡ whole
  stored-end out whole at k h s = sym (ap (sets out at) (rest_end k h)) ∙ s
