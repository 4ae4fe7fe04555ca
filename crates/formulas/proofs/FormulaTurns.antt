-- The terms of a formula, turn by turn, and what the lent slices hold after a store.
use mathlib.Core.Path.{◌≡◌, refl}
use mathlib.Core.Bool.{true, false}
use mathlib.Core.Logic.{◌≢◌}
use mathlib.Core.List.{List, [], ◌∷◌, ◌++◌}
use Prim.Native.Nat.{ℕ, zero, suc, ◌+◌, ◌-◌, ◌≤◌, ◌<◌}
use native.Mathlib.Numerals.{add-one}
use native.Mathlib.Omega.{arith}
use native.Mathlib.Decide.{ℕ_discrete}
use lib.ListN.{length, get_or, drop, set, length-append, drop_of_length-le}
use lib.Seq.{drop-cons, get_or-set_same, get_or-set_other}
use Rattle.algebra.specs.Poly.{Term}
use Rattle.package.specs.Formula.{wrong_at, formula, no_row, row, judge_row, rows_end_of, rows, formula_lines, read_formula}
use Rattle.package.specs.Held.{WordsInside, rows_held}
use Rattle.package.specs.Names.{formula_names}
use Rattle.package.specs.declared.Limits.{Limits}
use Rattle.text.proofs.Cutting.{cut-more, cut-end}
use Rattle.lists.specs.Same.{same}
use Rattle.text.specs.Pieces.{pieces, lines, stop, part}

module _ (p letters : ℕ) (lim : Limits) (v : List ℕ) (ts : List Term) (line : ℕ) (s : List ℕ) (at : ℕ) where
  pub rows_end : length s ≤ at → formula ts ≡ rows p letters lim v ts line (lines (drop at s))
  unfolding rows pieces rows_end_of
  rows_end z = rw (drop_of_length-le s z)

  module _ (e : ℕ) (q : e ≡ at + stop 10 (drop at s)) where
    pub rows_missing : at < length s → length s ≤ e → wrong_at line ≡ rows p letters lim v ts line (lines (drop at s))
    unfolding rows rows_end_of
    rows_missing y z = rw (cut-end 10 s at e q z, drop-cons s at 0 y)

    module _ (z : e < length s) where
      pub rows_wrong : judge_row p letters lim v (length ts) (part s at (e - at)) ≡ no_row → wrong_at line ≡ rows p letters lim v ts line (lines (drop at s))
      unfolding rows
      rows_wrong j = rw (cut-more 10 s at e q z, rows, j)

      pub rows_more : (c : ℕ) (w : List ℕ) → judge_row p letters lim v (length ts) (part s at (e - at)) ≡ row c w
          → rows p letters lim w (ts ++ (record { coef = c; word = w } ∷ [])) (line + 1) (lines (drop (e + 1) s)) ≡ rows p letters lim v ts line (lines (drop at s))
      unfolding rows
      rows_more c w j = rw (cut-more 10 s at e q z, rows, j, add-one line)

-- What the slices hold.
module _ (s cs os ls : List ℕ) where
  pub rows-length : (n : ℕ) → length (rows_held s cs os ls n) ≡ n
  unfolding rows_held
  rows-length zero = refl
  rows-length (suc n) = rw length-append (omega (arith, rows-length n))

  module _ (n c o l : ℕ) where
    rows_before : (m : ℕ) → m ≤ n → rows_held s (set cs n c) (set os n o) (set ls n l) m ≡ rows_held s cs os ls m
    unfolding rows_held
    rows_before zero h = refl
    rows_before (suc m) h =
        let d : m ≢ n = λ e. omega arith in
        rw (rows_before m (omega arith), get_or-set_other cs n m c 0 d, get_or-set_other os n m o 0 d, get_or-set_other ls n m l 0 d)

    rows-stored : n < length cs → n < length os → n < length ls
        → rows_held s (set cs n c) (set os n o) (set ls n l) (suc n) ≡ rows_held s cs os ls n ++ (record { coef = c; word = part s o l } ∷ [])
    unfolding rows_held
    rows-stored d e f = rw (rows_before n (omega arith), get_or-set_same cs n c 0 d, get_or-set_same os n o 0 e, get_or-set_same ls n l 0 f)

-- A turn that stores a term: the slices after it are cs', os', ls', the line's end is e.
module _ (p letters : ℕ) (lim : Limits) (v s cs os ls : List ℕ) (n line at e c o l : ℕ) (cs' os' ls' : List ℕ)
    (a : cs' ≡ set cs n c) (b : os' ≡ set os n o) (d : ls' ≡ set ls n l) (x : n < length cs) (y : n < length os) (z : n < length ls) where
  pub rows_again : e ≡ at + stop 10 (drop at s) → e < length s → judge_row p letters lim v n (part s at (e - at)) ≡ row c (part s o l)
      → rows p letters lim (part s o l) (rows_held s cs' os' ls' (n + 1)) (line + 1) (lines (drop (e + 1) s)) ≡ rows p letters lim v
      (rows_held s cs os ls n) line (lines (drop at s))
  rows_again q w j =
      let j' : judge_row p letters lim v (length (rows_held s cs os ls n)) (part s at (e - at)) ≡ row c (part s o l) = rw (rows-length s cs os ls n) j in
      rw (a, b, d, add-one n, rows-stored s cs os ls n c o l x y z) (rows_more p letters lim v (rows_held s cs os ls n) line s at e q w c (part s o l) j')

  pub rows_inside : o + l ≤ length s → WordsInside s os ls n → WordsInside s os' ls' (n + 1)
  rows_inside r h i g = go (ℕ_discrete i n)
    where
      go : Dec (i ≡ n) → get_or os' i 0 + get_or ls' i 0 ≤ length s
      go (yes f) = rw (b, d, f, get_or-set_same os n o 0 y, get_or-set_same ls n l 0 z) r
      go (no f) = rw (b, d, get_or-set_other os n i o 0 f, get_or-set_other ls n i l 0 f) (h i (omega arith))

-- The names line.
module _ (p letters : ℕ) (lim : Limits) (s : List ℕ) (e : ℕ) (q : e ≡ 0 + stop 10 (drop 0 s)) where
  pub formula_missing : length s ≤ e → wrong_at 1 ≡ read_formula p letters lim s
  unfolding read_formula formula_lines
  formula_missing z = rw (read_formula, cut-end 10 s 0 e q z)

  module _ (z : e < length s) where
    pub formula_unnamed : same (part s 0 (e - 0)) formula_names ≡ false → wrong_at 1 ≡ read_formula p letters lim s
    unfolding read_formula formula_lines
    formula_unnamed m = rw (read_formula, cut-more 10 s 0 e q z, formula_lines, m)

    pub formula_rows : same (part s 0 (e - 0)) formula_names ≡ true → rows p letters lim [] [] 2 (lines (drop (e + 1) s)) ≡ read_formula p letters lim s
    unfolding read_formula formula_lines
    formula_rows m = rw (read_formula, cut-more 10 s 0 e q z, formula_lines, m)
