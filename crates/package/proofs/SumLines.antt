-- A sum line, field by field, and what it is judged: one law for each way through a reader.
use mathlib.Core.Path.{◌≡◌}
use mathlib.Core.Bool.{true, false}
use mathlib.Core.List.{List}
use Prim.Native.Nat.{ℕ}
use Rattle.package.specs.Names.{sum_kinds}
use Rattle.package.specs.Sums.{no_sum, sum, sum_form, sum_fits, sum_follows, refused_by, accept, judged3, judge_sum}
use Rattle.package.specs.declared.Head.{Head}
use Rattle.package.specs.declared.Limits.{Limits}
use Rattle.text.specs.Field.{none, some, num_then, none_word, some_word, word_then, word_last, rank}
use Rattle.text.specs.Number.{number}
use Rattle.text.specs.Pieces.{Pieces, fields}
use Rattle.text.specs.Word.{no_word, word}

-- The six fields.
module _ (ps : Pieces) where
  pub sum-kind : num_then (rank sum_kinds) ps ≡ none → no_sum ≡ sum_form ps
  unfolding sum_form
  sum-kind a = rw (sum_form, a)

  module _ (k : ℕ) (ps₁ : Pieces) (a : num_then (rank sum_kinds) ps ≡ some k ps₁) where
    pub sum-item : num_then number ps₁ ≡ none → no_sum ≡ sum_form ps
    unfolding sum_form
    sum-item b = rw (sum_form, a, b)

    module _ (i : ℕ) (ps₂ : Pieces) (b : num_then number ps₁ ≡ some i ps₂) where
      pub sum-coef : num_then number ps₂ ≡ none → no_sum ≡ sum_form ps
      unfolding sum_form
      sum-coef c = rw (sum_form, a, b, c)

      module _ (m : ℕ) (ps₃ : Pieces) (c : num_then number ps₂ ≡ some m ps₃) where
        pub sum_left : word_then ps₃ ≡ none_word → no_sum ≡ sum_form ps
        unfolding sum_form
        sum_left d = rw (sum_form, a, b, c, d)

        module _ (l : List ℕ) (ps₄ : Pieces) (d : word_then ps₃ ≡ some_word l ps₄) where
          pub sum_of : num_then number ps₄ ≡ none → no_sum ≡ sum_form ps
          unfolding sum_form
          sum_of e = rw (sum_form, a, b, c, d, e)

          module _ (o : ℕ) (ps₅ : Pieces) (e : num_then number ps₄ ≡ some o ps₅) where
            pub sum-right : word_last ps₅ ≡ no_word → no_sum ≡ sum_form ps
            unfolding sum_form
            sum-right f = rw (sum_form, a, b, c, d, e, f)

            pub sum-whole : (r : List ℕ) → word_last ps₅ ≡ word r → sum k i m l o r ≡ sum_form ps
            unfolding sum_form
            sum-whole r f = rw (sum_form, a, b, c, d, e, f)

-- Refusals 2, 5, 6 and a line in order.
module _ (h : Head) (lim : Limits) (k' i' : ℕ) (line : List ℕ) where
  pub judge3_2 : sum_form (fields line) ≡ no_sum → refused_by 2 ≡ judge_sum h lim k' i' line
  unfolding judge_sum judged3
  judge3_2 a = rw (judge_sum, a)

  module _ (k i c : ℕ) (l : List ℕ) (o : ℕ) (r : List ℕ) (a : sum_form (fields line) ≡ sum k i c l o r) where
    pub judge3_5 : sum_fits h lim k i c l o r ≡ false → refused_by 5 ≡ judge_sum h lim k' i' line
    unfolding judge_sum judged3
    judge3_5 b = rw (judge_sum, a, judged3, b)

    module _ (b : sum_fits h lim k i c l o r ≡ true) where
      pub judge3_6 : sum_follows k' i' k i ≡ false → refused_by 6 ≡ judge_sum h lim k' i' line
      unfolding judge_sum judged3
      judge3_6 d = rw (judge_sum, a, judged3, b, d)

      pub judge3_0 : sum_follows k' i' k i ≡ true → accept k i ≡ judge_sum h lim k' i' line
      unfolding judge_sum judged3
      judge3_0 d = rw (judge_sum, a, judged3, b, d)
