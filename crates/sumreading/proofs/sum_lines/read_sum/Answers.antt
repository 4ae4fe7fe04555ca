-- `read_sum` reads what `sum_form` gives, field by field.
use mathlib.Core.Path.{sym}
use native.Mathlib.Omega.{arith}
use borrow.Author.Rules.{rules}
use lib.ListN.{drop}
use Rattle.package.specs.Held.{seen_sum, SumInside, seen_line_word}
use Rattle.text.specs.Answers.{seen_num, next_num, seen_word_at, next_word, span_word}
use Rattle.text.specs.Pieces.{lines, part}
use Rattle.sumreading.proofs.LineFields.{line-kind, line-item, line-coef, line-left, line_of, line-right, line-sum, line-behind, further}
use Rattle.sumreading.proofs.sum_lines.read_sum.Goals as goal

pub returns-in_err-kind : goal.returns-in_err-kind
unfolding seen_sum seen_num SumInside
returns-in_err-kind c =
    let a = c.args in
    let s = a.s.now in
    rw c.from_residual.ensures (record {
      result_value = line-kind (drop a.at s) s (sym c.in_err-kind.ensures.result_value);
      sum_inside = tt;
      numbers = tt;
    })

pub inner_number-requires : goal.inner_number-requires
unfolding next_num
inner_number-requires c = c.in_ok-kind.ensures.result_in_bounds

pub returns-in_err-item : goal.returns-in_err-item
unfolding seen_sum seen_num SumInside
returns-in_err-item c =
    let a = c.args in
    let s = a.s.now in
    rw c.from_residual-in_err-item.ensures (record {
      result_value = line-item (drop a.at s) c.in_ok-kind.kind.value (drop c.in_ok-kind.kind.next s) (sym c.in_ok-kind.ensures.result_value) s (sym c.in_err-item.ensures.result_value);
      sum_inside = tt;
      numbers = tt;
    })

pub inner_number-requires-2 : goal.inner_number-requires-2
unfolding next_num
inner_number-requires-2 c = c.in_ok-item.ensures.result_in_bounds

pub returns-in_err-coef : goal.returns-in_err-coef
unfolding seen_sum seen_num SumInside
returns-in_err-coef c =
    let a = c.args in
    let s = a.s.now in
    rw c.from_residual-in_err-coef.ensures (record {
      result_value = line-coef (drop a.at s) c.in_ok-kind.kind.value (drop c.in_ok-kind.kind.next s) (sym c.in_ok-kind.ensures.result_value) c.in_ok-item.item.value (drop c.in_ok-item.item.next s) (sym c.in_ok-item.ensures.result_value) s (sym c.in_err-coef.ensures.result_value);
      sum_inside = tt;
      numbers = tt;
    })

pub inner_word-requires : goal.inner_word-requires
unfolding next_num
inner_word-requires c = c.in_ok-coef.ensures.result_in_bounds

pub returns-in_err-left : goal.returns-in_err-left
unfolding seen_sum seen_num seen_word_at SumInside
returns-in_err-left c =
    let a = c.args in
    let s = a.s.now in
    rw c.from_residual-in_err-left.ensures (record {
      result_value = line-left (drop a.at s) c.in_ok-kind.kind.value (drop c.in_ok-kind.kind.next s) (sym c.in_ok-kind.ensures.result_value) c.in_ok-item.item.value (drop c.in_ok-item.item.next s) (sym c.in_ok-item.ensures.result_value) c.in_ok-coef.coef.value (drop c.in_ok-coef.coef.next s) (sym c.in_ok-coef.ensures.result_value) s (sym c.in_err-left.ensures.result_value);
      sum_inside = tt;
      numbers = tt;
    })

pub inner_number-requires-3 : goal.inner_number-requires-3
unfolding next_word
inner_number-requires-3 c = c.in_ok-left.ensures.result_in_bounds

pub returns-in_err-of : goal.returns-in_err-of
unfolding seen_sum seen_num seen_word_at SumInside
returns-in_err-of c =
    let a = c.args in
    let s = a.s.now in
    rw c.from_residual-in_err-of.ensures (record {
      result_value = line_of (drop a.at s) c.in_ok-kind.kind.value (drop c.in_ok-kind.kind.next s) (sym c.in_ok-kind.ensures.result_value) c.in_ok-item.item.value (drop c.in_ok-item.item.next s) (sym c.in_ok-item.ensures.result_value) c.in_ok-coef.coef.value (drop c.in_ok-coef.coef.next s) (sym c.in_ok-coef.ensures.result_value) (part s c.in_ok-coef.coef.next c.in_ok-left.left.len) (drop c.in_ok-left.left.next s) (sym c.in_ok-left.ensures.result_value) s (sym c.in_err-of.ensures.result_value);
      sum_inside = tt;
      numbers = tt;
    })

pub line_word-requires : goal.line_word-requires
unfolding next_num
line_word-requires c = c.in_ok-of.ensures.result_in_bounds

pub returns-in_err-right : goal.returns-in_err-right
unfolding seen_sum seen_num seen_word_at seen_line_word SumInside
returns-in_err-right c =
    let a = c.args in
    let s = a.s.now in
    rw c.from_residual-in_err-right.ensures (record {
      result_value = line-right (drop a.at s) c.in_ok-kind.kind.value (drop c.in_ok-kind.kind.next s) (sym c.in_ok-kind.ensures.result_value) c.in_ok-item.item.value (drop c.in_ok-item.item.next s) (sym c.in_ok-item.ensures.result_value) c.in_ok-coef.coef.value (drop c.in_ok-coef.coef.next s) (sym c.in_ok-coef.ensures.result_value) (part s c.in_ok-coef.coef.next c.in_ok-left.left.len) (drop c.in_ok-left.left.next s) (sym c.in_ok-left.ensures.result_value) c.in_ok-of.of.value (drop c.in_ok-of.of.next s) (sym c.in_ok-of.ensures.result_value) s (sym c.in_err-right.ensures.result_value);
      sum_inside = tt;
      numbers = tt;
    })

pub returns : goal.returns
unfolding seen_sum seen_num seen_word_at seen_line_word next_word span_word SumInside
returns c =
    let a = c.args in
    let s = a.s.now in
    let next = c.in_ok-right.ensures.result_in_bounds in record {
      result_value = line-sum (drop a.at s) c.in_ok-kind.kind.value (drop c.in_ok-kind.kind.next s) (sym c.in_ok-kind.ensures.result_value) c.in_ok-item.item.value (drop c.in_ok-item.item.next s) (sym c.in_ok-item.ensures.result_value) c.in_ok-coef.coef.value (drop c.in_ok-coef.coef.next s) (sym c.in_ok-coef.ensures.result_value) (part s c.in_ok-coef.coef.next c.in_ok-left.left.len) (drop c.in_ok-left.left.next s) (sym c.in_ok-left.ensures.result_value) c.in_ok-of.of.value (drop c.in_ok-of.of.next s) (sym c.in_ok-of.ensures.result_value) (part s c.in_ok-of.of.next c.in_ok-right.right.len) (lines (drop c.in_ok-right.right.next s)) (sym c.in_ok-right.ensures.result_value);
      sum_inside = (
        c.in_ok-left.ensures.result_in_bounds_2,
        c.in_ok-right.ensures.result_in_bounds_2,
        further s a.at c.in_ok-right.right.next (omega arith) next (line-behind (drop a.at s) c.in_ok-kind.kind.value (drop c.in_ok-kind.kind.next s) (sym c.in_ok-kind.ensures.result_value) c.in_ok-item.item.value (drop c.in_ok-item.item.next s) (sym c.in_ok-item.ensures.result_value) c.in_ok-coef.coef.value (drop c.in_ok-coef.coef.next s) (sym c.in_ok-coef.ensures.result_value) (part s c.in_ok-coef.coef.next c.in_ok-left.left.len) (drop c.in_ok-left.left.next s) (sym c.in_ok-left.ensures.result_value) c.in_ok-of.of.value (drop c.in_ok-of.of.next s) (sym c.in_ok-of.ensures.result_value) (part s c.in_ok-of.of.next c.in_ok-right.right.len) (lines (drop c.in_ok-right.right.next s)) (sym c.in_ok-right.ensures.result_value)),
        next,
      );
      numbers = search rules;
    }
