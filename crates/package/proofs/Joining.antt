-- The head lines and the blocks in a row: one law for each way through the reader.
use mathlib.Core.Path.{◌≡◌, ap}
use mathlib.Core.Bool.{true, false}
use mathlib.Core.List.{List, []}
use Prim.Native.Nat.{ℕ, ◌+◌, ◌-◌, ◌≤◌, ◌<◌}
use native.Mathlib.Omega.{arith}
use lib.ListN.{length, drop}
use borrow.Author.Tests.{lt-ltb, le-ltb}
use Rattle.package.proofs.HeadTexts.{head-lines-text}
use Rattle.package.proofs.TermBlockTexts.{block2-text}
use Rattle.package.specs.Answer.{refused, read, ◌then◌}
use Rattle.package.specs.Head.{no_head, head, head_form, field_fits, counts_fit}
use Rattle.package.specs.Names.{head_names, term_names}
use Rattle.package.specs.Package.{names_line, CountsBlock, counts_judged, counts_line, HeadBlock, first_term, first_sum, term_names_line, head_lines_of, term_block, sum_block, sized, read_with}
use Rattle.package.specs.Sums.{sums_read, block3, sums_of}
use Rattle.package.specs.Terms.{start, TermBlock, block2}
use Rattle.package.specs.declared.Head.{Head}
use Rattle.package.specs.declared.Limits.{Limits}
use Rattle.text.proofs.Cutting.{cut-more, cut-end}
use Rattle.lists.specs.Same.{same}
use Rattle.text.specs.Pieces.{Pieces, lines, fields, stop, part}

-- A names line.
module _ (names : List ℕ) (n : ℕ) (s : List ℕ) (at e : ℕ) (q : e ≡ at + stop 10 (drop at s)) where
  pub names_missing : length s ≤ e → refused 2 n ≡ names_line names n (lines (drop at s))
  unfolding names_line
  names_missing z = rw (cut-end 10 s at e q z)

  module _ (z : e < length s) where
    pub names_other : same (part s at (e - at)) names ≡ false → refused 2 n ≡ names_line names n (lines (drop at s))
    unfolding names_line
    names_other m = rw (cut-more 10 s at e q z, names_line, m)

    pub names_same : same (part s at (e - at)) names ≡ true → read (lines (drop (e + 1) s)) ≡ names_line names n (lines (drop at s))
    unfolding names_line
    names_same m = rw (cut-more 10 s at e q z, names_line, m)

-- The counts.
module _ (s : List ℕ) (at e : ℕ) (q : e ≡ at + stop 10 (drop at s)) where
  pub counts_missing : length s ≤ e → refused 2 2 ≡ counts_line (lines (drop at s))
  unfolding counts_line
  counts_missing z = rw (cut-end 10 s at e q z)

  module _ (z : e < length s) where
    pub counts_wrong : head_form (fields (part s at (e - at))) ≡ no_head → refused 2 2 ≡ counts_line (lines (drop at s))
    unfolding counts_line counts_judged
    counts_wrong m = rw (cut-more 10 s at e q z, counts_line, m)

    module _ (h : Head) (m : head_form (fields (part s at (e - at))) ≡ head h) where
      pub counts_3 : field_fits h.p ≡ false → refused 3 2 ≡ counts_line (lines (drop at s))
      unfolding counts_line counts_judged
      counts_3 a = rw (cut-more 10 s at e q z, counts_line, m, counts_judged, a)

      module _ (a : field_fits h.p ≡ true) where
        pub counts_4 : counts_fit h ≡ false → refused 4 2 ≡ counts_line (lines (drop at s))
        unfolding counts_line counts_judged
        counts_4 b = rw (cut-more 10 s at e q z, counts_line, m, counts_judged, a, b)

        pub counts_right : counts_fit h ≡ true → read (record { head = h; rest = lines (drop (e + 1) s) }) ≡ counts_line (lines (drop at s))
        unfolding counts_line counts_judged
        counts_right b = rw (cut-more 10 s at e q z, counts_line, m, counts_judged, a, b)

-- Lines 1 to 3.
module _ (ls : Pieces) where
  pub line1_refused : (v n : ℕ) → names_line head_names 1 ls ≡ refused v n → refused v n ≡ head_lines_of ls
  unfolding head_lines_of ◌then◌
  line1_refused v n e = rw (head_lines_of, e)

  module _ (ms : Pieces) (e : names_line head_names 1 ls ≡ read ms) where
    pub line2_refused : (v n : ℕ) → counts_line ms ≡ refused v n → refused v n ≡ head_lines_of ls
    unfolding head_lines_of ◌then◌
    line2_refused v n f = rw (head_lines_of, e, f)

    module _ (c : CountsBlock) (f : counts_line ms ≡ read c) where
      pub line3_refused : (v n : ℕ) → names_line term_names 3 c.rest ≡ refused v n → refused v n ≡ head_lines_of ls
      unfolding head_lines_of term_names_line ◌then◌
      line3_refused v n g = rw (head_lines_of, e, f, term_names_line, g)

      pub lines_read : (ns : Pieces) → names_line term_names 3 c.rest ≡ read ns
          → read (record { head = c.head; line = first_term; rest = ns }) ≡ head_lines_of ls
      unfolding head_lines_of term_names_line ◌then◌
      lines_read ns g = rw (head_lines_of, e, f, term_names_line, g)

-- The whole.
pub package_long : (lim : Limits) (s : List ℕ) → 65536 < length s → refused 1 0 ≡ read_with lim s
unfolding read_with sized ◌then◌
package_long lim s z = rw (read_with, sized, lt-ltb 65536 (length s) z)

module _ (lim : Limits) (s : List ℕ) (z : length s ≤ 65536) where
  pub sized-read : sized s ≡ read (lines s)
  unfolding sized
  sized-read = rw (sized, le-ltb 65536 (length s) z)

  pub package_head : (v n : ℕ) → head_lines_of (lines s) ≡ refused v n → refused v n ≡ read_with lim s
  unfolding read_with ◌then◌
  package_head v n e = rw (read_with, sized-read, e)

  module _ (b : HeadBlock) (e : head_lines_of (lines s) ≡ read b) where
    pub package_terms : (v n : ℕ) → block2 b.head lim start [] b.line b.rest ≡ refused v n → refused v n ≡ read_with lim s
    unfolding read_with term_block ◌then◌
    package_terms v n f = rw (read_with, sized-read, e, term_block, f)

    module _ (t : TermBlock) (f : block2 b.head lim start [] b.line b.rest ≡ read t) where
      pub package_sums : (v n : ℕ) → block3 t.head lim 0 0 t.line t.rest ≡ refused v n → refused v n ≡ read_with lim s
      unfolding read_with term_block sum_block ◌then◌
      package_sums v n g = rw (read_with, sized-read, e, term_block, f, sum_block, g)

      pub package_read_lem : block3 t.head lim 0 0 t.line t.rest ≡ sums_read
          → read (record { head = t.head; terms = t.terms; sums = sums_of t.line t.rest }) ≡ read_with lim s
      unfolding read_with term_block sum_block ◌then◌
      package_read_lem g = rw (read_with, sized-read, e, term_block, f, sum_block, g)

      -- The first sum line stands behind the terms and one names line.
      pub package_line : (m : ℕ) → length t.terms ≡ m → t.line ≡ first_sum m
      package_line m l =
          let x = (head-lines-text (lines s) b e).line in
          let y = block2-text b.head lim t b.rest start [] b.line f in
          let n : length t.terms ≡ length y.more = ap length y.terms in
          omega (arith, y.line)

-- The slices have room for every term.
pub room_for : {l n : ℕ} → l ≡ 1024 → n ≤ 1024 → n ≤ l
room_for e h = omega arith
