-- A package reads exactly when it is the written text of a readable package of at most 65,536 bytes, and then it reads as that package.
use mathlib.Core.Path.{◌≡◌, refl, sym, ap, ap₂, subst, ◌∙◌}
use mathlib.Core.Bool.{Bool, true, false}
use mathlib.Core.Logic.{◌↔◌}
use mathlib.Core.List.{List, []}
use Prim.Native.Nat.{ℕ, suc, ◌+◌, ◌≤◌}
use native.Mathlib.Omega.{arith}
use lib.Dec.{ltb}
use lib.ListN.{length}
use borrow.Author.Tests.{ltb-false}
use Rattle.package.proofs.Answers.{refused_not_read, read_injective, then-read}
use Rattle.package.proofs.CountsTexts.{head-line-clear}
use Rattle.package.proofs.HeadTexts.{head-lines-text, text-head-lines}
use Rattle.package.proofs.Joining.{package_read_lem}
use Rattle.package.proofs.LineBounds.{HeadBounds, head-bounds}
use Rattle.package.proofs.SumBlockTexts.{block3-text}
use Rattle.package.proofs.TermBlockTexts.{block2-text}
use Rattle.package.proofs.WrittenBlocks.{text-block2, text-block3, terms-clear, sums-clear}
use Rattle.package.specs.Answer.{read, ◌then◌}
use Rattle.package.specs.Names.{head_names, term_names, sum_names}
use Rattle.package.specs.Package.{Package, package_limits, HeadBlock, first_term, first_sum, head_lines_of, term_block, sum_block, sized, read_with, read_package}
use Rattle.package.specs.Readable.{SumsInOrder, Readable}
use Rattle.package.specs.Sums.{SumLine, block3, sums_of}
use Rattle.package.specs.Terms.{TermLine, start, TermBlock}
use Rattle.package.specs.Writing.{head_fields, term_lines_of, sum_lines_of, package_lines, write_package}
use Rattle.package.specs.declared.Head.{Head}
use Rattle.text.proofs.PieceTexts.{joined-pieces, lines-written, without-final}
use Rattle.text.specs.Pieces.{Pieces, piece, onto, pieces, lines, write_fields, write_lines, Without, Clear, clears}

-- Names lines hold no byte 10.
head_names_clear : Without 10 head_names
unfolding pieces onto
head_names_clear = without-final head_names refl

term_names_clear : Without 10 term_names
unfolding pieces onto
term_names_clear = without-final term_names refl

sum_names_clear : Without 10 sum_names
unfolding pieces onto
sum_names_clear = without-final sum_names refl

-- A readable package is read back from its text.
module _ (P : Package) (r : Readable P) where
  bounds : HeadBounds P.head
  bounds = head-bounds P.head r.field r.counts

  package_clear : Clear 10 (package_lines P)
  unfolding package_lines
  package_clear =
      clears head_names_clear
      (clears (head-line-clear P.head bounds)
      (clears term_names_clear
      (terms-clear P.head package_limits bounds start 0 P.terms r.terms
      (clears sum_names_clear (sums-clear P.head package_limits bounds 0 0 (first_sum (length P.terms)) P.sums r.sums)))))

  -- The number of the first sum line, as block 2 counts it.
  the_line : suc (first_term + length P.terms) ≡ first_sum (length P.terms)
  the_line = omega arith

  written-lines : (s : List ℕ) → lines s ≡ package_lines P → length s ≤ 65536 → read_package s ≡ read P
  unfolding package_lines read_package
  written-lines s c h =
      let a = text-head-lines P.head bounds r.field r.counts (term_lines_of P.terms (piece sum_names (sum_lines_of P.sums))) in
      let t = text-block2 P.head package_limits bounds (sum_lines_of P.sums) start [] P.terms first_term 0 refl r.terms in
      let u = text-block3 P.head package_limits bounds 0 0 (suc (first_term + length P.terms)) P.sums (rw the_line r.sums) in
      sym (package_read_lem package_limits s h _ (ap head_lines_of c ∙ a) _ t u.0) ∙ ap
      (λ (xs : List SumLine). read (record { head = P.head; terms = P.terms; sums = xs })) u.1

  pub written-reads : length (write_package P) ≤ 65536 → read_package (write_package P) ≡ read P
  unfolding write_package
  written-reads h = written-lines (write_package P) (lines-written package_clear) h

-- What reads is the text of the package that it reads as, and that is readable.
sized-text : (s : List ℕ) (ls : Pieces) → sized s ≡ read ls → (lines s ≡ ls) × (length s ≤ 65536)
unfolding sized
sized-text s ls e = go (ltb 65536 (length s)) refl
  where
    go : (t : Bool) → ltb 65536 (length s) ≡ t → (lines s ≡ ls) × (length s ≤ 65536)
    go true q = absurd (refused_not_read 1 0 ls (rw (sized, q) at e))
    go false q = (read_injective (lines s) ls (rw (sized, q) at e), ltb-false 65536 (length s) q)

-- The package that is read behind block 2.
abbrev behind : TermBlock → Package
behind t = record { head = t.head; terms = t.terms; sums = sums_of t.line t.rest }

module _ (s : List ℕ) (b : HeadBlock) (t : TermBlock) (small : length s ≤ 65536) (x : head_lines_of (lines s) ≡ read b)
    (y : term_block package_limits b ≡ read t) (z : block3 t.head package_limits 0 0 t.line t.rest ≡ read tt) where
  blocks-text : Readable (behind t) × (s ≡ write_package (behind t)) × (length s ≤ 65536)
  unfolding term_block package_lines write_package
  blocks-text =
      let A = head-lines-text (lines s) b x in
      let B = block2-text b.head package_limits t b.rest start [] b.line y in
      let C = block3-text t.head package_limits t.rest 0 0 t.line z in
      let m : length t.terms ≡ length B.more = ap length B.terms in
      let l : t.line ≡ first_sum (length t.terms) = omega (arith, A.line, B.line) in
      let rest : b.rest ≡ term_lines_of t.terms (piece sum_names (sum_lines_of (sums_of t.line t.rest))) =
      B.cut ∙ ap₂ (λ (ts : List TermLine) (ms : Pieces). term_lines_of ts (piece sum_names ms)) (sym B.terms) C.cut in
      let cut = A.cut ∙ ap₂ (λ (h : Head) (ms : Pieces). piece head_names (piece (write_fields (head_fields h)) (piece term_names ms))) (sym B.head) rest in (
        record {
          field = rw B.head A.field;
          counts = rw B.head A.counts;
          terms = rw (B.head, B.terms) B.order;
          sums = subst (λ (n : ℕ). SumsInOrder t.head package_limits 0 0 n (sums_of t.line t.rest)) l C.order;
        },
        sym (joined-pieces 10 s) ∙ ap write_lines cut,
        small,
      )

pub reads-written : (P : Package) (s : List ℕ) → read_package s ≡ read P → Readable P × (s ≡ write_package P) × (length s ≤ 65536)
unfolding read_package read_with sum_block
reads-written P s e =
    let u = then-read (sized s then head_lines_of then term_block package_limits) (sum_block package_limits) P e in
    let v = then-read (sized s then head_lines_of) (term_block package_limits) u.0 u.1 in
    let w = then-read (sized s) head_lines_of v.0 v.1 in
    let k = then-read (block3 u.0.head package_limits 0 0 u.0.line u.0.rest) (λ _. read (behind u.0)) P u.2 in
    let z = sized-text s w.0 w.1 in
    subst (λ (Q : Package). Readable Q × (s ≡ write_package Q) × (length s ≤ 65536)) (read_injective (behind u.0) P k.2)
    (blocks-text s v.0 u.0 z.1 (ap head_lines_of z.0 ∙ w.2) v.2 k.1)

-- The theorem.
pub reads_iff : (s : List ℕ) (P : Package) → (read_package s ≡ read P) ↔ (Readable P × (s ≡ write_package P) × (length s ≤ 65536))
reads_iff s P = (
  reads-written P s,
  λ r.
      let e = r.1 in
      let h : length (write_package P) ≤ 65536 = rw e at r.2 in
      ap read_package e ∙ written-reads P r.0 h,
)
