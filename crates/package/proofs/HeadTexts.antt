-- The head lines as text: what is read is the writing of counts in bounds between the names lines, and it is read back.
use mathlib.Core.Path.{◌≡◌, refl, sym, ap, ap₂, ◌∙◌}
use mathlib.Core.Bool.{Bool, true, false}
use mathlib.Core.List.{List}
use Prim.Native.Nat.{ℕ}
use Rattle.package.proofs.Answers.{refused_not_read, read_injective, then-read}
use Rattle.package.proofs.CountsTexts.{head-text, text_head}
use Rattle.package.proofs.LineBounds.{HeadBounds}
use Rattle.package.specs.Answer.{read, ◌then◌}
use Rattle.package.specs.Head.{HeadForm, no_head, head, head_form, field_fits, counts_fit}
use Rattle.package.specs.Names.{head_names, term_names}
use Rattle.package.specs.Package.{names_line, CountsBlock, counts_judged, counts_line, HeadBlock, first_term, term_names_line, head_lines_of}
use Rattle.package.specs.Writing.{head_fields}
use Rattle.package.specs.declared.Head.{Head}
use Rattle.lists.proofs.Sameness.{same-eq}
use Rattle.text.proofs.PieceTexts.{joined-pieces}
use Rattle.lists.specs.Same.{same}
use Rattle.text.specs.Pieces.{Pieces, final, piece, fields, write_fields}

-- A names line.
pub names_text : (names : List ℕ) (n : ℕ) (ps ms : Pieces) → names_line names n ps ≡ read ms → ps ≡ piece names ms
unfolding names_line
names_text names n (final x) ms e = absurd (refused_not_read 2 n ms e)
names_text names n (piece l ls) ms e = go (same l names) refl
  where
    go : (t : Bool) → same l names ≡ t → piece l ls ≡ piece names ms
    go false q = absurd (refused_not_read 2 n ms (rw (names_line, q) at e))
    go true q = ap₂ piece (same-eq l names q) (read_injective ls ms (rw (names_line, q) at e))

-- The line of counts.
record CountsText (ps : Pieces) (c : CountsBlock) : Type 0 where
  field : field_fits c.head.p ≡ true
  counts : counts_fit c.head ≡ true
  cut : ps ≡ piece (write_fields (head_fields c.head)) c.rest

counts-text : (ps : Pieces) (c : CountsBlock) → counts_line ps ≡ read c → CountsText ps c
unfolding counts_line counts_judged
counts-text (final x) c e = absurd (refused_not_read 2 2 c e)
counts-text (piece l ls) c e = by_form (head_form (fields l)) refl
  where
    by_tests : (h : Head) → head_form (fields l) ≡ head h → (t u : Bool) → field_fits h.p ≡ t → counts_fit h ≡ u → CountsText (piece l ls) c
    by_tests h q false u a b = absurd (refused_not_read 3 2 c (rw (counts_line, q, counts_judged, a) at e))
    by_tests h q true false a b = absurd (refused_not_read 4 2 c (rw (counts_line, q, counts_judged, a, b) at e))
    by_tests h q true true a b =
        let z = read_injective (record { head = h; rest = ls }) c (rw (counts_line, q, counts_judged, a, b) at e) in
        let x : h ≡ c.head = ap (λ (d : CountsBlock). d.head) z in
        let y : ls ≡ c.rest = ap (λ (d : CountsBlock). d.rest) z in
        record {
          field = rw (← x) a;
          counts = rw (← x) b;
          cut =
              ap₂ piece (sym (joined-pieces 32 l) ∙ ap write_fields (head-text (fields l) h q) ∙ ap (λ (k : Head). write_fields (head_fields k)) x) y;
        }

    by_form : (f : HeadForm) → head_form (fields l) ≡ f → CountsText (piece l ls) c
    by_form no_head q = absurd (refused_not_read 2 2 c (rw (counts_line, q) at e))
    by_form (head h) q = by_tests h q (field_fits h.p) (counts_fit h) refl refl

-- Lines 1 to 3.
pub record HeadText (ps : Pieces) (b : HeadBlock) : Type 0 where
  pub field : field_fits b.head.p ≡ true
  pub counts : counts_fit b.head ≡ true
  pub line : b.line ≡ first_term
  pub cut : ps ≡ piece head_names (piece (write_fields (head_fields b.head)) (piece term_names b.rest))

pub head-lines-text : (ps : Pieces) (b : HeadBlock) → head_lines_of ps ≡ read b → HeadText ps b
unfolding head_lines_of term_names_line
head-lines-text ps b e =
    let u = then-read (names_line head_names 1 ps then counts_line) term_names_line b e in
    let c : CountsBlock = u.0 in
    let v = then-read (names_line head_names 1 ps) counts_line c u.1 in
    let w = then-read (names_line term_names 3 c.rest) (λ (ls : Pieces). read (record { head = c.head; line = first_term; rest = ls })) b u.2 in
    let z = read_injective (record { head = c.head; line = first_term; rest = w.0 }) b w.2 in
    let t = counts-text v.0 c v.2 in
    let x : c.head ≡ b.head = ap (λ (d : HeadBlock). d.head) z in
    let y : w.0 ≡ b.rest = ap (λ (d : HeadBlock). d.rest) z in
    record {
      field = rw (← x) t.field;
      counts = rw (← x) t.counts;
      line = sym (ap (λ (d : HeadBlock). d.line) z);
      cut =
          names_text head_names 1 ps v.0 v.1 ∙ ap (piece head_names)
          (t.cut ∙ ap₂ (λ (k : Head) (r : Pieces). piece (write_fields (head_fields k)) r) x (names_text term_names 3 c.rest w.0 w.1 ∙ ap (piece term_names) y));
    }

pub text-head-lines : (h : Head) → HeadBounds h → field_fits h.p ≡ true → counts_fit h ≡ true → (rest : Pieces)
    → head_lines_of (piece head_names (piece (write_fields (head_fields h)) (piece term_names rest))) ≡ read (record { head = h; line = first_term; rest = rest })
unfolding head_lines_of names_line counts_line counts_judged term_names_line ◌then◌
text-head-lines h bounds a b rest = rw (counts_line, text_head h bounds, counts_judged, a, b)
