-- What is printed is the list or the line of the refusal: listing into 65,536 bytes leaves the list there where its number is 0, else it
-- writes nothing.
use mathlib.Core.Path.{◌≡◌, refl, sym, ap, subst, ◌∙◌}
use mathlib.Core.Bool.{Bool, true, false}
use mathlib.Core.List.{List}
use Prim.Native.Nat.{ℕ, ◌≤◌}
use native.Mathlib.Omega.{arith}
use borrow.Author.Tests.{ltb-false, eq-eqb, ne_eqb}
use lib.Dec.{ltb}
use lib.ListN.{length}
use lib.Seq.{sets}
use Rattle.overlaps.specs.Overlaps.{leads, overlaps}
use Rattle.overlaps.specs.Listing.{overlap_text}
use Rattle.package.specs.Package.{Outcome, refused, read}
use Rattle.acceptance.specs.Content.{basis}
use Rattle.services.specs.declared.Listed.{Listed}
use Rattle.services.specs.Services.{words_listed, fitted, list_answer, list_output, listable, listed_as, listed_into}
use Rattle.printing.specs.Printed.{refused_line, list_of, printed_for, printed_text}

-- the list stands at the start of the slice where the number is 0
ListWritten : List ℕ → Listed → List ℕ → List ℕ → Type 0
ListWritten out a left text = a.number ≡ 0 → (a.written ≡ length text) × (left ≡ sets out 0 text) × (a.written ≤ length out)

-- the slice is as it was where the number is another
SliceKept : List ℕ → Listed → List ℕ → Type 0
SliceKept out a left = (a.number ≡ 0 → ⊥) → left ≡ out

fitted-written : (t : List ℕ) (k : ℕ) (b : Bool) (out : List ℕ) → ltb (length out) (length t) ≡ b
    → ListWritten out
    (elim b [ true ↦ record { number = 19; place = length t; overlaps = 0; written = 0 } | false ↦ record { number = 0; place = 0; overlaps = k; written = length t } ])
    (elim b [ true ↦ out | false ↦ sets out 0 t ]) t
unfolding ListWritten
fitted-written t k true out e z = absurd (omega arith)
fitted-written t k false out e z = (refl, refl, ltb-false _ _ e)

unfitted_kept : (t : List ℕ) (k : ℕ) (b : Bool) (out : List ℕ)
    → SliceKept out
    (elim b [ true ↦ record { number = 19; place = length t; overlaps = 0; written = 0 } | false ↦ record { number = 0; place = 0; overlaps = k; written = length t } ])
    (elim b [ true ↦ out | false ↦ sets out 0 t ])
unfolding SliceKept
unfitted_kept t k true out z = refl
unfitted_kept t k false out z = absurd (z refl)

outcome_listed : (o : Outcome) (out : List ℕ) → ListWritten out (list_answer (length out) o) (list_output out o) (list_of o)
unfolding ListWritten list_answer list_output list_of words_listed fitted
outcome_listed (refused n k) out = λ z. (refl, refl, omega arith)
outcome_listed (read P) out =
    let t = overlap_text (leads (basis P)) in
    fitted-written t (length (overlaps (leads (basis P)))) (ltb (length out) (length t)) out refl

outcome_kept : (o : Outcome) (out : List ℕ) → SliceKept out (list_answer (length out) o) (list_output out o)
unfolding SliceKept list_answer list_output words_listed fitted
outcome_kept (refused n k) out = λ z. refl
outcome_kept (read P) out =
    let t = overlap_text (leads (basis P)) in
    unfitted_kept t (length (overlaps (leads (basis P)))) (ltb (length out) (length t)) out

for_list : (a : Listed) (t : List ℕ) → a.number ≡ 0 → printed_for a t ≡ t
unfolding printed_for
for_list a t z = rw (printed_for, eq-eqb a.number 0 z)

for_refusal : (a : Listed) (t : List ℕ) → (a.number ≡ 0 → ⊥) → printed_for a t ≡ refused_line a.number a.place
unfolding printed_for
for_refusal a t z = rw (printed_for, ne_eqb a.number 0 z)

-- Number 0: the list was written, and is what is printed.
pub list_printed : (bytes out left : List ℕ) (a : Listed) → length out ≡ 65536 → a ≡ listed_as bytes (length out) → left ≡ listed_into bytes out → a.number ≡ 0
    → ((a.written ≡ length (printed_text bytes)) × (a.written ≤ 65536)) × (left ≡ sets out 0 (printed_text bytes))
unfolding printed_text printed_for listed_as listed_into ListWritten
list_printed bytes out left a s e f z =
    let w = outcome_listed (listable bytes) out (ap (λ x. x.number) (sym e) ∙ z) in
    let t : printed_text bytes ≡ list_of (listable bytes) = for_list (listed_as bytes 65536) (list_of (listable bytes)) (ap (λ x. x.number) (sym (e ∙ ap (listed_as bytes) s)) ∙ z) in
    ((ap (λ x. x.written) e ∙ w.0 ∙ ap length (sym t), subst (λ n. a.written ≤ n) s (subst (λ x. x.written ≤ length out) (sym e) w.2)), f ∙ w.1 ∙ ap (sets out 0) (sym t))

-- Another number: nothing was written, and the line of the refusal is what is printed.
pub refusal_printed : (bytes out left : List ℕ) (a : Listed) → length out ≡ 65536 → a ≡ listed_as bytes (length out) → left ≡ listed_into bytes out → (a.number ≡ 0 → ⊥)
    → (left ≡ out) × (refused_line a.number a.place ≡ printed_text bytes)
unfolding printed_text printed_for listed_as listed_into SliceKept
refusal_printed bytes out left a s e f z =
    let b : a ≡ listed_as bytes 65536 = e ∙ ap (listed_as bytes) s in
    let n : (listed_as bytes 65536).number ≡ 0 → ⊥ = λ x. z (ap (λ x. x.number) b ∙ x) in
    (f ∙ outcome_kept (listable bytes) out (λ x. z (ap (λ x. x.number) e ∙ x)), ap (λ x. refused_line x.number x.place) b ∙ sym (for_refusal (listed_as bytes 65536) (list_of (listable bytes)) n))
