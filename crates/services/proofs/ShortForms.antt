-- What an answered short form is, and what two of them say of their formulas: the laws that demand 3 is made of.
use mathlib.Core.Path.{◌≡◌, refl, sym, ◌∙◌, ap}
use mathlib.Core.List.{List, [], ◌∷◌}
use mathlib.Core.Logic.{◌↔◌}
use Prim.Native.Nat.{ℕ, zero, suc}
use native.Mathlib.Omega.{arith}
use lib.ListN.{length, get_or}
use Rattle.field.specs.Field.{Field, field_of}
use Rattle.lists.specs.All.{All, done, ◌also◌}
use Rattle.words.specs.Word.{Letter}
use Rattle.words.specs.Order.{word_order}
use Rattle.words.proofs.WordOrder.{word-order-admissible}
use Rattle.algebra.specs.Poly.{Poly, InLetters}
use Rattle.algebra.specs.Written.{Written}
use Rattle.algebra.specs.Ideal.{family}
use Rattle.algebra.specs.Short.{Accepted}
use Rattle.algebra.specs.Steps.{answer, run}
use Rattle.algebra.proofs.Running.{run_sequence, sequence_short, sequence_letters}
use Rattle.algebra.proofs.Uniqueness.{short_iff, short_unique, short-zero}
use Rattle.package.specs.Head.{MeansField}
use Rattle.package.specs.Package.{Package, read}
use Rattle.package.specs.Readable.{Readable}
use Rattle.package.specs.Writing.{write_formula}
use Rattle.package.proofs.PackageTexts.{reads-written}
use Rattle.package.proofs.FieldNumbers.{fits_iff}
use Rattle.package.proofs.LineBounds.{HeadBounds, head-bounds}
use Rattle.acceptance.specs.Content.{relations, basis}
use Rattle.acceptance.specs.Check.{fine, checked}
use Rattle.acceptance.specs.Facts.{Acceptable}
use Rattle.acceptance.proofs.ReadableContent.{readable-field, basis-letters}
use Rattle.acceptance.proofs.Packages.{accepted_iff_facts, package_accepted}
use Rattle.acceptance.proofs.FormulaContent.{formula-content, text_unique}
use Rattle.acceptance.specs.Acceptance.{acceptance}
use Rattle.acceptance.specs.Reduction.{Reduction, short_form, formula_limits}
use Rattle.services.specs.Services.{member_answer, membership_as}
use Rattle.services.specs.Demands.{AcceptedAs, ReadAs, GetsShortForm, written_bytes, RelationSum, EqualModulo, ShortFormOf, OneShortForm}
use Rattle.services.proofs.Answers.{acceptance_is, answered-fine, short-answered, member-answered, reduced_is, written_is}

-- The letters of one polynomial of a family, where all its polynomials are in the letters.
member-letters : (L : ℕ → Type 0) (ps : List Poly) → All (InLetters L) ps → (i : ℕ) → InLetters L (get_or ps i [])
member-letters L [] done i = done
member-letters L (p ∷ ps) (x also xs) zero = x
member-letters L (p ∷ ps) (x also xs) (suc i) = member-letters L ps xs i

family-letters : (L : ℕ → Type 0) (ps : List Poly) → All (InLetters L) ps → (i : ℕ) → InLetters L (family ps i)
unfolding family
family-letters L ps a i = member-letters L ([] ∷ ps) (done also a) i

module _ (bytes : List ℕ) (P : Package) (acc : AcceptedAs bytes P) where
  readable : Readable P
  readable = (reads-written P bytes acc.reads).0

  bounds : HeadBounds P.head
  bounds = head-bounds P.head readable.field readable.counts

  pub accepted-field : MeansField P.head.p × Field (field_of P.head.p)
  accepted-field = ((fits_iff P.head.p).0 readable.field, readable-field P readable)

  fine-check : checked P ≡ fine
  fine-check = answered-fine bytes P acc.reads acc.answered

  package_accepted_as : acceptance bytes ≡ read P
  package_accepted_as = acceptance_is bytes P acc

  -- An accepted package's facts hold.
  pub accepted-facts : Acceptable P
  accepted-facts = (accepted_iff_facts P readable).0 fine-check

  basis-accepted : Accepted (Letter P.head.letters) (field_of P.head.p) word_order (family (relations P)) (family (basis P))
  basis-accepted = package_accepted P readable accepted-facts

  module _ (text : List ℕ) (f : Poly) (reads : ReadAs P text f) where
    formula_in_form : Written (field_of P.head.p) word_order f × InLetters (Letter P.head.letters) f
    formula_in_form = formula-content P.head.p P.head.letters formula_limits text f reads

    -- the end of a run is a short form, in the letters
    ran_short : (budget : ℕ) (N : Poly) (m : ℕ) → run 512 (field_of P.head.p) word_order (basis P) budget 0 f ≡ answer N m
        → ShortFormOf P f N × InLetters (Letter P.head.letters) N
    ran_short budget N m e =
        let F = readable-field P readable in
        let v = family-letters (Letter P.head.letters) (basis P) (basis-letters P readable) in
        let (xs, s, l) = run_sequence 512 (field_of P.head.p) word_order (basis P) budget f N m e in (
          sequence_short F word-order-admissible (basis P) (Letter P.head.letters) v basis-accepted formula_in_form.0 formula_in_form.1 s,
          sequence_letters F word-order-admissible (basis P) (Letter P.head.letters) v formula_in_form.1 s,
        )

    -- The bytes written are the text of a polynomial in the package's letters, with no leading word inside, that differs from the formula by a sum over
    -- the relations, and any polynomial with the last two properties equals it.
    pub written-short : (budget : ℕ) (out : List ℕ) → GetsShortForm bytes text budget out → OneShortForm P f (written_bytes bytes text budget out)
    written-short budget out n =
        let (N, m, e) = short-answered bytes P package_accepted_as text f reads budget (length out) n in
        let (s, l) = ran_short budget N m e in
        record {
          form = N;
          is_text = written_is bytes P package_accepted_as text f reads budget N m e out n;
          letters = l;
          is_short = s;
          only = λ M t. short_unique (readable-field P readable) word-order-admissible basis-accepted t s;
        }

    -- Membership: yes exactly where the formula is a sum over the relations.
    pub member_iff : (budget : ℕ) → (membership_as bytes text budget).number ≡ 0 → ((membership_as bytes text budget).member ≡ 1) ↔ RelationSum P f
    unfolding membership_as member_answer
    member_iff budget n =
        let (N, m, e) = member-answered bytes P package_accepted_as text f reads budget n in
        let z = short-zero (readable-field P readable) word-order-admissible basis-accepted (ran_short budget N m e).0 in
        let r = reduced_is bytes P package_accepted_as text f reads budget N m e in
        (λ y. z.0 (yes-zero N m (rw r at y)), λ y. ap (λ (x : Reduction). (member_answer x).member) r ∙ zero-yes N m (z.1 y))
      where
        yes-zero : (N : Poly) (m : ℕ) → (member_answer (short_form N m)).member ≡ 1 → N ≡ []
        yes-zero [] m q = refl
        yes-zero (t ∷ N) m q = absurd (omega arith)

        zero-yes : (N : Poly) (m : ℕ) → N ≡ [] → (member_answer (short_form N m)).member ≡ 1
        zero-yes N m q = rw q refl

  -- Two formulas that get short forms get the same bytes exactly where they are equal modulo the relations.
  pub same-bytes_iff : (text₁ text₂ : List ℕ) (f g : Poly) → ReadAs P text₁ f → ReadAs P text₂ g
      → (budget₁ budget₂ : ℕ) (out₁ out₂ : List ℕ) → GetsShortForm bytes text₁ budget₁ out₁ → GetsShortForm bytes text₂ budget₂ out₂
      → (written_bytes bytes text₁ budget₁ out₁ ≡ written_bytes bytes text₂ budget₂ out₂) ↔ EqualModulo P f g
  same-bytes_iff text₁ text₂ f g x y budget₁ budget₂ out₁ out₂ a b =
      let (M, m, d) = short-answered bytes P package_accepted_as text₁ f x budget₁ (length out₁) a in
      let (N, n, e) = short-answered bytes P package_accepted_as text₂ g y budget₂ (length out₂) b in
      let (s, k) = ran_short text₁ f x budget₁ M m d in
      let (t, l) = ran_short text₂ g y budget₂ N n e in
      let u = written_is bytes P package_accepted_as text₁ f x budget₁ M m d out₁ a in
      let v = written_is bytes P package_accepted_as text₂ g y budget₂ N n e out₂ b in
      let i = short_iff (readable-field P readable) word-order-admissible basis-accepted s t in (
        λ q. i.0 (text_unique P.head.p P.head.letters bounds.most bounds.letters M N s.written k t.written l (sym u ∙ q ∙ v)),
        λ q. u ∙ ap write_formula (i.1 q) ∙ sym v,
      )
