-- The numbers of a kind name the items of its targets and of the polynomials that its sums are over.
use mathlib.Core.Path.{◌≡◌, refl, sym, ap, ap₂, ◌∙◌}
use mathlib.Core.Bool.{Bool, true, false}
use mathlib.Core.List.{List, []}
use Prim.Native.Nat.{ℕ, zero, suc, ◌+◌, ◌≤◌}
use native.Mathlib.Omega.{arith}
use lib.Dec.{eqb}
use lib.ListN.{length}
use Rattle.lists.specs.All.{All}
use Rattle.text.specs.Pieces.{part}
use Rattle.words.specs.Word.{Word}
use Rattle.algebra.specs.Poly.{Poly, scale, shift}
use Rattle.algebra.specs.Ideal.{family}
use Rattle.algebra.specs.Steps.{take_away}
use Rattle.algebra.specs.Written.{Written}
use Rattle.algebra.proofs.Lines.{shift-nil}
use Rattle.algebra.proofs.WrittenForm.{scale_one}
use Rattle.working.proofs.Families.{family-written}
use Rattle.package.specs.Names.{sum_b}
use Rattle.package.specs.Sums.{ofs}
use Rattle.acceptance.specs.Check.{Side}
use Rattle.package.specs.declared.SumAt.{SumAt}
use Rattle.sumlines.specs.Lines.{taken_line}
use Rattle.table.specs.Table.{gens_in, basis_count_in, items_in, field_in, order_in}
use Rattle.table.specs.Polynomials.{polynomial_in, relations_in, basis_in}
use Rattle.table.specs.Tabled.{Tabled}
use Rattle.table.proofs.Families.{polynomials-count, family-relations, family-basis}
use Rattle.packedterms.specs.declared.PackedWord.{PackedWord}
use Rattle.packedterms.specs.declared.WorkingFormula.{WorkingFormula}
use Rattle.packedterms.specs.InFormula.{formula_in, HoldsIn, WorkingIn}
use Rattle.tablesums.specs.Lines.{line_in}
use Rattle.tablesums.specs.ShortWords.{HoldsShort}
use Rattle.tablesums.proofs.TakenLines.{without, without-basis, without_relation, line-packed}
use Rattle.tablesums.specs.Heading.{head_in}
use Rattle.kindsums.specs.declared.KindNumbers.{KindNumbers}
use Rattle.kindsums.specs.Kinds.{side_in, numbers_in}

-- What the numbers k are for the sums of a side, whose lines name one of `most` polynomials.
pub record KindItems (t : List ℕ) (side : Side) (most : ℕ) (k : KindNumbers) : Type 0 where
  pub number : k.number ≡ side.number
  pub count : k.count ≡ length side.targets
  pub few : k.count ≤ 64
  pub low : k.others ≤ 32
  pub target : (item : ℕ) → 1 ≤ item → item ≤ k.count → family side.targets item ≡ polynomial_in t (k.targets + item)
  pub target_in : (item : ℕ) → item ≤ k.count → k.targets + item ≤ items_in t
  pub other_in : (of : ℕ) → of ≤ most → k.others + of ≤ items_in t
  pub written : All (Written (field_in t) (order_in t)) side.targets
  pub taken : (f : Poly) (x : ℕ) (left right : PackedWord 6) (of : ℕ) → 1 ≤ of → of ≤ most
      → without t f x left right (k.others + of) ≡ take_away (field_in t) (order_in t) (family side.others) f (line_in t x left of right)

module _ (t : List ℕ) (T : Tabled t) where
  by_basis : (item : ℕ) → 1 ≤ item → item ≤ basis_count_in t → family (basis_in t) item ≡ polynomial_in t (gens_in t + item)
  by_basis zero some most = absurd (omega arith)
  by_basis (suc g) some most = family-basis t g (omega arith)

  by_relation : (item : ℕ) → 1 ≤ item → item ≤ gens_in t → family (relations_in t) item ≡ polynomial_in t item
  by_relation zero some most = absurd (omega arith)
  by_relation (suc g) some most = family-relations t g (omega arith)

  pub kind-items : (kind : ℕ) (k : KindNumbers) → k ≡ numbers_in t kind → KindItems t (side_in t kind) (ofs (head_in t) kind) k
  unfolding side_in numbers_in ofs
  kind-items kind k q = go (eqb kind sum_b) refl
    where
      go : (b : Bool) → eqb kind sum_b ≡ b → KindItems t (side_in t kind) (ofs (head_in t) kind) k
      go true e =
          let few = T.basis in
          rw (q, side_in, numbers_in, ofs, e)
          (record {
            number = refl;
            count = sym (polynomials-count t (gens_in t + 1) (basis_count_in t));
            few = few;
            low = omega arith;
            target = by_basis;
            target_in = λ item l. omega arith;
            other_in = λ of l. omega arith;
            written = T.basis-written;
            taken = λ f x left right of some most. ap (without t f x left right) (omega arith) ∙ without_relation t f x left right of some most;
          })
      go false e =
          let few = T.gens in
          rw (q, side_in, numbers_in, ofs, e)
          (record {
            number = refl;
            count = sym (polynomials-count t 1 (gens_in t));
            few = omega arith;
            low = few;
            target = λ item some most. by_relation item some most ∙ ap (polynomial_in t) (omega arith);
            target_in = λ item l. omega arith;
            other_in = λ of l. omega arith;
            written = T.relations-written;
            taken = λ f x left right of some most. without-basis t f x left right of some most;
          })

module _ {t : List ℕ} {side : Side} {most : ℕ} {k : KindNumbers} (i : KindItems t side most k) where
  -- An item placed once between two empty words is the target.
  pub target-placed : Tabled t → (item : ℕ) → 1 ≤ item → item ≤ k.count → (u v : Word) → u ≡ [] → v ≡ [] → (f : Poly)
      → f ≡ scale (field_in t) 1 (shift u v (polynomial_in t (k.targets + item))) → f ≡ family side.targets item
  target-placed T item some last u v eu ev f e =
      e ∙ ap₂ (λ (x y : Word). scale (field_in t) 1 (shift x y (polynomial_in t (k.targets + item)))) eu ev
      ∙ ap (scale (field_in t) 1) (shift-nil (polynomial_in t (k.targets + item)) ∙ sym (i.target item some last))
      ∙ scale_one T.field T.suits.admissible (family-written (field_in t) (order_in t) side.targets i.written item)

  -- It is in written form, so that a formula which holds it can be added to.
  pub target-working : (item : ℕ) (f : WorkingFormula) → HoldsIn t f → formula_in t f ≡ family side.targets item → WorkingIn t f
  target-working item f held e = record { holds = held; written = rw e (family-written (field_in t) (order_in t) side.targets i.written item) }

  -- What `take_item` leaves, with the words that `pack_sides` packed, is the line in the bytes taken away.
  pub line_taken : (bytes : List ℕ) (s : SumAt) (left right : PackedWord 6)
      → HoldsShort t (part bytes s.left s.left_len) left → HoldsShort t (part bytes s.right s.right_len) right
      → 1 ≤ s.of → s.of ≤ most → (f f' : Poly) → f' ≡ without t f s.coef left right (k.others + s.of)
      → f' ≡ take_away (field_in t) (order_in t) (family side.others) f (taken_line bytes s)
  line_taken bytes s left right l r some last f f' e =
      e ∙ i.taken f s.coef left right s.of some last
      ∙ ap (take_away (field_in t) (order_in t) (family side.others) f) (line-packed t bytes s left right l r)
