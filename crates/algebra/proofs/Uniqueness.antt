-- Under a certified basis a nonzero sum over the basis has a greatest word that holds a leading word; so short forms are unique, and two formulas
-- have the same one exactly if they differ by a sum over the relations.
use mathlib.Core.Path.{◌≡◌}
use mathlib.Core.Logic.{◌⊎◌, inl, inr, ◌↔◌, ◌≢◌}
use mathlib.Core.List.{[], ◌++◌, append-nil}
use Prim.Native.Nat.{ℕ}
use Rattle.field.specs.Field.{Operations, Field}
use Rattle.field.proofs.Derived.{add_add_add_comm, mul_left_comm}
use Rattle.lists.specs.All.{done}
use Rattle.words.specs.Word.{Word}
use Rattle.words.specs.Order.{Order, Admissible}
use Rattle.lists.proofs.Every.{all_append}
use Rattle.algebra.specs.Poly.{Poly, coeff, Same, scale, sub}
use Rattle.algebra.specs.Written.{Written, zero, written}
use Rattle.algebra.specs.Ideal.{Family, InIdeal}
use Rattle.algebra.specs.Groebner.{Inside, Certified, GreatestInside}
use Rattle.algebra.specs.Short.{Reduced, Accepted, Short}
use Rattle.algebra.proofs.Coefficients.{scale-words, coeff-append, coeff-scale, coeff-sub, support}
use Rattle.algebra.proofs.Sums.{ideal_same, ideal_zero, ideal_add, ideal_scale, ideal_sub, ideal_trans, differ_refl, differ_symm, differ_trans}
use Rattle.algebra.proofs.Descent.{zero_or_inside}
use Rattle.algebra.proofs.Resolution.{resolves}
use Rattle.algebra.proofs.Insertion.{written-coeff, written-written, written-words}
use Rattle.algebra.proofs.WrittenForm.{same_of_sub, written_unique}

module _ {L : ℕ → Type 0} {K : Operations} (F : Field K) {O : Order} (A : Admissible O) {G : Family} (h : Certified K O G) where
  -- 3.6.1 (b), from 4.3.4 (2): a sum over the basis is zero, or its greatest word holds a leading word.
  pub greatest-inside : (f : Poly) → InIdeal L K G f → Same K f [] ⊎ GreatestInside K O G f
  greatest-inside f a = zero_or_inside F A G h.leads (resolves F A G h.overlaps h.inclusions) a.lines f a.equal

  -- no leading word stands inside a word of f: then f is zero
  pub irreducible_zero : (f : Poly) → ((u : Word) → coeff K f u ≢ 0 → Inside K O G u → ⊥) → InIdeal L K G f → Same K f []
  irreducible_zero f none a = go (greatest-inside f a)
    where
      go : Same K f [] ⊎ GreatestInside K O G f → Same K f []
      go (inl s) = s
      go (inr g) = absurd (none g.word g.has g.inside)

  -- 4.3.4 (3): polynomials in written form with no leading word inside that differ by a sum over the basis are equal.
  pub reduced_unique : {M N : Poly} → Written K O M → Reduced K O G M → Written K O N → Reduced K O G N → InIdeal L K G (sub K M N) → M ≡ N
  unfolding sub
  reduced_unique {M} {N} wm rm wn rn a =
      written_unique F A wm wn (same_of_sub F M N (irreducible_zero (sub K M N)
      (support F (λ u. Inside K O G u → ⊥) (sub K M N) (all_append rm (scale-words K (λ u. Inside K O G u → ⊥) (K.neg 1) N rn))) a))

  -- 3.4.10: such a polynomial that is itself a sum over the basis is zero.
  -- (For document 02, P1: where a difference ends nonzero, no lines certify the basis.)
  pub reduced-zero : {N : Poly} → Written K O N → Reduced K O G N → InIdeal L K G N → N ≡ []
  reduced-zero c r a = reduced_unique c r zero done (ideal_sub F a (ideal_zero F))

module _ {L : ℕ → Type 0} {K : Operations} (F : Field K) {O : Order} (A : Admissible O) {H G : Family} (acc : Accepted L K O H G) where
  -- 4.3.4 (5) with sums both ways: the short forms of two formulas are equal exactly if the formulas differ by a sum over the relations.
  pub short_iff : {f g M N : Poly} → Short L K O H G f M → Short L K O H G g N → (M ≡ N) ↔ InIdeal L K H (sub K f g)
  short_iff {f} {g} {M} {N} a b = (
    λ e. differ_trans F f N g (rw e at a.differs) (differ_symm F g N b.differs),
    λ d. reduced_unique F A acc.certified a.written a.reduced b.written b.reduced
        (ideal_trans F acc.relation_sums (differ_trans F M f N (differ_symm F f M a.differs) (differ_trans F f g N d b.differs))),
  )

  -- a formula has at most one short form
  pub short_unique : {f M N : Poly} → Short L K O H G f M → Short L K O H G f N → M ≡ N
  short_unique {f} a b = (short_iff a b).1 (differ_refl F f)

  -- a formula is a sum over the relations exactly if its short form is zero
  pub short-zero : {f N : Poly} → Short L K O H G f N → (N ≡ []) ↔ InIdeal L K H f
  unfolding sub scale
  short-zero {f} {N} a = rw append-nil at (short_iff {g = []} {N = []} a (record { written = zero; reduced = done; differs = differ_refl F [] }))

  -- short forms add up: of f + c × g it is the written form of M + c × N
  -- (for document 02, P14: which coefficient of one word makes the short form zero)
  pub short_combine : (c : ℕ) {f g M N : Poly} → Short L K O H G f M → Short L K O H G g N
      → Short L K O H G (f ++ scale K c g) (written K O (M ++ scale K c N))
  short_combine c {f} {g} {M} {N} a b = record {
    written = written-written F A _;
    reduced = written-words K O (λ u. Inside K O G u → ⊥) _ (all_append a.reduced (scale-words K (λ u. Inside K O G u → ⊥) c N b.reduced));
    differs = ideal_same F (λ w. rw (
      coeff-sub F (f ++ scale K c g),
      written-coeff F A (M ++ scale K c N) w,
      coeff-append F f,
      coeff-append F M,
      coeff-append F (sub K f M),
      coeff-scale F c g,
      coeff-scale F c N,
      coeff-scale F c (sub K g N),
      coeff-sub F f M,
      coeff-sub F g N,
      F.mul-add (K.neg 1),
      F.mul-add c,
      mul_left_comm F (K.neg 1) c,
    ) (add_add_add_comm F _ _ _ _)) (ideal_add F a.differs (ideal_scale F c b.differs));
  }
