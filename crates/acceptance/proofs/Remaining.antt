-- Lines taken away one after the other: nothing is left exactly if the sum equals the target, 10 is met exactly if some line leaves over 512 terms,
-- and an item is not refused exactly if every line passes its test and the sum holds.
use mathlib.Core.Path.{◌≡◌, refl, sym, ◌∙◌, ap}
use mathlib.Core.Bool.{Bool, true, false, true≢false}
use mathlib.Core.Logic.{◌↔◌}
use mathlib.Core.List.{List, [], ◌∷◌, ◌++◌, cons≢nil, cons-eq-cons}
use Prim.Native.Nat.{ℕ, ◌≤◌}
use native.Mathlib.Omega.{arith}
use lib.Dec.{ltb}
use lib.ListN.{length}
use borrow.Author.Tests.{ltb-true, ltb-false}
use Rattle.field.specs.Field.{Operations, Field}
use Rattle.field.proofs.Derived.{sub_self, mul-zero, eq_of_sub_eq_zero}
use Rattle.lists.specs.All.{All, done, ◌also◌}
use Rattle.words.specs.Word.{Word}
use Rattle.words.specs.Order.{Order, Admissible}
use Rattle.algebra.specs.Poly.{Poly, coeff, Same, sub}
use Rattle.algebra.specs.Written.{Written, zero}
use Rattle.algebra.specs.Ideal.{Family, Line, product, value}
use Rattle.algebra.specs.Steps.{take_away}
use Rattle.algebra.proofs.Coefficients.{coeff-nil, red-coeff, coeff-append, coeff-sub}
use Rattle.algebra.proofs.WrittenForm.{written_unique}
use Rattle.algebra.proofs.Running.{take_away-coeff, take_away-written}
use Rattle.package.specs.Sums.{SumLine}
use Rattle.acceptance.specs.Content.{line_of, lines_of}
use Rattle.acceptance.specs.Check.{fine, Left, fails, over, rest, less, sum_verdict}
use Rattle.acceptance.specs.Facts.{FewTerms, SumHolds}
use Rattle.acceptance.proofs.Verdicts.{refusal_not_fine}

module _ (K : Operations) (O : Order) (G : Family) where
  -- what is left of f when the lines are taken away, in order
  unfoldable pub remaining : Poly → List Line → Poly
  remaining f [] = f
  remaining f (x ∷ xs) = remaining (take_away K O G f x) xs

  pub remaining_append : (f : Poly) (xs ys : List Line) → remaining f (xs ++ ys) ≡ remaining (remaining f xs) ys
  unfolding remaining
  remaining_append f [] ys = refl
  remaining_append f (x ∷ xs) ys = remaining_append (take_away K O G f x) xs ys

module _ {K : Operations} (F : Field K) {O : Order} (A : Admissible O) (G : Family) where
  open K use {neg}
  open F use {add-zero, add_assoc, mul-add}

  pub remaining_coeff : (f : Poly) (xs : List Line) (w : Word) → coeff K (remaining K O G f xs) w ≡ coeff K (sub K f (value K G xs)) w
  unfolding remaining value
  remaining_coeff f [] w = sym (coeff-sub F f [] w ∙ rw (coeff-nil F w, mul-zero F, add-zero) (red-coeff F f w))
  remaining_coeff f (x ∷ xs) w =
      remaining_coeff (take_away K O G f x) xs w
      ∙ coeff-sub F (take_away K O G f x) (value K G xs) w
      ∙ rw (take_away-coeff F A G f x w, coeff-sub F f (product K G x) w, add_assoc, ← mul-add (neg 1), ← coeff-append F (product K G x))
      (sym (coeff-sub F f (product K G x ++ value K G xs) w))

  pub remaining_written : (f : Poly) (xs : List Line) → Written K O f → Written K O (remaining K O G f xs)
  unfolding remaining
  remaining_written f [] c = c
  remaining_written f (x ∷ xs) c = remaining_written (take_away K O G f x) xs (take_away-written F A G f x c)

  -- nothing is left exactly if the sum equals the target
  pub remaining_zero : (f : Poly) (xs : List Line) → Written K O f → (remaining K O G f xs ≡ []) ↔ Same K f (value K G xs)
  remaining_zero f xs c = (
    λ e w. sym (red-coeff F f w)
        ∙ eq_of_sub_eq_zero F _ _ (sym (coeff-sub F f (value K G xs) w) ∙ sym (remaining_coeff f xs w) ∙ ap (λ (g : Poly). coeff K g w) e ∙ coeff-nil F w)
        ∙ red-coeff F (value K G xs) w,
    λ s. written_unique F A (remaining_written f xs c) zero
        (λ w. remaining_coeff f xs w ∙ coeff-sub F f (value K G xs) w ∙ rw (s w) (sub_self F _) ∙ sym (coeff-nil F w)),
  )

  -- each line leaves at most 512 terms
  data Small : Poly → List Line → Type 0 where
    none : {f : Poly} → Small f []
    line : {f : Poly} {x : Line} {xs : List Line} → length (take_away K O G f x) ≤ 512 → Small (take_away K O G f x) xs → Small f (x ∷ xs)

  -- by prefixes of the lines, as 01 says it
  small_at : {f : Poly} {xs : List Line} → Small f xs → (before : List Line) (x : Line) (after : List Line) → before ++ (x ∷ after) ≡ xs
      → length (remaining K O G f (before ++ (x ∷ []))) ≤ 512
  unfolding remaining
  small_at none [] x after e = absurd (cons≢nil e)
  small_at none (b ∷ bs) x after e = absurd (cons≢nil e)
  small_at (line {x = y} h s) [] x after e = rw (cons-eq-cons.0 e).0 h
  small_at (line {x = y} h s) (b ∷ bs) x after e = rw (cons-eq-cons.0 e).0 (small_at s bs x after (cons-eq-cons.0 e).1)

  small_by : (f : Poly) (xs : List Line)
      → ((before : List Line) (x : Line) (after : List Line) → before ++ (x ∷ after) ≡ xs → length (remaining K O G f (before ++ (x ∷ []))) ≤ 512) → Small f xs
  unfolding remaining
  small_by f [] h = none
  small_by f (x ∷ xs) h = line (h [] x xs refl) (small_by (take_away K O G f x) xs (λ b y a e. h (x ∷ b) y a (ap (x ∷◌) e)))

  few-small : (f : Poly) (xs : List Line) → Written K O f → FewTerms K O G f xs ↔ Small f xs
  few-small f xs c = (
    λ r. small_by f xs (λ b x a e. r b x a e (remaining K O G f (b ++ (x ∷ []))) (remaining_written f (b ++ (x ∷ [])) c) (remaining_coeff f (b ++ (x ∷ [])))),
    λ s b x a e g w t. rw (written_unique F A w (remaining_written f (b ++ (x ∷ [])) c) (λ u. t u ∙ sym (remaining_coeff f (b ++ (x ∷ [])) u))) (small_at s b x a e),
  )

  -- what the computation with sum lines gives: a line that fails the test, one that leaves too many terms, or what remains
  module _ (test : Line → Bool) where
    Passes : List SumLine → Type 0
    Passes ss = All (λ x. test x ≡ true) (lines_of ss)

    Gives : Poly → List SumLine → Left → Type 0
    Gives f ss (fails n) = Passes ss → ⊥
    Gives f ss (over n) = Small f (lines_of ss) → ⊥
    Gives f ss (rest g) = Passes ss × (Small f (lines_of ss) × (g ≡ remaining K O G f (lines_of ss)))

    gives : (f : Poly) (ss : List SumLine) → Gives f ss (less test K O G f ss)
    unfolding Passes Gives less lines_of remaining
    gives f [] = (done, (none, refl))
    gives f (s ∷ ss) = go (test (line_of s)) refl (ltb 512 (length g)) refl (less test K O G g ss) (gives g ss)
      where
        g : Poly
        g = take_away K O G f (line_of s)

        first : Passes (s ∷ ss) → test (line_of s) ≡ true
        first (p also ps) = p

        later : Passes (s ∷ ss) → Passes ss
        later (p also ps) = ps

        few : Small f (line_of s ∷ lines_of ss) → length g ≤ 512
        few (line a b) = a

        fewer : Small f (line_of s ∷ lines_of ss) → Small g (lines_of ss)
        fewer (line a b) = b

        more : test (line_of s) ≡ true → length g ≤ 512 → (o : Left) → Gives g ss o → Gives f (s ∷ ss) o
        more t h (fails n) k = λ p. k (later p)
        more t h (over n) k = λ p. k (fewer p)
        more t h (rest x) (a, (b, c)) = (t also a, (line h b, c))

        go : (t : Bool) → test (line_of s) ≡ t → (u : Bool) → ltb 512 (length g) ≡ u → (o : Left) → Gives g ss o
            → Gives f (s ∷ ss) (elim t [ false ↦ fails s.line | true ↦ elim u [ true ↦ over s.line | false ↦ o ] ])
        go false e u d o k = λ p. true≢false (sym (first p) ∙ e)
        go true e true d o k = λ p. let x = few p in let y = ltb-true 512 (length g) d in omega arith
        go true e false d o k = more e (ltb-false 512 (length g) d) o k

    -- an item is not refused exactly if every line passes the test and the sum holds
    pub sum_iff : (n i : ℕ) (f : Poly) (ss : List SumLine) → Written K O f
        → (sum_verdict n i (less test K O G f ss) ≡ fine) ↔ (All (λ x. test x ≡ true) (lines_of ss) × SumHolds K O G f (lines_of ss))
    unfolding Passes Gives sum_verdict
    sum_iff n i f ss c = (to (less test K O G f ss) (gives f ss), from (less test K O G f ss) (gives f ss))
      where
        to : (o : Left) → Gives f ss o → sum_verdict n i o ≡ fine → All (λ x. test x ≡ true) (lines_of ss) × SumHolds K O G f (lines_of ss)
        to (fails m) k e = absurd (refusal_not_fine e)
        to (over m) k e = absurd (refusal_not_fine e)
        to (rest []) (a, (b, d)) e = (a, record { equal = (remaining_zero f (lines_of ss) c).0 (sym d); few = (few-small f (lines_of ss) c).1 b })
        to (rest (t ∷ g)) k e = absurd (refusal_not_fine e)

        from : (o : Left) → Gives f ss o → All (λ x. test x ≡ true) (lines_of ss) × SumHolds K O G f (lines_of ss) → sum_verdict n i o ≡ fine
        from (fails m) k h = absurd (k h.0)
        from (over m) k h = absurd (k ((few-small f (lines_of ss) c).0 h.1.few))
        from (rest []) k h = refl
        from (rest (t ∷ g)) (a, (b, d)) h = absurd (cons≢nil (d ∙ (remaining_zero f (lines_of ss) c).1 h.1.equal))
