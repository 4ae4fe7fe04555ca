-- A term inserted into a run of terms, where it is known to belong.
use mathlib.Core.Path.{◌≡◌, refl, sym, ap, ◌∙◌}
use mathlib.Core.Logic.{◌≢◌}
use mathlib.Core.List.{[], ◌++◌}
use Prim.Native.Nat.{ℕ, ◌-◌, ◌≤◌, ◌<◌}
use native.Mathlib.Decide.{dec_lt}
use native.Mathlib.Omega.{arith}
use Rattle.field.specs.Field.{Operations}
use Rattle.std.specs.declared.cmp.Ordering.TheVariants.{Equal, Greater}
use Rattle.words.specs.Order.{Order, Lt}
use Rattle.algebra.specs.Poly.{Term, Poly}
use Rattle.algebra.specs.Written.{put, insert}
use Rattle.algebra.proofs.Insertion.{put-zero, put_some, insert-onto, insert-before, insert-behind}
use Rattle.working.specs.Working.{terms}
use Rattle.working.specs.Change.{onto, before}
use Rattle.working.proofs.Terms.{terms-next, terms-end, terms-cut, terms-all}

insert-none : (K : Operations) (O : Order) (t : Term) → insert K O t [] ≡ put K t.coef t.word []
unfolding insert
insert-none K O t = refl

-- t is below the first k of n terms
module _ (K : Operations) (O : Order) (t : Term) (F : ℕ → Term) (n k : ℕ) (above : (j : ℕ) → j < k → Lt O t.word (F j).word) where
  insert-behind-first : (g : Poly) → terms F 0 n ≡ terms F 0 k ++ g → insert K O t (terms F 0 n) ≡ terms F 0 k ++ insert K O t g
  insert-behind-first g e =
      rw e (insert-behind K O t (terms F 0 k) g (terms-all F (λ s. Lt O t.word s.word) 0 k (λ j a b. above j (omega arith))))

  -- and has the word of the next
  pub insert-equal : k < n → O t.word (F k).word ≡ Equal → insert K O t (terms F 0 n) ≡ onto K F n k t.coef
  insert-equal h e =
      insert-behind-first _ (terms-cut F k n (omega arith))
      ∙ ap (λ (f : Poly). terms F 0 k ++ f) (ap (insert K O t) (terms-next F k n h) ∙ insert-onto K O t (F k) _ e)

  -- and above the others
  module _ (h : k ≤ n) (next : k < n → O t.word (F k).word ≡ Greater) where
    insert-first : insert K O t (terms F k (n - k)) ≡ put K t.coef t.word (terms F k (n - k))
    insert-first = go (dec_lt k n)
      where
        go : Dec (k < n) → insert K O t (terms F k (n - k)) ≡ put K t.coef t.word (terms F k (n - k))
        go (no q) = rw (terms-end F k n (omega arith)) (insert-none K O t)
        go (yes q) = rw (terms-next F k n q) (insert-before K O t (F k) _ (next q))

    pub insert-new : K.red t.coef ≡ t.coef → t.coef ≢ 0 → insert K O t (terms F 0 n) ≡ before F n k t.coef t.word
    insert-new r x =
        insert-behind-first _ (terms-cut F k n h)
        ∙ ap (λ (f : Poly). terms F 0 k ++ f) (insert-first ∙ put_some K _ _ _ (λ z. x (sym r ∙ z)) ∙ rw r)

    pub insert-zero : K.red t.coef ≡ 0 → insert K O t (terms F 0 n) ≡ terms F 0 n
    insert-zero x =
        insert-behind-first _ (terms-cut F k n h)
        ∙ ap (λ (f : Poly). terms F 0 k ++ f) (insert-first ∙ put-zero K _ _ _ x)
        ∙ sym (terms-cut F k n h)
