-- `replace_item` puts the product of the second term at term k's place and takes the others away: the sum without the first terms.
use mathlib.Core.Path.{◌≡◌, sym, ap, ◌∙◌}
use mathlib.Core.List.{◌∷◌}
use Prim.Native.Nat.{ℕ, suc, ◌+◌, ◌<◌}
use native.Mathlib.Numerals.{add-one}
use native.Mathlib.Omega.{arith}
use Rattle.words.specs.Word.{around}
use Rattle.algebra.specs.Written.{plus}
use Rattle.working.specs.Change.{single}
use Rattle.table.specs.Polynomials.{word_in}
use Rattle.table.specs.Table.{field_in, order_in, terms_in, first_in, coef_in}
use Rattle.packedterms.specs.InFormula.{letters_in}
use Rattle.itemadding.proofs.Lowering.{lower_next}
use Rattle.itemadding.proofs.Sums.{rest, rest-next, rest_end, rest_skip, sum-next, sum-end, replaced_working}
use Rattle.itemadding.proofs.replacing.replace_item.Goals as goal

-- the second term of the item is one of the table
inside : (f : goal.After-first_in-i) → let a = f.args in f.first_in-i.result + 1 < terms_in a.t.now
inside f =
    omega (arith, f.first_in-i.ensures, f.requires.working.2, f.requires.tabled.0.most f.args.item f.requires.tabled.2 f.requires.tabled.3)

pub overflow_add-i : goal.overflow_add-i
overflow_add-i c = let q = c.requires.tabled.0.terms in record { fits = omega (arith, inside c) }

pub opposite_coef-z-requires : goal.opposite_coef-z-requires
opposite_coef-z-requires c = (c.requires.tabled.0, c.requires.tabled.1, inside c)

pub build-requires : goal.build-requires
build-requires c =
    let inside : let a = c.args in c.first_in-i.result + 1 < terms_in a.t.now = omega (arith, c.first_in-i.ensures, c.requires.working.2, c.requires.tabled.0.most c.args.item c.requires.tabled.2 c.requires.tabled.3) in
    let (l, r, fits) = c.requires.sixfold in
    let e = c.first_in-i.ensures in
    let more = c.requires.working.2 in
    record {
      tabled = (c.requires.tabled.0, inside);
      sixfold = (l, r, fits.short (c.first_in-i.result + 1) (omega arith) (omega arith));
    }

pub replace_term-at-requires : goal.replace_term-at-requires
replace_term-at-requires c =
    let (works, low, _) = c.requires.working in
    let e = c.first_in-i.ensures in
    record {
      tabled = (c.requires.tabled.0, c.opposite_coef-z.ensures.1, low, c.build.ensures.built);
      working = works;
      behind = rw (c.build.ensures.word, e) c.requires.behind;
    }

pub first_in-end-requires : goal.first_in-end-requires
first_in-end-requires c =
    let t = c.requires.tabled.0 in
    omega (arith, t.gens, t.basis, c.requires.tabled.3)

pub overflow_add-i-2 : goal.overflow_add-i-2
overflow_add-i-2 c =
    let inside : let a = c.args in c.first_in-i.result + 1 < terms_in a.t.now = omega (arith, c.first_in-i.ensures, c.requires.working.2, c.requires.tabled.0.most c.args.item c.requires.tabled.2 c.requires.tabled.3) in
    let q = c.requires.tabled.0.terms in
    record { fits = omega (arith, inside) }

pub returns-else-i-end : goal.returns-else-i-end
returns-else-i-end c =
    let end_is : let a = c.args in c.first_in-end.result ≡ first_in a.t.now (suc a.item) = let a = c.args in c.first_in-end.ensures ∙ ap (first_in a.t.now) (add-one a.item) in
    let product : let a = c.args in let t = a.t.now in around (letters_in t a.left.now) (letters_in t a.right.now) (word_in t (c.first_in-i.result + 1)) ≡ around (letters_in t a.left.now) (letters_in t a.right.now) (word_in t (first_in t a.item + 1)) = let a = c.args in
    let t = a.t.now in
    ap (λ (j : ℕ). around (letters_in t a.left.now) (letters_in t a.right.now) (word_in t (j + 1))) c.first_in-i.ensures in
    let next : let a = c.args in let t = a.t.now in let x = (field_in t).neg a.x in let left = letters_in t a.left.now in let right = letters_in t a.right.now in let end = first_in t (suc a.item) in let i = first_in t a.item in rest t x left right end (i + 1) ≡ single c.opposite_coef-z.result (around left right (word_in t (c.first_in-i.result + 1))) ∷ rest t x left right end (i + 2) = let a = c.args in
    let t = a.t.now in
    let x = (field_in t).neg a.x in
    let i = first_in t a.item in
    let coefficient = c.opposite_coef-z.ensures.0 ∙ ap (λ (j : ℕ). (field_in t).mul x (coef_in t (j + 1))) c.first_in-i.ensures in
    let two : i + 1 + 1 ≡ i + 2 = omega arith in
    let left = letters_in t a.left.now in
    let right = letters_in t a.right.now in
    rw two at (rest-next t x left right (first_in t (suc a.item)) (i + 1) _ _ c.requires.working.2 coefficient (product)) in
    let a = c.args in
    let t = a.t.now in
    let (held, low, _) = c.requires.working in
    let e = c.replace_term-at.ensures in
    let less = e.holds.0 in
    let x = (field_in t).neg a.x in
    let left = letters_in t a.left.now in
    let right = letters_in t a.right.now in
    let end = first_in t (suc a.item) in
    let i = first_in t a.item in
    let none = rest_end t x left right end (i + 2) (omega (arith, c.if-i-end.false, c.first_in-i.ensures, end_is)) in
    let sum = sum-end (field_in t) (order_in t) _ _ _ (rest t x left right end (i + 1)) (rest t x left right end (i + 2)) (rw c.build.ensures.word at e.replaced) (next) none in record {
      upper_bound = omega arith;
      working_2 = replaced_working t c.requires.tabled.0 _ _ _ _ _ _ held low _ _ _ _ _ _ e.holds.1 e.replaced;
      taken = sum ∙ ap (plus (field_in t) (order_in t) _) (sym (rest_skip t x left right end i 1));
    }

pub take_item-requires : goal.take_item-requires
take_item-requires c =
    let product : let a = c.args in let t = a.t.now in around (letters_in t a.left.now) (letters_in t a.right.now) (word_in t (c.first_in-i.result + 1)) ≡ around (letters_in t a.left.now) (letters_in t a.right.now) (word_in t (first_in t a.item + 1)) = let a = c.args in
    let t = a.t.now in
    ap (λ (j : ℕ). around (letters_in t a.left.now) (letters_in t a.right.now) (word_in t (j + 1))) c.first_in-i.ensures in
    let a = c.args in
    let t = a.t.now in
    let (tabled, small, some, item, room) = c.requires.tabled in
    let (held, low, _) = c.requires.working in
    let e = c.replace_term-at.ensures in
    let less = e.holds.0 in
    let works = replaced_working t tabled _ _ _ _ _ _ held low _ _ _ _ _ _ e.holds.1 e.replaced in
    let next : first_in t a.item + 1 + 1 ≡ first_in t a.item + 2 = omega arith in
    let lower = lower_next t tabled a.item some item (letters_in t a.left.now) (letters_in t a.right.now) (first_in t a.item + 1)
    (omega arith) _ _ (c.build.ensures.word ∙ product) e.behind_2 in record {
      tabled = (tabled, small, some, item, omega arith, omega arith);
      sixfold = c.requires.sixfold;
      working = (works, rw next at lower);
    }

pub returns-then-i-end : goal.returns-then-i-end
returns-then-i-end c =
    let product : let a = c.args in let t = a.t.now in around (letters_in t a.left.now) (letters_in t a.right.now) (word_in t (c.first_in-i.result + 1)) ≡ around (letters_in t a.left.now) (letters_in t a.right.now) (word_in t (first_in t a.item + 1)) = let a = c.args in
    let t = a.t.now in
    ap (λ (j : ℕ). around (letters_in t a.left.now) (letters_in t a.right.now) (word_in t (j + 1))) c.first_in-i.ensures in
    let next : let a = c.args in let t = a.t.now in let x = (field_in t).neg a.x in let left = letters_in t a.left.now in let right = letters_in t a.right.now in let end = first_in t (suc a.item) in let i = first_in t a.item in rest t x left right end (i + 1) ≡ single c.opposite_coef-z.result (around left right (word_in t (c.first_in-i.result + 1))) ∷ rest t x left right end (i + 2) = let a = c.args in
    let t = a.t.now in
    let x = (field_in t).neg a.x in
    let i = first_in t a.item in
    let coefficient = c.opposite_coef-z.ensures.0 ∙ ap (λ (j : ℕ). (field_in t).mul x (coef_in t (j + 1))) c.first_in-i.ensures in
    let two : i + 1 + 1 ≡ i + 2 = omega arith in
    let left = letters_in t a.left.now in
    let right = letters_in t a.right.now in
    rw two at (rest-next t x left right (first_in t (suc a.item)) (i + 1) _ _ c.requires.working.2 coefficient (product)) in
    let a = c.args in
    let t = a.t.now in
    let e = c.replace_term-at.ensures in
    let less = e.holds.0 in
    let g = c.take_item.ensures in
    let x = (field_in t).neg a.x in
    let left = letters_in t a.left.now in
    let right = letters_in t a.right.now in
    let end = first_in t (suc a.item) in
    let i = first_in t a.item in
    let sum = sum-next (field_in t) (order_in t) _ _ _ (rest t x left right end (i + 1)) (rest t x left right end (i + 2)) (rw c.build.ensures.word at e.replaced) (next) in record {
      upper_bound = omega (arith, g.upper_bound);
      working_2 = g.working_2;
      taken = g.taken
          ∙ ap (plus (field_in t) (order_in t) _) (rest_skip t x left right end i 2)
          ∙ sum
          ∙ ap (plus (field_in t) (order_in t) _) (sym (rest_skip t x left right end i 1));
    }
