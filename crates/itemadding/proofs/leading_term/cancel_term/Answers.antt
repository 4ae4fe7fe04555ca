-- `cancel_term` leaves out the term that the leading term cancels, and takes the others away, the second at that term's place: together the multiple.
use mathlib.Core.Path.{◌≡◌, ap, ◌∙◌}
use Prim.Native.Nat.{suc, ◌+◌, ◌-◌, ◌≤◌, ◌<◌}
use native.Mathlib.Numerals.{add-one}
use native.Mathlib.Omega.{arith}
use Rattle.words.proofs.Admissible.{lt-around}
use Rattle.algebra.specs.Written.{plus}
use Rattle.table.specs.Polynomials.{word_in, term_in}
use Rattle.table.specs.Table.{field_in, order_in, terms_in, first_in}
use Rattle.packedterms.specs.InFormula.{letters_in}
use Rattle.table.proofs.FallingWords.{item_falls}
use Rattle.table.proofs.LeadingTerms.{terms-first}
use Rattle.packedterms.proofs.LeftOut.{left-out-working, left-out-formula}
use Rattle.itemadding.proofs.FirstTerm.{second-behind, cancelled_sum, cancelled_all}
use Rattle.itemadding.proofs.Sums.{rest_skip}
use Rattle.itemadding.proofs.leading_term.cancel_term.Goals as goal

-- the item's first term is one of the table
inside : (f : goal.After-first_in-end) → f.first_in-first.result < terms_in f.args.t.now
inside f =
    let t = f.args.t.now in
    let item = f.args.item in
    let q = (terms-first (term_in t) (first_in t item) (first_in t (suc item) - first_in t item) f.requires.lead_place.1.some).0 in
    omega (arith, f.first_in-first.ensures, q, f.requires.tabled.0.most item f.requires.tabled.2 f.requires.tabled.3)

pub overflow_add-first : goal.overflow_add-first
overflow_add-first c =
    let q = c.requires.tabled.0.terms in
    record { fits = omega (arith, inside c) }

pub replace_item-requires : goal.replace_item-requires
replace_item-requires c =
    let end_is : c.first_in-end.result ≡ first_in c.args.t.now (suc c.args.item) = c.first_in-end.ensures ∙ ap (first_in c.args.t.now) (add-one c.args.item) in
    let a = c.args in
    let t = a.t.now in
    let (tabled, _, some, item, _) = c.requires.tabled in
    let held = c.requires.working in
    let (low, at) = c.requires.lead_place in
    let i = first_in t a.item in
    let more : i + 1 < first_in t (suc a.item) = omega (arith, c.if-first-end.true, c.first_in-first.ensures, end_is) in
    let A = tabled.suits.admissible in
    let less = lt-around A (letters_in t a.left.now) (letters_in t a.right.now) (word_in t (i + 1)) (word_in t i)
    (item_falls t tabled a.item some item i (i + 1) (omega arith) (omega arith) more) in
    record {
      tabled = c.requires.tabled;
      sixfold = c.requires.sixfold;
      working = (held, low, more);
      behind = second-behind t tabled i (first_in t (suc a.item)) _ _ _ _ _ _ _ _ _ held low at (word_in t (i + 1)) less;
    }

pub returns-then-first-end : goal.returns-then-first-end
returns-then-first-end c =
    let a = c.args in
    let t = a.t.now in
    let tabled = c.requires.tabled.0 in
    let held = c.requires.working in
    let (low, at) = c.requires.lead_place in
    let first = first_in t a.item in
    let end = first_in t (suc a.item) in
    let g = c.replace_item.ensures in
    let sum = cancelled_sum t tabled first end _ _ _ _ _ _ _ _ _ held low at in
    let skipped = rest_skip t ((field_in t).neg a.x) (letters_in t a.left.now) (letters_in t a.right.now) end first 1 in
    record {
      upper_bound = g.upper_bound;
      working_2 = g.working_2;
      taken = (g.taken ∙ ap (plus (field_in t) (order_in t) _) skipped) ∙ sum;
    }

pub returns-else-first-end : goal.returns-else-first-end
returns-else-first-end c =
    let end_is : c.first_in-end.result ≡ first_in c.args.t.now (suc c.args.item) = c.first_in-end.ensures ∙ ap (first_in c.args.t.now) (add-one c.args.item) in
    let a = c.args in
    let t = a.t.now in
    let tabled = c.requires.tabled.0 in
    let held = c.requires.working in
    let (low, at) = c.requires.lead_place in
    let first = first_in t a.item in
    let end = first_in t (suc a.item) in
    let moved = c.drop_term.ensures.moved in
    let f = a.f.now in
    let none : end ≤ first + 1 = omega (arith, c.if-first-end.false, c.first_in-first.ensures, end_is) in
    let sum = cancelled_all t tabled first end a.x (letters_in t a.left.now) (letters_in t a.right.now)
    f.coefs f.sizes f.blocks f.places f.terms a.k held low at none in rw (c.drop_term.ensures.same.0.coefs, c.drop_term.ensures.same.0.sizes, c.drop_term.ensures.same.0.blocks, c.drop_term.ensures.same.1) record {
      upper_bound = omega arith;
      working_2 = left-out-working t f.coefs f.sizes f.blocks f.places f.terms a.k low c.drop_term.new.self.places moved held;
      taken = left-out-formula t f.coefs f.sizes f.blocks f.places f.terms a.k low c.drop_term.new.self.places moved ∙ sum;
    }
