-- `read_terms`: the lines that are left, behind the terms stored, say what all say.
use mathlib.Core.Path.{refl, sym, ◌∙◌}
use native.Mathlib.Numerals.{add-one}
use native.Mathlib.Omega.{arith}
use Rattle.std.proofs.lemmas.Result.{err_from_is_err_and}
use Rattle.package.proofs.TermJudging.{counted-word, judged-room}
use Rattle.package.proofs.AcceptedTerms.{accepted-small}
use Rattle.package.proofs.TermSlices.{kept-length, inside_store}
use Rattle.lists.proofs.Parts.{part_length}
use Rattle.package.specs.Held.{above_of, held_terms, seen_judged, reach_judged, seen_terms, TermsHeld}
use Rattle.package.specs.Terms.{start}
use Rattle.termreading.proofs.TermTurns.{turn_missing, turn_names, turn-refused, turn_again}
use Rattle.termreading.proofs.term_lines.read_terms.Goals as goal

pub loop-h-init : goal.loop-h-init
unfolding start held_terms
loop-h-init c = record {
  in_text = omega arith;
  line_bound = omega arith;
  n_bound = omega arith;
  count_bound = omega arith;
  last_inside = omega arith;
  block = refl;
  words = λ i z. absurd (omega arith);
}

pub returns-then-s-e : goal.returns-then-s-e
unfolding seen_terms TermsHeld
returns-then-s-e c =
    let x = c.loop-h in
    let a = c.args in
    let s = a.s.now in record {
      result_after = turn_missing a.h a.m (above_of s x.last) (held_terms s x.kinds x.items x.coefs x.starts x.lens x.n) x.line s x.at _
          c.find-e.ensures.value c.if-s-e.true ∙ x.invariant.block;
      terms_held = tt;
    }

pub returns-then-is_sum_names : goal.returns-then-is_sum_names
unfolding seen_terms TermsHeld
returns-then-is_sum_names c =
    let x = c.loop-h in
    let a = c.args in
    let s = a.s.now in record {
      result_after = rw add-one (turn_names a.h a.m (above_of s x.last) (held_terms s x.kinds x.items x.coefs x.starts x.lens x.n) x.line s
          x.at _ c.find-e.ensures.value c.if-s-e.false (sym c.is_sum_names.ensures ∙ c.if-is_sum_names.true) ∙ x.invariant.block);
      terms_held = ((omega arith, x.invariant.words), omega arith, omega arith);
    }

pub returns-in_err-t : goal.returns-in_err-t
unfolding seen_terms TermsHeld seen_judged
returns-in_err-t c =
    let x = c.loop-h in
    let a = c.args in
    let s = a.s.now in
    let e = c.in_err-t.ensures in
    let p = err_from_is_err_and c.from_residual.result c.from_residual.ensures.1 in
    let j = sym e.result_value in
    let k = rw (← kept-length s x.kinds x.items x.coefs x.starts x.lens x.n) at j in
    rw (p.1, p.2) (record {
      result_after = rw e.place (turn-refused a.h a.m (above_of s x.last) (held_terms s x.kinds x.items x.coefs x.starts x.lens x.n) x.line s x.at _
          c.find-e.ensures.value c.if-s-e.false (sym c.is_sum_names.ensures ∙ c.if-is_sum_names.false) _ k ∙ x.invariant.block);
      terms_held = tt;
    })

pub store_term-requires : goal.store_term-requires
unfolding seen_judged reach_judged
store_term-requires c =
    let x = c.loop-h in
    let a = c.args in
    let p = c.requires in
    let s = a.s.now in
    let e = c.in_ok-t.ensures in
    let j = sym e.result_value in
    let r = judged-room a.h a.m (above_of s x.last) x.n _ _ _ _ _ j in
    let f = accepted-small a.h a.m (above_of s x.last) x.n _ _ _ _ _ p.letters_bound.1 p.letters_bound.2 j in
    let w = part_length _ _ s e.result_in_bounds in record {
      n_in_bounds = (omega arith, omega arith, omega arith, omega arith, omega arith);
      kind_bound = (omega (arith, f.kind), omega (arith, f.item), omega (arith, e.result_in_bounds), omega (arith, w, f.short, p.terms_bound.1));
    }

pub loop-h-preserved : goal.loop-h-preserved
unfolding seen_judged reach_judged
loop-h-preserved c =
    let x = c.loop-h in
    let a = c.args in
    let s = a.s.now in
    let k = c.requires.kinds_len in
    let j = sym c.in_ok-t.ensures.result_value in
    let r = judged-room a.h a.m (above_of s x.last) x.n _ _ _ _ _ j in
    let b = c.in_ok-t.ensures.result_in_bounds in
    let m = c.term_count.ensures ∙ counted-word s x.last _ _ in
    let e = c.store_term.ensures in record {
      in_text = omega arith;
      line_bound = omega arith;
      n_bound = omega arith;
      count_bound = omega arith;
      last_inside = b;
      block = turn_again a.h a.m s x.last x.kinds x.items x.coefs x.starts x.lens x.n x.line x.at _ _ _ _ _ _ _ _ _ _ _
          e.kinds_after e.after e.coefs_after e.starts_after e.lens_after
          (x.auto.kinds ∙ k.0) (x.auto.items ∙ k.1) (x.auto.coefs ∙ k.2) (x.auto.starts ∙ k.3) (x.auto.lens ∙ k.4) r.0
          c.find-e.ensures.value c.if-s-e.false (sym c.is_sum_names.ensures ∙ c.if-is_sum_names.false) j _ m
          ∙ x.invariant.block;
      words = inside_store s x.starts x.lens _ _ x.n _ _ e.starts_after e.lens_after (x.auto.starts ∙ k.3) (x.auto.lens ∙ k.4) r.0 b x.invariant.words;
    }
