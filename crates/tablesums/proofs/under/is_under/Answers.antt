-- `is_under` makes left × leading word × right, and compares it by numbers.
use mathlib.Core.Path.{ap, ◌∙◌}
use Prim.Native.Nat.{◌+◌}
use native.Mathlib.Omega.{arith}
use borrow.Author.Rules.{rules}
use Rattle.words.specs.Word.{around}
use Rattle.packedterms.specs.InFormula.{letters_in}
use Rattle.tablesums.specs.Lines.{line_in}
use Rattle.tablesums.proofs.Comparisons.{built-stand, under_is}
use Rattle.tablesums.proofs.CutFactors.{lead-found}
use Rattle.tablesums.proofs.under.is_under.Goals as goal

pub build-requires : goal.build-requires
build-requires c =
    let (tabled, some, most, _) = c.requires.tabled in
    let found = lead-found c.args.t.now tabled c.args.of c.first_in-first.result (c.gens_in.result + c.args.of) c.first_in-first.ensures (let e = c.gens_in.ensures in omega arith) some most in
    let (l, r) = c.requires.short in
    record {
      tabled = (tabled, found.inside);
      sixfold = (l.six, r.six, omega (arith, l.few, r.few, found.few));
    }

pub returns : goal.returns
returns c =
    let t = c.args.t.now in
    let (tabled, some, most, lap) = c.requires.tabled in
    let found = lead-found t tabled c.args.of c.first_in-first.result (c.gens_in.result + c.args.of) c.first_in-first.ensures (let e = c.gens_in.ensures in omega arith) some most in
    let stands = c.stand.ensures ∙ built-stand t tabled.suits _ _ _ _ c.build.ensures.built lap in
    let made = c.build.ensures.word ∙ ap (around (letters_in t c.args.left.now) (letters_in t c.args.right.now)) found.word in
    record {
      by_index = λ x.
          let told = under_is t (line_in t x c.args.left.now c.args.of c.args.right.now) _ _ _ stands made in
          rw (← told) (search rules);
    }
