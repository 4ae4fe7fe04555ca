use mathlib.Core.Path.{◌≡◌}
use Prim.Native.Nat.{◌+◌}
use lib.ListN.{length}
use lib.Seq.{sets}
use Rattle.package.specs.Writing.{write_formula}
use Rattle.packedtexts.proofs.Texts.{rest_text}
use Rattle.packedterms.specs.InFormula.{term_in, formula_in}
use Rattle.packedtexts.proofs.writing.write_text.Given as goal

abbrev pub invariant-loop-k : goal.invariant-loop-k
invariant-loop-k l =
    (length l.out ≡ length l.initial.out)
    × (l.at + length (rest_text (term_in l.t l.f) l.f.terms l.k) ≡ length (write_formula (formula_in l.t l.f)))
    × (sets l.out l.at (rest_text (term_in l.t l.f) l.f.terms l.k) ≡ sets l.initial.out 10 (rest_text (term_in l.t l.f) l.f.terms 0))
