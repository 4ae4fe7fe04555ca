use mathlib.Core.Path.{◌≡◌}
use mathlib.Core.List.{List}
use Prim.Native.Nat.{ℕ, ◌+◌, ◌*◌, ◌≤◌}
use lib.ListN.{length}
use Rattle.package.specs.Writing.{write_formula}
use Rattle.packedtexts.proofs.Texts.{rest_text}
use Rattle.packedterms.specs.Formula.{term_at, formula}
use Rattle.packedtexts.proofs.writing.text_len.Given as goal

abbrev pub invariant-loop-k : goal.invariant-loop-k
invariant-loop-k l =
    (l.r ≤ 10 + l.k * 8589934592)
    × ((t w : List ℕ) → l.r + length (rest_text (term_at t l.f.coefs l.f.sizes w l.f.places) l.f.terms l.k) ≡ length (write_formula (formula t l.f.coefs l.f.sizes w l.f.places l.f.terms)))
