-- `stand`: the weights decide, and where they are equal the blocks.
use mathlib.Core.Path.{◌≡◌, sym, ◌∙◌}
use Prim.Native.Nat.{ℕ}
use native.Mathlib.Omega.{arith}
use borrow.Author.Rules.{rules}
use Rattle.std.specs.Ordering.{nat_cmp}
use Rattle.std.proofs.lemmas.Bool.Decides.{nat_tests}
use Rattle.std.specs.declared.cmp.Ordering.TheVariants.{Equal}
use Rattle.table.specs.Words.{block_count}
use Rattle.words.proofs.Lexicographic.{number_cmp, number_same}
use Rattle.tablesums.proofs.under.stand.Goals as goal

level : (m n : ℕ) → Equal ≡ nat_cmp m n → m ≡ n
level m n h = grind (arith, nat_tests)

compares-equal : (m n : ℕ) → m ≡ n → nat_cmp m n ≡ Equal
compares-equal m n h = grind (arith, nat_tests)

pub returns-in-Equal : goal.returns-in-Equal
returns-in-Equal c =
    let few : c.div_ceil.result ≡ block_count c.args.u.now.size = search rules in
    (rw few at c.compare.ensures) ∙ sym (number_same _ (level _ _ c.in-Equal.ensures))

pub returns-in_default : goal.returns-in_default
returns-in_default c = number_cmp _ c.cmp.ensures (λ same. c.in_default.not-Equal (c.cmp.ensures ∙ compares-equal _ _ same))
