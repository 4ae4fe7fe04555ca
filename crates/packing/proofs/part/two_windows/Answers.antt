-- `two_windows`: both windows are made of three blocks, by one division of the place.
use mathlib.Core.Path.{◌≡◌, ap₂, ◌∙◌}
use mathlib.Core.List.{List}
use Prim.Native.Nat.{ℕ, ◌+◌, ◌-◌, ◌*◌, ◌/◌, ◌%◌, ◌^◌}
use native.Mathlib.Omega.{arith}
use lib.ListN.{get_or, set}
use Rattle.packedwords.specs.Packed.{window_of}
use borrow.Author.Rules.{rules}
use Rattle.packing.proofs.part.two_windows.Goals as goal

-- twelve letters further on it is the next block, at the same letter
next-window : (S : List ℕ) (i : ℕ)
    → get_or S (i / 12 + 1) 0 * 2 ^ (i % 12 * 5) % 2 ^ 60 + get_or S (i / 12 + 2) 0 / 2 ^ (60 - i % 12 * 5) ≡ window_of S (i + 12)
next-window S i =
    let block : (i + 12) / 12 ≡ i / 12 + 1 = omega arith in
    let letters : (i + 12) % 12 ≡ i % 12 = omega arith in
    let two : i / 12 + 1 + 1 ≡ i / 12 + 2 = omega arith in
    rw (block, letters, two)

pub down-requires : goal.down-requires
down-requires c = (search rules, c.requires.1 _)

pub down-requires-2 : goal.down-requires-2
down-requires-2 c = (search rules, c.requires.1 _)

pub returns : goal.returns
returns c =
    let a = c.args in
    let i = a.i in
    let first = ap₂ ◌+◌ c.up.ensures.0 c.down.ensures.0 in
    let second = ap₂ ◌+◌ c.up-2.ensures.0 c.down-2.ensures.0 ∙ next-window a.src.now i in
    ap₂ (λ (x y : ℕ). set (set a.dst.now 0 x) 1 y) first second
