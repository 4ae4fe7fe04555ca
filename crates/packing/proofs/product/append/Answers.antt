-- `append` puts a word behind another: the three numbers that it stores are the product's blocks from the seam on.
use mathlib.Core.Path.{refl, sym, ◌∙◌, ap, ap₂}
use Prim.Native.Nat.{ℕ, ◌+◌, ◌-◌, ◌*◌, ◌/◌, ◌%◌, ◌^◌}
use native.Mathlib.Omega.{arith}
use lib.ListN.{get_or, take, drop}
use Rattle.lists.proofs.Parts.{part_length}
use Rattle.packedwords.proofs.Blocks.{packs-blocks}
use Rattle.packing.proofs.ThreeStores.{first_of_two, second_of_two, first-lt, second_lt, three_stores}
use Rattle.packing.proofs.product.append.Goals as goal

pub down-requires : goal.down-requires
down-requires c =
    (omega arith, first-lt c.args.src.now c.args.from c.args.n c.requires.packs.1)

pub overflow_add-a : goal.overflow_add-a
overflow_add-a c =
    omega (arith, c.down.ensures.1, packs-blocks c.args.m c.args.dst.now c.requires.packs.0 (c.args.m / 12))

pub down-requires-2 : goal.down-requires-2
down-requires-2 c =
    (omega arith, second_lt c.args.src.now c.args.from c.args.n c.requires.packs.1)

pub returns : goal.returns
returns c =
    let D = c.args.dst.now in
    let src = c.args.src.now in
    let from = c.args.from in
    let m = c.args.m in
    let x = sym (first_of_two src from) in
    let y = sym (second_of_two src from) in
    let a = c.down.ensures.0 ∙ ap (λ (b : ℕ). b / 2 ^ (m % 12 * 5)) x in
    let b = c.up.ensures.0 ∙ ap (λ (b : ℕ). b * 2 ^ (60 - m % 12 * 5) % 2 ^ 60) x in
    let d = c.down-2.ensures.0 ∙ ap (λ (b : ℕ). b / 2 ^ (m % 12 * 5)) y in
    let e = c.up-c.ensures.0 ∙ ap (λ (b : ℕ). b * 2 ^ (60 - m % 12 * 5) % 2 ^ 60) y in
    let two = part_length from 2 src c.requires.n_bound.3 in
    let p = three_stores D (take 2 (drop from src)) m c.args.n c.requires.packs.0 c.requires.packs.1 c.requires.n_bound.0 c.requires.n_bound.2 two _ _ _
    (ap (λ (b : ℕ). get_or D (m / 12) 0 + b) a) (ap₂ (λ (b c : ℕ). b + c) b d) e _ refl in
    record {
      value = (refl, p.0, p.1);
      dst_after = p.2;
    }
