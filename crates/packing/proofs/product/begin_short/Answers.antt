-- `begin_short` puts a word behind one of fewer than twelve letters: the three numbers that it stores first are the product's blocks.
use mathlib.Core.Path.{refl, sym, ◌∙◌, ap, ap₂}
use mathlib.Core.List.{◌∷◌}
use Prim.Native.Nat.{ℕ, ◌+◌, ◌-◌, ◌*◌, ◌/◌, ◌%◌, ◌^◌}
use native.Mathlib.Omega.{arith}
use lib.ListN.{get_or, take, drop, replicate}
use Rattle.lists.proofs.Parts.{part_length}
use Rattle.packedwords.proofs.Blocks.{packs-blocks}
use Rattle.packing.proofs.ThreeStores.{first_of_two, second_of_two, first-lt, second_lt, short_stores}
use Rattle.packing.proofs.product.begin_short.Goals as goal

pub down-requires : goal.down-requires
down-requires c =
    (omega arith, first-lt c.args.word.now c.args.from c.args.n c.requires.packs.1)

pub overflow_add-first : goal.overflow_add-first
overflow_add-first c =
    omega (arith, c.down.ensures.1, packs-blocks c.args.a c.args.left.now c.requires.packs.0 0)

pub down-requires-2 : goal.down-requires-2
down-requires-2 c =
    (omega arith, second_lt c.args.word.now c.args.from c.args.n c.requires.packs.1)

pub returns : goal.returns
returns c =
    let L = c.args.left.now in
    let word = c.args.word.now in
    let from = c.args.from in
    let m = c.args.a in
    let x = sym (first_of_two word from) in
    let y = sym (second_of_two word from) in
    let a = c.down.ensures.0 ∙ ap (λ (b : ℕ). b / 2 ^ (m * 5)) x in
    let b = c.up.ensures.0 ∙ ap (λ (b : ℕ). b * 2 ^ (60 - m * 5) % 2 ^ 60) x in
    let d = c.down-2.ensures.0 ∙ ap (λ (b : ℕ). b / 2 ^ (m * 5)) y in
    let e = c.up-third.ensures.0 ∙ ap (λ (b : ℕ). b * 2 ^ (60 - m * 5) % 2 ^ 60) y in
    let two = part_length from 2 word c.requires.a_bound.3 in
    let p = short_stores L (take 2 (drop from word)) m c.args.n c.requires.packs.0 c.requires.packs.1 c.requires.a_bound.0 c.requires.a_bound.1 two _ _ _
    (ap (λ (b : ℕ). get_or L 0 0 + b) a) (ap₂ (λ (b c : ℕ). b + c) b d) e (_ ∷ _ ∷ _ ∷ replicate 6 0) refl in
    record {
      value = (refl, p.0, p.1);
      dst_after = p.2;
    }
