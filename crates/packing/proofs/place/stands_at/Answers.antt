-- `stands_at` is `stands_at`. The invariant: the blocks before block j agree.
use mathlib.Core.Path.{◌≡◌, refl, sym, ◌∙◌}
use Prim.Native.Nat.{ℕ, ◌*◌, ◌≤◌}
use native.Mathlib.Omega.{arith}
use lib.ListN.{get_or, take, drop}
use Rattle.words.proofs.Standing.{stands-past}
use Rattle.packedwords.specs.Packed.{window, unpacked}
use Rattle.packedwords.proofs.Packing.{unpacked-length}
use Rattle.packedwords.proofs.Blocks.{packs-blocks}
use Rattle.packedwords.proofs.Standing.{letters-block, stands-differs, stands_agrees}
use Rattle.lists.proofs.Entries.{below_next}
use Rattle.packing.proofs.place.stands_at.Goals as goal
use Rattle.packing.proofs.place.stands_at.Goals.{then-m-i-via-then-m-i, then-m-i-via-else-m-i+then-m-i-2}

pub returns-then-m-i : goal.returns-then-m-i
returns-then-m-i c =
    let a = unpacked-length c.args.m c.args.w.now in
    let b = unpacked-length c.args.n c.args.b.now in
    sym (stands-past _ _ c.args.i (elim c.then-m-i.branch [ then-m-i-via-then-m-i z ↦ omega (arith, a, b, z.if-m-i.true) | then-m-i-via-else-m-i+then-m-i-2 z ↦ omega (arith, a, b, z.if-m-i.false, z.if-m-i-2.true) ]))

pub loop-j-init : goal.loop-j-init
loop-j-init c = (omega (arith, c.if-m-i-2.false, c.if-m-i.false), λ t h. absurd (omega arith))

pub window_at-requires : goal.window_at-requires
window_at-requires c =
    packs-blocks c.args.m c.args.w.now c.requires.1

pub bounds-b-j : goal.bounds-b-j
bounds-b-j c =
    let f = c.requires.0.fits in
    omega (arith, c.div_ceil-j-end.ensures, c.loop-j-test.true)

pub returns-then-x-b : goal.returns-then-x-b
returns-then-x-b c =
    let block : c.front-x.result ≡ window ((take c.args.n (drop c.args.i (unpacked c.args.m c.args.w.now)))) (12 * c.loop-j.j) = letters-block c.args.b.now c.args.w.now c.args.n c.args.m c.requires.0 c.requires.1 c.args.i c.loop-j.j (12 * c.loop-j.j) _ _
    refl c.window_at.ensures c.front-x.ensures in
    let inside : c.args.i ≤ c.args.m = omega (arith, c.loop-j.invariant.0) in
    sym (stands-differs _ _ c.args.n c.args.m c.requires.0 c.requires.1 c.args.i inside c.loop-j.j (λ d. c.if-x-b.true (block ∙ d)))

pub loop-j-preserved : goal.loop-j-preserved
loop-j-preserved c =
    let block : c.front-x.result ≡ window ((take c.args.n (drop c.args.i (unpacked c.args.m c.args.w.now)))) (12 * c.loop-j.j) = letters-block c.args.b.now c.args.w.now c.args.n c.args.m c.requires.0 c.requires.1 c.args.i c.loop-j.j (12 * c.loop-j.j) _ _
    refl c.window_at.ensures c.front-x.ensures in
    let same : (t : ℕ) → Type 0 = λ t. window ((take c.args.n (drop c.args.i (unpacked c.args.m c.args.w.now)))) (12 * t) ≡ get_or c.args.b.now t 0 in
    (c.loop-j.invariant.0, below_next same c.loop-j.j c.loop-j.invariant.1 (sym (block) ∙ c.if-x-b.false))

pub returns : goal.returns
returns c =
    let end : c.args.n ≤ 12 * c.loop-j.j = omega (arith, c.div_ceil-j-end.ensures, c.loop-j-test.false) in
    sym (stands_agrees _ _ c.args.n c.args.m c.requires.0 c.requires.1 c.args.i c.loop-j.invariant.0 c.loop-j.j end c.loop-j.invariant.1)
