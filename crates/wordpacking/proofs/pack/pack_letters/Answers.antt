-- `pack_letters` packs letters one by one. The invariant: those packed are one number.
use mathlib.Core.Path.{◌≡◌, refl, ◌∙◌, ap, ap₂}
use Prim.Native.Nat.{ℕ, suc, ◌+◌, ◌-◌, ◌*◌, ◌%◌, ◌^◌}
use native.Mathlib.Omega.{arith}
use Rattle.packedwords.specs.Packed.{value}
use Rattle.lists.proofs.Entries.{part_at}
use Rattle.table.specs.Table.{key_in, code_in}
use Rattle.wordpacking.proofs.KeyedWords.{code-low}
use Rattle.wordpacking.proofs.Letters.{spelt, spelt_room, block_of_part}
use borrow.Author.Rules.{rules}
use Rattle.wordpacking.proofs.pack.pack_letters.Goals as goal

pub loop-b-init : goal.loop-b-init
unfolding value
loop-b-init c = refl

pub overflow_mul-x : goal.overflow_mul-x
overflow_mul-x c =
    let a = c.args in
    let room = spelt_room (code_in a.t.now) (code-low a.t.now) a.text.now a.at c.loop-b.b-index (search rules) in
    search rules

pub overflow_add-x : goal.overflow_add-x
overflow_add-x c =
    let a = c.args in
    let room = spelt_room (code_in a.t.now) (code-low a.t.now) a.text.now a.at c.loop-b.b-index (search rules) in
    search rules

pub loop-b-preserved : goal.loop-b-preserved
unfolding value
loop-b-preserved c =
    let a = c.args in
    let i = c.loop-b.b-index in
    let n : i + 1 ≡ suc i = omega arith in
    let b = part_at a.text.now a.at (a.at + a.r - a.at) i (search rules) in
    rw n (ap₂ (λ (x k : ℕ). x * 32 + k % 32) c.loop-b.invariant (c.key_in-key.ensures ∙ ap (key_in a.t.now) b))

pub returns : goal.returns
returns c =
    let a = c.args in
    let f = code_in a.t.now in
    let e : c.loop-b.b-index ≡ a.r = search rules in
    let h = c.requires in
    ap (λ (x : ℕ). x * 2 ^ (60 - 5 * a.r) % 2 ^ 64) (c.loop-b.invariant ∙ ap (value (spelt f a.text.now a.at)) e)
    ∙ block_of_part f (code-low a.t.now) a.text.now a.at a.r h.0 h.1
