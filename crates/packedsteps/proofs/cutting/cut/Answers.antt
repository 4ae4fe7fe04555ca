-- `cut` puts what stands left and right of the leading word.
use mathlib.Core.Path.{refl, ap}
use Prim.Native.Nat.{ℕ, ◌+◌, ◌-◌, ◌*◌}
use native.Mathlib.Omega.{arith}
use borrow.Author.Rules.{rules}
use Rattle.packedsteps.proofs.CutWords.{cutting, cut_made}
use Rattle.packedsteps.proofs.cutting.cut.Goals as goal

pub overflow_add-item : goal.overflow_add-item
overflow_add-item c =
    let C = cutting _ c.requires.tabled.0 _ _ c.requires.tabled.1 _ _ c.requires.word_value in
    let most = C.leading.most in
    let few = c.requires.tabled.0.basis in
    let some = c.requires.tabled.0.gens in
    let e = c.gens_in.ensures in
    record { fits = omega arith }

pub lead_size-e-requires : goal.lead_size-e-requires
lead_size-e-requires c =
    let T = c.requires.tabled.0 in
    let C = cutting _ c.requires.tabled.0 _ _ c.requires.tabled.1 _ _ c.requires.word_value in
    let most = C.leading.most in
    let few = T.basis in
    let some = T.gens in
    let all = T.terms in
    let inside = C.leading.inside in
    rw c.gens_in.ensures (omega arith, omega arith)

pub left_part-requires : goal.left_part-requires
left_part-requires c =
    let C = cutting _ c.requires.tabled.0 _ _ c.requires.tabled.1 _ _ c.requires.word_value in
    let fits = C.fits in
    record {
      i_le_m = (omega arith, C.short, search rules, c.requires.tabled.1.six);
      packs = c.requires.tabled.1.held.packs;
    }

pub right_part-requires : goal.right_part-requires
right_part-requires c =
    let C = cutting _ c.requires.tabled.0 _ _ c.requires.tabled.1 _ _ c.requires.word_value in
    let fits = C.fits in
    record {
      i_le_m = (rw (rw c.gens_in.ensures at c.lead_size-e.ensures) fits, C.short, search rules, c.requires.tabled.1.six);
      packs = c.requires.tabled.1.held.packs;
    }

pub overflow_sub-right : goal.overflow_sub-right
overflow_sub-right c =
    let C = cutting _ c.requires.tabled.0 _ _ c.requires.tabled.1 _ _ c.requires.word_value in
    let fits = C.fits in
    let size = C.size in
    let lead-size = C.lead-size in
    rw (rw c.gens_in.ensures at c.lead_size-e.ensures) (omega arith)

pub overflow_sub-right-2 : goal.overflow_sub-right-2
overflow_sub-right-2 c =
    let C = cutting _ c.requires.tabled.0 _ _ c.requires.tabled.1 _ _ c.requires.word_value in
    let fits = C.fits in
    let size = C.size in
    let lead-size = C.lead-size in
    rw (rw c.gens_in.ensures at c.lead_size-e.ensures) (omega arith)

pub returns : goal.returns
returns c =
    let e = rw c.gens_in.ensures at c.lead_size-e.ensures in
    let a = c.args in
    let l = c.left_part.ensures in
    let r = rw e at c.right_part.ensures.dst_len in
    let d = rw e at c.right_part.ensures.dst_after in
    cut_made a.t.now c.requires.tabled.0 a.word.now.size a.word.now.blocks c.requires.tabled.1 a.i a.of c.requires.word_value _ _ _
    (ap (λ (g : ℕ). g + a.of) c.gens_in.ensures) refl (ap (λ (z : ℕ). a.word.now.size - z - 257 * a.i) e)
    l.dst_len.0 l.dst_len.1 l.dst_after r.0 r.1 d
