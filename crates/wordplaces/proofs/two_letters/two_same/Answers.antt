-- `two_same` is `two_same`.
use native.Mathlib.Omega.{arith}
use Rattle.wordplaces.proofs.TwoLetters.{two_read_same}
use Rattle.wordplaces.proofs.two_letters.two_same.Goals as goal

pub returns : goal.returns
returns c =
    two_read_same c.args.u.now c.args.v.now _ _ c.from_le_bytes.result c.from_le_bytes-2.result
    (λ k. omega (arith, c.type_inv.u k)) (λ k. omega (arith, c.type_inv.v k)) c.from_le_bytes.ensures c.from_le_bytes-2.ensures
