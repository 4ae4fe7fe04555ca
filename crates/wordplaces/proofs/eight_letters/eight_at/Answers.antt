-- `eight_at` is the number of eight letters.
use native.Mathlib.Omega.{arith}
use Rattle.wordplaces.proofs.EightLetters.{eight_letters_lem}
use Rattle.wordplaces.proofs.eight_letters.eight_at.Goals as goal

pub returns : goal.returns
returns c = eight_letters_lem c.args.u.now c.args.i _ (λ k. omega (arith, c.type_inv.u k)) c.from_le_bytes.ensures
