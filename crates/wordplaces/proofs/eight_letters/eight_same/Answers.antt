-- `eight_same` is `same_for` of eight letters.
use Rattle.wordplaces.proofs.EightLetters.{eight_same}
use Rattle.wordplaces.proofs.eight_letters.eight_same.Goals as goal

pub returns : goal.returns
returns c =
    eight_same _ _ _ _ c.eight_at.result c.eight_at-2.result c.eight_at.ensures c.eight_at-2.ensures
