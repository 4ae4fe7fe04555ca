-- What `cmp` answers of two lists of numbers is their order as words of letters that rank by themselves.
use mathlib.Core.Path.{◌≡◌, refl, sym, ◌∙◌}
use mathlib.Core.List.{List, [], ◌∷◌}
use Prim.Native.Nat.{ℕ, ◌<◌}
use Rattle.std.specs.declared.cmp.Ordering.{Ordering}
use Rattle.std.specs.declared.cmp.Ordering.TheVariants.{Less, Equal, Greater}
use Rattle.std.specs.Ordering.{nat_cmp, MatchOrdering, ordering_then}
use Rattle.std.specs.Cmp.Lexicographic.{slice_cmp}
use Rattle.std.proofs.lemmas.Cmp.{ranked}
use Rattle.words.specs.Order.{by_number_of, by_letters}
use Rattle.words.proofs.Lexicographic.{number-less, number-greater, number_same}
use Rattle.packedwords.specs.Codes.{itself}

pub blocks_cmp : (s t : List ℕ) → slice_cmp nat_cmp s t ≡ by_letters itself s t
unfolding by_letters
blocks_cmp [] [] = refl
blocks_cmp [] (y ∷ t) = refl
blocks_cmp (x ∷ s) [] = refl
blocks_cmp (x ∷ s) (y ∷ t) = go (nat_cmp x y) (ranked x y (nat_cmp x y) refl) (blocks_cmp s t)
  where
    go : (r : Ordering) → MatchOrdering r (x < y) (x ≡ y) (y < x) → slice_cmp nat_cmp s t ≡ by_letters itself s t
        → ordering_then r (slice_cmp nat_cmp s t) ≡ by_number_of x y (by_letters itself s t)
    go Less l rest = sym (number-less _ l)
    go Equal e rest = rest ∙ sym (number_same _ e)
    go Greater l rest = sym (number-greater _ l)
