-- One mark more, at a place of the masks: it is there, the others are kept, and there is no other
use mathlib.Core.Path.{◌≡◌}
use mathlib.Core.List.{List}
use Prim.Native.Nat.{ℕ, ◌^◌, ◌<◌}
use native.Mathlib.Decide.{ℕ_discrete}
use lib.ListN.{length, get_or}
use lib.Seq.{get_or-set_same, get_or-set_other}
use lib.Bits.{bit_or}
use Rattle.leads.specs.Masks.{bit, with_mark}
use Rattle.leads.proofs.Bits.{bit-new, bit_kept, bit_old}

module _ (t : List ℕ) (at g : ℕ) (inside : at < length t) where
  at_same : (i : ℕ) → i ≡ at → get_or (with_mark t at g) i 0 ≡ bit_or (get_or t i 0) (2 ^ g)
  at_same i e = rw e (get_or-set_same t at (bit_or (get_or t at 0) (2 ^ g)) 0 inside)

  pub at_other : (i : ℕ) → (i ≡ at → ⊥) → get_or (with_mark t at g) i 0 ≡ get_or t i 0
  at_other i e = get_or-set_other t at i (bit_or (get_or t at 0) (2 ^ g)) 0 e

  pub mark-new : (i : ℕ) → i ≡ at → bit (get_or (with_mark t at g) i 0) g ≡ 1
  mark-new i e = rw (at_same i e) (bit-new (get_or t i 0) g)

  pub mark-kept : (i j : ℕ) → bit (get_or t i 0) j ≡ 1 → bit (get_or (with_mark t at g) i 0) j ≡ 1
  mark-kept i j b = go (ℕ_discrete i at)
    where
      go : Dec (i ≡ at) → bit (get_or (with_mark t at g) i 0) j ≡ 1
      go (yes e) = rw (at_same i e) (bit_kept (get_or t i 0) g j b)
      go (no e) = rw (at_other i e) b

  pub mark_elsewhere : (i j : ℕ) → (i ≡ at → ⊥) → bit (get_or (with_mark t at g) i 0) j ≡ 1 → bit (get_or t i 0) j ≡ 1
  mark_elsewhere i j e b = rw (at_other i e) at b

  pub mark_of_other : (i j : ℕ) → i ≡ at → (j ≡ g → ⊥) → bit (get_or (with_mark t at g) i 0) j ≡ 1 → bit (get_or t i 0) j ≡ 1
  mark_of_other i j e d b = bit_old (get_or t i 0) g j d (rw (at_same i e) at b)
