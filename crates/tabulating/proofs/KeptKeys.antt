-- A table whose first sections are kept has the keys that it had.
use mathlib.Core.Path.{◌≡◌, sym, ◌∙◌, ap, fun_ext}
use mathlib.Core.List.{List}
use Prim.Native.Nat.{ℕ, ◌+◌, ◌/◌, ◌%◌, ◌<◌}
use native.Mathlib.Omega.{arith}
use lib.ListN.{get_or}
use Rattle.table.specs.Table.{key_in, code_in, letter_in, weight_in}
use Rattle.table.specs.Words.{Keyed, Keys}

module _ (t u : List ℕ) (kept : (k : ℕ) → k < 80 → get_or u k 0 ≡ get_or t k 0) where
  pub key_kept : key_in u ≡ key_in t
  key_kept = fun_ext (λ a. kept (16 + a % 32) (omega arith))

  -- what stands at a code
  pub entry_kept : (c : ℕ) → c < 32 → get_or u (48 + c) 0 ≡ get_or t (48 + c) 0
  entry_kept c h = kept (48 + c) (omega arith)

  keyed-kept : (a : ℕ) → Keyed t a → Keyed u a
  keyed-kept a k =
      let key : key_in u a ≡ key_in t a = kept (16 + a % 32) (omega arith) in
      let code : code_in u a ≡ code_in t a = ap (λ (x : ℕ). x % 32) key in
      let entry = entry_kept (code_in t a) (omega arith) in
      record {
        some = rw code k.some;
        letter = ap (letter_in u) code ∙ ap (λ (x : ℕ). x % 256) entry ∙ k.letter;
        weighed = ap (weight_in u) code ∙ ap (λ (x : ℕ). x / 256) entry ∙ k.weighed ∙ ap (λ (x : ℕ). x / 32) (sym key);
      }

  pub keys_kept : Keys t → Keys u
  keys_kept k = record {
    keyed = λ a p. keyed-kept a (k.keyed a p);
    own = λ c d p q e. k.own c d p q (sym (ap (λ (x : ℕ). x % 256) (entry_kept c p)) ∙ e ∙ ap (λ (x : ℕ). x % 256) (entry_kept d q));
    even = λ c h. rw (entry_kept c h) (k.even c h);
    light = λ c h. rw (entry_kept c h) (k.light c h);
  }
