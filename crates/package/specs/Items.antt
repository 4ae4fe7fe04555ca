-- Where the terms of an item start: items are numbered G 1 to gens, then B 1 to basis.
use Rattle.std.specs.Prelude.{true, false, List, [], ◌∷◌, ℕ, suc, ◌+◌, ◌-◌, ltb, eqb, take, drop}
use Rattle.package.specs.Names.{term_g}
use Rattle.package.specs.Terms.{TermLine}
use Rattle.package.specs.declared.Head.{Head}

-- The number of item i of a kind among all items, counted from 1.
unfoldable pub slot : Head → ℕ → ℕ → ℕ
slot h k i = elim (eqb k term_g) [ true ↦ i | false ↦ h.gens + i ]

-- The numbers of the items that terms belong to.
unfoldable pub slots_of : Head → List TermLine → List ℕ
unfolding slot
slots_of h [] = []
slots_of h (t ∷ ts) = slot h t.kind t.item ∷ slots_of h ts

-- How many terms stand before the first one of item number j or a later item: where item j starts, as the items do not fall.
unfoldable pub first_of : ℕ → List ℕ → ℕ
first_of j [] = 0
first_of j (x ∷ xs) = elim (ltb x j) [ true ↦ suc (first_of j xs) | false ↦ 0 ]

-- The terms from where item number j starts to where the next one starts.
abbrev pub item_run : Head → ℕ → List TermLine → List TermLine
item_run h j ts = take (first_of (suc j) (slots_of h ts) - first_of j (slots_of h ts)) (drop (first_of j (slots_of h ts)) ts)

-- The terms of an item: those of its kind and number, in their order.
unfoldable pub item_terms : ℕ → ℕ → List TermLine → List TermLine
item_terms k i [] = []
item_terms k i (t ∷ ts) = elim (eqb t.kind k) [
  | true ↦ elim (eqb t.item i) [ true ↦ t ∷ item_terms k i ts | false ↦ item_terms k i ts ]
  | false ↦ item_terms k i ts
]
