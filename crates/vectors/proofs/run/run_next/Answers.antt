-- The head line, the package, and the formula with the byte behind it were read one behind the other.
use Rattle.std.proofs.Common.{length, ◌<◌, IfSome, ◌≡◌, ◌+◌, ◌++◌, ◌∷◌, [], take, get_or, rules, subst, sym, ◌∙◌, append_assoc, length-take-le, take_all}
use Rattle.std.proofs.KnownBytes.{Consumes-trans}
use Rattle.std.proofs.lemmas.List.{take_more}
use Rattle.std.specs.Io.KnownBytes.{Consumes}
use Rattle.vectors.proofs.CutOff.{package_cut_off, formula_cut_off}
use Rattle.vectors.proofs.run.run_next.Goals as goal

pub returns-clause-run : goal.returns-clause-run
returns-clause-run g c =
    let left = g.R.Read.remaining c.args.file.now in
    let left₁ = g.R.Read.remaining c.read_bytes.new.file in
    let left₂ = g.R.Read.remaining c.read_bytes-2.new.file in
    let left₃ = g.R.Read.remaining c.read_bytes-3.new.file in
    let line = c.read_bytes.new.input in
    let bytes = c.read_bytes-2.new.input in
    let text = c.read_bytes-3.new.input in
    let n = c.package_len-n.result in
    let m = c.formula_len-m.result in
    let first : Consumes left left₁ (take 81 line) = search rules in
    let second : Consumes left₁ left₂ (take n bytes) = search rules in
    let third : Consumes left₂ left₃ (take (m + 1) text) = search rules in
    let whole : take 81 line ≡ line = take_all 81 line (search rules) in
    let split : take (m + 1) text ≡ take m text ++ get_or text m 0 ∷ [] = take_more text m 0 (search rules) in
    record {
      line = line;
      bytes = take n bytes;
      text = take m text;
      last = get_or text m 0;
      line_length = search rules;
      package_length = length-take-le n bytes (search rules) ∙ c.package_len-n.ensures.0;
      formula_length = length-take-le m text (search rules) ∙ c.formula_len-m.ensures.0;
      read = subst (Consumes left left₃) (sym (append_assoc (line ++ take n bytes) (take m text) (get_or text m 0 ∷ [])))
          (Consumes-trans left left₂ left₃ (line ++ take n bytes) (take m text ++ get_or text m 0 ∷ [])
          (Consumes-trans left left₁ left₂ line (take n bytes) (subst (Consumes left left₁) whole first) second) (subst (Consumes left₂ left₃) split third));
      printed = search rules;
    }

pub returns-then-not-branch-2-clause-ended : goal.returns-then-not-branch-2-clause-ended
returns-then-not-branch-2-clause-ended g c =
    let left = g.R.Read.remaining c.args.file.now in
    let left₁ = g.R.Read.remaining c.read_bytes.new.file in
    let line = c.read_bytes.new.input in
    let first : Consumes left left₁ (take 81 line) = search rules in
    let short : IfSome left₁ (λ xs. length xs < c.package_len-n.result) = search rules in
    package_cut_off left left₁ line (search rules) (subst (Consumes left left₁) (take_all 81 line (search rules)) first) (subst (λ k. IfSome left₁ (λ xs. length xs < k)) c.package_len-n.ensures.0 short)

pub returns-then-not-branch-3-clause-ended : goal.returns-then-not-branch-3-clause-ended
returns-then-not-branch-3-clause-ended g c =
    let left = g.R.Read.remaining c.args.file.now in
    let left₁ = g.R.Read.remaining c.read_bytes.new.file in
    let left₂ = g.R.Read.remaining c.read_bytes-2.new.file in
    let line = c.read_bytes.new.input in
    let bytes = c.read_bytes-2.new.input in
    let n = c.package_len-n.result in
    let first : Consumes left left₁ (take 81 line) = search rules in
    let second : Consumes left₁ left₂ (take n bytes) = search rules in
    let short : IfSome left₂ (λ xs. length xs < c.formula_len-m.result + 1) = search rules in
    formula_cut_off left left₁ left₂ line (take n bytes) (search rules) (length-take-le n bytes (search rules) ∙ c.package_len-n.ensures.0)
    (subst (Consumes left left₁) (take_all 81 line (search rules)) first) second (subst (λ k. IfSome left₂ (λ xs. length xs < k + 1)) c.formula_len-m.ensures.0 short)
