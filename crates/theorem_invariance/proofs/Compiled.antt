-- What is compiled of functions whose code is alike has the same `.text`.
use Rattle.std.proofs.Common.{◌≡◌, ℕ, ◌+◌, ◌*◌, [], ◌∷◌, length, ap, subst}
use Rattle.emit_code.specs.Rule.{words_of}
use Rattle.listing_text.specs.declared.output.ListedFunction.{ListedFunction}
use Rattle.theorem_invariance.specs.Text.{AreLaid}
use Rattle.theorem_invariance.proofs.Text.{alike_text}
use Rattle.theorem_invariance.specs.Compiled.{functions_of, CompiledIsLaid, CompiledHasSameText}

pub is_laid : CompiledIsLaid
is_laid names [] base first text lists [] is = record { layouts = []; laid = is.0 }
is_laid names [] base first text lists (f ∷ fs) is = absurd is
is_laid names (s ∷ ss) base first text lists [] is = absurd is
is_laid names (s ∷ ss) base first text lists (f ∷ fs) is =
    let c = is.0 in
    let end : f.high ≡ c.layout.base + 4 * length (words_of c.layout) = ap (λ (x : ListedFunction). x.high) c.listed in
    let rest = is_laid names ss f.high (first + length c.lists) is.1 is.2 fs is.5 in
    record {
      layouts = c.layout ∷ rest.layouts;
      laid = (
        record { framed = c.laid.framed; from = c.laid.from; settled = c.laid.settled },
        is.1,
        is.3,
        subst (λ (a : ℕ). AreLaid a is.1 (functions_of ss) rest.layouts) end rest.laid,
      );
    }

pub same_text : CompiledHasSameText
same_text names names' sources others o o' alike is are =
    let h = is_laid names sources 0 0 o.text is.lists o.functions is.functions in
    let k = is_laid names' others 0 0 o'.text are.lists o'.functions are.functions in
    (alike_text (functions_of sources) (functions_of others) 0 o.text o'.text h.layouts k.layouts alike h.laid k.laid).0
