use Rattle.std.proofs.Common.{◌≡◌, ℕ, List, [], ◌∷◌, ◌++◌, sym, ap, ◌∙◌}
use Rattle.std.proofs.lemmas.List.{map-append}
use Rattle.read_declarations.specs.declared.fixed.FixedEntry.{FixedEntry}
use Rattle.read_declarations.specs.Constants.{AreNumbers}
use Rattle.read_declarations.specs.Fixed.{fixed_ids}
use Rattle.read_declarations.proofs.Ids.{numbers_more, on_ok}
use Rattle.read_declarations.proofs.fixed.judge.Goals as goal

pub returns-in_ok-is_new-in-Ok-clause-known : goal.returns-in_ok-is_new-in-Ok-clause-known
returns-in_ok-is_new-in-Ok-clause-known c =
    let before = c.args.read.now.entries in
    let e = c.in-Ok.entry in
    on_ok c.push.result (c.push.new.self ≡ before ++ e ∷ []) (AreNumbers c.insert.new.self (fixed_ids c.push.new.self))
    (λ longer. numbers_more c.args.known.now c.insert.new.self (fixed_ids before) (fixed_ids c.push.new.self) c.number.result c.requires
    c.in_ok-is_new-in-Ok.ensures.updates
    (ap fixed_ids longer ∙ map-append (λ (x : FixedEntry). x.id) before (e ∷ []) ∙ ap (λ (n : ℕ). fixed_ids before ++ n ∷ []) (sym c.number.ensures)))
    c.push.ensures.ok
