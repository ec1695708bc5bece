use Rattle.std.proofs.Common.{◌≡◌, ℕ, ◌<◌, Bool, ◌&&◌, not, List, [], ◌∷◌, length, refl, sym, ◌∙◌, arith}
use Rattle.std.specs.List.{list_all}
use Rattle.std.proofs.lemmas.Grind.{common_steps}
use Rattle.mir_printer.specs.Spelling.{is_bare, is_empty}
use Rattle.mir_printer.proofs.symbol.is_bare_name.Goals as goal

is_empty-filled : (bytes : List ℕ) (b : Bool) → 0 < length bytes → (not (is_empty bytes) && b) ≡ b
is_empty-filled [] b filled = absurd (omega arith)
is_empty-filled (x ∷ xs) b filled = refl

pub returns-then-not-is_empty : goal.returns-then-not-is_empty
returns-then-not-is_empty c =
    let filled : 0 < length c.args.name.now = grind (arith, common_steps) in
    c.are_bare.ensures ∙ sym (is_empty-filled c.args.name.now (list_all is_bare c.args.name.now) filled)
